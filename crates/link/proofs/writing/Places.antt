-- The linked strip of a link, place by place. Assumes nothing.
use mathlib.Core.Bool.{cond}
use mathlib.Core.List.{List}
use mathlib.Core.Path.{◌≡◌, ap, sym, ◌∙◌}
use mathlib.Core.Logic.{◌≢◌}
use Prim.Native.Nat.{ℕ, suc, ◌+◌, ◌-◌, ◌*◌, ◌<◌, ◌≤◌}
use native.Mathlib.Decide.{ℕ_discrete, dec_lt}
use native.Mathlib.Omega.{arith}
use native.Mathlib.Nat.{mul-le-mul_right}
use lib.ListN.{length, set}
use Rattle.word.specs.Word.{◌⊕◌}
use Rattle.buffer.specs.Lists.{word_at}
use Rattle.buffer.specs.Written.{cleared}
use Rattle.buffer.proofs.Written.{written_none, written_more, written_length, written_other, written_at}
use Rattle.buffer.proofs.Copies.{cleared_none}
use Rattle.strips.specs.StripRecord.{word_held, address_in}
use Rattle.strips.specs.declared.Strip.{Strip}
use Rattle.link.specs.Lines.{lines_inside}
use Rattle.link.specs.Crossing.{response_place}
use Rattle.link.specs.Writing.{responses_added, linked_address, linked_word, PlaceWritten, StripLaid, PlacesWritten}
use Rattle.link.proofs.lines.EdgeReads.{lines_few, chosen_inside, chosen_outside}

-- ---- the words of one place

module _ (lone : Strip) (strips responses : List ℕ) (line place n : ℕ) where
  linked_inside : line < lines_inside lone place n
      → linked_word lone strips responses line place
      ≡ word_at strips (address_in lone line place) ⊕ word_at responses (response_place line place)
  unfolding linked_word
  linked_inside h = chosen_inside lone place n line _ h

  linked_outside : lines_inside lone place n ≤ line → line < n → linked_word lone strips responses line place ≡ 0
  unfolding linked_word
  linked_outside h b = chosen_outside lone place n line _ h b

steps_apart : (at step i j : ℕ) → 0 < step → j < i → at + i * step ≢ at + j * step
steps_apart at step i j h b e = let m : suc j * step ≤ i * step = mul-le-mul_right step b in omega arith

module _ (from to step : ℕ) (responses : List ℕ) (place : ℕ) (before : List ℕ) where
  -- No line yet.
  pub responses_none : before ≡ responses_added from to step responses place 0 before
  unfolding responses_added
  responses_none = sym (written_none _ _ before)

  -- One line more: the word that is read is as it was.
  pub responses_next : (n : ℕ) → from + n * step < to → {b : List ℕ} {there v : ℕ}
      → b ≡ responses_added from to step responses place n before → there ≡ response_place n place
      → v ≡ word_at b (from + n * step) ⊕ word_at responses there
      → set b (to + n * step) v ≡ responses_added from to step responses place (n + 1) before
  unfolding responses_added
  responses_next n low e at f =
      written_more (λ l. to + l * step) _ n before _ _ e
      ((rw at at f)
      ∙ ap (◌⊕ word_at responses (response_place n place))
      (ap (λ z. word_at z (from + n * step)) e
      ∙ written_other (λ l. to + l * step) _ n before _ (λ i h q. omega arith)))

-- ---- one place of the strip

module _ (lone : Strip) (shift side place : ℕ) (responses before : List ℕ) {r : ℕ}
    (laid : StripLaid (length before) lone shift (place + 1) side r) {from : ℕ} (begins : from ≡ address_in lone 0 place) where
  abbrev step : ℕ
  step = lone.line_step

  abbrev to : ℕ
  to = from + shift

  pub word_inside : (line : ℕ) → line < side → to + line * step < length before
  word_inside line h = omega (arith, laid.inside line place h (omega arith))

  -- A word that is read lies before those that are written.
  pub word_before : (line : ℕ) → line < side → from + line * step < to
  word_before line h = omega (arith, laid.lone_before line place h (omega arith))

  -- What `write_place` does.
  pub place_written : {n : ℕ} {added after : List ℕ} → n ≡ lines_inside lone place side
      → added ≡ responses_added from to step responses place n before
      → after ≡ cleared (to + n * step) step (side - n) added
      → PlaceWritten lone shift side place (linked_word lone before responses) before after
  unfolding responses_added cleared
  place_written {n} {added} {after} count e f =
      record {
        length_kept = ap length f ∙ written_length rest_at (λ l. 0) (side - n) added ∙ kept;
        here = λ line h. rw (address line) (at_line line h);
        rest = λ z out.
            ap (λ y. word_at y z) f
            ∙ written_other rest_at (λ l. 0) (side - n) added z (λ i c q. out (n + i) (omega (arith, few)) (q ∙ omega arith))
            ∙ ap (λ y. word_at y z) e
            ∙ written_other line_at word n before z (λ i c q. out i (omega (arith, few)) (q ∙ omega arith));
      }
    where
      few : n ≤ side
      few = omega (arith, lines_few lone place side)

      address : (line : ℕ) → linked_address lone shift line place ≡ to + line * step
      address line = omega arith

      line_at : ℕ → ℕ
      line_at l = to + l * step

      rest_at : ℕ → ℕ
      rest_at l = to + n * step + l * step

      word : ℕ → ℕ
      word l = word_at before (from + l * step) ⊕ word_at responses (response_place l place)

      kept : length added ≡ length before
      kept = ap length e ∙ written_length line_at word n before

      word_is : (line : ℕ) → line < lines_inside lone place side → word line ≡ linked_word lone before responses line place
      word_is line h =
          let stands : from + line * step ≡ address_in lone line place = omega arith in
          ap (λ z. word_at before z ⊕ word_at responses (response_place line place)) stands
          ∙ sym (linked_inside lone before responses line place side h)

      at_line : (line : ℕ) → line < side → word_at after (line_at line) ≡ linked_word lone before responses line place
      at_line line h =
          elim (dec_lt line n) [
            | yes l ↦
                ap (λ z. word_at z (line_at line)) f
                ∙ written_other rest_at (λ l. 0) (side - n) added _
                (λ i c q.
                let same : line_at (n + i) ≡ line_at line = omega arith in
                steps_apart to step (n + i) line laid.some_step (omega arith) same)
                ∙ ap (λ z. word_at z (line_at line)) e
                ∙ written_at line_at word n before (λ i j c d. steps_apart to step i j laid.some_step c)
                (λ i c. word_inside i (omega (arith, few))) line l
                ∙ word_is line (omega arith)
            | no l ↦
                let s : line ≡ n + (line - n) = omega arith in
                let q : line_at line ≡ rest_at (line - n) = ap line_at s ∙ omega arith in
                ap (word_at after) q
                ∙ ap (λ z. word_at z (rest_at (line - n))) f
                ∙ written_at rest_at (λ l. 0) (side - n) added
                (λ i j c d. steps_apart (to + n * step) step i j laid.some_step c)
                (λ i c. rw kept (omega (arith, word_inside (n + i) (omega (arith, few))))) (line - n) (omega (arith, few))
                ∙ sym (linked_outside lone before responses line place side (omega arith) h)
          ]

  -- Where all lines lie in the block, nothing is cleared.
  pub place_full : {n : ℕ} {after : List ℕ} → n ≡ lines_inside lone place side → side ≤ n
      → after ≡ responses_added from to step responses place n before
      → PlaceWritten lone shift side place (linked_word lone before responses) before after
  place_full {n} {after} count all e =
      place_written count e
      (let none : side - n ≡ 0 = omega arith in rw none (cleared_none (to + n * step) step after))

-- ---- all places

-- Fewer places, in strips of the same length.
pub laid_fewer : {m r : ℕ} {lone : Strip} {shift n side : ℕ} → StripLaid m lone shift n side r → (p : ℕ) → p ≤ n → {l : ℕ}
    → l ≡ m → StripLaid l lone shift p side r
laid_fewer laid p few e =
    record {
      some_step = laid.some_step;
      some_lines = laid.some_lines;
      few_lines = laid.few_lines;
      few_places = omega (arith, laid.few_places);
      responses_long = laid.responses_long;
      lone_before = λ line place h b. laid.lone_before line place h (omega arith);
      inside = λ line place h b. rw e (laid.inside line place h (omega arith));
      apart = λ line place l q h b c d. laid.apart line place l q h (omega arith) c (omega arith);
    }

module _ {m r : ℕ} (lone : Strip) (shift side n : ℕ) (responses before : List ℕ) (laid : StripLaid m lone shift (n + 1) side r)
    {b : List ℕ} (held : PlacesWritten lone shift side n (linked_word lone before responses) before b) where
  -- The lone words of the next place are as they were.
  same_word : (line : ℕ) → line < side → linked_word lone b responses line n ≡ linked_word lone before responses line n
  unfolding linked_word
  same_word line h =
      ap (λ z. cond (word_held lone line n) (z ⊕ word_at responses (response_place line n)) 0)
      (held.rest (address_in lone line n) (λ l p x y e. omega (arith, laid.lone_before line n h (omega arith))))

  pub places_next : {after : List ℕ} → PlaceWritten lone shift side n (linked_word lone b responses) b after
      → PlacesWritten lone shift side (n + 1) (linked_word lone before responses) before after
  places_next now =
      record {
        length_kept = now.length_kept ∙ held.length_kept;
        here = λ line place h c.
            elim (ℕ_discrete place n) [
              | yes q ↦ rw q (now.here line h ∙ same_word line h)
              | no q ↦
                  now.rest (linked_address lone shift line place)
                  (λ l x e. q (laid.apart line place l n h (omega arith) x (omega arith) (omega arith)))
                  ∙ held.here line place h (omega arith)
            ];
        rest = λ z out.
            now.rest z (λ l x. out l n x (omega arith)) ∙ held.rest z (λ l p x y. out l p x (omega arith));
      }
