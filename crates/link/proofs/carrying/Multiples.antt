-- Multiples of words of a strip, added to the responses. Assumes nothing.
use mathlib.Core.Path.{◌≡◌, refl, ap, ap₂, sym, ◌∙◌}
use mathlib.Core.List.{List}
use Prim.Native.Nat.{ℕ, ◌+◌, ◌*◌, ◌^◌, ◌<◌, ◌≤◌}
use native.Mathlib.Omega.{arith}
use native.Mathlib.Decide.{dec_lt, ℕ_discrete}
use lib.ListN.{length, set}
use Rattle.word.proofs.Ring.{mul_assoc, mul_left_comm, mul_zero, zero_mul, zero_right, reduced_small}
use Rattle.word.specs.Word.{◌⊕◌, ◌⊗◌}
use Rattle.plan.specs.Rules.{order_limit}
use Rattle.buffer.specs.Lists.{word_at}
use Rattle.buffer.proofs.Written.{written_none, written_more, written_length, written_other, written_at}
use Rattle.number.proofs.RowMajor.{same_row_column}
use Rattle.strips.specs.StripRecord.{strip_read, address_in}
use Rattle.strips.specs.declared.Strip.{Strip}
use Rattle.link.specs.Lines.{lines_inside}
use Rattle.link.specs.Crossing.{response_words, response_place}
use Rattle.link.specs.Carrying.{multiple_added, MultiplesAdded, DistanceAdded}
use Rattle.link.proofs.lines.EdgeReads.{read_inside, read_outside}

-- ---- multiples of words that lie apart

-- No line yet.
pub multiple_none : (place : ℕ) (strips : List ℕ) (at step weight : ℕ) (before : List ℕ)
    → before ≡ multiple_added place strips at step weight 0 before
unfolding multiple_added
multiple_none place strips at step weight before = sym (written_none _ _ before)

-- One line more.
pub multiple_next : (place : ℕ) (strips : List ℕ) (at step weight n : ℕ) (before : List ℕ) {b : List ℕ} {to m v : ℕ}
    → b ≡ multiple_added place strips at step weight n before → to ≡ response_place n place
    → m ≡ word_at strips (at + n * step) ⊗ weight → v ≡ word_at b to ⊕ m
    → set b to v ≡ multiple_added place strips at step weight (n + 1) before
unfolding multiple_added
multiple_next place strips at step weight n before e there f g =
    rw there
    (written_more (λ l. response_place l place) _ n before _ _ e
    ((rw there at g)
    ∙ ap₂ ◌⊕◌
    (ap (λ z. word_at z (response_place n place)) e
    ∙ written_other (λ l. response_place l place) _ n before _ (λ i h q. omega arith))
    f))

-- The gain of a word may go to its weight.
gain_of_weight : (gain word weight : ℕ) → word ⊗ (gain ⊗ weight) ≡ (gain ⊗ word) ⊗ weight
gain_of_weight gain word weight = mul_left_comm word gain weight ∙ sym (mul_assoc gain word weight)

-- One place more.
pub multiples_next : (lines n : ℕ) (strips : List ℕ) (at step gain : ℕ) (weights : ℕ → ℕ) (before : List ℕ) → lines ≤ 32
    → n < order_limit → length before ≡ response_words → {b after : List ℕ} {weight : ℕ}
    → MultiplesAdded lines n (λ l. gain ⊗ word_at strips (at + l * step)) weights before b → weight ≡ gain ⊗ weights n
    → after ≡ multiple_added n strips at step weight lines b
    → MultiplesAdded lines (n + 1) (λ l. gain ⊗ word_at strips (at + l * step)) weights before after
unfolding multiple_added
multiples_next lines n strips at step gain weights before few here long {b} {after} {weight} held g f =
    record {
      added =
          record {
            length_kept = ap length f ∙ written_length to word lines b ∙ held.added.length_kept;
            at = λ line p h c.
                elim (ℕ_discrete p n) [
                  | yes q ↦
                      rw q
                      (ap (λ z. word_at z (response_place line n)) f
                      ∙ written_at to word lines b (λ i j x y z. omega arith) (λ i x. omega (arith, held.added.length_kept)) line
                      h
                      ∙ ap₂ ◌⊕◌ (held.rest line n here (λ x y. omega arith))
                      (ap (word_at strips (at + line * step) ⊗◌) g ∙ gain_of_weight gain _ (weights n)))
                  | no q ↦ elsewhere line p (omega arith) (λ x y. q y) ∙ held.added.at line p h (omega arith)
                ];
          };
      rest = λ line p c out.
          elsewhere line p c (λ x y. out x (omega arith)) ∙ held.rest line p c (λ x y. out x (omega arith));
    }
  where
    to : ℕ → ℕ
    to l = response_place l n

    word : ℕ → ℕ
    word l = word_at b (to l) ⊕ word_at strips (at + l * step) ⊗ weight

    elsewhere : (line p : ℕ) → p < order_limit → (line < lines → p ≡ n → ⊥)
        → word_at after (response_place line p) ≡ word_at b (response_place line p)
    elsewhere line p c out =
        ap (λ z. word_at z (response_place line p)) f
        ∙ written_other to word lines b _
        (λ i x z.
        let same = same_row_column order_limit (order_limit + line) p (order_limit + i) n c here z in
        out (omega (arith, same.0)) same.1)

-- ---- the words of a strip at a distance from the edge

-- A word with 0 added.
add_none : (a b c : ℕ) → a < 2 ^ 64 → b ≡ 0 → a ≡ a ⊕ b ⊗ c
add_none a b c h e = sym (rw (e, zero_mul, zero_right) (reduced_small a h))

-- The words of a place in the block.
pub distance_some : (gain : ℕ) (strip : Strip) (place lines places : ℕ) (strips : List ℕ) (weights : ℕ → ℕ) (before : List ℕ)
    → ((z : ℕ) → word_at before z < 2 ^ 64) → places ≤ order_limit → {n : ℕ} {after : List ℕ} → n ≡ lines_inside strip place lines
    → MultiplesAdded n places (λ l. gain ⊗ word_at strips (address_in strip 0 place + l * strip.line_step))
    weights before after
    → DistanceAdded lines places (λ l. gain ⊗ strip_read strip strips l place) weights before after
distance_some gain strip place lines places strips weights before small few {n} e held =
    record {
      length_kept = held.added.length_kept;
      at = λ line p h b.
          elim (dec_lt line n) [
            | yes l ↦
                held.added.at line p l b
                ∙ ap (λ z. word_at before (response_place line p) ⊕ (gain ⊗ z) ⊗ weights p)
                (sym (read_inside strip place lines strips line (omega arith)))
            | no l ↦
                held.rest line p (omega arith) (λ x y. l x)
                ∙ add_none _ _ (weights p) (small _)
                (ap (gain ⊗◌) (read_outside strip place lines strips line (omega arith) h) ∙ mul_zero gain)
          ];
    }

-- A place outside the block.
pub distance_none : (gain : ℕ) (strip : Strip) (place lines places : ℕ) (strips : List ℕ) (weights : ℕ → ℕ) (before : List ℕ)
    → ((z : ℕ) → word_at before z < 2 ^ 64) → lines_inside strip place lines ≡ 0
    → DistanceAdded lines places (λ l. gain ⊗ strip_read strip strips l place) weights before before
distance_none gain strip place lines places strips weights before small e =
    record {
      length_kept = refl;
      at = λ line p h b.
          add_none _ _ (weights p) (small _)
          (ap (gain ⊗◌) (read_outside strip place lines strips line (omega arith) h) ∙ mul_zero gain);
    }
