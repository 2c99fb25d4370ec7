-- A plan that was read from accepted words keeps the rules and has those words. Each accepted word is the next word of what is
-- left, and is the word that writing makes of what was read from it. Assumes nothing.
use mathlib.Core.Path.{◌≡◌, refl, sym, ap, ◌∙◌}
use mathlib.Core.Bool.{true, false, ◌&&◌}
use mathlib.Core.Logic.{⊎_elim}
use mathlib.Core.List.{List, [], ◌∷◌, ◌++◌, append_assoc}
use Prim.Native.Nat.{ℕ, zero, suc, ◌+◌, ◌*◌, ◌/◌, ◌<◌, ◌≤◌}
use native.Mathlib.Omega.{arith}
use native.Mathlib.Nat.{add-zero}
use native.Mathlib.Numerals.{add-one}
use lib.IntN.{pos}
use lib.Dec.{ltb, leb, eqb}
use lib.ListN.{length, drop, drop_of_length-le}
use borrow.Author.Tests.{lt-ltb, le-ltb, ltb-false, le-leb, leb-true, eqb-true, not-false}
use Rattle.refusal.specs.Refusals.{accepted}
use Rattle.refusal.specs.Table.{◌at◌when◌, first_due}
use Rattle.refusal.proofs.Table.{rows_accepted, none_of}
use Rattle.grid.specs.Grid.{grid_kept}
use Rattle.plan.specs.declared.Pass.{Pass}
use Rattle.plan.specs.Rules.{order_limit, in_signed28, coefficient_at, coefficient_kept, coefficients_kept, pass_kept, pass_at, passes_kept, keeps_rules}
use Rattle.number.specs.Numbers.{within, all_below}
use Rattle.number.proofs.Sums.{all_below_law}
use Rattle.number.proofs.Tests.{and_left, and_right, and_both, all_at, lt_or_ge}
use Rattle.buffer.specs.Lists.{list_of, joined}
use Rattle.buffer.proofs.Listed.{listed_at}
use Rattle.plan_reader.specs.PlanWords.{rows_in, columns_in, pass_in, pass_allowed, size_allowed, side_allowed, end_allowed, signed28}
use Rattle.plan_reader.specs.ReadPlan.{payload_at, order_at, after_pass, pass_place, word_rows, head_rows, coefficient_rows, pass_rows, passes_rows, end_rows, side_reaches, side_rows, plan_rows, coefficient_in, pass_from, plan_from, read_plan}
use Rattle.plan_reader.proofs.RecordParts.{coefficient_read, coefficient_zero}
use Rattle.plan_reader.proofs.RefusalRows.{each_accepted}
use Rattle.plan_writer.specs.WritePlan.{payload28, coefficient_words, pass_words, passes_words, words_of}
use Rattle.plan_writer.proofs.Payload.{payload_signed, signed_kept}
use Rattle.plan_writer.proofs.AcceptedWords.{word_due, word_first}
use Rattle.number.specs.KindWords.{word_of}

-- ---- one pass

module _ (words : List ℕ) (i place : ℕ) (e : first_due (pass_rows words i place) ≡ accepted) where
  abbrev pass : Pass
  pass = pass_from words place

  head_accepted : first_due (word_rows words place 3 (pass_allowed i (payload_at words place))) ≡ accepted
  unfolding pass_rows
  head_accepted = (rows_accepted (word_rows words place 3 (pass_allowed i (payload_at words place))) _ e).0

  others_accepted : (first_due (word_rows words (place + 1) 4 true) ≡ accepted)
      × (first_due (coefficient_rows words (place + 2) (order_at words place)) ≡ accepted)
  unfolding pass_rows
  others_accepted =
      rows_accepted (word_rows words (place + 1) 4 true) (coefficient_rows words (place + 2) (order_at words place))
      (rows_accepted (word_rows words place 3 (pass_allowed i (payload_at words place))) _ e).1

  -- what the pass word may hold
  head_allowed : pass_allowed i (payload_at words place) ≡ true
  head_allowed = (word_due words place 3 _ head_accepted).payload_allowed

  order_and_spare : (leb (order_at words place) order_limit && eqb (payload_at words place / 64) 0) ≡ true
  order_and_spare = and_right (eqb (pass_in (payload_at words place)) i) _ head_allowed

  order_limited : order_at words place ≤ order_limit
  order_limited = leb-true (order_at words place) order_limit (and_left (leb (order_at words place) order_limit) _ order_and_spare)

  head_payload : payload_at words place ≡ i * 16 + order_at words place
  head_payload =
      let number : pass_in (payload_at words place) ≡ i =
      eqb-true _ i (and_left (eqb (pass_in (payload_at words place)) i) _ head_allowed) in
      let spare : payload_at words place / 64 ≡ 0 =
      eqb-true _ 0 (and_right (leb (order_at words place) order_limit) _ order_and_spare) in
      omega arith

  -- what the pass holds
  order_is : pass.order ≡ order_at words place
  unfolding pass_from
  order_is = refl

  gain_is : pass.gain ≡ signed28 (payload_at words (place + 1))
  unfolding pass_from
  gain_is = refl

  place_is : (j : ℕ) → j < order_limit → coefficient_at pass j ≡ coefficient_in words place j
  unfolding pass_from
  place_is j h = listed_at (coefficient_in words place) order_limit j (pos 0) h

  coefficient_is : (j : ℕ) → j < order_at words place → coefficient_at pass j ≡ signed28 (payload_at words (place + 2 + j))
  coefficient_is j h = place_is j (omega (arith, order_limited)) ∙ coefficient_read words place j h

  -- its words are those that were read
  coefficients_first : (count : ℕ) → count ≤ order_at words place → first_due (coefficient_rows words (place + 2) count) ≡ accepted
      → drop (place + 2) words ≡ coefficient_words pass count ++ drop (place + 2 + count) words
  unfolding coefficient_rows joined coefficient_words list_of
  coefficients_first zero h a = rw (add-zero (place + 2))
  coefficients_first (suc count) h a =
      let both = rows_accepted (coefficient_rows words (place + 2) count) (word_rows words (place + 2 + count) 5 true) a in
      let word = word_first words (place + 2 + count) 5 true both.1 in
      let same : payload28 (coefficient_at pass count) ≡ payload_at words (place + 2 + count) =
      ap payload28 (coefficient_is count (omega arith)) ∙ payload_signed (payload_at words (place + 2 + count)) (omega arith) in
      let next : place + 2 + suc count ≡ suc (place + 2 + count) = omega arith in
      coefficients_first count (omega arith) both.0
      ∙ ap (λ (l : List ℕ). coefficient_words pass count ++ l) word
      ∙ rw (append_assoc, same, next)

  pass_first : drop place words ≡ pass_words i pass ++ drop (after_pass words place) words
  unfolding pass_words
  pass_first =
      let gain : payload28 pass.gain ≡ payload_at words (place + 1) =
      ap payload28 gain_is ∙ payload_signed (payload_at words (place + 1)) (omega arith) in
      let second : drop (suc place) words ≡ word_of 4 (payload_at words (place + 1)) ∷ drop (suc (place + 1)) words =
      ap (λ (n : ℕ). drop n words) (sym (add-one place)) ∙ word_first words (place + 1) 4 true others_accepted.0 in
      let third : suc (place + 1) ≡ place + 2 = omega arith in
      word_first words place 3 _ head_accepted
      ∙ rw (
        second,
        third,
        coefficients_first (order_at words place) (omega arith) others_accepted.1,
        order_is,
        gain,
        ← head_payload,
      )

  -- it keeps the rules
  coefficient_kept_law : (j : ℕ) → j < order_limit → coefficient_kept pass.order j (coefficient_at pass j) ≡ true
  coefficient_kept_law j h =
      ⊎_elim
      (λ (l : j < order_at words place).
      rw (order_is, lt-ltb j (order_at words place) l, coefficient_is j l)
      (signed_kept (payload_at words (place + 2 + j)) (omega arith)))
      (λ (g : order_at words place ≤ j).
      rw (order_is, le-ltb j (order_at words place) g, place_is j h, coefficient_zero words place j g))
      (lt_or_ge j (order_at words place))

  pass_keeps_rules : (side : ℕ) → order_at words place ≤ side → pass_kept side pass ≡ true
  unfolding pass_kept coefficients_kept
  pass_keeps_rules side h =
      let limited : leb pass.order order_limit ≡ true = rw order_is (le-leb (order_at words place) order_limit order_limited) in
      let in_side : leb pass.order side ≡ true = rw order_is (le-leb (order_at words place) side h) in
      let gain : in_signed28 pass.gain ≡ true = rw gain_is (signed_kept (payload_at words (place + 1)) (omega arith)) in
      and_both limited
      (and_both in_side
      (and_both gain (all_below_law (λ j. coefficient_kept pass.order j (coefficient_at pass j)) order_limit coefficient_kept_law)))

-- ---- the plan

module _ (words : List ℕ) where
  pass_is : (i : ℕ) → i < 4 → pass_at (plan_from words) i ≡ pass_from words (pass_place words i)
  unfolding plan_from
  pass_is i h = listed_at (λ i. pass_from words (pass_place words i)) 4 i _ h

  pass_accepted : (count i : ℕ) → first_due (passes_rows words count) ≡ accepted → i < count
      → first_due (pass_rows words i (pass_place words i)) ≡ accepted
  unfolding passes_rows
  pass_accepted count i a h = each_accepted _ count i a h

  passes_first : first_due (passes_rows words 4) ≡ accepted → (count : ℕ) → count ≤ 4
      → drop 2 words ≡ passes_words (plan_from words) count ++ drop (pass_place words count) words
  unfolding passes_words joined pass_place
  passes_first a zero h = refl
  passes_first a (suc count) h =
      passes_first a count (omega arith)
      ∙ rw (
        pass_first words count (pass_place words count) (pass_accepted 4 count a (omega arith)),
        pass_is count (omega arith),
        append_assoc,
      )

module _ (words : List ℕ) (e : first_due (plan_rows words) ≡ accepted) where
  heads : (first_due (word_rows words 0 1 (size_allowed (payload_at words 0))) ≡ accepted)
      × (first_due (word_rows words 1 2 (side_allowed (payload_at words 1))) ≡ accepted)
  unfolding plan_rows head_rows
  heads =
      rows_accepted (word_rows words 0 1 (size_allowed (payload_at words 0))) (word_rows words 1 2 (side_allowed (payload_at words 1)))
      (rows_accepted (head_rows words) _ e).0

  after_head : (first_due (passes_rows words 4) ≡ accepted)
      × (first_due (end_rows words (pass_place words 4) ++ side_rows words) ≡ accepted)
  unfolding plan_rows
  after_head =
      rows_accepted (passes_rows words 4) (end_rows words (pass_place words 4) ++ side_rows words)
      (rows_accepted (head_rows words) _ e).1

  passes : first_due (passes_rows words 4) ≡ accepted
  passes = after_head.0

  last : (first_due (end_rows words (pass_place words 4)) ≡ accepted) × (first_due (side_rows words) ≡ accepted)
  last = rows_accepted (end_rows words (pass_place words 4)) (side_rows words) after_head.1

  ends : (first_due (word_rows words (pass_place words 4) 6 (end_allowed (payload_at words (pass_place words 4)))) ≡ accepted)
      × (first_due (5 at pass_place words 4 + 1 when ltb (pass_place words 4 + 1) (length words) ∷ []) ≡ accepted)
  unfolding end_rows
  ends =
      rows_accepted (word_rows words (pass_place words 4) 6 (end_allowed (payload_at words (pass_place words 4)))) (_ ∷ []) last.0

  rows_kept : within (rows_in (payload_at words 0)) 4096 ≡ true
  rows_kept = and_left _ _ (word_due words 0 1 _ heads.0).payload_allowed

  columns_and_spare : (within (columns_in (payload_at words 0)) 4096 && eqb (payload_at words 0 / 67108864) 0) ≡ true
  columns_and_spare = and_right (within (rows_in (payload_at words 0)) 4096) _ (word_due words 0 1 _ heads.0).payload_allowed

  size_payload_law : rows_in (payload_at words 0) * 8192 + columns_in (payload_at words 0) ≡ payload_at words 0
  size_payload_law =
      let spare : payload_at words 0 / 67108864 ≡ 0 =
      eqb-true _ 0 (and_right (within (columns_in (payload_at words 0)) 4096) _ columns_and_spare) in
      omega arith

  nothing_left : drop (suc (pass_place words 4)) words ≡ []
  nothing_left =
      let none : ltb (pass_place words 4 + 1) (length words) ≡ false = (none_of (_ ∷ []) ends.1).0 in
      let past : length words ≤ suc (pass_place words 4) = omega (arith, ltb-false (pass_place words 4 + 1) (length words) none) in
      drop_of_length-le words past

  end_first : drop (pass_place words 4) words ≡ word_of 6 0 ∷ []
  end_first =
      let d = word_due words (pass_place words 4) 6 _ ends.0 in
      let empty : payload_at words (pass_place words 4) ≡ 0 =
      eqb-true (payload_at words (pass_place words 4)) 0 d.payload_allowed in
      word_first words (pass_place words 4) 6 _ ends.0 ∙ rw (empty, nothing_left)

  words_again : words_of (plan_from words) ≡ words
  unfolding words_of plan_from
  words_again =
      sym (word_first words 0 1 _ heads.0
      ∙ rw (word_first words 1 2 _ heads.1, passes_first words passes 4 (omega arith), end_first, size_payload_law))

  sides_reach : all_below (side_reaches words) 4 ≡ true
  unfolding side_rows
  sides_reach = not-false _ (none_of (side_rows words) last.1).0

  pass_kept_law : (i : ℕ) → i < 4 → pass_kept (payload_at words 1) (pass_at (plan_from words) i) ≡ true
  pass_kept_law i h =
      rw (pass_is words i h)
      (pass_keeps_rules words i (pass_place words i) (pass_accepted words 4 i passes h) (payload_at words 1)
      (leb-true (order_at words (pass_place words i)) (payload_at words 1) (all_at (side_reaches words) 4 i sides_reach h)))

  rules_kept : keeps_rules (plan_from words) ≡ true
  unfolding grid_kept keeps_rules passes_kept plan_from
  rules_kept =
      and_both
      (and_both rows_kept
      (and_both (and_left (within (columns_in (payload_at words 0)) 4096) _ columns_and_spare)
      (word_due words 1 2 _ heads.1).payload_allowed))
      (all_below_law (λ i. pass_kept (payload_at words 1) (pass_at (plan_from words) i)) 4 pass_kept_law)

-- ---- the laws

module _ (words : List ℕ) (e : (read_plan words).answer ≡ accepted) where
  plan_accepted : first_due (plan_rows words) ≡ accepted
  unfolding read_plan
  plan_accepted = e

  read_is : (read_plan words).value ≡ plan_from words
  unfolding read_plan
  read_is = rw e

  -- The words of a plan that was read are the words that it was read from.
  pub writing_read : words_of (read_plan words).value ≡ words
  writing_read = rw read_is (words_again words plan_accepted)

  -- A plan that was read keeps the rules.
  pub read_keeps_rules : keeps_rules (read_plan words).value ≡ true
  read_keeps_rules = rw read_is (rules_kept words plan_accepted)
