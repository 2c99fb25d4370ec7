-- Reading the words of a plan gives the plan. Each word of the plan is found at its place, so every test passes there, and what
-- is read is what was written. Assumes nothing.
use mathlib.Core.Path.{◌≡◌, refl, sym, ap, ◌∙◌}
use mathlib.Core.Bool.{true}
use mathlib.Core.Logic.{⊎_elim}
use mathlib.Core.List.{[], ◌∷◌, ◌++◌}
use Prim.Native.Nat.{ℕ, zero, suc, ◌+◌, ◌*◌, ◌/◌, ◌%◌, ◌<◌, ◌≤◌}
use native.Mathlib.Omega.{arith}
use lib.IntN.{ℤ, pos, negsuc}
use lib.ListN.{length, get_or}
use lib.Seq.{get_or_at}
use borrow.Author.Tests.{lt-ltb, le-ltb, le-leb, eq-eqb, eqb-true}
use Rattle.refusal.specs.Refusals.{accepted}
use Rattle.refusal.specs.Table.{first_due}
use Rattle.refusal.proofs.Table.{first_append, both_accepted}
use Rattle.grid.specs.Grid.{size_limit}
use Rattle.plan.specs.declared.Pass.{Pass}
use Rattle.plan.specs.declared.Plan.{Plan}
use Rattle.plan.specs.Rules.{order_limit, in_signed28, is_zero, coefficient_at, pass_at, keeps_rules}
use Rattle.number.specs.Numbers.{within, total}
use Rattle.plan.specs.Sizes.{order_of, order_sum}
use Rattle.buffer.specs.Lists.{word_at}
use Rattle.number.proofs.Sums.{all_below_law, total_grows}
use Rattle.number.proofs.Tests.{lt_or_ge, and_both}
use Rattle.plan.proofs.Record.{PassRules, rules}
use Rattle.buffer.proofs.Listed.{listed_at, listed_only}
use Rattle.buffer.proofs.Joined.{joined_at}
use Rattle.plan_reader.specs.PlanWords.{rows_in, columns_in, signed28, pass_allowed, size_allowed}
use Rattle.plan_reader.specs.ReadPlan.{payload_at, order_at, pass_place, head_rows, coefficient_rows, pass_rows, passes_rows, end_rows, side_reaches, side_rows, plan_rows, coefficient_in, pass_from, plan_from, read_plan}
use Rattle.plan_reader.proofs.RecordParts.{coefficient_read, coefficient_zero, same_pass, same_plan}
use Rattle.plan_reader.proofs.RefusalRows.{side_accepted, joined_accepted}
use Rattle.plan_writer.specs.RecordType.{WellShaped}
use Rattle.plan_writer.specs.WritePlan.{payload28, size_payload, pass_payload, coefficient_words, pass_words, passes_words, words_of}
use Rattle.plan_writer.proofs.Payload.{payload_below, signed_payload}
use Rattle.plan_writer.proofs.WrittenWords.{length_pass, length_passes, length_words}
use Rattle.plan_writer.proofs.AcceptedWords.{payload_written, word_written}
use Rattle.number.specs.KindWords.{word_of}

-- ---- where the words stand

coefficient_word : (pass : Pass) (count j : ℕ) → j < count
    → get_or (coefficient_words pass count) j 0 ≡ word_of 5 (payload28 (coefficient_at pass j))
unfolding coefficient_words
coefficient_word pass count j h = listed_at _ count j 0 h

word_in_passes : (plan : Plan) (i k : ℕ) → i < 4 → k < 2 + (pass_at plan i).order
    → get_or (passes_words plan 4 ++ (word_of 6 0 ∷ [])) (2 * i + order_sum plan i + k) 0 ≡ get_or (pass_words i (pass_at plan i)) k 0
unfolding passes_words
word_in_passes plan i k h b =
    joined_at _ 4 i k _ _ 0 h (omega (arith, length_pass i (pass_at plan i))) (length_passes plan i)

-- The place of the pass word of pass i.
abbrev pass_start : Plan → ℕ → ℕ
pass_start plan i = 2 + (2 * i + order_sum plan i)

word_of_pass : (plan : Plan) (i k place : ℕ) → i < 4 → k < 2 + (pass_at plan i).order → place ≡ pass_start plan i + k
    → word_at (words_of plan) place ≡ get_or (pass_words i (pass_at plan i)) k 0
unfolding words_of
word_of_pass plan i k place h b e =
    let f : place ≡ suc (suc (2 * i + order_sum plan i + k)) = omega arith in
    rw f (word_in_passes plan i k h b)

end_word_law : (plan : Plan) → word_at (words_of plan) (pass_start plan 4) ≡ word_of 6 0
unfolding words_of
end_word_law plan =
    let f : pass_start plan 4 ≡ suc (suc (2 * 4 + order_sum plan 4)) = omega arith in
    rw f (get_or_at (passes_words plan 4) (word_of 6 0) [] 0 (2 * 4 + order_sum plan 4) (length_passes plan 4))

zero_is : (value : ℤ) → is_zero value ≡ true → value ≡ pos 0
zero_is (pos n) e = ap pos (eqb-true n 0 e)
zero_is (negsuc n) e = cc

-- ---- one pass

module _ (plan : Plan) (i : ℕ) (h : i < 4) (kept : PassRules plan.grid.side (pass_at plan i)) where
  abbrev pass : Pass
  pass = pass_at plan i

  abbrev start : ℕ
  start = pass_start plan i

  pass_within : (k : ℕ) → k < 2 + pass.order → start + k < length (words_of plan)
  pass_within k b = omega (arith, length_words plan, total_grows (order_of plan) i 4 (omega arith))

  head_at : word_at (words_of plan) start ≡ word_of 3 (pass_payload i pass.order)
  unfolding pass_words
  head_at = word_of_pass plan i 0 start h (omega arith) (omega arith)

  gain_at : word_at (words_of plan) (start + 1) ≡ word_of 4 (payload28 pass.gain)
  unfolding pass_words
  gain_at = word_of_pass plan i 1 (start + 1) h (omega arith) (omega arith)

  coefficient_at_law : (j : ℕ) → j < pass.order
      → word_at (words_of plan) (start + 2 + j) ≡ word_of 5 (payload28 (coefficient_at pass j))
  unfolding pass_words
  coefficient_at_law j b =
      word_of_pass plan i (suc (suc j)) (start + 2 + j) h (omega arith) (omega arith) ∙ coefficient_word pass pass.order j b

  head_payload : payload_at (words_of plan) start ≡ pass_payload i pass.order
  head_payload = payload_written (words_of plan) start 3 _ head_at (omega (arith, kept.order_limited))

  order_read : order_at (words_of plan) start ≡ pass.order
  order_read = rw head_payload (omega (arith, kept.order_limited))

  signed_below : (j : ℕ) → j < pass.order → in_signed28 (coefficient_at pass j) ≡ true
  signed_below j b = rw (lt-ltb j pass.order b) at (kept.coefficient_kept_law j (omega (arith, kept.order_limited)))

  coefficients_accepted : (count : ℕ) → count ≤ pass.order
      → first_due (coefficient_rows (words_of plan) (start + 2) count) ≡ accepted
  unfolding coefficient_rows
  coefficients_accepted count b =
      joined_accepted _ count
      (λ j h.
      let l : j < pass.order = omega arith in
      let p : start + 2 + j < length (words_of plan) = omega (arith, pass_within (2 + j) (omega arith)) in
      word_written (words_of plan) (start + 2 + j) 5 _ (coefficient_at_law j l) (payload_below _ (signed_below j l)) p true refl)

  pass_allowed_law : pass_allowed i (payload_at (words_of plan) start) ≡ true
  pass_allowed_law =
      let o = kept.order_limited in
      rw head_payload
      (and_both (eq-eqb ((i * 16 + pass.order) / 16 % 4) i (omega arith))
      (and_both (le-leb ((i * 16 + pass.order) % 16) order_limit (omega arith))
      (eq-eqb ((i * 16 + pass.order) / 64) 0 (omega arith))))

  pass_accepted : first_due (pass_rows (words_of plan) i start) ≡ accepted
  unfolding pass_rows
  pass_accepted =
      let p : start < length (words_of plan) = omega (arith, pass_within 0 (omega arith)) in
      rw (first_append, first_append)
      (both_accepted (word_written (words_of plan) start 3 _ head_at (omega (arith, kept.order_limited)) p _ pass_allowed_law)
      (both_accepted
      (word_written (words_of plan) (start + 1) 4 _ gain_at (payload_below _ kept.gain_kept)
      (pass_within 1 (omega arith)) true refl)
      (rw order_read (coefficients_accepted pass.order (omega arith)))))

  coefficient_back : (j : ℕ) → j < order_limit → coefficient_at pass j ≡ coefficient_in (words_of plan) start j
  coefficient_back j b =
      ⊎_elim
      (λ (l : j < pass.order).
      let s = signed_below j l in
      sym (coefficient_read (words_of plan) start j (omega (arith, order_read))
      ∙ ap signed28 (payload_written (words_of plan) (start + 2 + j) 5 _ (coefficient_at_law j l) (payload_below _ s))
      ∙ signed_payload _ s))
      (λ (g : pass.order ≤ j).
      zero_is (coefficient_at pass j) (rw (le-ltb j pass.order g) at (kept.coefficient_kept_law j b))
      ∙ sym (coefficient_zero (words_of plan) start j (omega (arith, order_read))))
      (lt_or_ge j pass.order)

  pass_read : length pass.coefficients ≡ order_limit → pass ≡ pass_from (words_of plan) start
  unfolding pass_from
  pass_read places =
      same_pass (sym order_read)
      (sym (ap signed28 (payload_written (words_of plan) (start + 1) 4 _ gain_at (payload_below _ kept.gain_kept))
      ∙ signed_payload _ kept.gain_kept))
      (listed_only (coefficient_in (words_of plan) start) pass.coefficients order_limit (pos 0) places coefficient_back)

-- ---- the plan

module _ (plan : Plan) (kept : keeps_rules plan ≡ true) where
  place_read : (i : ℕ) → i ≤ 4 → pass_place (words_of plan) i ≡ pass_start plan i
  unfolding pass_place total
  place_read zero h = refl
  place_read (suc i) h =
      rw (place_read i (omega arith))
      (omega (arith, order_read plan i (omega arith) ((rules plan kept).pass_kept_law i (omega arith))))

  passes_accepted : first_due (passes_rows (words_of plan) 4) ≡ accepted
  unfolding passes_rows
  passes_accepted =
      joined_accepted _ 4
      (λ i h. rw (place_read i (omega arith)) (pass_accepted plan i h ((rules plan kept).pass_kept_law i h)))

  abbrev size : ℕ
  size = size_payload plan.grid.rows plan.grid.columns

  size_payload_law : payload_at (words_of plan) 0 ≡ size
  unfolding words_of
  size_payload_law = let r = rules plan kept in payload_written (words_of plan) 0 1 _ refl (omega arith)

  side_payload : payload_at (words_of plan) 1 ≡ plan.grid.side
  unfolding words_of
  side_payload = let r = rules plan kept in payload_written (words_of plan) 1 2 _ refl (omega arith)

  within_both : (number most : ℕ) → 1 ≤ number → number ≤ most → within number most ≡ true
  within_both number most a b = and_both (le-leb 1 number a) (le-leb number most b)

  size_allowed_law : size_allowed (payload_at (words_of plan) 0) ≡ true
  size_allowed_law =
      let r = rules plan kept in
      rw size_payload_law
      (and_both (within_both (rows_in size) size_limit (omega arith) (omega arith))
      (and_both (within_both (columns_in size) size_limit (omega arith) (omega arith))
      (eq-eqb (size / 67108864) 0 (omega arith))))

  head_accepted : first_due (head_rows (words_of plan)) ≡ accepted
  unfolding head_rows words_of
  head_accepted =
      let r = rules plan kept in
      let n = length_words plan in
      rw first_append
      (both_accepted (word_written (words_of plan) 0 1 size refl (omega arith) (omega arith) _ size_allowed_law)
      (word_written (words_of plan) 1 2 plan.grid.side refl (omega arith) (omega arith) _
      (rw side_payload (within_both plan.grid.side 32 r.side_low r.side_high))))

  end_accepted : first_due (end_rows (words_of plan) (pass_place (words_of plan) 4)) ≡ accepted
  unfolding end_rows
  end_accepted =
      let n = length_words plan in
      rw (place_read 4 (omega arith), first_append)
      (both_accepted
      (word_written (words_of plan) (pass_start plan 4) 6 0 (end_word_law plan) (omega arith) (omega arith) _
      (eq-eqb _ 0 (payload_written (words_of plan) (pass_start plan 4) 6 0 (end_word_law plan) (omega arith))))
      (rw (le-ltb (pass_start plan 4 + 1) (length (words_of plan)) (omega arith))))

  sides_accepted : first_due (side_rows (words_of plan)) ≡ accepted
  sides_accepted =
      side_accepted (words_of plan)
      (all_below_law (side_reaches (words_of plan)) 4
      (λ i h.
      let r = (rules plan kept).pass_kept_law i h in
      rw (place_read i (omega arith))
      (le-leb (order_at (words_of plan) (pass_start plan i)) (payload_at (words_of plan) 1)
      (omega (arith, order_read plan i h r, side_payload, r.order_in_side)))))

  plan_accepted : first_due (plan_rows (words_of plan)) ≡ accepted
  unfolding plan_rows
  plan_accepted =
      rw (first_append, first_append, first_append)
      (both_accepted head_accepted (both_accepted passes_accepted (both_accepted end_accepted sides_accepted)))

  module _ (shape : WellShaped plan) where
    pass_back : (i : ℕ) → i < 4 → pass_at plan i ≡ pass_from (words_of plan) (pass_place (words_of plan) i)
    pass_back i h = rw (place_read i (omega arith)) (pass_read plan i h ((rules plan kept).pass_kept_law i h) (shape.place_count i h))

    plan_read : plan_from (words_of plan) ≡ plan
    unfolding plan_from
    plan_read =
        let r = rules plan kept in
        let rows : rows_in (payload_at (words_of plan) 0) ≡ plan.grid.rows = rw size_payload_law (omega arith) in
        let columns : columns_in (payload_at (words_of plan) 0) ≡ plan.grid.columns = rw size_payload_law (omega arith) in
        same_plan rows columns side_payload
        (sym (listed_only (λ i. pass_from (words_of plan) (pass_place (words_of plan) i)) plan.passes 4
        (record { order = 0; gain = pos 0; coefficients = [] }) shape.pass_count pass_back))

-- A plan that keeps the rules is read back from its words.
pub reading_written : (plan : Plan) → WellShaped plan → keeps_rules plan ≡ true
    → read_plan (words_of plan) ≡ record { answer = accepted; value = plan }
unfolding read_plan
reading_written plan shape kept = rw (plan_accepted plan kept, plan_read plan kept shape)
