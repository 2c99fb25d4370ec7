-- A plan whose sizes and orders a signed number holds is the plan that its record stands for. Assumes nothing.
use mathlib.Core.Path.{◌≡◌, refl, sym, ap, ◌∙◌}
use mathlib.Core.Bool.{true}
use mathlib.Core.List.{[], append-nil}
use Prim.Native.Nat.{ℕ, zero, suc, ◌+◌, ◌*◌, ◌<◌, ◌≤◌, ◌^◌}
use native.Mathlib.Omega.{arith}
use lib.IntN.{ℤ, pos}
use lib.ListN.{length, length-append}
use Rattle.plan.specs.declared.Plan.{Plan}
use Rattle.plan.specs.Rules.{order_limit, pass_at, keeps_rules}
use Rattle.plan.proofs.Record.{rules}
use Rattle.buffer.specs.Lists.{joined, number_at}
use Rattle.buffer.proofs.Listed.{listed_only}
use Rattle.buffer.proofs.Joined.{joined_at}
use Rattle.plan_reader.proofs.RecordParts.{same_pass, same_plan}
use Rattle.plan_writer.specs.RecordType.{WellShaped}
use Rattle.plan_record.specs.Records.{pass_length, pass_start, size_from, pass_of_record, plan_of_record, number_from, record_of_pass, record_of_passes, record_of_plan}
use Rattle.plan_record.proofs.RecordWords.{number_held}

size_back : (size : ℕ) {number : ℤ} → size < 2 ^ 63 → number ≡ number_from size → size_from number ≡ size
size_back size h e = ap size_from (e ∙ number_held size h)

module _ (plan : Plan) (shape : WellShaped plan) where
  pass_length_law : (i : ℕ) → i < 4 → length (record_of_pass (pass_at plan i)) ≡ pass_length
  unfolding record_of_pass
  pass_length_law i h = omega (arith, shape.place_count i h)

  passes_length : (count : ℕ) → count ≤ 4 → length (record_of_passes plan count) ≡ count * pass_length
  unfolding record_of_passes joined
  passes_length zero h = refl
  passes_length (suc count) h =
      length-append (record_of_passes plan count) (record_of_pass (pass_at plan count))
      ∙ omega (arith, passes_length count (omega arith), pass_length_law count (omega arith))

  -- Word k of pass i stands at its place among the words of all passes.
  pass_word_law : (i k : ℕ) → i < 4 → k < pass_length
      → number_at (record_of_passes plan 4) (i * pass_length + k) ≡ number_at (record_of_pass (pass_at plan i)) k
  unfolding record_of_passes
  pass_word_law i k h m =
      ap (λ l. number_at l (i * pass_length + k)) (sym (append-nil (record_of_passes plan 4)))
      ∙ joined_at _ 4 i k _ [] (pos 0) h (omega (arith, pass_length_law i h)) (passes_length i (omega arith))

  record_word : (i k : ℕ) → i < 4 → k < pass_length
      → number_at (record_of_plan plan) (pass_start i + k) ≡ number_at (record_of_pass (pass_at plan i)) k
  unfolding record_of_plan
  record_word i k h m =
      let e : pass_start i + k ≡ suc (suc (suc (i * pass_length + k))) = omega arith in
      rw e (pass_word_law i k h m)

  module _ (small : (i : ℕ) → i < 4 → (pass_at plan i).order < 2 ^ 63) where
    pass_back : (i : ℕ) → i < 4 → pass_at plan i ≡ pass_of_record (record_of_plan plan) (pass_start i)
    unfolding pass_of_record record_of_pass
    pass_back i h =
        let e : pass_start i + 0 ≡ pass_start i = omega arith in
        sym
        (same_pass
        (size_back (pass_at plan i).order (small i h) (rw e at (record_word i 0 h (omega arith))))
        (record_word i 1 h (omega arith))
        (sym (listed_only _ (pass_at plan i).coefficients order_limit (pos 0) (shape.place_count i h)
        (λ j m.
        let f : pass_start i + 2 + j ≡ pass_start i + (2 + j) = omega arith in
        let g : 2 + j ≡ suc (suc j) = omega arith in
        rw f (sym (record_word i (2 + j) h (omega arith) ∙ rw g))))))

    -- The record of a plan stands for the plan.
    pub record_read_back :
        plan.grid.rows < 2 ^ 63 → plan.grid.columns < 2 ^ 63 → plan.grid.side < 2 ^ 63
        → plan_of_record (record_of_plan plan) ≡ plan
    unfolding plan_of_record record_of_plan
    record_read_back rows columns side =
        same_plan (size_back plan.grid.rows rows refl) (size_back plan.grid.columns columns refl)
        (size_back plan.grid.side side refl)
        (sym (listed_only _ plan.passes 4 (record { order = 0; gain = pos 0; coefficients = [] })
        shape.pass_count pass_back))

-- A plan that keeps the rules is such a plan.
pub kept_read_back : (plan : Plan) → WellShaped plan → keeps_rules plan ≡ true → plan_of_record (record_of_plan plan) ≡ plan
kept_read_back plan shape kept =
    let r = rules plan kept in
    record_read_back plan shape (λ i h. omega (arith, (r.pass_kept_law i h).order_limited)) (omega (arith, r.rows_high))
    (omega (arith, r.columns_high)) (omega (arith, r.side_high))
