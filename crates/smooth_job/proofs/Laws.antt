-- What the definitions come to: an input that asks for a job has it done, and a cut input asks for what the whole does.
-- Assumes nothing.
use mathlib.Core.Path.{◌≡◌, refl, sym, ap, ◌∙◌}
use mathlib.Core.Bool.{Bool, true, false, not}
use mathlib.Core.List.{List, [], ◌∷◌, ◌++◌}
use Prim.Native.Nat.{ℕ, ◌*◌, ◌%◌, ◌≤◌}
use native.Mathlib.Omega.{arith}
use native.Mathlib.Nat.{mul-le-mul}
use lib.IntN.{ℤ}
use lib.Dec.{ltb, eqb}
use lib.ListN.{length, length-replicate}
use borrow.Author.Tests.{ltb-false, le-ltb}
use Rattle.refusal.specs.Refusals.{Answer, accepted, refused}
use Rattle.refusal.specs.Table.{◌at◌when◌, first_due, Given}
use Rattle.refusal.proofs.Table.{refused_before, accepted_before, not_due, rows_accepted, none_of}
use Rattle.plan.specs.declared.Plan.{Plan}
use Rattle.plan.specs.Rules.{keeps_rules}
use Rattle.plan.specs.Sizes.{needed_marks, needed_strips, needed_pixels, sizes_of}
use Rattle.plan.specs.FirstTests.{lent_rows}
use Rattle.grid.proofs.Extents.{count_bounded}
use Rattle.plan.proofs.Needed.{bounds}
use Rattle.buffer.proofs.Listed.{listed_length}
use Rattle.plan_reader.specs.ReadPlan.{plan_rows, read_plan}
use Rattle.plan_writer.proofs.RoundTripRead.{read_keeps_rules}
use Rattle.report.specs.Values.{Values}
use Rattle.report.specs.Report.{report}
use Rattle.whole_job.specs.WholeJob.{whole_answer}
use Rattle.whole_job.proofs.Steps.{whole_job_done}
use Rattle.std.specs.Prelude.{Ok}
use Rattle.smooth_job.specs.declared.Smoothed.{Smoothed}
use Rattle.smooth_job.specs.Promises.{Smooths, SmoothDone, SmoothTable}
use Rattle.smooth_job.specs.Program.{pixel_limit, strip_limit, plan_words, heights_in, plan_in, count_rows, input_rows, Asked, refused_input, job, asked_by, map_in, asked, job_lists, job_after, Line, reported_after, answer_to, smooth_given, output_of}

-- ---- a job that is asked for

-- The plan keeps the rules, the pixels are few, and each has a height.
pub record AsksJob (plan : Plan) (heights : List ℤ) : Type 0 where
  pub rules : keeps_rules plan ≡ true
  pub few : needed_pixels plan ≤ pixel_limit
  pub all : length heights ≡ needed_pixels plan

-- A job is asked for only where the tests accept.
record Asks (answer : Answer) (read plan : Plan) (map heights : List ℤ) : Type 0 where
  tests : answer ≡ accepted
  same_plan : read ≡ plan
  same_map : map ≡ heights

asks : (answer : Answer) (read plan : Plan) (map heights : List ℤ) → asked_by answer read map ≡ job plan heights
    → Asks answer read plan map heights
asks accepted read plan map heights e = record { tests = refl; same_plan = cc; same_map = cc }
asks (refused number place) read plan map heights e = let z : ◌≡◌ {A = ℕ} 0 1 = cc in absurd (omega arith)

pub asks_job : (input : List ℕ) (plan : Plan) (heights : List ℤ) → asked input ≡ job plan heights → AsksJob plan heights
unfolding asked input_rows count_rows heights_in read_plan
asks_job input plan heights e =
    let known = asks (first_due (input_rows input)) (plan_in input) plan (map_in input (plan_in input)) heights e in
    let words = plan_words input in
    let tests : first_due (plan_rows words ++ count_rows input (plan_in input)) ≡ accepted =
    (not_due (not (eqb (length input % 4) 0)) 13 0 (first_due (plan_rows words ++ count_rows input (plan_in input))) known.tests).others in
    let (read, counts) = rows_accepted (plan_rows words) (count_rows input (plan_in input)) tests in
    let (few, rest) = none_of (count_rows input (plan_in input)) counts in
    let kept : keeps_rules (plan_in input) ≡ true = rw read at (read_keeps_rules words read) in
    record {
      rules = rw known.same_plan at kept;
      few = rw known.same_plan at (ltb-false pixel_limit (needed_pixels (plan_in input)) few);
      all = ap length (sym known.same_map) ∙ listed_length _ _ ∙ ap needed_pixels known.same_plan;
    }

-- A job that is asked for is accepted on the program's lists, with an output that is long enough.
module _ (plan : Plan) (heights : List ℤ) (given : AsksJob plan heights) where
  few_blocks : needed_marks plan ≤ pixel_limit
  few_blocks =
      let marks : needed_marks plan ≤ needed_pixels plan =
      mul-le-mul (count_bounded plan.grid.rows plan.grid.side) (count_bounded plan.grid.columns plan.grid.side) in
      omega (arith, given.few)

  few_strips : needed_strips plan ≤ strip_limit
  few_strips = mul-le-mul few_blocks (bounds plan given.rules).slot_high

  -- Marks, strips and map are long enough: the output decides.
  job_answer : (output : List ℕ)
      → whole_answer plan heights (job_lists output) ≡ first_due (16 at 0 when ltb (length output) (needed_pixels plan) ∷ [])
  unfolding whole_answer lent_rows sizes_of job_lists
  job_answer output =
      rw (
        given.rules,
        le-ltb (length (job_lists output).marks) (needed_marks plan) (rw (length-replicate {A = ℕ} pixel_limit 0) few_blocks),
        le-ltb (length (job_lists output).strips) (needed_strips plan) (rw (length-replicate {A = ℕ} strip_limit 0) few_strips),
        le-ltb (length heights) (needed_pixels plan) (omega (arith, given.all)),
      )

  job_accepted : (output : List ℕ) → needed_pixels plan ≤ length output → whole_answer plan heights (job_lists output) ≡ accepted
  job_accepted output long = job_answer output ∙ rw (le-ltb (length output) (needed_pixels plan) long)

module _ (plan : Plan) (heights : List ℤ) (given : AsksJob plan heights) (output : List ℕ)
    (long : needed_pixels plan ≤ length output) where
  smooths : Smooths plan heights output
  unfolding answer_to output_of job_after job_lists
  smooths =
      let done = job_accepted plan heights given output long in
      let claim = whole_job_done plan heights (job_lists output) done in
      record { answer = rw (done, claim.report_is); output_is = claim.output_is }

pub smooth_done : SmoothDone
smooth_done input plan heights output e long = smooths plan heights (asks_job input plan heights e) output long

-- Where the tests accept, the table's last row decides.
accepted_row : (plan : Plan) (heights : List ℤ) → AsksJob plan heights → (output : List ℕ)
    → (answer_to (job plan heights) output).answer ≡ first_due (16 at 0 when ltb (length output) (needed_pixels plan) ∷ [])
unfolding answer_to
accepted_row plan heights given output = by (ltb (length output) (needed_pixels plan)) refl
  where
    by : (short : Bool) → ltb (length output) (needed_pixels plan) ≡ short
        → (answer_to (job plan heights) output).answer ≡ first_due (16 at 0 when ltb (length output) (needed_pixels plan) ∷ [])
    by true e = rw (job_answer plan heights given output, e)
    by false e = rw e (ap (λ (g : Given Line). g.answer) (smooths plan heights given output (ltb-false _ _ e)).answer)

module _ (input : List ℕ) where
  asked_by_law : (answer : Answer) → first_due (input_rows input) ≡ answer
      → asked input ≡ asked_by answer (plan_in input) (map_in input (plan_in input))
  unfolding asked
  asked_by_law answer e = rw e

pub smooth_table : SmoothTable
unfolding answer_to
smooth_table input output = by (first_due (input_rows input)) refl
  where
    by : (answer : Answer) → first_due (input_rows input) ≡ answer
        → (answer_to (asked input) output).answer
        ≡ first_due (input_rows input ++ (16 at 0 when ltb (length output) (needed_pixels (plan_in input)) ∷ []))
    by (refused number place) e =
        ap (λ request. (answer_to request output).answer) (asked_by_law input (refused number place) e)
        ∙ refused_before (input_rows input) _ (sym e)
    by accepted e =
        let job_asked = asked_by_law input accepted e in
        ap (λ request. (answer_to request output).answer) job_asked
        ∙ accepted_row (plan_in input) (map_in input (plan_in input))
        (asks_job input (plan_in input) (map_in input (plan_in input)) job_asked) output
        ∙ sym (accepted_before (input_rows input) _ (sym e))

-- No answer has more pixels than the limit.
pub few_pixels : (input output : List ℕ) (r : Smoothed) → smooth_given (Ok r) ≡ answer_to (asked input) output
    → r.rows * r.columns ≤ pixel_limit
unfolding answer_to
few_pixels input output r e =
    rw (← ap (λ (g : Given Line). g.value.rows) e, ← ap (λ (g : Given Line). g.value.columns) e) at (by (asked input) refl)
  where
    by_report : (plan : Plan) → needed_pixels plan ≤ pixel_limit → (whole reported : Answer) (values : Values)
        → let given = reported_after whole plan (record { answer = reported; value = values }) in
        given.value.rows * given.value.columns ≤ pixel_limit
    by_report plan few (refused number place) reported values = omega arith
    by_report plan few accepted (refused number place) values = omega arith
    by_report plan few accepted accepted values = few

    by : (request : Asked) → asked input ≡ request
        → (answer_to request output).value.rows * (answer_to request output).value.columns ≤ pixel_limit
    by (refused_input number place) f = omega arith
    by (job plan heights) f =
        by_report plan (asks_job input plan heights f).few (whole_answer plan heights (job_lists output))
        (report plan (job_after plan heights output).marks).answer (report plan (job_after plan heights output).marks).value
