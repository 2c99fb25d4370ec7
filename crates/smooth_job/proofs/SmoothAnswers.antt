-- What the code's ways through the tests and the job come to in the definitions.
-- Assumes nothing.
use mathlib.Core.Path.{◌≡◌, refl, sym, ap, ◌∙◌}
use mathlib.Core.Bool.{true}
use mathlib.Core.List.{List}
use Prim.Native.Nat.{ℕ, ◌+◌, ◌/◌, ◌%◌, ◌≤◌, ◌<◌}
use lib.IntN.{ℤ}
use lib.ListN.{length, replicate}
use borrow.Author.Tests.{lt-ltb, le-ltb, eq-eqb, ne_eqb}
use Rattle.std.specs.Prelude.{Option, None, Some, Result, Ok, Err}
use Rattle.refusal.specs.declared.Refusal.{Refusal}
use Rattle.refusal.specs.declared.Refusal.TheVariants.{InputUnfit}
use Rattle.refusal.specs.Refusals.{number_of, place_of, accepted}
use Rattle.refusal.specs.Table.{first_due, answer_of, Given}
use Rattle.refusal.proofs.Table.{refused_before, accepted_before, not_accepted}
use Rattle.plan.specs.declared.Plan.{Plan}
use Rattle.plan.specs.declared.Sizes.{Sizes}
use Rattle.plan.specs.Rules.{keeps_rules}
use Rattle.plan.specs.Sizes.{needed_pixels}
use Rattle.plan.specs.FirstTests.{nothing_lent, plan_sizes, sizes_given}
use Rattle.plan.proofs.FirstTests.{lent_accepted}
use Rattle.buffer.specs.Lists.{list_of}
use Rattle.plan.proofs.Known.{sizes_refused}
use Rattle.plan_reader.specs.ReadPlan.{plan_rows, read_plan, read_given}
use Rattle.plan_writer.proofs.RoundTripRead.{read_keeps_rules}
use Rattle.report.specs.declared.Ready.{Ready}
use Rattle.report.specs.declared.Progress.{Progress}
use Rattle.report.specs.Values.{made_values, report_given}
use Rattle.report.specs.Report.{report}
use Rattle.job_spec.specs.Calls.{Buffers, lists}
use Rattle.whole_job.specs.WholeJob.{whole_answer, after_whole_job}
use Rattle.smooth_job.specs.declared.Smoothed.{Smoothed}
use Rattle.smooth_job.specs.Program.{pixel_limit, strip_limit, word_in, plan_length, plan_words, heights_in, plan_in, count_rows, input_rows, Asked, refused_input, job, asked, asked_with, job_lists, job_after, Line, line_of, reported_with, answer_to, smooth_given, output_of}

-- ---- the report

module _ (plan : Plan) (marks : List ℕ) (answer : Result Progress Refusal) (made : report_given answer ≡ report plan marks) where
  pub reported_made : (progress : Progress) → answer ≡ Ok progress
      → smooth_given
      (Ok (record {
        rows = plan.grid.rows;
        columns = plan.grid.columns;
        marked = progress.marked;
        tally = progress.tally;
      }))
      ≡ reported_with plan (report plan marks)
  reported_made progress e = rw (← made, e) (by progress.next)
    where
      by : (next : Option Ready)
          → ◌≡◌ {A = Given Line}
          (record {
            answer = accepted;
            value =
                record {
                  rows = plan.grid.rows;
                  columns = plan.grid.columns;
                  tasks = progress.marked;
                  tally = progress.tally;
                };
          })
          (record { answer = accepted; value = line_of plan (made_values progress.marked progress.tally next) })
      by (Some next) = refl
      by None = refl

  pub reported_refused : (refusal : Refusal) → answer ≡ Err refusal
      → smooth_given (Err refusal) ≡ reported_with plan (report plan marks)
  reported_refused refusal e = rw (← made, e)

-- ---- the job

module _ (plan : Plan) (heights : List ℤ) (output : List ℕ) (marks : List ℕ) (marks_are : marks ≡ replicate pixel_limit 0)
    (strips : List ℕ) (strips_are : strips ≡ replicate strip_limit 0) (outcome : Result Unit Refusal)
    (whole : answer_of outcome ≡ whole_answer plan heights (lists marks strips output)) (marks' strips' output' : List ℕ)
    (after : lists marks' strips' output' ≡ after_whole_job plan heights (lists marks strips output)) where
  lent : lists marks strips output ≡ job_lists output
  unfolding job_lists
  lent = rw (marks_are, strips_are)

  answer_is : answer_of outcome ≡ whole_answer plan heights (job_lists output)
  answer_is = whole ∙ ap (whole_answer plan heights) lent

  after_is : lists marks' strips' output' ≡ job_after plan heights output
  unfolding job_after
  after_is = after ∙ ap (after_whole_job plan heights) lent

  pub job_accepted : outcome ≡ Ok tt → (r : Result Smoothed Refusal) → smooth_given r ≡ reported_with plan (report plan marks')
      → (smooth_given r ≡ answer_to (job plan heights) output) × (output' ≡ output_of (job plan heights) output)
  unfolding answer_to output_of
  job_accepted e r said = (
    rw (← (rw e at answer_is), ← after_is) said,
    ap (λ (b : Buffers). b.output) after_is,
  )

  pub job_refused : (refusal : Refusal) → outcome ≡ Err refusal
      → (smooth_given (Err refusal) ≡ answer_to (job plan heights) output) × (output' ≡ output_of (job plan heights) output)
  unfolding answer_to output_of
  job_refused refusal e = (
    rw (← (rw e at answer_is)) refl,
    ap (λ (b : Buffers). b.output) after_is,
  )

-- ---- the tests

-- A refusal, and the output as it was.
abbrev Refuses : Asked → Refusal → Type 0
Refuses request refusal =
    (output : List ℕ)
    → (smooth_given (Err refusal) ≡ answer_to request output) × (output ≡ output_of request output)

refuses : (request : Asked) (refusal : Refusal) → request ≡ refused_input (number_of refusal) (place_of refusal)
    → Refuses request refusal
unfolding answer_to output_of
refuses request refusal e output = rw e (refl, refl)

module _ (plan : Plan) (input : List ℕ) where
  -- A plan that keeps the rules has sizes.
  pub kept_refused : {A : Type 0} → keeps_rules plan ≡ true → (known : Result Sizes Refusal) → sizes_given known ≡ plan_sizes plan
      → (refusal : Refusal) → known ≡ Err refusal → A
  kept_refused kept known is refusal e =
      let accepts =
      lent_accepted plan nothing_lent
      (record { rules = kept; of7_long = tt; strips_long = tt; map_long = tt; output_long = tt }) in
      absurd (not_accepted (sizes_refused plan nothing_lent known is refusal e ∙ accepts))

  module _ (pixels : ℕ) (pixels_are : pixels ≡ needed_pixels plan) where
    pub too_many_pixels : pixel_limit < pixels → Refuses (asked_with input plan) InputUnfit
    unfolding count_rows
    too_many_pixels many =
        refuses (asked_with input plan) InputUnfit
        (simp (lt-ltb pixel_limit (needed_pixels plan) (rw pixels_are at many)))

    module _ (few : pixels ≤ pixel_limit) (first : ℕ) (first_is : first ≡ plan_length input) where
      pub wrong_heights : (length input / 4 ≡ first + pixels → ⊥) → Refuses (asked_with input plan) InputUnfit
      unfolding count_rows
      wrong_heights differ =
          let d = rw (first_is, pixels_are) at differ in
          refuses (asked_with input plan) InputUnfit
          (simp (
            le-ltb pixel_limit (needed_pixels plan) (rw pixels_are at few),
            ne_eqb (length input / 4) (plan_length input + needed_pixels plan) d,
          ))

      pub right_heights : length input / 4 ≡ first + pixels
          → job plan (heights_in input first pixels) ≡ asked_with input plan
      unfolding count_rows
      right_heights same =
          let s = rw (first_is, pixels_are) at same in
          sym
          (simp (
            le-ltb pixel_limit (needed_pixels plan) (rw pixels_are at few),
            eq-eqb (length input / 4) (plan_length input + needed_pixels plan) s,
            first_is,
            pixels_are,
          ))

module _ (input : List ℕ) where
  pub not_whole : (length input % 4 ≡ 0 → ⊥) → Refuses (asked input) InputUnfit
  unfolding asked input_rows
  not_whole part = refuses (asked input) InputUnfit (rw (ne_eqb (length input % 4) 0 part))

  module _ (whole : length input % 4 ≡ 0) (count : ℕ) (count_is : count ≡ plan_length input) (read : Result Plan Refusal)
      (read_is : read_given read ≡ read_plan (list_of (word_in input) count)) where
    same_read : read_given read ≡ read_plan (plan_words input)
    unfolding plan_words
    same_read = rw count_is at read_is

    plan_answer : (read_given read).answer ≡ first_due (plan_rows (plan_words input))
    unfolding read_plan
    plan_answer = ap (λ (g : Given Plan). g.answer) same_read

    module _ (plan : Plan) (e : read ≡ Ok plan) where
      accepts : accepted ≡ first_due (plan_rows (plan_words input))
      accepts = rw e at plan_answer

      plan_is : plan ≡ plan_in input
      unfolding read_plan
      plan_is = rw (e, ← accepts) at (ap (λ (g : Given Plan). g.value) same_read)

      pub plan_kept : keeps_rules plan ≡ true
      unfolding read_plan
      plan_kept =
          rw plan_is (rw (← accepts) at (read_keeps_rules (plan_words input) (sym accepts)))

      pub by_plan : asked_with input plan ≡ asked input
      unfolding asked input_rows
      by_plan =
          rw (
            plan_is,
            eq-eqb (length input % 4) 0 whole,
            accepted_before (plan_rows (plan_words input)) (count_rows input (plan_in input)) accepts,
          )

    pub plan_refused : (refusal : Refusal) → read ≡ Err refusal → Refuses (asked input) refusal
    unfolding asked input_rows
    plan_refused refusal e =
        refuses (asked input) refusal
        (rw (
          eq-eqb (length input % 4) 0 whole,
          ← refused_before (plan_rows (plan_words input)) (count_rows input (plan_in input)) (rw e at plan_answer),
        ))
