-- A whole job is done: its steps are a list of calls, each of which makes one more task done, and demand 3 holds of that list.
-- Assumes nothing.
use mathlib.Core.Path.{◌≡◌, refl, sym, ap, ◌∙◌}
use mathlib.Core.Bool.{Bool, true}
use mathlib.Core.List.{List, [], ◌∷◌, ◌++◌}
use Prim.Native.Nat.{ℕ, zero, suc, ◌+◌, ◌≤◌, ◌<◌}
use native.Mathlib.Omega.{arith}
use lib.IntN.{ℤ}
use lib.ListN.{length}
use Rattle.refusal.specs.Refusals.{accepted}
use Rattle.plan.specs.declared.Plan.{Plan}
use Rattle.plan.specs.Sizes.{needed_pixels, task_count}
use Rattle.plan.proofs.FirstTests.{suffices}
use Rattle.tasks.specs.Tasks.{BlockTask, ready, nothing_done}
use Rattle.tasks.proofs.Counting.{count_nothing}
use Rattle.tasks.proofs.Progress.{count_ready}
use Rattle.report.specs.Report.{report}
use Rattle.job_spec.specs.Calls.{Buffers, start_answer, started, lent_to_task, after_task, after_calls}
use Rattle.job_spec.specs.Demand3.{done_by, done_from, done_after, count_after}
use Rattle.job_spec.proofs.Start.{start_accepted}
use Rattle.job_spec.proofs.Demand3.{demand3, next_ready}
use Rattle.whole_job.specs.WholeJob.{after_step, after_steps, whole_answer, after_whole_job, WholeJobDone}

-- ---- one call more

module _ (plan : Plan) (call : BlockTask) where
  after_more : (heights : List ℤ) (calls : List BlockTask) (buffers : Buffers)
      → after_calls plan heights (calls ++ (call ∷ [])) buffers
      ≡ after_task plan heights call.task call.block (after_calls plan heights calls buffers)
  unfolding after_calls
  after_more heights [] buffers = refl
  after_more heights (first ∷ calls) buffers =
      after_more heights calls (after_task plan heights first.task first.block buffers)

  done_more : (calls : List BlockTask) (done : ℕ → ℕ → Bool)
      → done_from plan done (calls ++ (call ∷ [])) ≡ done_by plan (done_from plan done calls) call
  unfolding done_from
  done_more [] done = refl
  done_more (first ∷ calls) done = done_more calls (done_by plan done first)

  -- A call of a ready task makes one more done.
  count_more : (calls : List BlockTask)
      → ready plan.grid (done_after plan calls) call.task call.block ≡ true
      → count_after plan (calls ++ (call ∷ [])) ≡ count_after plan calls + 1
  unfolding done_after done_by
  count_more calls r =
      rw (done_more calls nothing_done, r)
      (count_ready plan.grid (done_after plan calls) call.task call.block r)

-- ---- steps as calls

-- A list of as many calls as there were steps, each of which was accepted.
record AsCalls (plan : Plan) (heights : List ℤ) (from : Buffers) (count : ℕ) : Type 0 where
  calls : List BlockTask
  same : after_steps plan heights count from ≡ after_calls plan heights calls from
  counted : count_after plan calls ≡ count

module _ (plan : Plan) (heights : List ℤ) (lent : Buffers) (start : start_answer plan lent.marks lent.strips ≡ accepted)
    (map_long : needed_pixels plan ≤ length heights) (output_long : needed_pixels plan ≤ length lent.output) where
  as_calls : (count : ℕ) → count ≤ task_count plan → AsCalls plan heights (started plan lent) count
  unfolding after_steps after_step after_calls done_after done_from
  as_calls zero h = record { calls = []; same = refl; counted = count_nothing plan.grid }
  as_calls (suc count) h =
      let before = as_calls count (omega arith) in
      let calls = before.calls in
      let claim = demand3 plan heights lent start map_long output_long calls in
      let left : count_after plan calls < task_count plan = rw before.counted (omega arith) in
      let values = (report plan (after_calls plan heights calls (started plan lent)).marks).value in
      let (named, answer) = claim.names_next left in
      let call : BlockTask = record { task = values.task; block = values.block } in
      let r = next_ready plan heights lent start map_long output_long calls values.task values.block answer in
      record {
        calls = calls ++ (call ∷ []);
        same = rw (before.same, named) (sym (after_more plan call heights calls (started plan lent)));
        counted = count_more plan call calls r ∙ ap (λ n. n + 1) before.counted ∙ omega arith;
      }

-- ---- what an accepted whole job tells

-- Where all four lists are long enough, start accepts.
pub start_of_whole : (plan : Plan) (heights : List ℤ) (lent : Buffers) → whole_answer plan heights lent ≡ accepted
    → (start_answer plan lent.marks lent.strips ≡ accepted)
    × ((needed_pixels plan ≤ length heights) × (needed_pixels plan ≤ length lent.output))
unfolding whole_answer
start_of_whole plan heights lent e =
    let enough = suffices plan (lent_to_task heights lent) e in (
      start_accepted plan lent.marks lent.strips enough.rules enough.of7_long enough.strips_long,
      (enough.map_long, enough.output_long),
    )

-- ---- the law

pub whole_job_done : WholeJobDone
unfolding after_whole_job
whole_job_done plan heights lent whole =
    let (start, (map_long, output_long)) = start_of_whole plan heights lent whole in
    let steps = as_calls plan heights lent start map_long output_long (task_count plan) (omega arith) in
    let claim = demand3 plan heights lent start map_long output_long steps.calls in
    rw (whole, steps.same)
    (record {
      output_is = claim.whole_job steps.counted;
      marks_past = claim.marks_past;
      strips_past = claim.strips_past;
      marks_length = claim.marks_length;
      strips_length = claim.strips_length;
      report_is = cc (claim.report_is, claim.names_none steps.counted);
    })
