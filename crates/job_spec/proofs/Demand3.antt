-- Demand 3 of task calls on one map: what the claim about steps says of them. Assumes nothing.
use mathlib.Core.Path.{◌≡◌, ap, sym, ◌∙◌}
use mathlib.Core.Bool.{true}
use mathlib.Core.List.{List}
use Prim.Native.Nat.{ℕ, suc, ◌≤◌}
use lib.IntN.{ℤ}
use lib.ListN.{length}
use Rattle.refusal.specs.Refusals.{accepted}
use Rattle.plan.specs.declared.Plan.{Plan}
use Rattle.plan.specs.Sizes.{needed_pixels}
use Rattle.tasks.specs.Tasks.{BlockTask, ready, nothing_done}
use Rattle.job_spec.specs.Calls.{Buffers, start_answer, started, task_answer, after_calls, accepted_count}
use Rattle.job_spec.specs.Demand3.{done_after, Demand3}
use Rattle.job_spec.specs.Rescan.{Unchanged, RightFor}
use Rattle.job_spec.specs.Steps.{done_now, was_made, on_map}
use Rattle.job_spec.proofs.Accepted.{accepted_done, once}
use Rattle.job_spec.proofs.Done.{made_is_done}
use Rattle.job_spec.proofs.OnMap.{after_on_map, answers_on_map, done_on_map, due_on_map, unchanged_on_map, nothing_cleared}
use Rattle.job_spec.proofs.Rescan.{rescan, ready_next}
use Rattle.job_spec.proofs.Started.{started_zero}

pub demand3 : Demand3
unfolding done_after started
demand3 plan heights lent start_accepted map_long output_long calls =
    let steps = on_map heights calls in
    let done_is : done_now plan steps ≡ done_after plan calls = done_on_map plan heights map_long nothing_done calls in
    let left = after_on_map plan heights calls (started plan lent) in
    let claimed = rescan plan lent start_accepted output_long steps in
    let same : Unchanged plan heights steps = λ i h. unchanged_on_map plan heights i nothing_done calls in
    let right : RightFor plan heights (done_after plan calls) (after_calls plan heights calls (started plan lent)) =
    rw (done_is, left) at (claimed.judged heights same) in
    let made_is : (t k : ℕ) → was_made plan nothing_done steps t k ≡ done_after plan calls t k =
    λ t k. made_is_done plan steps (nothing_cleared plan heights calls) t k ∙ ap (λ done. done t k) done_is in
    let answers = sym (answers_on_map plan heights calls (started plan lent)) ∙ claimed.answers_are
    ∙ due_on_map plan heights map_long nothing_done calls in
    record {
      finished_blocks = right.finished_blocks;
      other_output = λ q out.
          rw left at
          (claimed.never_written.other_output q (λ k y x made. out k y x (sym (made_is 5 k) ∙ made)));
      linked_strips_law = right.linked_strips_law;
      collected_strips_law = right.lone_strips;
      other_strips = λ q h out.
          (rw left at
          (claimed.never_written.other_strips q
          (λ k pass line place b l p. (
            λ made. (out k pass line place b l p).0 (sym (made_is 0 k) ∙ made),
            λ made. (out k pass line place b l p).1 (sym (made_is (suc pass) k) ∙ made),
          ))))
          ∙ started_zero plan lent start_accepted q h;
      marks_are = rw (done_is, left) at claimed.marks_are;
      strips_past = rw left at claimed.strips_past;
      marks_past = rw left at claimed.marks_past;
      marks_length = rw left at claimed.marks_length;
      strips_length = rw left at claimed.strips_length;
      output_length = rw left at claimed.output_length;
      answers_are = answers;
      accepted_once = λ i j h. rw answers (once plan nothing_done calls i j h);
      accepted_are_done = ap accepted_count answers ∙ accepted_done plan calls;
      report_is = rw (done_is, left) at claimed.report_is;
      never_more = rw done_is at claimed.never_more;
      names_next = rw (done_is, left) at (claimed.names_next heights map_long);
      names_none = rw (done_is, left) at claimed.names_none;
      whole_job = rw (done_is, left) at (claimed.whole_job heights map_long same);
    }

-- A task that is accepted next is ready by what is done.
pub next_ready : (plan : Plan) (heights : List ℤ) (lent : Buffers) → start_answer plan lent.marks lent.strips ≡ accepted
    → needed_pixels plan ≤ length heights → needed_pixels plan ≤ length lent.output → (calls : List BlockTask) (t k : ℕ)
    → task_answer plan heights (after_calls plan heights calls (started plan lent)) t k ≡ accepted
    → ready plan.grid (done_after plan calls) t k ≡ true
unfolding done_after started
next_ready plan heights lent start_accepted map_long output_long calls t k e =
    let done_is : done_now plan (on_map heights calls) ≡ done_after plan calls = done_on_map plan heights map_long nothing_done calls in
    rw done_is at
    (ready_next plan lent start_accepted output_long heights (on_map heights calls) t k
    (rw (after_on_map plan heights calls (started plan lent)) e))
