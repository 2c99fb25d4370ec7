-- The lists are those after the steps that were taken, as long as they were. Assumes nothing.
use mathlib.Core.Path.{◌≡◌}
use lib.ListN.{length}
use Rattle.job_spec.specs.Calls.{lists}
use Rattle.whole_job.specs.WholeJob.{after_steps}
use Rattle.whole_job.proofs.perform_steps.Given as goal

abbrev pub invariant-loop : goal.invariant-loop
invariant-loop l =
    record {
      taken : lists l.marks l.strips l.output ≡ after_steps l.plan l.map l.counter (lists l.initial.marks l.initial.strips l.initial.output);
      marks_length : length l.marks ≡ length l.initial.marks;
      strips_length : length l.strips ≡ length l.initial.strips;
      output_length : length l.output ≡ length l.initial.output;
    }
