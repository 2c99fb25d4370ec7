-- The loop keeps `Running`: what is left of the list gives what the whole list gives.
use Prim.Native.Nat.{min}
use mathlib.Core.Path.{◌≡◌}
use lib.ListN.{length}
use Rattle.job_spec.specs.Calls.{lists}
use Rattle.job.proofs.Running.{Running}
use Rattle.job.proofs.run_list.Given as goal

abbrev pub invariant-loop-i : goal.invariant-loop-i
invariant-loop-i g l =
    record {
      runs : Running l.plan g.N.Numbered.step l.map l.numbers l.blocks (min (length l.numbers) (length l.blocks))
          (lists l.initial.marks l.initial.strips l.initial.output) l.i l.accepted (lists l.marks l.strips l.output);
      marks_length : length l.marks ≡ length l.initial.marks;
      strips_length : length l.strips ≡ length l.initial.strips;
      output_length : length l.output ≡ length l.initial.output;
    }
