-- `smooth_job::plan_length` meets its contract: what is left of the search is the search. Assumes nothing.
use mathlib.Core.Path.{◌≡◌}
use Prim.Native.Nat.{◌-◌, ◌/◌, ◌≤◌}
use lib.ListN.{length}
use Rattle.smooth_job.specs.Program.{word_in, after_end, plan_length}
use Rattle.smooth_job.proofs.plan_length.Given as goal

abbrev pub invariant-loop-i : goal.invariant-loop-i
invariant-loop-i l =
    (l.most ≤ length l.input / 4) × (plan_length l.input ≡ after_end (word_in l.input) l.i (l.most - l.i))
