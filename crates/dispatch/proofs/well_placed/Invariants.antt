-- `well_placed` has found no other job so far whose marks overlap those of job i.
use mathlib.Core.Path.{◌≡◌}
use mathlib.Core.Logic.{◌≢◌}
use mathlib.Core.Bool.{false}
use Prim.Native.Nat.{ℕ, ◌<◌}
use Rattle.turns.specs.Jobs.{job_at, overlap}
use Rattle.dispatch.proofs.well_placed.Given as goal

abbrev pub invariant-loop-j : goal.invariant-loop-j
invariant-loop-j l = (m : ℕ) → m < l.j → m ≢ l.i → overlap (job_at l.jobs l.i) (job_at l.jobs m) ≡ false
