-- `test_places` has found the jobs so far well placed.
use mathlib.Core.Path.{◌≡◌}
use mathlib.Core.Bool.{true}
use Prim.Native.Nat.{ℕ, ◌<◌}
use Rattle.turns.specs.Jobs.{well_placed}
use Rattle.dispatch.proofs.test_places.Given as goal

abbrev pub invariant-loop-i : goal.invariant-loop-i
invariant-loop-i l = (j : ℕ) → j < l.i → well_placed l.jobs l.size j ≡ true
