-- What is lent has the marks of a block of the map and of its neighbours.
-- Assumes nothing.
use mathlib.Core.Path.{◌≡◌}
use Rattle.std.specs.Prelude.{Some}
use Prim.Native.Nat.{ℕ, ◌<◌}
use native.Mathlib.Omega.{arith}
use Rattle.grid.specs.declared.Grid.{Grid}
use Rattle.grid.specs.Grid.{neighbour}
use Rattle.grid.proofs.Neighbours.{neighbour_below}
use Rattle.tasks.specs.Lent.{LentAt}

pub block_lent : {grid : Grid} {length k : ℕ} → LentAt grid length k → k < length
block_lent a = omega (arith, a.inside, a.lent.enough)

pub beside_lent : {grid : Grid} {length k : ℕ} (pass j : ℕ) → LentAt grid length k → neighbour grid k pass ≡ Some j
    → LentAt grid length j
beside_lent {grid} {length} {k} pass j a e =
    record { lent = a.lent; inside = neighbour_below grid k pass j a.inside e }
