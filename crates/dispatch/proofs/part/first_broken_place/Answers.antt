-- The report's search on the job's part, its find counted in the common list. Assumes nothing.
use native.Mathlib.Omega.{arith}
use Rattle.dispatch.proofs.Parts.{broken_at_law, broken_nowhere}
use Rattle.dispatch.proofs.part.first_broken_place.Goals as goal

pub returns-then-broken-blocks : goal.returns-then-broken-blocks
returns-then-broken-blocks c =
    broken_at_law _ _ c.requires.inside _ c.from-grid.ensures _ c.first_broken-broken.ensures (omega arith)

pub returns-else-broken-blocks : goal.returns-else-broken-blocks
returns-else-broken-blocks c = broken_nowhere _ _ c.requires.inside _ c.from-grid.ensures _ c.first_broken-broken.ensures (omega arith)
