-- A side of 0 covers nothing, and any other the length, rounded up.
use mathlib.Core.Path.{sym, ◌∙◌}
use native.Mathlib.Omega.{arith}
use Rattle.grid.proofs.Extents.{count_side_zero, count_rounded_up}
use Rattle.grid.proofs.block_count.Goals as goal

pub returns-then-side-eq0 : goal.returns-then-side-eq0
returns-then-side-eq0 c = rw c.if-side-eq0.true (sym (count_side_zero _))

pub returns-else-side-eq0 : goal.returns-else-side-eq0
returns-else-side-eq0 c = c.div_ceil.ensures ∙ count_rounded_up _ _ (omega arith)
