-- The neighbour has a mark.
use mathlib.Core.Path.{sym}
use Rattle.tasks.proofs.Lent.{beside_lent}
use Rattle.tasks.proofs.broken_beside.Goals as goal

pub broken_at-requires : goal.broken_at-requires
broken_at-requires c = beside_lent _ _ c.requires.0 (sym c.in-Some.ensures)
