-- The neighbour has a mark.
use mathlib.Core.Path.{sym}
use native.Mathlib.Omega.{arith}
use Rattle.tasks.proofs.Lent.{beside_lent, block_lent}
use Rattle.tasks.proofs.link_marked.Goals as goal

pub is_marked-requires : goal.is_marked-requires
is_marked-requires c =
    (omega arith, block_lent (beside_lent _ _ c.requires.0 (sym c.in-Some.ensures)))
