-- Past the counted blocks there is no extent.
use mathlib.Core.Path.{sym}
use Rattle.grid.proofs.Extents.{extent_none}
use Rattle.grid.proofs.block_extent.Goals as goal

pub returns-else-block-block_count : goal.returns-else-block-block_count
returns-else-block-block_count c = sym (extent_none _ _ _ (rw c.block_count.ensures at c.if-block-block_count.false))
