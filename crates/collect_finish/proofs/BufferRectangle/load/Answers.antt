-- `load` has read the rows passed so far.
use Rattle.collect_finish.proofs.CopiedRows.{rows_more}
use Rattle.collect_finish.proofs.BufferRectangle.load.Goals as goal

pub loop-row-preserved : goal.loop-row-preserved
loop-row-preserved c = rows_more c.loop-row.invariant c.load_row.ensures
