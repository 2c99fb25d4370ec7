-- `copy_rows` has copied the rows passed so far, times the gain.
use Rattle.collect_finish.proofs.CopiedRows.{scaled_more}
use Rattle.collect_finish.proofs.BufferRectangle.copy_rows.Goals as goal

pub loop-row-preserved : goal.loop-row-preserved
loop-row-preserved c =
    let a = c.args in
    scaled_more a.gain a.from.now a.self.start a.self.stride c.loop-row.invariant c.copy_row.ensures
