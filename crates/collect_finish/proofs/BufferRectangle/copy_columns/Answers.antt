-- `copy_columns` has copied the columns passed so far, times the gain.
use native.Mathlib.Omega.{arith}
use Rattle.collect_finish.proofs.CopiedColumns.{columns_more}
use Rattle.collect_finish.proofs.BufferRectangle.copy_columns.Goals as goal

pub loop-column-preserved : goal.loop-column-preserved
loop-column-preserved c =
    let a = c.args in
    columns_more a.gain a.from.now a.self.start a.self.stride c.loop-column.invariant (omega arith) c.scale_words.ensures
