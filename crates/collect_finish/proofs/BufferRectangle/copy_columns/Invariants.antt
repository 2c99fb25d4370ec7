-- `copy_columns` has copied the columns passed so far, times the gain.
use Rattle.buffer.specs.Copies.{stride_scaled}
use Rattle.collect_finish.proofs.CopiedRows.{RectangleWritten}
use Rattle.collect_finish.proofs.BufferRectangle.copy_columns.Given as goal

abbrev pub invariant-loop-column : goal.invariant-loop-column
invariant-loop-column l =
    RectangleWritten l.target.start l.target.stride l.column (stride_scaled l.gain l.from l.self.start l.self.stride) l.self.height l.initial.to l.to
