-- `copy_rows` has copied the rows passed so far, times the gain.
use Rattle.buffer.specs.Copies.{stride_scaled}
use Rattle.collect_finish.proofs.CopiedRows.{RectangleWritten}
use Rattle.collect_finish.proofs.BufferRectangle.copy_rows.Given as goal

abbrev pub invariant-loop-row : goal.invariant-loop-row
invariant-loop-row l =
    RectangleWritten l.target.start l.target.stride l.self.width (stride_scaled l.gain l.from l.self.start l.self.stride) l.row l.initial.to l.to
