-- `load` has read the rows passed so far.
use Rattle.buffer.specs.Copies.{stride_heights}
use Rattle.collect_finish.specs.Work.{work_stride}
use Rattle.collect_finish.proofs.CopiedRows.{RectangleWritten}
use Rattle.collect_finish.proofs.BufferRectangle.load.Given as goal

abbrev pub invariant-loop-row : goal.invariant-loop-row
invariant-loop-row l =
    RectangleWritten l.work_start work_stride l.self.width (stride_heights l.map l.self.start l.self.stride) l.row l.initial.work l.work
