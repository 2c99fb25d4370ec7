-- `load` has read the columns passed so far.
use Prim.Native.Nat.{min}
use Rattle.buffer.specs.Copies.{stride_heights}
use Rattle.collect_finish.specs.Work.{work_stride, work_corner}
use Rattle.collect_finish.proofs.CopiedRows.{RectangleWritten}
use Rattle.collect_finish.proofs.Block.load.Given as goal

abbrev pub invariant-loop-column : goal.invariant-loop-column
invariant-loop-column l =
    RectangleWritten work_corner work_stride (min l.column l.self.shape.columns) (stride_heights l.map l.self.shape.start l.self.plan.grid.columns) l.self.shape.rows l.initial.work l.work
