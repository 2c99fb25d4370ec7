-- `load` has read the columns passed so far.
use mathlib.Core.Path.{◌≡◌, ap, ◌∙◌}
use Prim.Native.Nat.{◌+◌, min}
use native.Mathlib.Omega.{arith}
use Rattle.buffer.specs.Lists.{number_at}
use Rattle.buffer.specs.Pixel.{pixel}
use Rattle.buffer.specs.Copies.{stride_heights}
use Rattle.collect_finish.specs.Work.{work_stride, work_corner}
use Rattle.collect_finish.proofs.WorkPlaces.{shape_in_work, block_in_work, block_in_map}
use Rattle.collect_finish.proofs.WorkCells.{cells_written}
use Rattle.collect_finish.proofs.CopiedRows.{RectangleWritten}
use Rattle.collect_finish.proofs.CopiedColumns.{columns_none, next_group}
use Rattle.collect_finish.proofs.Block.load.Goals as goal
use Rattle.collect_finish.proofs.Block.load.Goals.{After-load}

pub loop-column-init : goal.loop-column-init
loop-column-init c = let none : min 0 c.args.self.now.shape.columns ≡ 0 = omega arith in rw none columns_none

pub overflow_add-group : goal.overflow_add-group
overflow_add-group c =
    let block = c.args.self.now in
    let last = (block_in_map block.placed c.requires.0).row 0 (shape_in_work block.placed).tall in
    omega arith

pub load-requires : goal.load-requires
load-requires c =
    let block = c.args.self.now in
    let in_map = block_in_map block.placed c.requires.0 in
    let in_work = block_in_work block.placed c.requires.1 in (
      record { row = λ y h. omega (arith, in_map.row y h, c.min.ensures) },
      record { row = λ y h. omega (arith, in_work.row y h, c.min.ensures) },
    )

-- One group more.
group_read : (c : After-load)
    → let block = c.args.self.now in
    RectangleWritten work_corner work_stride (min (c.loop-column.column + 16) block.shape.columns) (stride_heights c.args.map.now block.shape.start block.plan.grid.columns) block.shape.rows c.args.work.now c.load.new.work
group_read c =
    let columns = c.args.self.now.shape.columns in
    let few = shape_in_work c.args.self.now.placed in
    let before : min c.loop-column.column columns ≡ c.loop-column.column = omega arith in
    let after : c.loop-column.column + c.min.result ≡ min (c.loop-column.column + 16) columns = omega (arith, c.min.ensures) in
    rw (← after)
    (next_group c.min.result (rw before at c.loop-column.invariant) (omega (arith, few.columns_high))
    (λ y x. ap (λ z. pixel (number_at c.args.map.now z)) (omega arith)) c.load.ensures)

pub loop-column-preserved : goal.loop-column-preserved
loop-column-preserved c = group_read (goal.at.loop-column-preserved c).After-load

pub returns : goal.returns
returns c =
    let columns = c.args.self.now.shape.columns in
    let all : min c.loop-column.column columns ≡ columns = omega arith in
    (rw all at c.loop-column.invariant).written ∙ cells_written _ _ _ _

pub returns-2 : goal.returns-2
returns-2 c =
    let columns = c.args.self.now.shape.columns in
    let all : min (c.loop-column.column + 16) columns ≡ columns = omega arith in
    (rw all at (group_read (goal.at.returns-2 c).After-load)).written ∙ cells_written _ _ _ _
