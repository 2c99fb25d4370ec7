-- `strip_of` is block k's strip of the pass.
use Rattle.plan.proofs.Record.{in_grid}
use Rattle.grid.specs.Shapes.{shape_of}
use Rattle.strips.specs.StripRecord.{strip_with, strip_of}
use Rattle.strips.proofs.strip_of.Goals as goal

pub block_shape-shape-requires : goal.block_shape-shape-requires
block_shape-shape-requires c = in_grid _ c.requires.kept _ c.requires.counted

pub returns : goal.returns
unfolding strip_of strip_with shape_of
returns c =
    rw (c.places_inside-first.ensures, c.extent.ensures, c.lines.ensures, c.along.ensures, c.along-2.ensures, c.strip_start.ensures, c.order-order.ensures, c.block_shape-shape.ensures)
