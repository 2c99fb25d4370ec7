-- `write_strip` writes the strip whole: the edge of the block times the gain, or zeros.
use mathlib.Core.Path.{◌≡◌, ap₂, ◌∙◌}
use native.Mathlib.Omega.{arith}
use native.Mathlib.Nat.{mul-le-mul}
use Rattle.number.proofs.Tests.{failed, passed}
use Rattle.axis.specs.Axis.{axis_of, direction_of, along, across}
use Rattle.plan.specs.Sizes.{order_of}
use Rattle.plan.proofs.Record.{rules, in_grid}
use Rattle.grid.specs.Grid.{goes_on}
use Rattle.grid.proofs.Shapes.{in_blocks, goes_on_at}
use Rattle.buffer.proofs.Copies.{words_fit}
use Rattle.strips.specs.StripRecord.{edge_start}
use Rattle.collect_finish.specs.Work.{edge_first}
use Rattle.collect_finish.proofs.WorkPlaces.{move_limited, edge_asked}
use Rattle.collect_finish.proofs.WorkEdges.{edge_in_work, words_in_strips, edge_copied, cleared_strip, copied_strip}
use Rattle.collect_finish.proofs.Block.write_strip.Goals as goal
use Rattle.collect_finish.proofs.Block.write_strip.Goals.{After-across-width, After-along-height, After-edge_start-index, After-goes_on-needed}

-- The strip's width and height in the work array.
width_is : (c : After-across-width)
    → let a = c.args in
    c.across-width.result ≡ across (axis_of a.pass) (order_of a.self.now.plan a.pass) a.self.now.plan.grid.side
width_is c = rw c.order-order.ensures at c.across-width.ensures

height_is : (c : After-along-height)
    → let a = c.args in
    c.along-height.result ≡ along (axis_of a.pass) (order_of a.self.now.plan a.pass) a.self.now.plan.grid.side
height_is c = rw c.order-order.ensures at c.along-height.ensures

-- Where the strip starts in the work array.
edge_is : (c : After-edge_start-index)
    → let a = c.args in
    c.edge_start-index.result ≡ edge_first a.self.now.plan a.self.now.shape a.pass
edge_is c =
    let a = c.args in
    c.edge_start-index.ensures
    ∙ ap₂ (edge_start (direction_of a.pass)) c.order-order.ensures c.extent.ensures

-- Whether a neighbour needs it.
goes_on_is : (c : After-goes_on-needed)
    → let a = c.args in
    c.goes_on-needed.result ≡ goes_on a.self.now.plan.grid a.self.now.k a.pass
goes_on_is c =
    let a = c.args in
    c.goes_on-needed.ensures ∙ goes_on_at a.self.now.plan.grid a.self.now.k a.pass c.position.ensures

-- ---- goals
pub position-requires : goal.position-requires
position-requires c = let block = c.args.self.now.placed.block in (in_grid _ block.kept _ block.counted).kept

pub goes_on-needed-requires : goal.goes_on-needed-requires
goes_on-needed-requires c =
    let block = c.args.self.now.placed.block in
    let inside = in_grid _ block.kept _ block.counted in
    in_blocks _ _ c.position.ensures inside.kept inside.inside

pub overflow_mul-side : goal.overflow_mul-side
overflow_mul-side c =
    rw c.order-order.ensures
    (omega (arith, mul-le-mul (rules c.args.self.now.plan c.args.self.now.placed.block.kept).side_high (move_limited c.args.self.now.placed c.requires)))

pub clear_words-requires : goal.clear_words-requires
clear_words-requires c =
    rw c.order-order.ensures (words_fit _ _ _ (words_in_strips c.args.self.now.placed c.requires c.strip_start-start.ensures))

pub returns-then-not-needed : goal.returns-then-not-needed
returns-then-not-needed c =
    let a = c.args in
    cleared_strip c.args.self.now.placed c.requires c.strip_start-start.ensures a.gain a.work.now a.strips.now
    (failed (goes_on_is (goal.at.returns-then-not-needed c).After-goes_on-needed) c.if-not-needed.true) (rw c.order-order.ensures at c.clear_words.ensures)

pub edge_start-index-requires : goal.edge_start-index-requires
edge_start-index-requires c =
    rw c.order-order.ensures (edge_asked c.args.self.now.placed c.requires c.extent.ensures)

pub work_place-requires : goal.work_place-requires
work_place-requires c =
    omega (arith, edge_is (goal.at.work_place-requires c).After-edge_start-index, edge_in_work c.args.self.now.placed c.requires)

pub copy-requires : goal.copy-requires
copy-requires c =
    edge_copied c.args.self.now.placed c.requires c.strip_start-start.ensures (edge_is (goal.at.copy-requires c).After-edge_start-index) c.work_place.ensures
    (height_is (goal.at.copy-requires c).After-along-height) (width_is (goal.at.copy-requires c).After-across-width)

pub returns : goal.returns
returns c =
    let a = c.args in
    copied_strip c.args.self.now.placed c.requires c.strip_start-start.ensures (edge_is (goal.at.returns c).After-edge_start-index) c.work_place.ensures (height_is (goal.at.returns c).After-along-height)
    (width_is (goal.at.returns c).After-across-width) a.gain a.work.now a.strips.now (passed (goes_on_is (goal.at.returns c).After-goes_on-needed) c.if-not-needed.false)
    c.copy.ensures
