-- `load_margin` copies the neighbour's rectangle of the strip, times the gain, into the margin.
use mathlib.Core.Path.{◌≡◌, refl, ap₂, ◌∙◌}
use native.Mathlib.Omega.{arith}
use lib.ListN.{length}
use Prim.Native.Nat.{◌+◌, ◌≤◌}
use Rattle.axis.specs.Axis.{axis_of, direction_of}
use Rattle.plan.specs.Sizes.{order_of}
use Rattle.collect_finish.specs.Work.{work_stride, margin_start, margin_first}
use Rattle.collect_finish.proofs.WorkPlaces.{edge_asked}
use Rattle.collect_finish.proofs.StripRectangles.{StripLies}
use Rattle.collect_finish.proofs.MarginLoads.{strip_lies, first_in_work, strip_asked, strip_loaded}
use Rattle.grid.specs.Shapes.{shape_lines}
use Rattle.collect_finish.proofs.Block.load_margin.Goals as goal
use Rattle.collect_finish.proofs.Block.load_margin.Goals.{After-margin_start, After-strip_before-strip}

-- ---- what is known there
lies : (c : After-strip_before-strip)
    → let a = c.args in
    StripLies (axis_of a.pass) (length a.strips.now) (order_of a.self.now.plan a.pass) (shape_lines a.self.now.shape a.pass)
    c.strip_before-strip.result
lies c = strip_lies c.args.self.now.placed c.requires.moves c.strip_before-strip.ensures

-- Where the margin starts.
start_is : (c : After-margin_start)
    → let a = c.args in
    c.margin_start.result ≡ margin_first a.self.now.plan a.self.now.shape a.pass
start_is c =
    let a = c.args in
    c.margin_start.ensures
    ∙ ap₂ (margin_start (direction_of a.pass)) c.order-order.ensures c.extent.ensures

index_small : (c : After-margin_start)
    → c.margin_start.result + c.strip_before-strip.result.first ≤ work_stride
index_small c =
    first_in_work c.args.self.now.placed c.requires.moves c.strip_before-strip.ensures (start_is c)

pub overflow_sub-places : goal.overflow_sub-places
overflow_sub-places c = (lies (goal.at.overflow_sub-places c).After-strip_before-strip).ordered

pub margin_start-requires : goal.margin_start-requires
margin_start-requires c = rw c.order-order.ensures (edge_asked c.args.self.now.placed c.requires.moves c.extent.ensures)

pub overflow_add-index : goal.overflow_add-index
overflow_add-index c = omega (arith, index_small (goal.at.overflow_add-index c).After-margin_start)

pub first_at-requires : goal.first_at-requires
first_at-requires c =
    omega (arith, (lies (goal.at.first_at-requires c).After-strip_before-strip).start_in)

pub work_place-requires : goal.work_place-requires
work_place-requires c = index_small (goal.at.work_place-requires c).After-margin_start

pub copy-requires : goal.copy-requires
copy-requires c =
    strip_asked c.args.self.now.placed c.requires.moves c.strip_before-strip.ensures (start_is (goal.at.copy-requires c).After-margin_start) c.first_at.ensures c.along.ensures
    c.work_place.ensures c.along-height.ensures c.across-width.ensures

pub returns : goal.returns
returns c =
    let fits = c.requires in
    let a = c.args in
    strip_loaded a.self.now.placed fits.moves c.strip_before-strip.ensures (start_is (goal.at.returns c).After-margin_start) c.first_at.ensures c.along.ensures
    c.work_place.ensures c.along-height.ensures c.across-width.ensures a.gain a.strips.now refl
    fits.clear c.copy.ensures
