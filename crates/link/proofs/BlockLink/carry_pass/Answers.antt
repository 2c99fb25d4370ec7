-- `carry_pass` adds the histories of a pass, weighted by its square.
use Prim.Native.Nat.{◌<◌}
use native.Mathlib.Omega.{arith}
use Rattle.squares.proofs.LineRows.{rows_few}
use Rattle.squares.specs.LineBuffers.{filter_at}
use Rattle.link.proofs.Courses.{link_orders, before_strip_fits}
use Rattle.link.proofs.carrying.Histories.{histories_carried}
use Rattle.link.proofs.BlockLink.carry_pass.Goals as goal
use Rattle.link.proofs.BlockLink.carry_pass.Goals.{Start}

pass_below : (c : Start) → c.args.pass < 4
pass_below c = omega (arith, c.requires.pass_to_carry.in_course, c.requires.carry_fits.link_fits.course_fits.passes_counted)

pub rows_before-row-requires : goal.rows_before-row-requires
rows_before-row-requires c =
    (link_orders c.requires.carry_fits.link_fits, omega (arith, pass_below (goal.at.rows_before-row-requires c).Start))

pub square_from-square-requires : goal.square_from-square-requires
square_from-square-requires c =
    let fits = c.requires.carry_fits.link_fits in
    let below = pass_below (goal.at.square_from-square-requires c).Start in
    let filters = filter_at c.args.self.now.filters in
    let few = (link_orders fits).order_limited c.args.pass below in
    rw c.edge-edge.ensures (
      few,
      omega (arith, fits.course_fits.inside, fits.course_fits.few_places),
      rw c.rows_before-row.ensures
          (omega (arith, below, c.requires.carry_fits.ready.length_is, rows_few filters (link_orders fits) c.args.pass (omega arith))),
    )

pub add_histories-requires : goal.add_histories-requires
add_histories-requires c =
    let fits = c.requires.carry_fits.link_fits in
    let below = pass_below (goal.at.add_histories-requires c).Start in
    rw c.edge-edge.ensures (
      record {
        course_fits = fits.course_fits;
        responses_long = c.requires.pass_to_carry.responses_long;
        strip_fits = before_strip_fits fits _ below;
      },
      (link_orders fits).order_limited c.args.pass below,
    )

pub returns : goal.returns
returns c =
    histories_carried c.requires.carry_fits c.args.pass c.requires.pass_to_carry c.edge-edge.ensures c.rows_before-row.ensures
    c.square_from-square.ensures c.add_histories.ensures
