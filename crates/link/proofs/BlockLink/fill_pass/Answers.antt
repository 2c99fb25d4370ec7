-- `fill_pass` fills the rows of a pass with the lines past the block's edge or with unit histories.
use native.Mathlib.Omega.{arith}
use Rattle.link.proofs.Courses.{link_orders, before_strip_fits}
use Rattle.link.proofs.lines.Filling.{fill_pass_below, fill_order_limited, fill_rows_in, fill_long, pass_strips, pass_units}
use Rattle.link.proofs.BlockLink.fill_pass.Goals as goal

pub rows_before-row-requires : goal.rows_before-row-requires
rows_before-row-requires c =
    let pre = c.requires in
    (link_orders pre.link_fits, omega (arith, fill_pass_below pre))

pub put_lines-requires : goal.put_lines-requires
put_lines-requires c =
    let pre = c.requires in
    rw c.edge-edge.ensures record {
      rows_in_law = rw c.rows_before-row.ensures (fill_rows_in pre);
      few_places = pre.link_fits.course_fits.few_places;
      long = pre.long;
      strip_fits = before_strip_fits pre.link_fits _ (fill_pass_below pre);
    }

pub unit_lines-requires : goal.unit_lines-requires
unit_lines-requires c =
    let pre = c.requires in
    record {
      few_places = pre.link_fits.course_fits.few_places;
      order_limited = fill_order_limited pre;
      long = rw c.rows_before-row.ensures (fill_long pre);
    }

pub returns-then-pass-self : goal.returns-then-pass-self
returns-then-pass-self c =
    pass_strips c.requires c.rows_before-row.ensures c.edge-edge.ensures c.args.strips.now (omega arith) c.put_lines.ensures

pub returns-else-pass-self : goal.returns-else-pass-self
returns-else-pass-self c = pass_units c.requires _ c.rows_before-row.ensures (omega arith) c.unit_lines.ensures
