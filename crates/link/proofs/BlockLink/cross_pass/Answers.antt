-- `cross_pass` is a pass over the responses, with the row ends beside them.
use native.Mathlib.Omega.{arith}
use Rattle.squares.proofs.LineRows.{rows_in_law}
use Rattle.squares.specs.LineBuffers.{filter_at}
use Rattle.link.proofs.crossing.OtherAxis.{cross_passed}
use Rattle.link.proofs.BlockLink.cross_pass.Goals as goal

pub copy_ends-requires : goal.copy_ends-requires
copy_ends-requires c =
    let cross = c.requires.0 in
    record {
      course_fits = cross.course_fits;
      order_limited = cross.orders.order_limited c.args.pass (omega arith);
      rows_in_law =
          rw c.rows_before-row.ensures (rows_in_law (filter_at c.args.self.now.filters) cross.orders c.args.pass (omega arith));
      lines_long = cross.lines_long;
      responses_long = cross.responses_long;
    }

pub returns : goal.returns
returns c =
    cross_passed (filter_at c.args.self.now.filters) c.args.self.now.course c.args.lines.now c.args.responses.now c.requires.0
    c.args.pass c.requires.1 c.rows_before-row.ensures c.copy_ends.ensures c.run_pass.ensures
