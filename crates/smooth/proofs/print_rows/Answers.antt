-- One more row is written.
use Rattle.std.specs.Prelude.{◌+◌, ◌*◌, slice_range}
use Rattle.smooth.specs.Printed.{row_text}
use Rattle.smooth.proofs.Printed.{Appends-next}
use Rattle.smooth.proofs.print_rows.Goals as goal

pub loop-row-preserved : goal.loop-row-preserved
loop-row-preserved g c =
    Appends-next (λ row. row_text (slice_range c.args.output.now (row * c.args.columns) (row * c.args.columns + c.args.columns)))
    c.loop-row.row _ _ _ c.loop-row.invariant c.in_ok-print_row.ensures
