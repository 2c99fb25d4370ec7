-- The rows before this one are written.
use Rattle.std.proofs.Common.{◌+◌, ◌*◌}
use Rattle.std.specs.Prelude.{slice_range}
use Rattle.std.specs.Io.KnownBytes.{Appends}
use Rattle.smooth.specs.Printed.{joined, row_text}
use Rattle.smooth.proofs.print_rows.Given as goal

abbrev pub invariant-loop-row : goal.invariant-loop-row
invariant-loop-row g l =
    Appends (g.W.Write.contents l.initial.out) (g.W.Write.contents l.out)
    (joined (λ row. row_text (slice_range l.output (row * l.columns) (row * l.columns + l.columns))) l.row)
