-- The words before this one are written.
use Rattle.std.proofs.Common.{slice_index_or}
use Rattle.std.specs.Io.KnownBytes.{Appends}
use Rattle.smooth.specs.Printed.{joined, word_text}
use Rattle.smooth.proofs.print_row.Given as goal

abbrev pub invariant-loop-column : goal.invariant-loop-column
invariant-loop-column g l =
    Appends (g.W.Write.contents l.initial.out) (g.W.Write.contents l.out)
    (joined (λ column. word_text (slice_index_or l.words column 0) column) l.column)
