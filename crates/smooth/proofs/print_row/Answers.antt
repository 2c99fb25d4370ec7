-- One more word is written.
use Rattle.std.specs.Prelude.{slice_index}
use Rattle.smooth.specs.Printed.{word_text}
use Rattle.smooth.proofs.Printed.{Appends-next}
use Rattle.smooth.proofs.print_row.Goals as goal

pub loop-column-preserved : goal.loop-column-preserved
loop-column-preserved g c =
    Appends-next (λ column. word_text (slice_index c.args.words.now column) column) c.loop-column.column _ _ _
    c.loop-column.invariant c.in_ok-print_word.ensures
