-- `scale_row` has multiplied the words passed so far.
use mathlib.Core.Path.{◌≡◌}
use Rattle.buffer.specs.Written.{row_written}
use Rattle.buffer.specs.Copies.{scaled_from}
use Rattle.filter.proofs.scale_row.Given as goal

abbrev pub invariant-loop-word : goal.invariant-loop-word
invariant-loop-word l =
    l.word-items ≡ row_written 0 (scaled_from l.gain l.initial.word-items 0 1) l.word-index l.initial.word-items
