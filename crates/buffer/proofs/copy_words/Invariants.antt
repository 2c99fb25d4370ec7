-- `copy_words` has copied the words passed so far.
use mathlib.Core.Path.{◌≡◌}
use Rattle.buffer.specs.Copies.{words_from}
use Rattle.buffer.specs.Written.{row_written}
use Rattle.buffer.proofs.copy_words.Given as goal

abbrev pub invariant-loop-i : goal.invariant-loop-i
invariant-loop-i l = l.to ≡ row_written l.to_start (words_from l.from l.from_start) l.i l.initial.to
