-- `clear_words` has written zeros to the places passed so far.
use mathlib.Core.Path.{◌≡◌}
use Rattle.buffer.specs.Written.{cleared}
use Rattle.buffer.proofs.clear_words.Given as goal

abbrev pub invariant-loop-i : goal.invariant-loop-i
invariant-loop-i l = l.words ≡ cleared l.start l.step l.i l.initial.words
