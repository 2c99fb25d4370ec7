-- `scale_words` has multiplied the words passed so far.
use mathlib.Core.Path.{◌≡◌}
use Prim.Native.Nat.{◌+◌, ◌*◌}
use Rattle.buffer.specs.Copies.{scaled_from}
use Rattle.buffer.specs.Written.{written}
use Rattle.buffer.proofs.scale_words.Given as goal

abbrev pub invariant-loop-i : goal.invariant-loop-i
invariant-loop-i l =
    l.to ≡ written (λ j. l.to_start + j * l.to_step) (scaled_from l.gain l.from l.from_start l.from_step) l.i l.initial.to
