-- `read_heights` has read the pixels passed so far.
use mathlib.Core.Path.{◌≡◌}
use Rattle.buffer.specs.Copies.{heights_from}
use Rattle.buffer.specs.Written.{row_written}
use Rattle.buffer.proofs.read_heights.Given as goal

abbrev pub invariant-loop-i : goal.invariant-loop-i
invariant-loop-i l =
    l.to ≡ row_written l.to_start (heights_from l.map l.map_start) l.i l.initial.to
