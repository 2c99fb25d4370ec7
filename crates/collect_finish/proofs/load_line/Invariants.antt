-- `load_line` has loaded the pairs passed so far.
use mathlib.Core.Path.{◌≡◌}
use Prim.Native.Nat.{◌*◌}
use Rattle.buffer.specs.Copies.{heights_from}
use Rattle.buffer.specs.Written.{row_written}
use Rattle.collect_finish.proofs.load_line.Given as goal

abbrev pub invariant-loop-pair : goal.invariant-loop-pair
invariant-loop-pair l =
    l.work ≡ row_written l.work_start (heights_from l.map l.map_start) (2 * l.pair) l.initial.work
