-- `count_row` has counted the dropouts among the heights passed so far.
use mathlib.Core.Path.{◌≡◌}
use lib.ListN.{take}
use Rattle.std.specs.List.{count_by}
use Rattle.buffer.specs.Pixel.{is_dropout}
use Rattle.dropouts.proofs.count_row.Given as goal

abbrev pub invariant-loop-height : goal.invariant-loop-height
invariant-loop-height l = l.found ≡ count_by is_dropout (take l.height-index l.heights)
