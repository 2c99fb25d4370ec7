-- `read_down` has read the bands passed so far and run the pass down over them.
use mathlib.Core.Path.{◌≡◌}
use Rattle.serial.specs.Stages.{map_words, bands_read_down}
use Rattle.serial.proofs.read_down.Given as goal

abbrev pub invariant-loop-band : goal.invariant-loop-band
invariant-loop-band g l = l.output ≡ bands_read_down l.plan (map_words g.P.Pixel.word l.map) l.band l.initial.output
