-- `scale` has multiplied the words of the rows passed so far; gain 1 changes nothing.
use mathlib.Core.Path.{◌≡◌}
use Rattle.filter.specs.Windows.{window_scaled}
use Rattle.filter.proofs.Window.scale.Given as goal

abbrev pub invariant-loop-row : goal.invariant-loop-row
invariant-loop-row l =
    l.buffer ≡ window_scaled l.gain l.self l.row l.initial.buffer
