-- `outputs_at_place` has stored the outputs of the lines passed so far.
use mathlib.Core.Path.{◌≡◌}
use Rattle.filter.specs.Taps.{filter_of_taps}
use Rattle.filter.specs.Kernel.{outputs_at}
use Rattle.filter.proofs.in_place.Lines.outputs_at_place.Given as goal

abbrev pub invariant-loop-line : goal.invariant-loop-line
invariant-loop-line l =
    l.buffer ≡ outputs_at (filter_of_taps l.taps) l.self.forth l.self.back l.self.apart l.place l.line l.initial.buffer
