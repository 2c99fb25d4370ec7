-- `outputs_at_two_places` has stored the two outputs of the lines passed so far.
use mathlib.Core.Path.{◌≡◌}
use Rattle.filter.specs.Taps.{filter_of_taps}
use Rattle.filter.specs.Kernel.{outputs_at_two}
use Rattle.filter.proofs.in_place.Lines.outputs_at_two_places.Given as goal

abbrev pub invariant-loop-line : goal.invariant-loop-line
invariant-loop-line l =
    l.buffer
    ≡ outputs_at_two (filter_of_taps l.taps) l.self.forth l.self.back l.self.apart l.place l.line l.initial.buffer
