-- `outputs_one_by_one` has done the places passed so far of all lines.
use mathlib.Core.Path.{◌≡◌}
use Rattle.filter.specs.Taps.{filter_of_taps}
use Rattle.filter.specs.Kernel.{filter_in_place}
use Rattle.filter.proofs.in_place.Lines.outputs_one_by_one.Given as goal

abbrev pub invariant-loop-done : goal.invariant-loop-done
invariant-loop-done l =
    l.buffer ≡ filter_in_place l.self (filter_of_taps l.taps) l.history l.done l.initial.buffer
