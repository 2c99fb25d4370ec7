-- `outputs_in_pairs` has done the pairs of places passed so far of all lines.
use mathlib.Core.Path.{◌≡◌}
use Prim.Native.Nat.{◌*◌}
use Rattle.filter.specs.Taps.{filter_of_taps}
use Rattle.filter.specs.Kernel.{filter_in_place}
use Rattle.filter.proofs.in_place.Lines.outputs_in_pairs.Given as goal

abbrev pub invariant-loop-pair : goal.invariant-loop-pair
invariant-loop-pair l =
    l.buffer ≡ filter_in_place l.self (filter_of_taps l.taps) l.time (2 * l.pair) l.initial.buffer
