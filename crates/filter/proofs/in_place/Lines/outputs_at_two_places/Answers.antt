-- `outputs_at_two_places` has stored the two outputs of the lines passed so far.
use mathlib.Core.Path.{refl}
use native.Mathlib.Omega.{arith}
use Rattle.filter.specs.Taps.{filter_of_taps}
use Rattle.filter.specs.Kernel.{outputs_at}
use Rattle.filter.proofs.TwoPlaces.{turn_fits, line_two_more}
use Rattle.filter.proofs.in_place.Lines.outputs_at_two_places.Goals as goal

pub loop-line-init : goal.loop-line-init
unfolding outputs_at
loop-line-init c = refl

pub loop-line-preserved : goal.loop-line-preserved
loop-line-preserved c =
    let h = turn_fits c.args.self.apart c.args.self.count c.requires.0 c.requires.1 c.loop-line.line (omega arith) in
    line_two_more (filter_of_taps c.args.taps) _ _ _ _ _ c.requires.1 c.loop-line.line (omega arith) _
    c.loop-line.invariant (omega arith) c.output_at-output.ensures c.next_output_at-later.ensures
