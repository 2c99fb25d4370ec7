-- `outputs_at_place` has stored the outputs of the lines passed so far.
use mathlib.Core.Path.{refl}
use Rattle.filter.specs.Kernel.{outputs_at}
use Rattle.filter.proofs.Turns.{line_more}
use Rattle.filter.proofs.in_place.Lines.outputs_at_place.Goals as goal

pub loop-line-init : goal.loop-line-init
unfolding outputs_at
loop-line-init c = refl

pub loop-line-preserved : goal.loop-line-preserved
loop-line-preserved c = line_more _ _ _ _ _ _ _ c.loop-line.invariant c.output_at.ensures
