-- The lists are those after the steps that were taken. Assumes nothing.
use mathlib.Core.Path.{refl, ◌∙◌}
use Rattle.whole_job.specs.WholeJob.{after_steps}
use Rattle.whole_job.proofs.Performed.{steps_more}
use Rattle.whole_job.proofs.perform_steps.Goals as goal

pub loop-init : goal.loop-init
unfolding after_steps
loop-init c = record { taken = refl; marks_length = refl; strips_length = refl; output_length = refl }

pub loop-preserved : goal.loop-preserved
loop-preserved c =
    let kept = c.loop.invariant in
    let call = c.perform_named in
    record {
      taken = steps_more _ _ _ _ _ _ kept.taken call.ensures;
      marks_length = call.auto.marks ∙ kept.marks_length;
      strips_length = call.auto.strips ∙ kept.strips_length;
      output_length = call.auto.output ∙ kept.output_length;
    }
