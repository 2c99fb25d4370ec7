-- The loop keeps `Running`: what is left of the list gives what the whole list gives.
use mathlib.Core.Path.{◌∙◌}
use native.Mathlib.Omega.{arith}
use Rattle.job.proofs.Running.{running_next, running_end, one_counted}
use Rattle.job.proofs.run_list.Goals as goal

pub loop-i-preserved : goal.loop-i-preserved
loop-i-preserved g c =
    let kept = c.loop-i.invariant in
    let call = c.perform-answer in
    let one = one_counted call.result in
    record {
      runs =
          running_next _ _ _ _ _ _ _ _ _ _ kept.runs (omega arith) call.result call.ensures.answer _ (cc) _
          call.ensures.written;
      marks_length = call.auto.marks ∙ kept.marks_length;
      strips_length = call.auto.strips ∙ kept.strips_length;
      output_length = call.auto.output ∙ kept.output_length;
    }

pub returns : goal.returns
returns g c = running_end _ _ _ _ _ _ _ _ _ _ c.loop-i.invariant.runs (omega arith)
