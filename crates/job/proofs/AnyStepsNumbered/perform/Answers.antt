-- A recall or a task: one law of `Stepping` each.
use Rattle.job.proofs.Stepping.{stepped_recall, stepped_task}
use Rattle.job.proofs.AnyStepsNumbered.perform.Goals as goal

pub returns-then-number-eq-RECALL : goal.returns-then-number-eq-RECALL
returns-then-number-eq-RECALL c =
    let both = stepped_recall _ _ _ _ _ _ _ c.if-number-eq-RECALL.true c.recall.ensures.answer c.recall.ensures.cleared in
    record { answer = both.0; written = both.1 }

pub returns-else-number-eq-RECALL : goal.returns-else-number-eq-RECALL
returns-else-number-eq-RECALL c =
    let both = stepped_task _ _ _ _ _ _ _ c.if-number-eq-RECALL.false c.task.ensures.answer c.task.ensures.written in
    record { answer = both.0; written = both.1 }
