-- The first turn that a job has is the answer. Assumes nothing.
use Rattle.std.proofs.Common.{arith, sym, ◌∙◌}
use Rattle.turns.specs.Turn.{going_round}
use Rattle.turns.proofs.Turns.{look_most}
use Rattle.dispatch.proofs.Searching.{turn_here, done_more, none_named}
use Rattle.dispatch.proofs.next_turn.Goals as goal

pub overflow_add-i : goal.overflow_add-i
overflow_add-i c =
    omega (arith, c.requires.few, c.look_from-start.ensures, look_most c.args.jobs.now c.args.last)

pub returns-in-Some : goal.returns-in-Some
unfolding going_round
returns-in-Some c =
    turn_here _ _ _ _ c.loop-passed.invariant (omega arith) _ (rw c.look_from-start.ensures) _ (sym c.turn_of.ensures ∙ c.in-Some.is)

pub loop-passed-preserved : goal.loop-passed-preserved
unfolding going_round
loop-passed-preserved c =
    done_more _ _ _ _ c.loop-passed.invariant _ (rw c.look_from-start.ensures) (sym c.turn_of.ensures ∙ c.in_default.is)

pub returns : goal.returns
returns c = none_named _ _ _ _ c.loop-passed.invariant (omega arith)
