-- `smooth_job::smooth` meets its contract: whole words, the plan, and then as the plan says. Assumes nothing.
use native.Mathlib.Omega.{arith}
use Rattle.std.proofs.lemmas.Result.{err_from_is_err_and}
use Rattle.smooth_job.proofs.Input.{length_limited, length_inside}
use Rattle.smooth_job.proofs.SmoothAnswers.{not_whole, plan_kept, by_plan, plan_refused}
use Rattle.smooth_job.proofs.smooth.Goals as goal

pub returns-then-input-ne0 : goal.returns-then-input-ne0
returns-then-input-ne0 c =
    let both = not_whole _ c.if-input-ne0.true _ in
    record { answer = both.0; output = both.1 }

pub plan_in-requires : goal.plan_in-requires
plan_in-requires c =
    let input = c.args.input.now in
    let e = c.plan_length-length.ensures in
    (omega (arith, length_limited input), omega (arith, length_inside input))

pub smooth_plan-requires : goal.smooth_plan-requires
smooth_plan-requires c =
    let input = c.args.input.now in
    let e = c.plan_length-length.ensures in (
      plan_kept _ c.if-input-ne0.false _ e _ c.plan_in.ensures _ c.in_ok-plan.was,
      e,
      omega (arith, length_limited input),
    )

pub returns : goal.returns
returns c =
    let asked = by_plan _ c.if-input-ne0.false _ c.plan_length-length.ensures _ c.plan_in.ensures _ c.in_ok-plan.was in
    record { answer = rw asked at c.smooth_plan.ensures.answer; output = rw asked at c.smooth_plan.ensures.output }

pub returns-in_err-plan : goal.returns-in_err-plan
returns-in_err-plan c =
    let passed = err_from_is_err_and c.from_residual.result c.from_residual.ensures.1 in
    let both = plan_refused _ c.if-input-ne0.false _ c.plan_length-length.ensures _ c.plan_in.ensures _ c.in_err-plan.was _ in
    record { answer = rw (passed.1, passed.2) both.0; output = both.1 }
