-- `smooth_job::smooth_plan` meets its contract: a plan that keeps the rules has sizes. Assumes nothing.
use mathlib.Core.Path.{ap}
use Rattle.plan.specs.declared.Sizes.{Sizes}
use Rattle.plan.specs.Sizes.{sizes_of}
use Rattle.plan.proofs.Known.{sizes_known}
use Rattle.smooth_job.proofs.SmoothAnswers.{kept_refused}
use Rattle.smooth_job.proofs.smooth_plan.Goals as goal

pub smooth_counted-requires : goal.smooth_counted-requires
unfolding sizes_of
smooth_counted-requires c =
    let are = (sizes_known c.args.plan _ _ c.sizes.ensures _ c.in_ok-sizes.was).1 in
    (ap (λ (z : Sizes). z.pixels) are, c.requires.1, c.requires.2)

pub returns-in_err-sizes : goal.returns-in_err-sizes
returns-in_err-sizes c =
    kept_refused c.args.plan c.args.input.now c.requires.0 _ c.sizes.ensures _ c.in_err-sizes.was
