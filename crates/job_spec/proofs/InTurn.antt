-- Steps after earlier steps: the lists are those that the two lists of steps leave in turn. Assumes nothing.
use mathlib.Core.Path.{◌≡◌, refl}
use mathlib.Core.List.{List, [], ◌∷◌, ◌++◌}
use Rattle.plan.specs.declared.Plan.{Plan}
use Rattle.job_spec.specs.Calls.{Buffers}
use Rattle.job_spec.specs.Steps.{Step, after_step, after_steps}

pub after_in_turn : (plan : Plan) (earlier later : List Step) (now : Buffers)
    → after_steps plan (earlier ++ later) now ≡ after_steps plan later (after_steps plan earlier now)
unfolding after_steps
after_in_turn plan [] later now = refl
after_in_turn plan (step ∷ earlier) later now = after_in_turn plan earlier later (after_step plan step now)
