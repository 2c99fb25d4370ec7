-- Start accepts exactly the records that keep the rules, with marks and strips that are long enough. Assumes nothing.
use mathlib.Core.Path.{◌≡◌}
use mathlib.Core.List.{List}
use Prim.Native.Nat.{ℕ}
use Rattle.refusal.specs.Refusals.{accepted}
use Rattle.plan.specs.declared.Plan.{Plan}
use Rattle.plan.proofs.FirstTests.{Suffices, suffices, lent_accepted}
use Rattle.job_spec.specs.Calls.{lent_to_start, start_answer}
use Rattle.job_spec.specs.Demand3.{StartAccepts}

pub start_accepted : StartAccepts
unfolding start_answer
start_accepted plan marks strips kept marks_long strips_long =
    lent_accepted plan (lent_to_start marks strips)
    (record { rules = kept; of7_long = marks_long; strips_long = strips_long; map_long = tt; output_long = tt })

-- What an accepted start tells.
pub start_tells : (plan : Plan) (marks strips : List ℕ) → start_answer plan marks strips ≡ accepted
    → Suffices plan (lent_to_start marks strips)
unfolding start_answer
start_tells plan marks strips = suffices plan (lent_to_start marks strips)
