-- What the type of a plan record guarantees.
use Rattle.std.specs.Prelude.{◌≡◌, ℕ, ◌<◌, length}
use Rattle.plan.specs.declared.Plan.{Plan}
use Rattle.plan.specs.Rules.{order_limit, pass_at}

-- Four passes, each with as many coefficient places as the order limit.
pub record WellShaped (plan : Plan) : Type 0 where
  pub pass_count : length plan.passes ≡ 4
  pub place_count : (i : ℕ) → i < 4 → length (pass_at plan i).coefficients ≡ order_limit
