-- Inner: what a pass and its coefficients require before their words are written: rules kept, and room.
use Rattle.std.specs.Prelude.{◌≡◌, true, ℕ, ◌+◌, ◌<◌, ◌≤◌}
use Rattle.plan.specs.declared.Pass.{Pass}
use Rattle.plan.specs.Rules.{order_limit, in_signed28, coefficients_kept}

-- The coefficients keep the rules, and their words have room from a place on in n words.
pub record CoefficientsFit (n : ℕ) (pass : Pass) (place : ℕ) : Type 0 where
  pub order_limited : pass.order ≤ order_limit
  pub kept : coefficients_kept pass ≡ true
  pub room : place + pass.order ≤ n

-- Pass i keeps the rules, and its words have room from a place on in n words.
pub record PassFits (n i : ℕ) (pass : Pass) (place : ℕ) : Type 0 where
  pub pass_number : i < 4
  pub gain_kept : in_signed28 pass.gain ≡ true
  pub coefficients : CoefficientsFit n pass (place + 2)
