-- Where the passes stand: an order is at most 15, so every place stays small. Assumes nothing.
use mathlib.Core.Path.{◌≡◌, refl}
use mathlib.Core.List.{List}
use Prim.Native.Nat.{ℕ, zero, suc, ◌+◌, ◌*◌, ◌≤◌}
use native.Mathlib.Omega.{arith}
use native.Mathlib.Numerals.{add-one}
use Rattle.plan_reader.specs.ReadPlan.{order_at, after_pass, pass_place}

module _ (words : List ℕ) where
  pub order_bounded : (place : ℕ) → order_at words place ≤ 15
  order_bounded place = omega arith

  pub pass_place_first : pass_place words 0 ≡ 2
  unfolding pass_place
  pass_place_first = refl

  pub pass_place_next : (i : ℕ) → pass_place words (i + 1) ≡ after_pass words (pass_place words i)
  unfolding pass_place
  pass_place_next i = rw (add-one i)

  pub pass_place_bounded : (i : ℕ) → pass_place words i ≤ 2 + 17 * i
  unfolding pass_place
  pass_place_bounded zero = omega arith
  pass_place_bounded (suc i) = omega (arith, pass_place_bounded i, order_bounded (pass_place words i))

-- For a walk from pass to pass.
pub ruleset walked = (pass_place_first, pass_place_next, pass_place_bounded)
