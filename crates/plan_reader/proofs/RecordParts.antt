-- The parts of the record: a coefficient place below the order and from there on, and records with the same fields.
-- Assumes nothing.
use mathlib.Core.Path.{◌≡◌}
use mathlib.Core.List.{List}
use Prim.Native.Nat.{ℕ, ◌+◌, ◌<◌, ◌≤◌}
use lib.IntN.{ℤ, pos}
use borrow.Author.Tests.{lt-ltb, le-ltb}
use Rattle.plan.specs.declared.Pass.{Pass}
use Rattle.plan.specs.declared.Plan.{Plan}
use Rattle.plan_reader.specs.PlanWords.{signed28}
use Rattle.plan_reader.specs.ReadPlan.{payload_at, order_at, coefficient_in}

module _ (words : List ℕ) (place j : ℕ) where
  pub coefficient_read : j < order_at words place → coefficient_in words place j ≡ signed28 (payload_at words (place + 2 + j))
  coefficient_read below = simp (lt-ltb j (order_at words place) below)

  pub coefficient_zero : order_at words place ≤ j → coefficient_in words place j ≡ pos 0
  coefficient_zero past = simp (le-ltb j (order_at words place) past)

pub same_pass :
    {o o' : ℕ} {g g' : ℤ} {k k' : List ℤ} → o ≡ o' → g ≡ g' → k ≡ k'
    → ◌≡◌ {A = Pass} (record { order = o; gain = g; coefficients = k }) (record { order = o'; gain = g'; coefficients = k' })
same_pass p q r = cc

pub same_plan :
    {h h' w w' b b' : ℕ} {p p' : List Pass} → h ≡ h' → w ≡ w' → b ≡ b' → p ≡ p'
    → ◌≡◌ {A = Plan} (record { grid = record { rows = h; columns = w; side = b }; passes = p })
    (record { grid = record { rows = h'; columns = w'; side = b' }; passes = p' })
same_plan e f g k = cc
