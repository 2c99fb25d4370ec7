-- The answer of the rectangle sum, and what is given beside it. Assumes nothing.
use mathlib.Core.Path.{◌≡◌}
use mathlib.Core.Bool.{true}
use mathlib.Core.List.{List}
use Prim.Native.Nat.{ℕ, ◌≤◌}
use lib.IntN.{ℤ, pos}
use lib.ListN.{length}
use Rattle.refusal.specs.Refusals.{accepted, refused}
use Rattle.refusal.specs.Table.{Given}
use Rattle.word.specs.Word.{signed}
use Rattle.plan.specs.declared.Plan.{Plan}
use Rattle.plan.specs.Rules.{keeps_rules}
use Rattle.plan.specs.Sizes.{needed_pixels}
use Rattle.plan.proofs.FirstTests.{Suffices}
use Rattle.passes.specs.Table.{rectangle_sum}
use Rattle.rectangle.specs.Rectangle.{table_of, Inside, lent_to_sum, rectangle_call}
use Rattle.rectangle.proofs.RectangleAnswers.{inside_accepted, others_refused, accepted_inside}

module _ (plan : Plan) (table : List ℕ) (top left bottom right : ℕ) where
  module _ (kept : keeps_rules plan ≡ true) (long : needed_pixels plan ≤ length table) where
    enough : Suffices plan (lent_to_sum table)
    enough = record { rules = kept; of7_long = long; strips_long = tt; map_long = tt; output_long = tt }

    pub accepted_when : Inside plan top left bottom right → (rectangle_call plan table top left bottom right).answer ≡ accepted
    unfolding rectangle_call
    accepted_when i = inside_accepted plan (lent_to_sum table) top left bottom right enough i

    pub refused_when : (Inside plan top left bottom right → ⊥)
        → (rectangle_call plan table top left bottom right).answer ≡ refused 12 0
    unfolding rectangle_call
    refused_when none = others_refused plan (lent_to_sum table) top left bottom right enough none

  pub accepted_rules : (rectangle_call plan table top left bottom right).answer ≡ accepted → keeps_rules plan ≡ true
  unfolding rectangle_call
  accepted_rules e = (accepted_inside plan (lent_to_sum table) top left bottom right e).0.rules

  pub accepted_fits : (rectangle_call plan table top left bottom right).answer ≡ accepted
      → (needed_pixels plan ≤ length table) × Inside plan top left bottom right
  unfolding rectangle_call
  accepted_fits e =
      let (enough, inside) = accepted_inside plan (lent_to_sum table) top left bottom right e in
      (enough.of7_long, inside)

  -- Beside the answer: the sum of an accepted call, 0 of a refused one.
  pub given_accepted : (rectangle_call plan table top left bottom right).answer ≡ accepted
      → {sum : ℤ} → sum ≡ signed (rectangle_sum (table_of plan table) top left bottom right)
      → ◌≡◌ {A = Given ℤ} (record { answer = accepted; value = sum }) (rectangle_call plan table top left bottom right)
  unfolding rectangle_call
  given_accepted e f = rw (e, f)

  pub given_refused : {number place : ℕ} → (rectangle_call plan table top left bottom right).answer ≡ refused number place
      → ◌≡◌ {A = Given ℤ} (record { answer = refused number place; value = pos 0 }) (rectangle_call plan table top left bottom right)
  unfolding rectangle_call
  given_refused e = rw e
