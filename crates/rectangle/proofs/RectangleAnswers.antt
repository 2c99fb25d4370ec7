-- What a call about a rectangle answers, whatever it is lent, by the tests that are made. Assumes nothing.
use mathlib.Core.Path.{◌≡◌, refl, sym, ◌∙◌}
use mathlib.Core.Bool.{false}
use mathlib.Core.List.{[], ◌∷◌}
use Prim.Native.Nat.{ℕ}
use lib.Dec.{eqb}
use borrow.Author.Tests.{eqb-false}
use native.Mathlib.Omega.{arith}
use Rattle.std.proofs.lemmas.Bool.{true_from_ne_false}
use Rattle.std.proofs.lemmas.Bool.Decides.{nat_tests}
use Rattle.refusal.specs.Refusals.{Answer, accepted, refused}
use Rattle.refusal.specs.Table.{Row, ◌at◌when◌, first_of, first_due}
use Rattle.refusal.proofs.Table.{first_append, accepted_before, rows_accepted, none_of, not_answered}
use Rattle.plan.specs.declared.Lengths.{Lengths}
use Rattle.plan.specs.declared.Plan.{Plan}
use Rattle.plan.specs.FirstTests.{lent_rows}
use Rattle.plan.proofs.FirstTests.{Suffices, suffices, lent_accepted}
use Rattle.rectangle.specs.Rectangle.{Inside, outside, rectangle_rows}

module _ (plan : Plan) (top left bottom right : ℕ) where
  inside_the_map : Inside plan top left bottom right → outside plan top left bottom right ≡ false
  inside_the_map inside = grind (arith, nat_tests)

  not_outside : outside plan top left bottom right ≡ false → Inside plan top left bottom right
  not_outside e =
      record {
        top_bottom = grind (arith, nat_tests);
        left_right = grind (arith, nat_tests);
        bottom_low = grind (arith, nat_tests);
        right_low = grind (arith, nat_tests);
      }

before_accepted : (answer : Answer) → first_of answer accepted ≡ answer
before_accepted accepted = refl
before_accepted (refused number place) = refl

-- The tests of the record and of the lengths do not answer 12.
lent_not_12 : (plan : Plan) (lent : Lengths) {place : ℕ} → first_due (lent_rows plan lent) ≡ refused 12 place → ⊥
unfolding lent_rows
lent_not_12 plan lent e =
    let other : (number : ℕ) → (eqb number 12 ≡ false) → number ≡ 12 → ⊥ = λ number test. eqb-false number 12 test in
    not_answered 12 (lent_rows plan lent) (other 6 refl, (other 7 refl, (other 14 refl, (other 15 refl, (other 16 refl, tt))))) e

module _ (plan : Plan) (lent : Lengths) (top left bottom right : ℕ) where
  -- The row of the rectangle.
  abbrev is_outside : Row
  is_outside = 12 at 0 when outside plan top left bottom right

  -- A rectangle of the map passes the last test,
  inside_passes : Inside plan top left bottom right
      → first_due (rectangle_rows plan lent top left bottom right) ≡ first_due (lent_rows plan lent)
  inside_passes i =
      first_append (lent_rows plan lent) (is_outside ∷ [])
      ∙ rw (inside_the_map plan top left bottom right i) (before_accepted (first_due (lent_rows plan lent)))

  pub inside_not_12 : {place : ℕ} → Inside plan top left bottom right
      → first_due (rectangle_rows plan lent top left bottom right) ≡ refused 12 place → ⊥
  inside_not_12 i e = lent_not_12 plan lent (sym (inside_passes i) ∙ e)

  -- and beside a record that keeps the rules and long enough buffers it is accepted, all else refused by 12.
  module _ (enough : Suffices plan lent) where
    pub inside_accepted : Inside plan top left bottom right
        → first_due (rectangle_rows plan lent top left bottom right) ≡ accepted
    inside_accepted i = inside_passes i ∙ lent_accepted plan lent enough

    pub others_refused : (Inside plan top left bottom right → ⊥)
        → first_due (rectangle_rows plan lent top left bottom right) ≡ refused 12 0
    others_refused none =
        accepted_before (lent_rows plan lent) (is_outside ∷ []) (sym (lent_accepted plan lent enough))
        ∙ rw (true_from_ne_false (outside plan top left bottom right) (λ within. none (not_outside plan top left bottom right within)))

  pub accepted_inside : first_due (rectangle_rows plan lent top left bottom right) ≡ accepted
      → Suffices plan lent × Inside plan top left bottom right
  accepted_inside e =
      let (tested, within) = rows_accepted (lent_rows plan lent) (is_outside ∷ []) e in
      (suffices plan lent tested, not_outside plan top left bottom right (none_of (is_outside ∷ []) within).0)
