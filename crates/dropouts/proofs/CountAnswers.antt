-- The answer of the count by the tests that are made, and what is given beside it. Assumes nothing.
use mathlib.Core.Path.{◌≡◌, refl, sym}
use mathlib.Core.Bool.{true, false}
use mathlib.Core.List.{List}
use Prim.Native.Nat.{ℕ, ◌≤◌, ◌<◌}
use native.Mathlib.Omega.{arith}
use lib.IntN.{ℤ}
use lib.ListN.{length}
use Rattle.refusal.specs.Refusals.{Answer, accepted, refused}
use Rattle.refusal.specs.Table.{first_due, Given}
use Rattle.plan.specs.declared.Plan.{Plan}
use Rattle.plan.specs.Rules.{keeps_rules}
use Rattle.plan.specs.Sizes.{needed_pixels}
use Rattle.plan.specs.FirstTests.{lent_rows, ShortBuffer, of7_short, strips_short, map_short, output_short}
use Rattle.plan.proofs.FirstTests.{Suffices, least_short_decides}
use Rattle.rectangle.specs.Rectangle.{Inside, rectangle_rows}
use Rattle.rectangle.specs.FourNumbers.{Empty}
use Rattle.rectangle.proofs.FourNumbers.{no_pixels}
use Rattle.rectangle.proofs.RectangleAnswers.{inside_accepted, others_refused, accepted_inside}
use Rattle.dropouts.specs.Dropouts.{dropouts_inside, lent_to_count, dropouts_call}
use Rattle.dropouts.specs.CountedDropouts.{DropoutsAnswered}
use Rattle.dropouts.proofs.CountedDropouts.{dropouts_told}

module _ (plan : Plan) (heights : List ℤ) (top left bottom right : ℕ) where
  -- What the tests answer.
  abbrev tested : Answer
  tested = first_due (rectangle_rows plan (lent_to_count heights) top left bottom right)

  pub accepted_fits : tested ≡ accepted → (needed_pixels plan ≤ length heights) × Inside plan top left bottom right
  accepted_fits e =
      let (enough, inside) = accepted_inside plan (lent_to_count heights) top left bottom right e in
      (enough.map_long, inside)

  -- Beside the answer: the count of an accepted call, 0 of a refused one.
  pub given_accepted : tested ≡ accepted → {count : ℕ} → count ≡ dropouts_inside plan heights top left bottom right
      → ◌≡◌ {A = Given ℕ} (record { answer = accepted; value = count }) (dropouts_call plan heights top left bottom right)
  unfolding dropouts_call
  given_accepted e f = rw (e, f)

  pub given_refused : {number place : ℕ} → tested ≡ refused number place
      → ◌≡◌ {A = Given ℕ} (record { answer = refused number place; value = 0 }) (dropouts_call plan heights top left bottom right)
  unfolding dropouts_call
  given_refused e = rw e

  -- ---- each cause

  record_first : keeps_rules plan ≡ false → tested ≡ refused 6 0
  unfolding lent_rows
  record_first broken = rw broken

  -- The only buffer that is lent is the map.
  only_map : (number : ℕ) → ShortBuffer plan (lent_to_count heights) number → 15 ≤ number
  only_map number (of7_short short) = absurd short
  only_map number (strips_short short) = absurd short
  only_map number (map_short short) = omega arith
  only_map number (output_short short) = absurd short

  map_next : keeps_rules plan ≡ true → length heights < needed_pixels plan → tested ≡ refused 15 0
  map_next kept short = least_short_decides plan (lent_to_count heights) _ 15 kept (map_short short) only_map

  module _ (kept : keeps_rules plan ≡ true) (long : needed_pixels plan ≤ length heights) where
    enough : Suffices plan (lent_to_count heights)
    enough = record { rules = kept; of7_long = tt; strips_long = tt; map_long = long; output_long = tt }

    rectangle_last : (Inside plan top left bottom right → ⊥) → tested ≡ refused 12 0
    rectangle_last none = others_refused plan (lent_to_count heights) top left bottom right enough none

    counted : Inside plan top left bottom right → {count : ℕ} → count ≡ dropouts_inside plan heights top left bottom right
        → dropouts_call plan heights top left bottom right ≡ record { answer = accepted; value = count }
    counted inside is =
        sym (given_accepted (inside_accepted plan (lent_to_count heights) top left bottom right enough inside) is)

  empty_count : Empty top left bottom right → dropouts_inside plan heights top left bottom right ≡ 0
  empty_count empty =
      omega (
        arith,
        (dropouts_told plan heights top left bottom right).at_most_pixels,
        no_pixels top left bottom right empty,
      )

pub dropouts_answered : DropoutsAnswered
dropouts_answered plan heights t l b r =
    record {
      record_broken = λ broken. sym (given_refused plan heights t l b r (record_first plan heights t l b r broken));
      map_short = λ kept short. sym (given_refused plan heights t l b r (map_next plan heights t l b r kept short));
      others_refused = λ kept long none.
          sym (given_refused plan heights t l b r (rectangle_last plan heights t l b r kept long none));
      inside_counted = λ kept long inside. counted plan heights t l b r kept long inside refl;
      empty_zero = λ kept long inside empty.
          counted plan heights t l b r kept long inside (sym (empty_count plan heights t l b r empty));
    }
