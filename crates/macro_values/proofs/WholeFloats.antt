-- Whole numbers from -2^53 to 2^53 are 64-bit floats, each of them one, and 0 is positive zero; the test of that range.
-- Assumes nothing.
use mathlib.Core.Path.{◌≡◌, refl, ap, sym, ◌∙◌}
use mathlib.Core.Bool.{Bool, true, false, true≢false}
use mathlib.Core.Logic.{◌⊎◌, inl, inr}
use Prim.Native.Nat.{suc, ◌≤◌, ◌^◌}
use native.Mathlib.Omega.{arith}
use lib.IntN.{ℤ, pos, negsuc, nat_abs}
use lib.Dec.{T, le→leb, lt→ltb}
use lib.Ieee.{Float, binary64, round, of_int, in_float, fits, to_bits}
use lib.Ieee.Fits.{of_int-fits}
use lib.Ieee.Back.{round_whole, whole_unique}
use Rattle.std.proofs.lemmas.Bool.{true_from_ne_false}
use Rattle.std.proofs.lemmas.Int.{ints}
use Rattle.macro_values.specs.MacroValues.{float_of, outside_floats}
use Rattle.macro_values.specs.ExactOrVacant.{InFloatRange, EqualsWhole, WholeFloats}

-- ---- the range

module _ (number : ℤ) where
  pub in_range_test : InFloatRange number → outside_floats number ≡ false
  in_range_test range = let low = range.low in let high = range.high in grind (arith, ints)

  pub test_in_range : outside_floats number ≡ false → InFloatRange number
  test_in_range e =
      record {
        low = grind (arith, ints);
        high = grind (arith, ints);
      }

  pub out_of_range_test : (InFloatRange number → ⊥) → outside_floats number ≡ true
  out_of_range_test none = true_from_ne_false (outside_floats number) (λ within. none (test_in_range within))

pub range_decided : (number : ℤ) → InFloatRange number ⊎ (InFloatRange number → ⊥)
range_decided number = by (outside_floats number) refl
  where
    by : (outside : Bool) → outside_floats number ≡ outside → InFloatRange number ⊎ (InFloatRange number → ⊥)
    by false e = inl (test_in_range number e)
    by true e = inr (λ range. true≢false (sym e ∙ in_range_test number range))

pub small_in_range : (number : ℤ) → nat_abs number ≤ 2 ^ 53 → InFloatRange number
small_in_range number small = record { low = omega (arith, ints); high = omega (arith, ints) }

size_in_range : (number : ℤ) → InFloatRange number → nat_abs number ≤ 2 ^ 53
size_in_range number range = omega (arith, ints)

-- ---- the float of a whole number

-- The machine converts such a number.
pub machine_converts : (number : ℤ) → InFloatRange number → T (in_float binary64 number)
unfolding in_float
machine_converts (pos n) range = le→leb n (2 ^ 53) (size_in_range (pos n) range)
machine_converts (negsuc n) range = lt→ltb n (2 ^ 53) (size_in_range (negsuc n) range)

equals_whole : (number : ℤ) → nat_abs number ≤ 2 ^ 53 → EqualsWhole (float_of number) number
unfolding of_int
equals_whole (pos n) low = round_whole binary64 false n low
equals_whole (negsuc n) low = round_whole binary64 true (suc n) low

one_float : (number : ℤ) (float other : Float) → T (fits binary64 float) → T (fits binary64 other)
    → EqualsWhole float number → EqualsWhole other number → float ≡ other
one_float (pos n) float other = whole_unique binary64 float other false n
one_float (negsuc n) float other = whole_unique binary64 float other true (suc n)

zero_has_no_bit : to_bits binary64 (float_of (pos 0)) ≡ 0
unfolding of_int round to_bits
zero_has_no_bit = refl

pub whole_floats : WholeFloats
whole_floats number range =
    let equal = equals_whole number (size_in_range number range) in
    record {
      held = of_int-fits binary64 number;
      equal = equal;
      no_other = λ other held same.
          one_float number other (float_of number) held (of_int-fits binary64 number) same equal;
      zero_bits = λ e. ap (λ (n : ℤ). to_bits binary64 (float_of n)) e ∙ zero_has_no_bit;
    }
