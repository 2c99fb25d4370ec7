-- Totals at 0, at both ends and one past them, by computation. Assumes nothing.
use mathlib.Core.Path.{◌≡◌, refl}
use Prim.Native.Nat.{◌+◌, ◌^◌}
use lib.IntN.{pos, neg_ℤ}
use lib.Ieee.{binary64, of_int, round, of_bits}
use Rattle.macro_values.specs.declared.Quantity.TheVariants as wanted
use Rattle.macro_values.specs.MacroValues.{vacant, holding, total_value}

pub zero_given : total_value (pos 0) ≡ holding wanted.Total (of_bits binary64 0)
unfolding total_value of_int round of_bits
zero_given = refl

pub greatest_given : total_value (pos (2 ^ 53)) ≡ holding wanted.Total (of_bits binary64 0x4340000000000000)
unfolding total_value of_int round of_bits
greatest_given = refl

pub least_given : total_value (neg_ℤ (pos (2 ^ 53))) ≡ holding wanted.Total (of_bits binary64 0xC340000000000000)
unfolding total_value of_int round of_bits
least_given = refl

pub past_greatest_vacant : total_value (pos (2 ^ 53 + 1)) ≡ vacant
unfolding total_value
past_greatest_vacant = refl

pub past_least_vacant : total_value (neg_ℤ (pos (2 ^ 53 + 1))) ≡ vacant
unfolding total_value
past_least_vacant = refl
