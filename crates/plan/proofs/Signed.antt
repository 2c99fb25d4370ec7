-- The tests of a signed number's range and of zero, as the machine makes them on 64 bits. Assumes nothing.
use mathlib.Core.Path.{◌≡◌, refl, sym}
use mathlib.Core.Bool.{true, false}
use Prim.Native.Nat.{suc, ◌-◌, ◌<◌, ◌^◌}
use native.Mathlib.Omega.{arith}
use lib.IntN.{ℤ, pos, negsuc}
use lib.Signed.{lt_z}
use lib.Dec.{eqb}
use mir.Syntax.{w64}
use mir.Val.{SFits, of_z}
use borrow.Author.Tests.{ne_eqb}
use Rattle.plan.specs.Rules.{in_signed28, is_zero}

-- `read` is what the machine reads back of the bits of `value`.
module _ (value read : ℤ) (e : read ≡ value) where
  pub low_end : lt_z read (pos 134217728) ≡ true → lt_z (negsuc 134217728) read ≡ in_signed28 value
  low_end t = rw e (by value (rw e at t)) where
    by : (x : ℤ) → lt_z x (pos 134217728) ≡ true → lt_z (negsuc 134217728) x ≡ in_signed28 x
    by (pos n) u = sym u
    by (negsuc n) u = refl

  pub high_end : lt_z read (pos 134217728) ≡ false → false ≡ in_signed28 value
  high_end t = by value (rw e at t) where
    by : (x : ℤ) → lt_z x (pos 134217728) ≡ false → false ≡ in_signed28 x
    by (pos n) u = sym u
    by (negsuc n) u = cc

pub zero_bits : (value : ℤ) → SFits w64 value → eqb (of_z w64 value) 0 ≡ is_zero value
zero_bits (pos n) f = refl
zero_bits (negsuc n) f =
    let h : n < 2 ^ 63 = f.sfits in
    ne_eqb (2 ^ 64 - suc n) 0 (λ k. omega arith)
