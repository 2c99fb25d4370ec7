-- What the test that two signed numbers are equal says; two's complement by the sign, its range, and that reading bits
-- and taking bits undo each other, whatever the width; what the machine makes of it. Assumes nothing.
use mathlib.Core.Path.{◌≡◌, refl, sym, ap, ◌∙◌}
use mathlib.Core.Bool.{Bool, true, false, true≢false}
use mathlib.Core.Logic.{⊎_elim}
use Prim.Native.Nat.{ℕ, zero, suc, ◌+◌, ◌-◌, ◌<◌, ◌≤◌, ◌^◌}
use native.Mathlib.Nat.{two-pow-succ}
use native.Mathlib.Omega.{arith}
use lib.IntN.{ℤ, pos, negsuc, ◌-ℤ◌}
use mir.Syntax.{Width, w64}
use mir.Val.{hbits, SFits, to_z, of_z}
use mir.ValLaws.{to_z_pos, to_z-of_z}
use borrow.Author.Tests.{lt-ltb, le-ltb, ltb-true, eqb-true, eq-eqb}
use Rattle.number.specs.SignedBits.{eq_z, in_signed, twos_complement, signed_bits}
use Rattle.number.proofs.Tests.{lt_or_ge}

pub eq_z_true : (a b : ℤ) → eq_z a b ≡ true → a ≡ b
eq_z_true (pos a) (pos b) e = ap pos (eqb-true a b e)
eq_z_true (pos a) (negsuc b) e = absurd (true≢false (sym e))
eq_z_true (negsuc a) (pos b) e = absurd (true≢false (sym e))
eq_z_true (negsuc a) (negsuc b) e = ap negsuc (eqb-true a b e)

pub eq_z_refl : (a : ℤ) → eq_z a a ≡ true
eq_z_refl (pos a) = eq-eqb a a refl
eq_z_refl (negsuc a) = eq-eqb a a refl

pub eq_z_false : (a b : ℤ) → (a ≡ b → ⊥) → eq_z a b ≡ false
eq_z_false a b other = by (eq_z a b) refl
  where
    by : (t : Bool) → eq_z a b ≡ t → t ≡ false
    by true e = absurd (other (eq_z_true a b e))
    by false e = refl

module _ (bits n : ℕ) where
  pub complement_low : n < 2 ^ (bits - 1) → twos_complement bits n ≡ pos n
  unfolding twos_complement
  complement_low low = simp (lt-ltb n (2 ^ (bits - 1)) low)

  pub complement_high : 2 ^ (bits - 1) ≤ n → twos_complement bits n ≡ negsuc (2 ^ bits - suc n)
  unfolding twos_complement
  complement_high high = simp (le-ltb n (2 ^ (bits - 1)) high)

two_halves : (bits : ℕ) → 0 < bits → 2 ^ bits ≡ 2 ^ (bits - 1) + 2 ^ (bits - 1)
two_halves zero some = absurd (omega arith)
two_halves (suc fewer) some = let e : suc fewer - 1 ≡ fewer = omega arith in rw e (two-pow-succ fewer)

module _ (bits : ℕ) (some : 0 < bits) where
  -- What bits are read as is a number of so many signed bits,
  pub complement_kept : (n : ℕ) → n < 2 ^ bits → in_signed bits (twos_complement bits n) ≡ true
  complement_kept n h =
      ⊎_elim (λ l. rw (complement_low bits n l) (lt-ltb n (2 ^ (bits - 1)) l))
      (λ l. rw (complement_high bits n l) (lt-ltb (2 ^ bits - suc n) (2 ^ (bits - 1)) (omega (arith, two_halves bits some))))
      (lt_or_ge n (2 ^ (bits - 1)))

  -- and has these bits.
  pub bits_of_complement : (n : ℕ) → n < 2 ^ bits → signed_bits bits (twos_complement bits n) ≡ n
  bits_of_complement n h =
      ⊎_elim (λ l. rw (complement_low bits n l)) (λ l. rw (complement_high bits n l) (omega arith))
      (lt_or_ge n (2 ^ (bits - 1)))

  -- The bits of a number of so many signed bits are read as that number.
  pub complement_of_bits : (z : ℤ) → in_signed bits z ≡ true → twos_complement bits (signed_bits bits z) ≡ z
  complement_of_bits (pos n) kept = complement_low bits n (ltb-true n (2 ^ (bits - 1)) kept)
  complement_of_bits (negsuc n) kept =
      let h = ltb-true n (2 ^ (bits - 1)) kept in
      let e : 2 ^ bits - suc (2 ^ bits - suc n) ≡ n = omega (arith, two_halves bits some) in
      complement_high bits (2 ^ bits - suc n) (omega (arith, two_halves bits some)) ∙ ap negsuc e

-- ---- the machine

-- A signed answer, as the machine reads it back from its bits.
pub read_back_law : {w : Width} {z answer : ℤ} → SFits w z → z ≡ answer → to_z w (of_z w z) ≡ answer
read_back_law {w} {z} fits e = to_z-of_z w z fits ∙ e

-- Below the top bit a number is read as itself;
pub read_low : (w : Width) (bits n : ℕ) → n < 2 ^ (bits - 1) → n < 2 ^ hbits w → to_z w n ≡ twos_complement bits n
read_low w bits n low fits = to_z_pos w n fits ∙ sym (complement_low bits n low)

lowered : (limit n : ℕ) → n < limit → limit < 2 ^ 63 → to_z w64 n -ℤ pos limit ≡ negsuc (limit - suc n)
lowered zero n bounded small = absurd (omega arith)
lowered (suc most) n bounded small = rw (to_z_pos w64 n (omega arith)) (simp (lt-ltb n (suc most) bounded))

-- with the top bit set, 2^bits is taken away, on 64 bits.
module _ (bits n : ℕ) (bounded : n < 2 ^ bits) (small : 2 ^ bits < 2 ^ 63) where
  pub lowered_fits : SFits w64 (to_z w64 n -ℤ pos (2 ^ bits))
  lowered_fits = rw (lowered (2 ^ bits) n bounded small) (record { sfits = omega arith })

  pub read_high : 2 ^ (bits - 1) ≤ n → to_z w64 (of_z w64 (to_z w64 n -ℤ pos (2 ^ bits))) ≡ twos_complement bits n
  read_high high = read_back_law lowered_fits (lowered (2 ^ bits) n bounded small ∙ sym (complement_high bits n high))
