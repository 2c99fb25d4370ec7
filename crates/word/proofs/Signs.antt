-- A signed machine number: its bits, its sign, and the number that bits are read as. Assumes nothing.
use Rattle.std.proofs.Common.{◌≡◌, ℕ, suc, ◌-◌, ◌^◌, ◌<◌, Bool, true, false, cond, ℤ, pos, negsuc, sym, refl, ap, ◌∙◌, arith, w64, SFits, to_z, of_z, ltb, ltb-true}
use lib.Signed.{lt_z}
use mir.Val.{sel}
use mir.ValLaws.{to_z-of_z}
use Rattle.number.specs.SignedBits.{twos_complement}
use Rattle.word.specs.Word.{residue, signed}
use Rattle.word.proofs.Residues.{residue_negative, residue_not_negative}

-- ---- by its bits

-- The bits of a signed number are its residue.
pub bits_are_residue : (z : ℤ) → SFits w64 z → of_z w64 z ≡ residue z
bits_are_residue (pos n) f = residue_not_negative n f.sfits
bits_are_residue (negsuc n) f = residue_negative n f.sfits

-- The number that a word's bits are read as is its signed reading.
pub read_is_signed : (word : ℕ) → to_z w64 word ≡ signed word
unfolding signed twos_complement
read_is_signed word = by (ltb word (2 ^ 63))
  where
    by : (low : Bool)
        → sel low (pos word) (negsuc (2 ^ 64 - suc word)) ≡ cond low (pos word) (negsuc (2 ^ 64 - suc word))
    by true = refl
    by false = refl

-- ---- by its sign

-- What the machine reads back of a number's bits.
abbrev pub read_back : ℤ → ℤ
read_back z = to_z w64 (of_z w64 z)

pub record Negative (z : ℤ) : Type 0 where
  pub size : ℕ
  pub is : z ≡ negsuc size
  pub small : size < 2 ^ 63

pub record NotNegative (z : ℤ) : Type 0 where
  pub size : ℕ
  pub is : z ≡ pos size
  pub small : size < 2 ^ 63
  pub back : read_back z ≡ pos size

pub negative : (z : ℤ) → SFits w64 z → lt_z (read_back z) (pos 0) ≡ true → Negative z
negative (pos n) f e =
    absurd (omega (arith, ltb-true n 0 (sym (ap (λ z. lt_z z (pos 0)) (to_z-of_z w64 (pos n) f)) ∙ e)))
negative (negsuc n) f e = record { size = n; is = refl; small = f.sfits }

pub not_negative : (z : ℤ) → SFits w64 z → lt_z (read_back z) (pos 0) ≡ false → NotNegative z
not_negative (pos n) f e = record { size = n; is = refl; small = f.sfits; back = to_z-of_z w64 (pos n) f }
not_negative (negsuc n) f e =
    let q : true ≡ false = sym (ap (λ z. lt_z z (pos 0)) (to_z-of_z w64 (negsuc n) f)) ∙ e in
    let z : ◌≡◌ {A = ℕ} 0 1 = cc in
    absurd (omega arith)
