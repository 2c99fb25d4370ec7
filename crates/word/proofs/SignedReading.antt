-- A word read as signed: the one number of signed 64 bits with that residue. Assumes nothing.
use Rattle.std.proofs.Common.{◌≡◌, ℕ, ◌-◌, ◌^◌, ◌<◌, true, ℤ, pos, negsuc, neg_ℤ, sym, refl, ap, ◌∙◌, arith, ltb-true}
use Rattle.number.specs.SignedBits.{in_signed, twos_complement, signed_bits}
use Rattle.number.proofs.SignedBits.{complement_kept, bits_of_complement, complement_of_bits}
use Rattle.word.specs.Word.{residue, signed}
use Rattle.word.specs.SignedReading.{SignedReading}
use Rattle.word.proofs.Residues.{residue_not_negative, residue_negative}

-- ---- zero and both ends

signed_zero : signed 0 ≡ pos 0
unfolding signed twos_complement
signed_zero = refl

signed_greatest : signed (2 ^ 63 - 1) ≡ pos (2 ^ 63 - 1)
unfolding signed twos_complement
signed_greatest = refl

signed_least : signed (2 ^ 63) ≡ neg_ℤ (pos (2 ^ 63))
unfolding signed twos_complement
signed_least = refl

signed_last : signed (2 ^ 64 - 1) ≡ neg_ℤ (pos 1)
unfolding signed twos_complement
signed_last = refl

-- ---- residues

-- The residue of a number of signed 64 bits is its bits.
residue_bits : (z : ℤ) → in_signed 64 z ≡ true → residue z ≡ signed_bits 64 z
residue_bits (pos n) kept = sym (residue_not_negative n (ltb-true n (2 ^ 63) kept))
residue_bits (negsuc n) kept = sym (residue_negative n (ltb-true n (2 ^ 63) kept))

signed_in_range : (word : ℕ) → word < 2 ^ 64 → in_signed 64 (signed word) ≡ true
unfolding signed
signed_in_range word h = complement_kept 64 (omega arith) word h

residue_of_signed : (word : ℕ) → word < 2 ^ 64 → residue (signed word) ≡ word
unfolding signed
residue_of_signed word h =
    residue_bits (signed word) (signed_in_range word h) ∙ bits_of_complement 64 (omega arith) word h

signed_of_residue : (z : ℤ) → in_signed 64 z ≡ true → signed (residue z) ≡ z
unfolding signed
signed_of_residue z kept = ap (twos_complement 64) (residue_bits z kept) ∙ complement_of_bits 64 (omega arith) z kept

pub signed_reading : SignedReading
signed_reading =
    record {
      in_range = signed_in_range;
      has_residue = residue_of_signed;
      no_other = signed_of_residue;
      at_zero = signed_zero;
      at_greatest = signed_greatest;
      at_least = signed_least;
      at_last = signed_last;
    }
