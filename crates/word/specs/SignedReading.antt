-- The signed reading of words, document 02, CR 2: what it is, and what it gives at zero and at both ends.
use Rattle.std.specs.Prelude.{◌≡◌, ℕ, ◌-◌, ◌^◌, ◌<◌, true, ℤ, pos, neg_ℤ}
use Rattle.number.specs.SignedBits.{in_signed}
use Rattle.word.specs.Word.{residue, signed}

-- A word is read as a number from -2^63 to 2^63 - 1 whose residue it is, and no other number there has that residue.
-- The word 0 is read as 0, 2^63 - 1 as itself, 2^63 as -2^63 and 2^64 - 1 as -1.
pub record SignedReading : Type 0 where
  pub in_range : (word : ℕ) → word < 2 ^ 64 → in_signed 64 (signed word) ≡ true
  pub has_residue : (word : ℕ) → word < 2 ^ 64 → residue (signed word) ≡ word
  pub no_other : (number : ℤ) → in_signed 64 number ≡ true → signed (residue number) ≡ number
  pub at_zero : signed 0 ≡ pos 0
  pub at_greatest : signed (2 ^ 63 - 1) ≡ pos (2 ^ 63 - 1)
  pub at_least : signed (2 ^ 63) ≡ neg_ℤ (pos (2 ^ 63))
  pub at_last : signed (2 ^ 64 - 1) ≡ neg_ℤ (pos 1)
