-- Words of 64 bits as numbers modulo 2^64, the residue of a signed number, and a word read as signed.
-- Each operation reduces its result, so that the laws of the ring hold of all numbers, reduced or not.
use Rattle.std.specs.Prelude.{ℕ, suc, ◌+◌, ◌*◌, ◌%◌, ℤ, pos, negsuc}
use Rattle.number.specs.SignedBits.{twos_complement}

infixl 60 ◌⊕◌ ◌⊖◌
infixl 70 ◌⊗◌
-- 2^64.
unfoldable pub modulus : ℕ
modulus = 18446744073709551616

-- 2^64 - 1, the residue of -1.
unfoldable pub minus_one : ℕ
minus_one = 18446744073709551615

-- The sum modulo 2^64.
unfoldable pub ◌⊕◌ : ℕ → ℕ → ℕ
a ⊕ b = (a + b) % modulus

-- The product modulo 2^64.
unfoldable pub ◌⊗◌ : ℕ → ℕ → ℕ
a ⊗ b = (a * b) % modulus

-- The difference modulo 2^64: taking b away is adding it 2^64 - 1 times.
unfoldable pub ◌⊖◌ : ℕ → ℕ → ℕ
a ⊖ b = (a + minus_one * b) % modulus

-- The residue modulo 2^64 of a signed number: `negsuc n` is -(n + 1).
unfoldable pub residue : ℤ → ℕ
residue (pos n) = n % modulus
residue (negsuc n) = (minus_one * suc n) % modulus

-- A word, so below 2^64, read as a signed number: the one from -2^63 to 2^63 - 1 with that residue (`SignedReading`).
unfoldable pub signed : ℕ → ℤ
signed word = twos_complement 64 word
