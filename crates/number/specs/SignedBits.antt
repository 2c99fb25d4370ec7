-- Signed numbers: a test that two are equal; those of a width of one bit or more, two's complement: their range, the
-- signed number that a number of so many bits stands for, and the number that stands for a signed one. `negsuc n` is
-- -(n + 1).
use Rattle.std.specs.Prelude.{Bool, false, cond, ℕ, suc, ◌-◌, ◌^◌, ℤ, pos, negsuc, ltb, eqb}

-- The test that two signed numbers are equal.
abbrev pub eq_z : ℤ → ℤ → Bool
eq_z (pos a) (pos b) = eqb a b
eq_z (pos a) (negsuc b) = false
eq_z (negsuc a) (pos b) = false
eq_z (negsuc a) (negsuc b) = eqb a b

-- From -2^(bits-1) to 2^(bits-1) - 1.
abbrev pub in_signed : (bits : ℕ) → ℤ → Bool
in_signed bits (pos n) = ltb n (2 ^ (bits - 1))
in_signed bits (negsuc n) = ltb n (2 ^ (bits - 1))

-- A number below 2^bits as a signed one: less 2^bits where its top bit is set.
unfoldable pub twos_complement : (bits : ℕ) → ℕ → ℤ
twos_complement bits n = cond (ltb n (2 ^ (bits - 1))) (pos n) (negsuc (2 ^ bits - suc n))

-- The number below 2^bits that stands for a signed one: 2^bits more where that is below 0.
abbrev pub signed_bits : (bits : ℕ) → ℤ → ℕ
signed_bits bits (pos n) = n
signed_bits bits (negsuc n) = 2 ^ bits - suc n
