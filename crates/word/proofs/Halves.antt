-- A product from halves of 32 bits is the product modulo 2^64. Assumes nothing.
use Rattle.std.proofs.Common.{◌≡◌, ℕ, ◌+◌, ◌*◌, ◌/◌, ◌%◌, ◌^◌, ◌<◌, ◌∙◌, lt_of_le_of_lt, le_of_lt, mul-le-mul_left, div-add-mod', arith, shl_lt, w64, Fits}
use Rattle.word.specs.Word.{modulus, ◌⊗◌}

-- A product of two halves fits a word.
pub half_product_fits : {x y : ℕ} → x < 2 ^ 32 → y < 2 ^ 32 → Fits w64 (x * y)
half_product_fits {x} hx hy =
    record { fits = lt_of_le_of_lt (mul-le-mul_left x (le_of_lt hy)) (shl_lt 32 32 hx) }

-- The cross products count 2^32 times, and the product of the upper halves not at all.
halves : (l h k j : ℕ)
    → (((l * j + k * h) % 2 ^ 64 * 2 ^ 32) % 2 ^ 64 + l * k) % 2 ^ 64 ≡ ((h * 2 ^ 32 + l) * (j * 2 ^ 32 + k)) % 2 ^ 64
halves l h k j = omega arith

pub product_is : (a b : ℕ)
    → (((a % 2 ^ 32 * (b / 2 ^ 32) + b % 2 ^ 32 * (a / 2 ^ 32)) % 2 ^ 64 * 2 ^ 32) % 2 ^ 64 + a % 2 ^ 32 * (b % 2 ^ 32)) % 2 ^ 64
    ≡ a ⊗ b
unfolding ◌⊗◌ modulus
product_is a b = halves (a % 2 ^ 32) (a / 2 ^ 32) (b % 2 ^ 32) (b / 2 ^ 32) ∙ simp div-add-mod'
