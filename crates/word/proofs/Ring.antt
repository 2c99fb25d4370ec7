-- The laws of words: a commutative ring, for all numbers. Assumes nothing.
use Rattle.std.proofs.Common.{◌≡◌, ℕ, ◌+◌, ◌*◌, ◌/◌, ◌%◌, ◌^◌, ◌<◌, sym, refl, ap, ◌∙◌, add-zero as nat-add-zero, mod-lt, mod-eq_of_lt, mul_comm as nat-mul-comm, zero-add as nat-zero-add, arith}
use native.Mathlib.Nat.{add-mul-mod_self_left, mod-mod, mod-add-mod, add-mod-mod, div-add-mod, mul-add-mod_self_left, zero-mod}
use Rattle.word.specs.Word.{modulus, minus_one, ◌⊕◌, ◌⊗◌, ◌⊖◌}

-- ---- remainders inside remainders

mul_mod_left : (m a b : ℕ) → (a % m * b) % m ≡ (a * b) % m
mul_mod_left m a b =
    sym (mul-add-mod_self_left m (a / m * b) (a % m * b))
    ∙ ap (◌% m) (let q : (m * (a / m) + a % m) * b ≡ a * b = ap (◌* b) (div-add-mod a m) in omega arith)

mul_mod_right : (m a b : ℕ) → (a * (b % m)) % m ≡ (a * b) % m
mul_mod_right m a b = rw (nat-mul-comm a (b % m), nat-mul-comm a b) (mul_mod_left m b a)

add_mul_mod : (m a k x : ℕ) → (a + k * (x % m)) % m ≡ (a + k * x) % m
add_mul_mod m a k x =
    sym (add-mod-mod a (k * (x % m)) m) ∙ ap (λ v. (a + v) % m) (mul_mod_right m k x) ∙ add-mod-mod a (k * x) m

ruleset reduce = (mod-mod, mod-add-mod, add-mod-mod, mul_mod_left, mul_mod_right, add_mul_mod)

modulus_is : modulus ≡ minus_one + 1
unfolding modulus minus_one
modulus_is = refl

-- ---- sums and products

pub add_comm : (a b : ℕ) → a ⊕ b ≡ b ⊕ a
unfolding ◌⊕◌
add_comm a b = ap (◌% modulus) (omega arith)

pub add_assoc : (a b c : ℕ) → (a ⊕ b) ⊕ c ≡ a ⊕ (b ⊕ c)
unfolding ◌⊕◌
add_assoc a b c = simp reduce (ap (◌% modulus) (omega arith))

pub mul_comm : (a b : ℕ) → a ⊗ b ≡ b ⊗ a
unfolding ◌⊗◌
mul_comm a b = ap (◌% modulus) (omega arith)

pub mul_assoc : (a b c : ℕ) → (a ⊗ b) ⊗ c ≡ a ⊗ (b ⊗ c)
unfolding ◌⊗◌
mul_assoc a b c = simp reduce (ap (◌% modulus) (omega arith))

pub mul_left_comm : (a b c : ℕ) → a ⊗ (b ⊗ c) ≡ b ⊗ (a ⊗ c)
unfolding ◌⊗◌
mul_left_comm a b c = simp reduce (ap (◌% modulus) (omega arith))

pub mul_add : (a b c : ℕ) → a ⊗ (b ⊕ c) ≡ a ⊗ b ⊕ a ⊗ c
unfolding ◌⊗◌ ◌⊕◌
mul_add a b c = simp reduce (ap (◌% modulus) (omega arith))

-- ---- differences

pub mul_sub : (a b c : ℕ) → a ⊗ (b ⊖ c) ≡ a ⊗ b ⊖ a ⊗ c
unfolding ◌⊗◌ ◌⊖◌
mul_sub a b c = simp reduce (ap (◌% modulus) (omega arith))

pub sub_mul : (a b c : ℕ) → (a ⊖ b) ⊗ c ≡ a ⊗ c ⊖ b ⊗ c
unfolding ◌⊗◌ ◌⊖◌
sub_mul a b c = simp reduce (ap (◌% modulus) (omega arith))

pub add_sub : (a b c d : ℕ) → (a ⊖ c) ⊕ (b ⊖ d) ≡ (a ⊕ b) ⊖ (c ⊕ d)
unfolding ◌⊕◌ ◌⊖◌
add_sub a b c d = simp reduce (ap (◌% modulus) (omega arith))

pub sub_sub : (a b c d : ℕ) → (a ⊖ c) ⊖ (b ⊖ d) ≡ (a ⊖ b) ⊖ (c ⊖ d)
unfolding ◌⊖◌
sub_sub a b c d = simp reduce (ap (◌% modulus) (omega arith))

-- What was added and is taken away again goes.
pub add_then_sub : (p a : ℕ) → (p ⊕ a) ⊖ p ≡ a % modulus
unfolding ◌⊖◌ ◌⊕◌
add_then_sub p a =
    simp reduce (ap (◌% modulus) {y = a + modulus * p} (rw modulus_is (omega arith)) ∙ add-mul-mod_self_left _ _ _)

-- The four corners of a rectangle: what lies outside on two sides goes.
pub corners : (p q a b : ℕ) → ((p ⊕ a) ⊖ (q ⊕ b)) ⊖ p ⊕ q ≡ a ⊖ b
unfolding ◌⊖◌ ◌⊕◌
corners p q a b =
    simp reduce
    (ap (◌% modulus) {y = a + minus_one * b + modulus * (p + q)} (rw modulus_is (omega arith))
    ∙ add-mul-mod_self_left _ _ _)

-- Four corners make 0 where the two that are added are together the two that are taken away.
pub corners_cancel : (a b c d : ℕ) → a + d ≡ b + c → a ⊖ b ⊖ c ⊕ d ≡ 0
unfolding ◌⊖◌ ◌⊕◌
corners_cancel a b c d e =
    simp reduce
    (ap (◌% modulus) {y = 0 + modulus * (b + c)} (rw modulus_is (omega (arith, e)))
    ∙ add-mul-mod_self_left _ _ _
    ∙ zero-mod modulus)

-- ---- 0, 1 and -1

pub zero_add : 0 ⊕ 0 ≡ 0
unfolding ◌⊕◌
zero_add = ap (◌% modulus) {y = 0} (omega arith) ∙ zero-mod modulus

pub zero_sub : 0 ⊖ 0 ≡ 0
unfolding ◌⊖◌
zero_sub = ap (◌% modulus) {y = 0} (omega arith) ∙ zero-mod modulus

pub mul_zero : (a : ℕ) → a ⊗ 0 ≡ 0
unfolding ◌⊗◌
mul_zero a = ap (◌% modulus) {y = 0} (omega arith) ∙ zero-mod modulus

pub zero_mul : (a : ℕ) → 0 ⊗ a ≡ 0
unfolding ◌⊗◌
zero_mul a = ap (◌% modulus) {y = 0} (omega arith) ∙ zero-mod modulus

pub zero_left : (a : ℕ) → 0 ⊕ a ≡ a % modulus
unfolding ◌⊕◌
zero_left a = rw nat-zero-add

pub zero_right : (a : ℕ) → a ⊕ 0 ≡ a % modulus
unfolding ◌⊕◌
zero_right a = rw nat-add-zero

pub sub_zero : (a : ℕ) → a ⊖ 0 ≡ a % modulus
unfolding ◌⊖◌
sub_zero a = ap (◌% modulus) (omega arith)

pub one_mul : (a : ℕ) → 1 ⊗ a ≡ a % modulus
unfolding ◌⊗◌
one_mul a = ap (◌% modulus) (omega arith)

twice : (u s v : ℕ) → 1 * v + (u + 1) * ((u + 1) * s) ≡ s + v + (u + 2) * (u * s)
twice u s v = omega arith

twice_minus : (s v : ℕ) → 1 * v + minus_one * (minus_one * s) ≡ s + v + modulus * (18446744073709551614 * s)
unfolding modulus minus_one
twice_minus s v = twice 18446744073709551614 s v

-- Feedback of -1 adds up.
pub feedback_adds : (s v : ℕ) → 1 ⊗ v ⊖ minus_one ⊗ s ≡ s ⊕ v
unfolding ◌⊗◌ ◌⊖◌ ◌⊕◌
feedback_adds s v = simp reduce (ap (◌% modulus) (twice_minus s v) ∙ add-mul-mod_self_left _ _ _)

-- ---- results are reduced

pub add_reduced : (a b : ℕ) → (a ⊕ b) % modulus ≡ a ⊕ b
unfolding ◌⊕◌
add_reduced a b = mod-mod _ _

pub mul_reduced : (a b : ℕ) → (a ⊗ b) % modulus ≡ a ⊗ b
unfolding ◌⊗◌
mul_reduced a b = mod-mod _ _

pub sub_reduced : (a b : ℕ) → (a ⊖ b) % modulus ≡ a ⊖ b
unfolding ◌⊖◌
sub_reduced a b = mod-mod _ _

-- Reducing commutes with the operations.
pub reduce_mul : (a b : ℕ) → (a ⊗ b) % modulus ≡ a ⊗ (b % modulus)
unfolding ◌⊗◌
reduce_mul a b = simp reduce

pub reduce_sub : (a b : ℕ) → (a ⊖ b) % modulus ≡ a % modulus ⊖ b % modulus
unfolding ◌⊖◌
reduce_sub a b = simp reduce

pub reduced_small : (a : ℕ) → a < 2 ^ 64 → a % modulus ≡ a
unfolding modulus
reduced_small a h = mod-eq_of_lt h

pub add_small : (a b : ℕ) → a ⊕ b < 2 ^ 64
unfolding ◌⊕◌ modulus
add_small a b = omega arith

pub mul_small : (a b : ℕ) → a ⊗ b < 2 ^ 64
unfolding ◌⊗◌ modulus
mul_small a b = omega arith

pub sub_small : (a b : ℕ) → a ⊖ b < 2 ^ 64
unfolding ◌⊖◌ modulus
sub_small a b = mod-lt _ (omega arith)
