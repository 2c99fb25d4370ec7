-- Residues of signed numbers: the residue of a sum is the sum of the residues, likewise of a difference, and a residue is
-- a word.
-- Assumes nothing.
use Rattle.std.proofs.Common.{◌≡◌, ℕ, suc, ◌+◌, ◌-◌, ◌*◌, ◌%◌, ◌^◌, ◌<◌, ◌≤◌, Bool, true, false, cond, not, T, ltb, ℤ, pos, negsuc, ◌+ℤ◌, ◌-ℤ◌, sym, refl, ap, ◌∙◌, mod-lt, mod-eq_of_lt, arith, ltb→lt, nltb→le}
use native.Mathlib.Nat.{add-mul-mod_self_left, mod-add-mod, add-mod-mod, zero-mod}
use lib.IntN.{sub_ℕ, -ℤ-+ℤ_cancel}
use Rattle.word.specs.Word.{modulus, minus_one, ◌⊕◌, ◌⊖◌, residue}
use Rattle.word.proofs.Ring.{add_comm, add_then_sub, reduced_small}

modulus_is : modulus ≡ minus_one + 1
unfolding modulus minus_one
modulus_is = refl

cond_ind : {A : Type 0} (P : A → Type 0) (c : Bool) (x y : A) → (T c → P x) → (T (not c) → P y) → P (cond c x y)
cond_ind P true x y f g = f tt
cond_ind P false x y f g = g tt

-- The residue of a difference of two numbers.
residue_subℕ : (a b : ℕ) → residue (sub_ℕ a b) ≡ (a + minus_one * b) % modulus
unfolding residue
residue_subℕ a b =
    cond_ind (λ z. residue z ≡ (a + minus_one * b) % modulus) (ltb a b) (negsuc (b - suc a)) (pos (a - b))
    (λ t.
    let l : a < b = ltb→lt a b t in
    sym
    (ap (◌% modulus) {y = minus_one * suc (b - suc a) + modulus * a}
    (rw modulus_is (below a (b - suc a) b minus_one (omega arith)))
    ∙ add-mul-mod_self_left _ _ _))
    (λ t.
    let l : b ≤ a = nltb→le a b t in
    sym
    (ap (◌% modulus) {y = a - b + modulus * b} (rw modulus_is (above a (a - b) b minus_one (omega arith)))
    ∙ add-mul-mod_self_left _ _ _))
  where
    below : (a c b m : ℕ) → b ≡ a + suc c → a + m * b ≡ m * suc c + (m + 1) * a
    below a c b m e = rw e (omega arith)

    above : (a c b m : ℕ) → a ≡ b + c → a + m * b ≡ c + (m + 1) * b
    above a c b m e = rw e (omega arith)

pub residue_add : (a b : ℤ) → residue (a +ℤ b) ≡ residue a ⊕ residue b
unfolding residue ◌⊕◌
residue_add (pos a) (pos b) = simp (mod-add-mod, add-mod-mod)
residue_add (pos a) (negsuc b) = residue_subℕ a (suc b) ∙ simp (mod-add-mod, add-mod-mod)
residue_add (negsuc a) (pos b) =
    residue_subℕ b (suc a) ∙ simp (mod-add-mod, add-mod-mod) (ap (◌% modulus) (omega arith))
residue_add (negsuc a) (negsuc b) = simp (mod-add-mod, add-mod-mod) (ap (◌% modulus) (omega arith))

pub residue_zero : residue (pos 0) ≡ 0
unfolding residue
residue_zero = zero-mod modulus

pub residue_small : (a : ℤ) → residue a < 2 ^ 64
unfolding residue modulus
residue_small (pos n) = mod-lt _ (omega arith)
residue_small (negsuc n) = mod-lt _ (omega arith)

-- The residue of a difference is the difference of the residues.
pub residue_sub : (a b : ℤ) → residue (a -ℤ b) ≡ residue a ⊖ residue b
residue_sub a b =
    sym (reduced_small (residue (a -ℤ b)) (residue_small (a -ℤ b)))
    ∙ sym (add_then_sub (residue b) (residue (a -ℤ b)))
    ∙ ap (◌⊖ residue b)
    (add_comm (residue b) (residue (a -ℤ b)) ∙ sym (residue_add (a -ℤ b) b) ∙ ap residue (-ℤ-+ℤ_cancel a b))

-- The residue of a number of signed 64 bits, by its sign.
pub residue_not_negative : (n : ℕ) → n < 2 ^ 63 → n ≡ residue (pos n)
unfolding residue modulus
residue_not_negative n h = sym (mod-eq_of_lt (omega arith))

pub residue_negative : (n : ℕ) → n < 2 ^ 63 → 2 ^ 64 - suc n ≡ residue (negsuc n)
unfolding residue modulus minus_one
residue_negative n h =
    sym
    (ap (◌% 2 ^ 64) {y = (2 ^ 64 - suc n) + 2 ^ 64 * n} (omega arith)
    ∙ add-mul-mod_self_left (2 ^ 64 - suc n) (2 ^ 64) n
    ∙ mod-eq_of_lt (omega arith))
