-- Linear ways of combining are weighted sums: each is known from its values at the unit histories. For a pass over zero
-- inputs those values are the link square.
-- Assumes nothing.
use mathlib.Core.Path.{◌≡◌, refl, ap, ap₂, sym, ◌∙◌, fun_ext}
use mathlib.Core.Logic.{⊎_elim}
use Prim.Native.Nat.{ℕ, zero, suc, ◌%◌, ◌≤◌, ◌<◌, ◌^◌}
use native.Mathlib.Nat.{mod-mod, eq-or-lt_of_le}
use native.Mathlib.Omega.{arith}
use Rattle.word.specs.Word.{modulus, minus_one, ◌⊕◌, ◌⊖◌, ◌⊗◌}
use Rattle.word.proofs.Ring.{zero_left, zero_right, zero_add, zero_sub, mul_zero, one_mul, mul_comm, feedback_adds, reduced_small}
use Rattle.passes.specs.Filter.{Filter}
use Rattle.axis.specs.Axis.{Direction}
use Rattle.passes.specs.Passes.{filter_line}
use Rattle.passes.specs.Square.{unit_history, weighted_sum}
use Rattle.passes.proofs.Linear.{Linear, pair, linear_zero, linear_sub, linear_mul}
use Rattle.passes.proofs.Passes.{filter_line_linear}
use Rattle.passes.specs.Table.{sum_of}

-- ---- unit histories

unit_same : (k : ℕ) → unit_history k k ≡ 1
unfolding unit_history
unit_same zero = refl
unit_same (suc k) = unit_same k

unit_apart : (j k : ℕ) → (j ≡ k → ⊥) → unit_history j k ≡ 0
unfolding unit_history
unit_apart zero zero e = absurd (e refl)
unit_apart zero (suc k) e = refl
unit_apart (suc j) zero e = refl
unit_apart (suc j) (suc k) e = unit_apart j k (λ q. e (ap suc q))

units_past : (r : ℕ) (p : ℕ → ℕ) (k : ℕ) → r ≤ k → weighted_sum r p (λ j. unit_history j k) ≡ 0
unfolding weighted_sum sum_of
units_past zero p k h = refl
units_past (suc r) p k h = rw (units_past r p k (omega arith), unit_apart r k (omega arith), mul_zero, zero_add)

-- The unit histories weighted by p are p.
units_inside : (r : ℕ) (p : ℕ → ℕ) (k : ℕ) → k < r → weighted_sum r p (λ j. unit_history j k) ≡ p k % modulus
unfolding weighted_sum sum_of
units_inside zero p k h = absurd (omega arith)
units_inside (suc r) p k h =
    ⊎_elim
    (λ (e : suc k ≡ suc r).
    let q : k ≡ r = omega arith in
    rw (q, units_past r p r (omega arith), unit_same, mul_comm, one_mul, zero_left, mod-mod))
    (λ (l : suc k < suc r).
    rw (units_inside r p k (omega arith), unit_apart r k (omega arith), mul_zero, zero_right, mod-mod))
    (eq-or-lt_of_le h)

-- ---- every linear way of combining is a weighted sum

-- What keeps differences and multiples keeps sums
pub linear_sum : {J : Type 0} {F : (J → ℕ) → ℕ} → Linear F → (a b : J → ℕ) → F (λ j. a j ⊕ b j) ≡ F a ⊕ F b
linear_sum {F = F} L a b =
    ap F (fun_ext (λ j. sym (feedback_adds (a j) (b j))))
    ∙ L.sub (λ j. 1 ⊗ b j) (λ j. minus_one ⊗ a j)
    ∙ ap₂ ◌⊖◌ (L.mul 1 b) (L.mul minus_one a)
    ∙ feedback_adds _ _

-- and residues.
pub linear_residue : {J : Type 0} {F : (J → ℕ) → ℕ} → Linear F → (a : J → ℕ) → F (λ j. a j % modulus) ≡ F a % modulus
linear_residue {F = F} L a = ap F (fun_ext (λ j. sym (one_mul (a j)))) ∙ L.mul 1 a ∙ one_mul _

linear_weighted_sum : {J : Type 0} {F : (J → ℕ) → ℕ} → Linear F → (r : ℕ) (p : ℕ → ℕ) (v : ℕ → J → ℕ)
    → F (λ i. weighted_sum r p (λ j. v j i)) ≡ weighted_sum r p (λ j. F (v j))
unfolding weighted_sum sum_of
linear_weighted_sum L zero p v = linear_zero L
linear_weighted_sum L (suc r) p v =
    linear_sum L _ (λ i. p r ⊗ v r i) ∙ ap₂ ◌⊕◌ (linear_weighted_sum L r p v) (L.mul (p r) (v r))

-- A linear way of combining a history that reads r places of it, with words for results, is the weighted sum of its
-- values at the unit histories.
pub linear_is_weighted_sum : {F : (ℕ → ℕ) → ℕ} → Linear F → (r : ℕ)
    → ((p q : ℕ → ℕ) → ((k : ℕ) → k < r → p k ≡ q k) → F p ≡ F q) → ((p : ℕ → ℕ) → F p < 2 ^ 64)
    → (p : ℕ → ℕ) → F p ≡ weighted_sum r p (λ j. F (unit_history j))
linear_is_weighted_sum {F} L r reads small p =
    sym (reduced_small _ (small p))
    ∙ sym (linear_residue L p)
    ∙ reads _ _ (λ k h. sym (units_inside r p k h))
    ∙ linear_weighted_sum L r p unit_history

-- ---- a pass whose history and input are linear combinations

pub linear_none : {J : Type 0} → Linear (λ (v : J → ℕ). 0)
linear_none = record { sub = λ a b. sym zero_sub; mul = λ c a. sym (mul_zero c) }

pub linear_place : {J : Type 0} (j : J) → Linear (λ (v : J → ℕ). v j)
linear_place j = record { sub = λ a b. refl; mul = λ c a. refl }

-- Where each place of the history P and of the input X is a linear combination, so is each output.
pub linear_filter_line : {J : Type 0} {P X : (J → ℕ) → ℕ → ℕ} → ((k : ℕ) → Linear (λ v. P v k))
    → ((k : ℕ) → Linear (λ v. X v k)) → (d : Direction) (f : Filter) (n i : ℕ)
    → Linear (λ v. filter_line d f n (P v) (X v) i)
linear_filter_line {P = P} {X = X} A B d f n i =
    record {
      sub = λ a b.
          ap₂ (λ p x. filter_line d f n p x i) (fun_ext (λ k. (A k).sub a b)) (fun_ext (λ k. (B k).sub a b))
          ∙ sym (filter_line_linear linear_sub d f n (pair (P a) (P b)) (pair (X a) (X b)) i);
      mul = λ c a.
          ap₂ (λ p x. filter_line d f n p x i) (fun_ext (λ k. (A k).mul c a)) (fun_ext (λ k. (B k).mul c a))
          ∙ sym (filter_line_linear (linear_mul c) d f n (λ j. P a) (λ j. X a) i);
    }
