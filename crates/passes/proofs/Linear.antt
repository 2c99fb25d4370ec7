-- Linear ways of combining words, and that each commutes with the filter's step, for every order.
-- Assumes nothing.
use mathlib.Core.Path.{◌≡◌, refl, ap, ap₂, sym, ◌∙◌}
use mathlib.Core.Bool.{Bool, true, false}
use Prim.Native.Nat.{ℕ, zero, suc, ◌%◌, ◌<◌, ◌^◌}
use native.Mathlib.Omega.{arith}
use Rattle.word.specs.Word.{modulus, ◌⊕◌, ◌⊖◌, ◌⊗◌}
use Rattle.word.proofs.Ring.{add_sub, sub_sub, mul_add, mul_sub, mul_left_comm, zero_mul, reduce_sub, reduce_mul, sub_small, mul_small}
use Rattle.passes.specs.Filter.{Filter, less_feedback, filter_step}
use Rattle.passes.proofs.Line.{Reads, Commutes}

-- ---- the step reads `order` outputs, and its result is a word

pub less_feedback_reads : (d : ℕ → ℕ) (r : ℕ) → Reads r (less_feedback d r)
unfolding less_feedback
less_feedback_reads d zero v h h' e = refl
less_feedback_reads d (suc r) v h h' e =
    ap₂ (λ a b. a ⊖ d r ⊗ b) (less_feedback_reads d r v h h' (λ k b. e k (omega arith))) (e r (omega arith))

pub filter_step_reads : (f : Filter) → Reads f.order (filter_step f)
unfolding filter_step
filter_step_reads f v h h' e = less_feedback_reads _ _ _ h h' e

pub less_feedback_small : (d : ℕ → ℕ) (r v : ℕ) (h : ℕ → ℕ) → v < 2 ^ 64 → less_feedback d r v h < 2 ^ 64
unfolding less_feedback
less_feedback_small d zero v h e = e
less_feedback_small d (suc r) v h e = sub_small _ _

pub filter_step_small : (f : Filter) (v : ℕ) (h : ℕ → ℕ) → filter_step f v h < 2 ^ 64
unfolding filter_step
filter_step_small f v h = less_feedback_small _ _ _ h (mul_small _ _)

-- A step of order 0 is the gain alone.
pub filter_step_scales : (f : Filter) (v : ℕ) (h : ℕ → ℕ) → f.order ≡ 0 → filter_step f v h ≡ f.gain ⊗ v
unfolding filter_step less_feedback
filter_step_scales f v h none = ap (λ r. less_feedback f.coefficient r (f.gain ⊗ v) h) none

-- ---- linear ways of combining

-- A way of combining the words of an index set J that keeps differences and multiples.
pub record Linear {J : Type 0} (F : (J → ℕ) → ℕ) : Type 0 where
  pub sub : (a b : J → ℕ) → F (λ j. a j ⊖ b j) ≡ F a ⊖ F b
  pub mul : (c : ℕ) (a : J → ℕ) → F (λ j. c ⊗ a j) ≡ c ⊗ F a

pub less_feedback_linear : {J : Type 0} {F : (J → ℕ) → ℕ} → Linear F → (d : ℕ → ℕ) (r : ℕ)
    → Commutes F (less_feedback d r)
unfolding less_feedback
less_feedback_linear L d zero v h = refl
less_feedback_linear L d (suc r) v h = L.sub _ _ ∙ ap₂ ◌⊖◌ (less_feedback_linear L d r v h) (L.mul (d r) (λ j. h j r))

-- Every linear way of combining commutes with the step.
pub filter_step_linear : {J : Type 0} {F : (J → ℕ) → ℕ} → Linear F → (f : Filter) → Commutes F (filter_step f)
unfolding filter_step
filter_step_linear {F = F} L f v h =
    less_feedback_linear L _ _ (λ j. f.gain ⊗ v j) h
    ∙ ap (λ z. less_feedback f.coefficient f.order z (λ k. F (λ j. h j k))) (L.mul f.gain v)

-- Zeros combine to 0.
pub linear_zero : {J : Type 0} {F : (J → ℕ) → ℕ} → Linear F → F (λ j. 0) ≡ 0
linear_zero {F = F} L = ap (λ z. F (λ j. z)) (sym (zero_mul 0)) ∙ L.mul 0 (λ j. 0) ∙ zero_mul _

-- ---- the linear ways that are used: of two their sum and difference; of one a multiple and the residue

-- Two things, indexed by Bool.
abbrev pub pair : {A : Type 0} → A → A → Bool → A
pair a b true = a
pair a b false = b

pub linear_add : Linear (λ (v : Bool → ℕ). v true ⊕ v false)
linear_add = record { sub = λ a b. add_sub _ _ _ _; mul = λ c a. sym (mul_add _ _ _) }

pub linear_sub : Linear (λ (v : Bool → ℕ). v true ⊖ v false)
linear_sub = record { sub = λ a b. sub_sub _ _ _ _; mul = λ c a. sym (mul_sub _ _ _) }

pub linear_mul : (c : ℕ) → Linear (λ (v : Unit {0} → ℕ). c ⊗ v tt)
linear_mul c = record { sub = λ a b. mul_sub _ _ _; mul = λ e a. mul_left_comm _ _ _ }

pub linear_reduce : Linear (λ (v : Unit {0} → ℕ). v tt % modulus)
linear_reduce = record { sub = λ a b. reduce_sub _ _; mul = λ e a. reduce_mul _ _ }
