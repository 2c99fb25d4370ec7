-- The passes along one axis over one line are a sum: the line without histories, and each history weighted by its square.
-- Assumes nothing.
use mathlib.Core.Path.{◌≡◌, refl, ap, ap₂, sym, ◌∙◌, fun_ext}
use mathlib.Core.Bool.{Bool, true, false, cond}
use Prim.Native.Nat.{ℕ, zero, suc, ◌+◌, ◌%◌, ◌≤◌, ◌<◌, ◌^◌}
use native.Mathlib.Nat.{add-suc, add-zero, zero-mod}
use native.Mathlib.Omega.{arith}
use native.Mathlib.Decide.{dec_lt}
use borrow.Author.Tests.{lt-ltb, le-ltb, eq-eqb, ne_eqb, eqb-true}
use lib.Dec.{ltb, eqb}
use Rattle.word.proofs.Ring.{zero_left, zero_right, zero_add, reduced_small}
use Rattle.word.specs.Word.{modulus, ◌⊕◌}
use Rattle.passes.proofs.Linear.{Linear, pair, linear_zero, linear_add, linear_reduce}
use Rattle.passes.proofs.Passes.{filter_line_linear, filter_line_history, filter_line_reads, filter_line_small}
use Rattle.passes.proofs.Square.{linear_none, linear_place, linear_filter_line, linear_is_weighted_sum}
use Rattle.passes.specs.Filter.{Filter}
use Rattle.axis.specs.Axis.{direction_of}
use Rattle.passes.specs.Passes.{filter_line}
use Rattle.passes.specs.Square.{weighted_sum}
use Rattle.squares.specs.LinePasses.{axis_passes, line_passes, only_at, pass_square, with_histories}

-- An axis has two passes.
pub passes_in_axis : (pass : ℕ) → (0 < axis_passes pass) × (axis_passes pass ≤ 2)
passes_in_axis zero = omega arith
passes_in_axis (suc zero) = omega arith
passes_in_axis (suc (suc pass)) = passes_in_axis pass

-- ---- linear ways of combining

pub line_passes_linear : {J : Type 0} {F : (J → ℕ) → ℕ} → Linear F → (filters : ℕ → Filter) (n : ℕ)
    (P : J → ℕ → ℕ → ℕ) (x : J → ℕ → ℕ) (t m i : ℕ)
    → F (λ j. line_passes filters n (P j) (x j) t m i)
    ≡ line_passes filters n (λ u k. F (λ j. P j u k)) (λ i. F (λ j. x j i)) t m i
unfolding line_passes
line_passes_linear L filters n P x t zero i = refl
line_passes_linear {F = F} L filters n P x t (suc m) i =
    filter_line_linear L _ _ n (λ j. P j (t + m)) (λ j. line_passes filters n (P j) (x j) t m) i
    ∙ ap
    (λ z. filter_line (direction_of (t + m)) (filters (t + m)) n (λ k. F (λ j. P j (t + m) k)) z i)
    (fun_ext (line_passes_linear L filters n P x t m))

pub linear_line_passes : {J : Type 0} {P : (J → ℕ) → ℕ → ℕ → ℕ} {X : (J → ℕ) → ℕ → ℕ}
    → ((u k : ℕ) → Linear (λ v. P v u k)) → ((i : ℕ) → Linear (λ v. X v i)) → (filters : ℕ → Filter) (n t m i : ℕ)
    → Linear (λ v. line_passes filters n (P v) (X v) t m i)
unfolding line_passes
linear_line_passes A B filters n t zero i = B i
linear_line_passes A B filters n t (suc m) i =
    linear_filter_line (A (t + m)) (linear_line_passes A B filters n t m) _ _ n i

-- ---- what the passes read

pub line_passes_small : (filters : ℕ → Filter) (n : ℕ) (P : ℕ → ℕ → ℕ) (x : ℕ → ℕ) (t m i : ℕ)
    → line_passes filters n P x t (suc m) i < 2 ^ 64
unfolding line_passes
line_passes_small filters n P x t m i = filter_line_small _ _ n _ _ i

pub line_passes_history : (filters : ℕ → Filter) (n : ℕ) (P Q : ℕ → ℕ → ℕ) (x : ℕ → ℕ) (t m i : ℕ)
    → ((u k : ℕ) → t ≤ u → u < t + m → k < (filters u).order → P u k ≡ Q u k)
    → line_passes filters n P x t m i ≡ line_passes filters n Q x t m i
unfolding line_passes
line_passes_history filters n P Q x t zero i e = refl
line_passes_history filters n P Q x t (suc m) i e =
    ap
    (λ z. filter_line (direction_of (t + m)) (filters (t + m)) n (P (t + m)) z i)
    (fun_ext (λ j. line_passes_history filters n P Q x t m j (λ u k a b. e u k a (omega arith))))
    ∙ filter_line_history _ _ n _ _ _ i (λ k. e (t + m) k (omega arith) (omega arith))

-- Inside the line they read the line's own places.
pub line_passes_reads : (filters : ℕ → Filter) (n : ℕ) (P Q : ℕ → ℕ → ℕ) (x y : ℕ → ℕ) (t m : ℕ)
    → ((u k : ℕ) → t ≤ u → u < t + m → k < (filters u).order → P u k ≡ Q u k) → ((j : ℕ) → j < n → x j ≡ y j)
    → (i : ℕ) → i < n → line_passes filters n P x t m i ≡ line_passes filters n Q y t m i
unfolding line_passes
line_passes_reads filters n P Q x y t zero e g i h = g i h
line_passes_reads filters n P Q x y t (suc m) e g i h =
    filter_line_reads _ _ n _ _ _ _ (λ k. e (t + m) k (omega arith) (omega arith))
    (line_passes_reads filters n P Q x y t m (λ u k a b. e u k a (omega arith)) g) i h

-- Passes over zeros with zero histories give zeros.
pub line_passes_zero : (filters : ℕ → Filter) (n t m i : ℕ)
    → line_passes filters n (λ u k. 0) (λ i. 0) t m i ≡ 0
line_passes_zero filters n t m i =
    linear_zero (linear_line_passes {J = ℕ} {P = λ v u k. 0} {X = λ v i. 0} (λ u k. linear_none)
    (λ i. linear_none) filters n t m i)

-- A line whose first s passes give zeros: its passes begin with the next.
pub line_passes_late : (filters : ℕ → Filter) (n : ℕ) (P : ℕ → ℕ → ℕ) (t s m i : ℕ)
    → ((u k : ℕ) → t ≤ u → u < t + s → P u k ≡ 0)
    → line_passes filters n P (λ i. 0) t (s + m) i ≡ line_passes filters n P (λ i. 0) (t + s) m i
unfolding line_passes
line_passes_late filters n P t s zero i e =
    rw add-zero
    (line_passes_history filters n P (λ u k. 0) (λ i. 0) t s i (λ u k a b c. e u k a b) ∙ line_passes_zero filters n t s i)
line_passes_late filters n P t s (suc m) i e =
    let q : t + (s + m) ≡ t + s + m = omega arith in
    rw (add-suc, q)
    (ap
    (λ z. filter_line (direction_of (t + s + m)) (filters (t + s + m)) n (P (t + s + m)) z i)
    (fun_ext (λ j. line_passes_late filters n P t s m j e)))

-- ---- one history after another

-- The histories of the passes before pass s, and 0 for the others.
abbrev before : ℕ → (ℕ → ℕ → ℕ) → ℕ → ℕ → ℕ
before s P u k = cond (ltb u s) (P u k) 0

before_more : (s : ℕ) (P : ℕ → ℕ → ℕ) (u k : ℕ)
    → before (suc s) P u k % modulus ≡ before s P u k ⊕ only_at s (P s) u k
unfolding only_at
before_more s P u k =
    elim (dec_lt u s) [
      | yes a ↦ rw (lt-ltb u (suc s) (omega arith), lt-ltb u s a, ne_eqb s u (omega arith), zero_right)
      | no a ↦ elim (dec_lt s u) [
        | yes b ↦ rw (le-ltb u (suc s) b, le-ltb u s (omega arith), ne_eqb s u (omega arith), zero_add, zero-mod)
        | no b ↦
            let q : u ≡ s = omega arith in
            rw (q, lt-ltb s (suc s) (omega arith), le-ltb s s (omega arith), eq-eqb s s refl, zero_left)
      ]
    ]

only_at_linear : (s u k : ℕ) → Linear (λ (p : ℕ → ℕ). only_at s p u k)
unfolding only_at
only_at_linear s u k = by (eqb s u) where
  by : (b : Bool) → Linear (λ (p : ℕ → ℕ). cond b (p k) 0)
  by true = linear_place k
  by false = linear_none

pub only_at_same : (s : ℕ) (p : ℕ → ℕ) (k : ℕ) → only_at s p s k ≡ p k
unfolding only_at
only_at_same s p k = rw (eq-eqb s s refl)

pub only_at_other : (s : ℕ) (p : ℕ → ℕ) (u k : ℕ) → (s ≡ u → ⊥) → only_at s p u k ≡ 0
unfolding only_at
only_at_other s p u k e = rw (ne_eqb s u e)

only_at_reads : (filters : ℕ → Filter) (p q : ℕ → ℕ) (t : ℕ) → ((k : ℕ) → k < (filters t).order → p k ≡ q k)
    → (u k : ℕ) → k < (filters u).order → only_at t p u k ≡ only_at t q u k
unfolding only_at
only_at_reads filters p q t e u k h = by (eqb t u) refl where
  by : (b : Bool) → eqb t u ≡ b → cond b (p k) 0 ≡ cond b (q k) 0
  by true d = e k (rw (eqb-true t u d) h)
  by false d = refl

-- One history alone is weighted by its square.
history_square : (filters : ℕ → Filter) (n : ℕ) (p : ℕ → ℕ) (t m i : ℕ)
    → line_passes filters n (only_at t p) (λ i. 0) t (suc m) i
    ≡ weighted_sum (filters t).order p (pass_square filters n t (suc m) i)
unfolding pass_square
history_square filters n p t m i =
    linear_is_weighted_sum (linear_line_passes (only_at_linear t) (λ i. linear_none) filters n t (suc m) i) (filters t).order
    (λ p q e.
    line_passes_history filters n (only_at t p) (only_at t q) (λ i. 0) t (suc m) i
    (λ u k a b c. only_at_reads filters p q t e u k c))
    (λ p. line_passes_small filters n (only_at t p) (λ i. 0) t m i) p

-- The histories of the passes before pass t+s, one after another.
add_histories : (filters : ℕ → Filter) (n : ℕ) (P : ℕ → ℕ → ℕ) (x : ℕ → ℕ) (t M i s m : ℕ) → s + m ≡ suc M
    → line_passes filters n (before (t + s) P) x t (suc M) i
    ≡ with_histories filters n P t s m i (line_passes filters n (λ u k. 0) x t (suc M) i)
unfolding with_histories
add_histories filters n P x t M i zero m e =
    line_passes_history filters n (before (t + 0) P) (λ u k. 0) x t (suc M) i
    (λ u k a b c. ap (λ z. cond z (P u k) 0) (le-ltb u (t + 0) (omega arith)))
add_histories filters n P x t M i (suc s) m e =
    rw add-suc
    (sym (reduced_small _ (line_passes_small filters n _ x t M i))
    ∙ line_passes_linear linear_reduce filters n (λ j. before (suc (t + s)) P) (λ j. x) t (suc M) i
    ∙ ap₂ (λ Q y. line_passes filters n Q y t (suc M) i)
    (fun_ext (λ u. fun_ext (λ k. before_more (t + s) P u k)))
    (fun_ext (λ k. sym (zero_right (x k))))
    ∙ sym
    (line_passes_linear linear_add filters n (pair (before (t + s) P) (only_at (t + s) (P (t + s)))) (pair x (λ k. 0)) t (suc M)
    i)
    ∙ ap₂ ◌⊕◌ (add_histories filters n P x t M i s (suc m) (omega arith)) (alone_square))
  where
    alone_square : line_passes filters n (only_at (t + s) (P (t + s))) (λ k. 0) t (suc M) i
        ≡ weighted_sum (filters (t + s)).order (P (t + s)) (pass_square filters n (t + s) (suc m) i)
    alone_square =
        let q : suc M ≡ s + suc m = omega arith in
        rw q
        (line_passes_late filters n (only_at (t + s) (P (t + s))) t s (suc m) i
        (λ u k a b. only_at_other (t + s) (P (t + s)) u k (omega arith))
        ∙ history_square filters n (P (t + s)) (t + s) m i)

-- The passes over a line are the line's passes without histories, with the histories added.
pub line_passes_by_histories : (filters : ℕ → Filter) (n : ℕ) (P : ℕ → ℕ → ℕ) (x : ℕ → ℕ) (t m i : ℕ) → 0 < m
    → line_passes filters n P x t m i
    ≡ with_histories filters n P t m 0 i (line_passes filters n (λ u k. 0) x t m i)
line_passes_by_histories filters n P x t zero i h = absurd (omega arith)
line_passes_by_histories filters n P x t (suc m) i h =
    line_passes_history filters n P (before (t + suc m) P) x t (suc m) i
    (λ u k a b c. ap (λ z. cond z (P u k) 0) (sym (lt-ltb u (t + suc m) b)))
    ∙ add_histories filters n P x t m i (suc m) 0 (omega arith)
