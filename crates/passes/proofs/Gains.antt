-- Gains: passes with gains are passes of gain 1 over a multiple of the block, with multiples of the histories.
-- Assumes nothing.
use mathlib.Core.Path.{◌≡◌, refl, ap, ap₂, sym, ◌∙◌, fun_ext}
use Prim.Native.Nat.{ℕ, zero, suc, ◌+◌, ◌-◌, ◌%◌, ◌<◌}
use native.Mathlib.Omega.{arith}
use Rattle.word.specs.Word.{modulus, ◌⊗◌}
use Rattle.word.proofs.Ring.{mul_comm, mul_assoc, mul_zero, one_mul, mul_reduced, reduced_small}
use Rattle.passes.specs.Line.{history, output}
use Rattle.passes.specs.Filter.{Filter, less_feedback, filter_step}
use Rattle.passes.specs.Gains.{unit_gain, gains_from, gains_first}
use Rattle.axis.specs.Axis.{Axis, columns, rows, Direction, axis_of, direction_of, along}
use Rattle.passes.specs.Passes.{reflect, filter_line, filter_lines, passes_over}
use Rattle.passes.proofs.Linear.{linear_mul, linear_reduce}
use Rattle.passes.proofs.Passes.{filter_lines_linear, passes_over_small}

-- ---- one pass: the gain may go to the input

pub filter_step_gain : (f : Filter) → filter_step f ≡ (λ x. filter_step (unit_gain f) (f.gain ⊗ x))
unfolding filter_step
filter_step_gain f = fun_ext λ x. fun_ext λ y.
    ap (λ v. less_feedback f.coefficient f.order v y) (sym (one_mul (f.gain ⊗ x) ∙ mul_reduced f.gain x))

-- A step that first changes its input is the step over the changed line.
history_input : {A : Type 0} (step : A → (ℕ → A) → A) (change : A → A) (p x : ℕ → A) (i k : ℕ)
    → history (λ v. step (change v)) p x i k ≡ history step p (λ j. change (x j)) i k
unfolding history
history_input step change p x zero k = refl
history_input step change p x (suc i) zero = ap (step (change (x i))) (fun_ext (history_input step change p x i))
history_input step change p x (suc i) (suc k) = history_input step change p x i k

pub output_gain : (f : Filter) (p x : ℕ → ℕ) (i : ℕ)
    → output (filter_step f) p x i ≡ output (filter_step (unit_gain f)) p (λ j. f.gain ⊗ x j) i
unfolding output history
output_gain f p x i =
    ap (λ step. output step p x i) (filter_step_gain f)
    ∙ history_input (filter_step (unit_gain f)) (λ v. f.gain ⊗ v) p x (suc i) zero

pub filter_lines_gain : (a : Axis) (d : Direction) (f : Filter) (n : ℕ) (H X : ℕ → ℕ → ℕ) (y x : ℕ)
    → filter_lines a d f n H X y x ≡ filter_lines a d (unit_gain f) n H (λ y x. f.gain ⊗ X y x) y x
unfolding filter_lines filter_line
filter_lines_gain columns d f n H X y x = output_gain f (H x) (λ j. X (reflect d n j) x) (reflect d n y)
filter_lines_gain rows d f n H X y x = output_gain f (H y) (λ j. X y (reflect d n j)) (reflect d n x)

-- ---- all passes

-- R u is R (u + 1) times the gain of pass u: such as the product of the gains from pass u on. R t times the result of
-- t passes is the result of passes of gain 1 over R 0 times the block, the outputs past its edge times R as it is after
-- the pass.
pub gains_before : (filters : ℕ → Filter) (R : ℕ → ℕ) (h w : ℕ) (H : ℕ → ℕ → ℕ → ℕ) (X : ℕ → ℕ → ℕ) (t : ℕ)
    → ((u : ℕ) → u < t → R u ≡ (filters u).gain ⊗ R (suc u)) → (y x : ℕ)
    → R t ⊗ passes_over filters h w H X t y x
    ≡ passes_over (λ u. unit_gain (filters u)) h w (λ u l k. R (suc u) ⊗ H u l k) (λ y x. R 0 ⊗ X y x) t y x
unfolding passes_over
gains_before filters R h w H X zero e y x = refl
gains_before filters R h w H X (suc t) e y x =
    let f : Filter = filters t in
    let P : ℕ → ℕ → ℕ = passes_over filters h w H X t in
    filter_lines_linear (linear_mul (R (suc t))) (axis_of t) (direction_of t) f _ (λ j. H t) (λ j. P) y x
    ∙ filter_lines_gain (axis_of t) (direction_of t) f _ _ _ y x
    ∙ ap
    (λ Z. filter_lines (axis_of t) (direction_of t) (unit_gain f) (along (axis_of t) h w) (λ l k. R (suc t) ⊗ H t l k) Z y x)
    (fun_ext λ y. fun_ext λ x.
    sym (mul_assoc f.gain (R (suc t)) (P y x))
    ∙ ap (◌⊗ P y x) (sym (e t (omega arith)))
    ∙ gains_before filters R h w H X t (λ u b. e u (omega arith)) y x)

-- ---- products of gains

pub gains_from_none : (filters : ℕ → Filter) (u : ℕ) → gains_from filters u 0 ≡ 1
unfolding gains_from
gains_from_none filters u = refl

-- The last gain of a product may be taken out as well as the first.
pub gains_from_last : (filters : ℕ → Filter) (u n : ℕ)
    → gains_from filters u (suc n) ≡ gains_from filters u n ⊗ (filters (u + n)).gain
unfolding gains_from
gains_from_last filters u zero = mul_comm _ 1 ∙ ap (λ v. 1 ⊗ (filters v).gain) (omega arith)
gains_from_last filters u (suc n) =
    ap ((filters u).gain ⊗◌) (gains_from_last filters (suc u) n)
    ∙ sym (mul_assoc (filters u).gain (gains_from filters (suc u) n) (filters (suc u + n)).gain)
    ∙ ap (λ v. ((filters u).gain ⊗ gains_from filters (suc u) n) ⊗ (filters v).gain) (omega arith)

-- ---- zeros past the edge

-- With zeros past the edge the gains may as well come last: passes with gains are passes of gain 1, times the product
-- of the gains. (After no pass at all a number that is no word is left as it is; its residue is meant.)
pub gains_last : (filters : ℕ → Filter) (h w : ℕ) (X : ℕ → ℕ → ℕ) (t y x : ℕ)
    → passes_over filters h w (λ u l k. 0) X t y x % modulus
    ≡ gains_from filters 0 t ⊗ passes_over (λ u. unit_gain (filters u)) h w (λ u l k. 0) X t y x
unfolding passes_over
gains_last filters h w X zero y x = sym (ap (◌⊗ X y x) (gains_from_none filters 0) ∙ one_mul (X y x))
gains_last filters h w X (suc t) y x =
    let f : Filter = filters t in
    let G : ℕ = gains_from filters 0 t in
    let none : ℕ → ℕ → ℕ = λ l k. 0 in
    let pass : Filter → (ℕ → ℕ → ℕ) → (ℕ → ℕ → ℕ) → ℕ =
    λ f H Z. filter_lines (axis_of t) (direction_of t) f (along (axis_of t) h w) H Z y x in
    let U : ℕ → ℕ → ℕ = passes_over (λ u. unit_gain (filters u)) h w (λ u l k. 0) X t in
    filter_lines_linear linear_reduce (axis_of t) (direction_of t) f _ (λ j. none)
    (λ j. passes_over filters h w (λ u l k. 0) X t) y x
    ∙ ap₂ (pass f) (fun_ext λ l. fun_ext λ k. reduced_small 0 (omega arith))
    (fun_ext λ y. fun_ext λ x. gains_last filters h w X t y x)
    ∙ multiple f G U
    ∙ ap (G ⊗◌) (filter_lines_gain (axis_of t) (direction_of t) f _ none U y x ∙ multiple (unit_gain f) f.gain U)
    ∙ sym (mul_assoc G f.gain (pass (unit_gain f) none U))
    ∙ ap (◌⊗ pass (unit_gain f) none U) (sym (gains_from_last filters 0 t ∙ ap (λ v. G ⊗ (filters v).gain) none_before))
  where
    none_before : 0 + t ≡ t
    none_before = omega arith

    multiple : (f : Filter) (c : ℕ) (Z : ℕ → ℕ → ℕ)
        → filter_lines (axis_of t) (direction_of t) f (along (axis_of t) h w) (λ l k. 0) (λ y x. c ⊗ Z y x) y x
        ≡ c ⊗ filter_lines (axis_of t) (direction_of t) f (along (axis_of t) h w) (λ l k. 0) Z y x
    multiple f c Z =
        ap (λ H. filter_lines (axis_of t) (direction_of t) f (along (axis_of t) h w) H (λ y x. c ⊗ Z y x) y x)
        (fun_ext λ l. fun_ext λ k. sym (mul_zero c))
        ∙ sym (filter_lines_linear (linear_mul c) (axis_of t) (direction_of t) f _ (λ j l k. 0) (λ j. Z) y x)

pub gains_out : (filters : ℕ → Filter) (h w : ℕ) (X : ℕ → ℕ → ℕ) (t y x : ℕ)
    → passes_over filters h w (λ u l k. 0) X (suc t) y x
    ≡ gains_from filters 0 (suc t) ⊗ passes_over (λ u. unit_gain (filters u)) h w (λ u l k. 0) X (suc t) y x
gains_out filters h w X t y x =
    sym (reduced_small _ (passes_over_small filters h w _ X t y x)) ∙ gains_last filters h w X (suc t) y x

-- ---- the gains of later passes

-- Passes with gains are passes of gain 1 over the block times all gains, the outputs past the edge of each times the
-- gains of the passes after it.
pub gains_after_law : (filters : ℕ → Filter) (h w : ℕ) (H : ℕ → ℕ → ℕ → ℕ) (X : ℕ → ℕ → ℕ) (s y x : ℕ)
    → passes_over filters h w H X (suc s) y x
    ≡ passes_over (λ u. unit_gain (filters u)) h w (λ u l k. gains_from filters (suc u) (s - u) ⊗ H u l k)
    (λ y x. gains_from filters 0 (suc s) ⊗ X y x) (suc s) y x
unfolding gains_from
gains_after_law filters h w H X s y x =
    sym (one_mul _ ∙ reduced_small _ (passes_over_small filters h w H X s y x))
    ∙ ap (◌⊗ passes_over filters h w H X (suc s) y x) (sym last)
    ∙ gains_before filters (λ u. gains_from filters u (suc s - u)) h w H X (suc s) each y x
    ∙ ap₂ (λ K n. passes_over (λ u. unit_gain (filters u)) h w K (λ y x. gains_from filters 0 n ⊗ X y x) (suc s) y x)
    (fun_ext λ u. fun_ext λ l. fun_ext λ k. ap (λ n. gains_from filters (suc u) n ⊗ H u l k) (less u)) all
  where
    all : suc s - 0 ≡ suc s
    all = omega arith

    less : (u : ℕ) → suc s - suc u ≡ s - u
    less u = omega arith

    none : (u n : ℕ) → n ≡ 0 → gains_from filters u n ≡ 1
    none u zero e = refl
    none u (suc n) e = absurd (omega arith)

    last : gains_from filters (suc s) (suc s - suc s) ≡ 1
    last = none (suc s) (suc s - suc s) (omega arith)

    one_more : (u n m : ℕ) → n ≡ suc m → gains_from filters u n ≡ (filters u).gain ⊗ gains_from filters (suc u) m
    one_more u n m e = rw e refl

    each : (u : ℕ) → u < suc s → gains_from filters u (suc s - u) ≡ (filters u).gain ⊗ gains_from filters (suc u) (suc s - suc u)
    each u b = one_more u (suc s - u) (suc s - suc u) (omega arith)

-- ---- all gains in the first pass

-- The first pass may take the gain that passes of gain 1 find in their input.
first_takes : (filters : ℕ → Filter) (t h w : ℕ) (H : ℕ → ℕ → ℕ → ℕ) (X : ℕ → ℕ → ℕ) (n y x : ℕ)
    → passes_over (λ u. unit_gain (filters u)) h w H (λ y x. gains_from filters 0 t ⊗ X y x) (suc n) y x
    ≡ passes_over (gains_first filters t) h w H X (suc n) y x
unfolding passes_over
first_takes filters t h w H X zero y x = sym (filter_lines_gain (axis_of 0) (direction_of 0) (gains_first filters t 0) _ _ _ y x)
first_takes filters t h w H X (suc n) y x =
    ap
    (λ Z.
    filter_lines (axis_of (suc n)) (direction_of (suc n)) (unit_gain (filters (suc n))) (along (axis_of (suc n)) h w) (H (suc n)) Z
    y x)
    (fun_ext λ y. fun_ext λ x. first_takes filters t h w H X n y x)

-- Passes with gains are the passes with all gains in the first, the outputs past the edge of each as above.
pub gains_first_law : (filters : ℕ → Filter) (h w : ℕ) (H : ℕ → ℕ → ℕ → ℕ) (X : ℕ → ℕ → ℕ) (s y x : ℕ)
    → passes_over filters h w H X (suc s) y x
    ≡ passes_over (gains_first filters (suc s)) h w (λ u l k. gains_from filters (suc u) (s - u) ⊗ H u l k) X (suc s) y x
gains_first_law filters h w H X s y x = gains_after_law filters h w H X s y x ∙ first_takes filters (suc s) h w _ X s y x
