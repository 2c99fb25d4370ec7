-- The passes along lines and over blocks: linear ways of combining commute with them, what they read, and that their
-- results are words.
-- Assumes nothing.
use mathlib.Core.Path.{◌≡◌, refl, ap, ◌∙◌}
use Prim.Native.Nat.{ℕ, zero, suc, ◌%◌, ◌<◌, ◌^◌}
use native.Mathlib.Omega.{arith}
use Rattle.word.specs.Word.{modulus, ◌⊗◌}
use Rattle.word.proofs.Ring.{one_mul}
use Rattle.passes.specs.Line.{output}
use Rattle.passes.specs.Filter.{Filter, filter_step}
use Rattle.axis.specs.Axis.{Axis, columns, rows, Direction, forward, backward, axis_of, direction_of, along, across}
use Rattle.passes.specs.Passes.{reflect, filter_line, filter_lines, passes_over, serial_passes}
use Rattle.passes.proofs.Line.{output_reads, output_commutes}
use Rattle.passes.proofs.Linear.{Linear, filter_step_reads, filter_step_small, filter_step_linear, filter_step_scales}

pub reflect_lt : (d : Direction) (n i : ℕ) → i < n → reflect d n i < n
reflect_lt forward n i h = h
reflect_lt backward n i h = omega arith

pub reflect_twice : (d : Direction) (n i : ℕ) → i < n → reflect d n (reflect d n i) ≡ i
reflect_twice forward n i h = refl
reflect_twice backward n i h = omega arith

-- ---- one line

pub filter_line_linear : {J : Type 0} {F : (J → ℕ) → ℕ} → Linear F → (d : Direction) (f : Filter) (n : ℕ)
    (p x : J → ℕ → ℕ) (i : ℕ)
    → F (λ j. filter_line d f n (p j) (x j) i) ≡ filter_line d f n (λ k. F (λ j. p j k)) (λ i. F (λ j. x j i)) i
unfolding filter_line
filter_line_linear {F = F} L d f n p x i =
    output_commutes F (filter_step f) (filter_step_linear L f) p (λ j i. x j (reflect d n i)) (reflect d n i)

-- A pass reads `order` places of its history
pub filter_line_history : (d : Direction) (f : Filter) (n : ℕ) (p q x : ℕ → ℕ) (i : ℕ)
    → ((k : ℕ) → k < f.order → p k ≡ q k) → filter_line d f n p x i ≡ filter_line d f n q x i
unfolding filter_line
filter_line_history d f n p q x i e =
    output_reads (filter_step f) f.order (filter_step_reads f) p q _ _ e (reflect d n i) (λ j b. refl)

-- and, inside the line, the line's own places.
pub filter_line_reads : (d : Direction) (f : Filter) (n : ℕ) (p q x y : ℕ → ℕ)
    → ((k : ℕ) → k < f.order → p k ≡ q k) → ((j : ℕ) → j < n → x j ≡ y j) → (i : ℕ) → i < n
    → filter_line d f n p x i ≡ filter_line d f n q y i
unfolding filter_line
filter_line_reads d f n p q x y e g i h =
    let b : reflect d n i < n = reflect_lt d n i h in
    output_reads (filter_step f) f.order (filter_step_reads f) p q _ _ e (reflect d n i)
    (λ j c. g _ (reflect_lt d n j (omega arith)))

pub filter_line_small : (d : Direction) (f : Filter) (n : ℕ) (p x : ℕ → ℕ) (i : ℕ) → filter_line d f n p x i < 2 ^ 64
unfolding filter_line output
filter_line_small d f n p x i = filter_step_small f _ _

-- A pass of order 0 is its gain alone,
filter_line_scales : (d : Direction) (f : Filter) (n : ℕ) (p x : ℕ → ℕ) (i : ℕ) → f.order ≡ 0 → i < n
    → filter_line d f n p x i ≡ f.gain ⊗ x i
unfolding filter_line output
filter_line_scales d f n p x i none h =
    filter_step_scales f _ _ none ∙ ap (λ k. f.gain ⊗ x k) (reflect_twice d n i h)

-- and with gain 1 it leaves a line as it is.
pub filter_line_unchanged : (d : Direction) (f : Filter) (n : ℕ) (p x : ℕ → ℕ) (i : ℕ) → f.order ≡ 0 → f.gain ≡ 1
    → i < n → filter_line d f n p x i ≡ x i % modulus
filter_line_unchanged d f n p x i e g h = filter_line_scales d f n p x i e h ∙ ap (◌⊗ x i) g ∙ one_mul (x i)

-- ---- all lines

pub filter_lines_linear : {J : Type 0} {F : (J → ℕ) → ℕ} → Linear F → (a : Axis) (d : Direction) (f : Filter) (n : ℕ)
    (H X : J → ℕ → ℕ → ℕ) (y x : ℕ)
    → F (λ j. filter_lines a d f n (H j) (X j) y x)
    ≡ filter_lines a d f n (λ l k. F (λ j. H j l k)) (λ y x. F (λ j. X j y x)) y x
unfolding filter_lines
filter_lines_linear L columns d f n H X y x = filter_line_linear L d f n (λ j. H j x) (λ j i. X j i x) y
filter_lines_linear L rows d f n H X y x = filter_line_linear L d f n (λ j. H j y) (λ j. X j y) x

-- A pass over h rows and w columns reads these alone, and `order` places of each line's history.
pub filter_lines_reads : (a : Axis) (d : Direction) (f : Filter) (h w : ℕ) (G H X Y : ℕ → ℕ → ℕ)
    → ((l k : ℕ) → l < across a h w → k < f.order → G l k ≡ H l k)
    → ((y x : ℕ) → y < h → x < w → X y x ≡ Y y x)
    → (y x : ℕ) → y < h → x < w → filter_lines a d f (along a h w) G X y x ≡ filter_lines a d f (along a h w) H Y y x
unfolding filter_lines
filter_lines_reads columns d f h w G H X Y e g y x p q =
    filter_line_reads d f h (G x) (H x) _ _ (λ k. e x k q) (λ j b. g j x b q) y p
filter_lines_reads rows d f h w G H X Y e g y x p q =
    filter_line_reads d f w (G y) (H y) _ _ (λ k. e y k p) (λ j b. g y j p b) x q

-- A pass of order 0 is its gain alone.
pub filter_lines_scales : (a : Axis) (d : Direction) (f : Filter) (h w : ℕ) (H X : ℕ → ℕ → ℕ) (y x : ℕ) → f.order ≡ 0
    → y < h → x < w → filter_lines a d f (along a h w) H X y x ≡ f.gain ⊗ X y x
unfolding filter_lines
filter_lines_scales columns d f h w H X y x none p q = filter_line_scales d f h (H x) (λ i. X i x) y none p
filter_lines_scales rows d f h w H X y x none p q = filter_line_scales d f w (H y) (X y) x none q

pub filter_lines_small : (a : Axis) (d : Direction) (f : Filter) (n : ℕ) (H X : ℕ → ℕ → ℕ) (y x : ℕ)
    → filter_lines a d f n H X y x < 2 ^ 64
unfolding filter_lines
filter_lines_small columns d f n H X y x = filter_line_small _ _ _ _ _ _
filter_lines_small rows d f n H X y x = filter_line_small _ _ _ _ _ _

-- ---- all passes

-- The passes over a block read its own places alone, and `order` places of each line's history.
pub passes_over_reads : (filters : ℕ → Filter) (h w : ℕ) (G H : ℕ → ℕ → ℕ → ℕ) (X Y : ℕ → ℕ → ℕ) (t : ℕ)
    → ((u l k : ℕ) → u < t → l < across (axis_of u) h w → k < (filters u).order → G u l k ≡ H u l k)
    → ((y x : ℕ) → y < h → x < w → X y x ≡ Y y x)
    → (y x : ℕ) → y < h → x < w → passes_over filters h w G X t y x ≡ passes_over filters h w H Y t y x
unfolding passes_over
passes_over_reads filters h w G H X Y zero e g y x p q = g y x p q
passes_over_reads filters h w G H X Y (suc t) e g y x p q =
    filter_lines_reads (axis_of t) (direction_of t) (filters t) h w (G t) (H t) _ _ (λ l k. e t l k (omega arith))
    (passes_over_reads filters h w G H X Y t (λ u l k b. e u l k (omega arith)) g) y x p q

pub passes_over_small : (filters : ℕ → Filter) (h w : ℕ) (H : ℕ → ℕ → ℕ → ℕ) (X : ℕ → ℕ → ℕ) (t y x : ℕ)
    → passes_over filters h w H X (suc t) y x < 2 ^ 64
unfolding passes_over
passes_over_small filters h w H X t y x = filter_lines_small (axis_of t) _ _ _ _ _ y x

pub serial_passes_reads : (filters : ℕ → Filter) (h w : ℕ) (X Y : ℕ → ℕ → ℕ) (t : ℕ)
    → ((y x : ℕ) → y < h → x < w → X y x ≡ Y y x)
    → (y x : ℕ) → y < h → x < w → serial_passes filters h w X t y x ≡ serial_passes filters h w Y t y x
unfolding serial_passes
serial_passes_reads filters h w X Y t e = passes_over_reads filters h w _ _ X Y t (λ u l k a b c. refl) e

pub serial_passes_small : (filters : ℕ → Filter) (h w : ℕ) (X : ℕ → ℕ → ℕ) (t y x : ℕ)
    → serial_passes filters h w X (suc t) y x < 2 ^ 64
unfolding serial_passes
serial_passes_small filters h w X t y x = passes_over_small filters h w _ X t y x
