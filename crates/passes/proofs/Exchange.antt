-- Columns first or rows first: a linear way of combining the words of each row commutes with the column passes, and so
-- do the row passes.
-- Assumes nothing.
use mathlib.Core.Path.{◌≡◌, refl, ap, ◌∙◌, fun_ext}
use Prim.Native.Nat.{ℕ, zero, suc, ◌≤◌}
use native.Mathlib.Omega.{arith}
use Rattle.passes.specs.Filter.{Filter}
use Rattle.axis.specs.Axis.{Axis, columns, rows, Direction, forward, backward, line_of}
use Rattle.passes.specs.Passes.{filter_line, filter_lines, passes_over, serial_passes}
use Rattle.passes.proofs.Linear.{Linear, linear_zero}
use Rattle.passes.proofs.Passes.{filter_line_linear}
use Rattle.passes.proofs.Square.{linear_none, linear_place, linear_filter_line}

-- A linear way F of combining the lines of a pass commutes with it: the combined line is one line, filtered.
pub lines_combined : {F : (ℕ → ℕ) → ℕ} → Linear F → (a : Axis) (d : Direction) (f : Filter) (n : ℕ)
    (H X : ℕ → ℕ → ℕ) (i : ℕ)
    → F (λ l. line_of a (filter_lines a d f n H X) l i)
    ≡ filter_line d f n (λ k. F (λ l. H l k)) (λ i. F (λ l. line_of a X l i)) i
unfolding filter_lines
lines_combined L columns d f n H X i = filter_line_linear L d f n H (λ l i. X i l) i
lines_combined L rows d f n H X i = filter_line_linear L d f n H X i

-- Linear ways F 0, F 1, .. of combining the w words of a row to those of another row: combined after the column passes,
-- or before them the map's rows and the rows past its edges alike.
pub rows_combined : (F : ℕ → (ℕ → ℕ) → ℕ) → ((k : ℕ) → Linear (F k)) → (filters : ℕ → Filter) (h w v : ℕ)
    (H : ℕ → ℕ → ℕ → ℕ) (X : ℕ → ℕ → ℕ) (t : ℕ) → t ≤ 2 → (y k : ℕ)
    → F k (passes_over filters h w H X t y)
    ≡ passes_over filters h v (λ u l i. F l (λ j. H u j i)) (λ y l. F l (X y)) t y k
unfolding passes_over filter_lines
rows_combined F L filters h w v H X zero b y k = refl
rows_combined F L filters h w v H X (suc zero) b y k = lines_combined (L k) columns forward (filters 0) h (H 0) X y
rows_combined F L filters h w v H X (suc (suc zero)) b y k =
    lines_combined (L k) columns backward (filters 1) h (H 1) (passes_over filters h w H X 1) y
    ∙ ap
    (λ Z. filter_line backward (filters 1) h (λ i. F k (λ j. H 1 j i)) Z y)
    (fun_ext (λ i. rows_combined F L filters h w v H X (suc zero) (omega arith) i k))
rows_combined F L filters h w v H X (suc (suc (suc t))) b y k = absurd (omega arith)

abbrev no_history : ℕ → ℕ → ℕ
no_history l k = 0

-- A row pass and a column pass, neither with a history, may be exchanged.
pub exchange : (d e : Direction) (f g : Filter) (h w : ℕ) (X : ℕ → ℕ → ℕ)
    → filter_lines rows e g w no_history (filter_lines columns d f h no_history X)
    ≡ filter_lines columns d f h no_history (filter_lines rows e g w no_history X)
unfolding filter_lines
exchange d e f g h w X = fun_ext λ y. fun_ext λ x.
    let L : Linear (λ (v : ℕ → ℕ). filter_line e g w (λ k. 0) v x) =
    linear_filter_line (λ k. linear_none) linear_place e g w x in
    lines_combined L columns d f h no_history X y
    ∙ ap (λ z. filter_line d f h (λ k. z) (λ i. filter_line e g w (λ k. 0) (X i) x) y) (linear_zero L)

-- The four passes over a map, rows first.
pub rows_first : (filters : ℕ → Filter) (h w : ℕ) (X : ℕ → ℕ → ℕ)
    → serial_passes filters h w X 4
    ≡ filter_lines columns backward (filters 1) h no_history
    (filter_lines columns forward (filters 0) h no_history
    (filter_lines rows backward (filters 3) w no_history
    (filter_lines rows forward (filters 2) w no_history X)))
unfolding serial_passes passes_over
rows_first filters h w X = simp exchange
