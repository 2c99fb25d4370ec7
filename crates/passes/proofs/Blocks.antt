-- Blocks. Law A: a block whose histories are the map's own words beyond it has the map's words, for any part of a map.
-- Law B: every linear combination of blocks commutes with the passes.
-- Assumes nothing.
use mathlib.Core.Path.{◌≡◌, refl, ap, sym, ◌∙◌, fun_ext}
use Prim.Native.Nat.{ℕ, zero, suc, ◌+◌, ◌-◌, ◌≤◌, ◌<◌}
use native.Mathlib.Omega.{arith}
use Rattle.passes.specs.Line.{output, words_before}
use Rattle.passes.specs.Filter.{Filter, filter_step}
use Rattle.axis.specs.Axis.{Axis, columns, rows, Direction, forward, backward, axis_of, direction_of, along, across, line_of}
use Rattle.passes.specs.Passes.{reflect, filter_line, filter_lines, passes_over, serial_passes}
use Rattle.passes.proofs.Line.{output_part, words_before_history}
use Rattle.passes.proofs.Linear.{Linear, filter_step_reads}
use Rattle.passes.proofs.Passes.{reflect_lt, filter_lines_linear}

-- ---- law B

pub passes_over_linear : {J : Type 0} {F : (J → ℕ) → ℕ} → Linear F → (filters : ℕ → Filter) (h w : ℕ)
    (H : J → ℕ → ℕ → ℕ → ℕ) (X : J → ℕ → ℕ → ℕ) (t y x : ℕ)
    → F (λ j. passes_over filters h w (H j) (X j) t y x)
    ≡ passes_over filters h w (λ u l k. F (λ j. H j u l k)) (λ y x. F (λ j. X j y x)) t y x
unfolding passes_over
passes_over_linear L filters h w H X zero y x = refl
passes_over_linear {F = F} L filters h w H X (suc t) y x =
    filter_lines_linear L _ _ _ _ (λ j. H j t) (λ j. passes_over filters h w (H j) (X j) t) y x
    ∙ ap
    (λ Z. filter_lines (axis_of t) (direction_of t) (filters t) (along (axis_of t) h w) (λ l k. F (λ j. H j t l k)) Z y x)
    (fun_ext (λ y. fun_ext (λ x. passes_over_linear L filters h w H X t y x)))

-- ---- a part of a line

-- How many places of a line of n the pass has done before it comes to the m places from a on.
abbrev pub places_before : Direction → ℕ → ℕ → ℕ → ℕ
places_before forward n a m = a
places_before backward n a m = n - (a + m)

-- The words of a line y of n places that lie beyond the m places from a on, on the side where the pass comes from,
-- nearest first; 0 past the line.
unfoldable pub words_beyond : Direction → ℕ → ℕ → ℕ → (ℕ → ℕ) → ℕ → ℕ
words_beyond d n a m y = words_before (λ k. 0) (λ i. y (reflect d n i)) (places_before d n a m)

reflect_part : (d : Direction) (n a m i : ℕ) → a + m ≤ n → i < m
    → reflect d n (places_before d n a m + i) ≡ a + reflect d m i
reflect_part forward n a m i f l = refl
reflect_part backward n a m i f l = omega arith

part_reflect : (d : Direction) (n a m i : ℕ) → a + m ≤ n → i < m
    → places_before d n a m + reflect d m i ≡ reflect d n (a + i)
part_reflect forward n a m i f l = refl
part_reflect backward n a m i f l = omega arith

reflect_before : (d : Direction) (n a m i : ℕ) → a + m ≤ n → i < places_before d n a m
    → reflect d n (reflect d n i) ≡ i
reflect_before forward n a m i f l = refl
reflect_before backward n a m i f l = omega arith

-- A pass over a part of a line, with the line's own words beyond it for history, is the pass over the line.
pub filter_line_part : (d : Direction) (f : Filter) (n a m : ℕ) → a + m ≤ n → (q x y : ℕ → ℕ)
    → ((k : ℕ) → k < f.order → q k ≡ words_beyond d n a m (filter_line d f n (λ k. 0) x) k)
    → ((j : ℕ) → j < m → y j ≡ x (a + j))
    → (i : ℕ) → i < m → filter_line d f m q y i ≡ filter_line d f n (λ k. 0) x (a + i)
unfolding filter_line words_beyond
filter_line_part d f n a m b q x y e g i l =
    output_part
    (filter_step f)
    f.order
    (filter_step_reads f)
    (λ k. 0)
    q
    (λ j. x (reflect d n j))
    (λ j. y (reflect d m j))
    (places_before d n a m)
    m
    (λ k c.
    e k c
    ∙ words_before_history (filter_step f) (λ k. 0) (λ j. x (reflect d n j)) _ (places_before d n a m)
    (λ i c. ap (output (filter_step f) (λ k. 0) (λ j. x (reflect d n j))) (reflect_before d n a m i b c)) k)
    (λ j c. g _ (reflect_lt d m j c) ∙ ap x (sym (reflect_part d n a m j b c)))
    (reflect d m i)
    (reflect_lt d m i l)
    ∙ ap (output (filter_step f) (λ k. 0) (λ j. x (reflect d n j))) (part_reflect d n a m i b l)

-- ---- law A

-- A block's place in a map.
pub record BlockPlace : Type 0 where
  pub map_height : ℕ
  pub map_width : ℕ
  pub top : ℕ
  pub left : ℕ
  pub height : ℕ
  pub width : ℕ
  pub in_height : top + height ≤ map_height
  pub in_width : left + width ≤ map_width

-- The part of a map that lies at the block's place.
abbrev pub block_of : BlockPlace → (ℕ → ℕ → ℕ) → ℕ → ℕ → ℕ
block_of B Z y x = Z (B.top + y) (B.left + x)

-- The words that a map Z has beyond the block on the side where a pass comes from, at line l of the block, nearest
-- first; 0 past the map.
unfoldable pub words_beside : Axis → Direction → BlockPlace → (ℕ → ℕ → ℕ) → ℕ → ℕ → ℕ
words_beside a d B Z l =
    words_beyond d (along a B.map_height B.map_width) (along a B.top B.left) (along a B.height B.width)
    (line_of a Z (across a B.top B.left + l))

filter_lines_part : (a : Axis) (d : Direction) (f : Filter) (B : BlockPlace) (H X Y : ℕ → ℕ → ℕ)
    → ((l k : ℕ) → l < across a B.height B.width → k < f.order
    → H l k ≡ words_beside a d B (filter_lines a d f (along a B.map_height B.map_width) (λ l k. 0) X) l k)
    → ((y x : ℕ) → y < B.height → x < B.width → Y y x ≡ block_of B X y x)
    → (y x : ℕ) → y < B.height → x < B.width
    → filter_lines a d f (along a B.height B.width) H Y y x
    ≡ block_of B (filter_lines a d f (along a B.map_height B.map_width) (λ l k. 0) X) y x
unfolding filter_lines words_beside
filter_lines_part columns d f B H X Y e g y x p q =
    filter_line_part d f _ _ _ B.in_height (H x) (λ i. X i (B.left + x)) (λ i. Y i x)
    (λ k. e x k q) (λ j b. g j x b q) y p
filter_lines_part rows d f B H X Y e g y x p q =
    filter_line_part d f _ _ _ B.in_width (H y) (X (B.top + y)) (Y y) (λ k. e y k p) (λ j b. g y j p b) x q

-- Where the histories of a block's first t passes are the map's own words beyond the block, the passes over the block
-- give the map's words.
pub passes_over_part : (filters : ℕ → Filter) (B : BlockPlace) (H : ℕ → ℕ → ℕ → ℕ) (X : ℕ → ℕ → ℕ) (t : ℕ)
    → ((u l k : ℕ) → u < t → l < across (axis_of u) B.height B.width → k < (filters u).order
    → H u l k
    ≡ words_beside (axis_of u) (direction_of u) B (serial_passes filters B.map_height B.map_width X (suc u)) l k)
    → (y x : ℕ) → y < B.height → x < B.width
    → passes_over filters B.height B.width H (block_of B X) t y x
    ≡ block_of B (serial_passes filters B.map_height B.map_width X t) y x
unfolding passes_over serial_passes
passes_over_part filters B H X zero e y x p q = refl
passes_over_part filters B H X (suc t) e y x p q =
    filter_lines_part (axis_of t) (direction_of t) (filters t) B (H t) _ _ (λ l k. e t l k (omega arith))
    (passes_over_part filters B H X t (λ u l k b. e u l k (omega arith))) y x p q
