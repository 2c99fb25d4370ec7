-- Windows: where the lines of a window lie, that they fit the buffer and are apart, and that a pass over a window is
-- the filter over its lines, for both axes and both directions. Assumes nothing.
use mathlib.Core.Path.{◌≡◌, refl, sym, ap, ◌∙◌}
use mathlib.Core.List.{List}
use mathlib.Core.Logic.{◌≢◌}
use Prim.Native.Nat.{ℕ, suc, ◌+◌, ◌-◌, ◌*◌, ◌<◌, ◌≤◌}
use native.Mathlib.Nat.{mul-le-mul_left, mul-le-mul_right, add-mul}
use native.Mathlib.Decide.{dec_lt}
use native.Mathlib.Omega.{arith}
use lib.ListN.{length}
use borrow.Author.Tests.{lt-ltb, le-ltb}
use Rattle.buffer.specs.Lists.{word_at}
use Rattle.passes.specs.Line.{words_before}
use Rattle.passes.specs.Filter.{Filter, filter_step}
use Rattle.axis.specs.Axis.{Axis, columns, rows, Direction, forward, backward, axis_of, direction_of, along, across, line_of, is_backward, if_forward, if_backward}
use Rattle.passes.specs.Passes.{reflect, filter_line, filter_lines}
use Rattle.passes.proofs.Line.{output_reads, words_before_inside, words_before_past}
use Rattle.passes.proofs.Linear.{filter_step_reads}
use Rattle.passes.proofs.Passes.{reflect_lt, reflect_twice, filter_lines_reads}
use Rattle.filter.specs.declared.in_place.Lines.{Lines}
use Rattle.filter.specs.declared.Window.{Window}
use Rattle.filter.specs.Kernel.{line_place, filter_in_place, LinesFit, Apart}
use Rattle.number.specs.Numbers.{row_major}
use Rattle.filter.specs.Windows.{window_lines, window_place, window_of, beyond, words_beside_window, history_beside, pass_word, window_pass, WindowFits}
use Rattle.number.proofs.RowMajor.{place_below, same_row_column}
use Rattle.filter.proofs.InPlace.{Filtered, filtered}
use Rattle.filter.proofs.WindowWords.{InWindow, window_written_law, window_is}

sub_mul : (y t w : ℕ) → t ≤ y → (y - t) * w + t * w ≡ y * w
sub_mul y t w h = let e : y ≡ (y - t) + t = omega arith in sym (ap (◌* w) e ∙ add-mul (y - t) t w)

-- ---- where the lines of a window lie

-- The index of place t of a line, of q places of history and then n places from `start` on.
abbrev index_at : Direction → ℕ → ℕ → ℕ → ℕ → ℕ
index_at forward start n q t = (start + t) - q
index_at backward start n q t = (start + n + q) - suc t

index_inside : (d : Direction) (start n q j : ℕ) → if_forward (is_backward d) q ≤ start → j < n
    → index_at d start n q (q + j) ≡ start + reflect d n j
index_inside forward start n q j h l = omega arith
index_inside backward start n q j h l = omega arith

index_beside : (d : Direction) (start n q k : ℕ) → if_forward (is_backward d) q ≤ start → k < q
    → index_at d start n q (q - suc k) ≡ beyond d start n k
index_beside forward start n q k h l = omega arith
index_beside backward start n q k h l = omega arith

index_below : (d : Direction) (start n q t : ℕ) → if_forward (is_backward d) q ≤ start → t < q + n
    → index_at d start n q t < start + n + if_backward (is_backward d) q
index_below forward start n q t h l = omega arith
index_below backward start n q t h l = omega arith

index_apart : (d : Direction) (start n q t u : ℕ) → if_forward (is_backward d) q ≤ start → t < q + n → u < q + n
    → index_at d start n q t ≡ index_at d start n q u → t ≡ u
index_apart forward start n q t u h l k e = omega arith
index_apart backward start n q t u h l k e = omega arith

-- The index of place t along, and the index of line l across.
abbrev index_in : Axis → Direction → Window → ℕ → ℕ → ℕ
index_in a d W q t = index_at d (along a W.top W.left) (along a W.height W.width) q t

abbrev line_in : Axis → Window → ℕ → ℕ
line_in a W l = across a W.top W.left + l

pub line_place_law : {n : ℕ} (a : Axis) (d : Direction) (W : Window) (q : ℕ) → WindowFits n a d W q → (l t : ℕ)
    → t < q + along a W.height W.width
    → line_place (window_lines a d W q) l t ≡ line_of a (row_major W.stride) (line_in a W l) (index_in a d W q t)
line_place_law columns forward W q fits l t h =
    omega (
      arith,
      fits.start,
      add-mul W.top t W.stride,
      sub_mul (W.top + t) q W.stride (omega (arith, fits.start)),
      sub_mul W.top q W.stride fits.start,
    )
line_place_law columns backward W q fits l t h =
    let u : ℕ = (W.height + q) - 1 in
    let e : (W.top + W.height + q) - suc t ≡ (W.top + u) - t = omega (arith, fits.tall) in
    rw e (omega (arith, add-mul W.top u W.stride, sub_mul (W.top + u) t W.stride (omega (arith, fits.tall))))
line_place_law rows forward W q fits l t h = omega (arith, fits.start, add-mul W.top l W.stride)
line_place_law rows backward W q fits l t h = omega (arith, fits.wide, add-mul W.top l W.stride)

-- The column of a place, and its row.
column_in : {n : ℕ} (a : Axis) (d : Direction) (W : Window) (q : ℕ) → WindowFits n a d W q → (l t : ℕ)
    → l < across a W.height W.width → t < q + along a W.height W.width
    → along a (line_in a W l) (index_in a d W q t) < W.stride
column_in columns d W q fits l t h k = omega (arith, fits.in_row)
column_in rows d W q fits l t h k = omega (arith, fits.in_row, index_below d W.left W.width q t fits.start k)

row_in : {n : ℕ} (a : Axis) (d : Direction) (W : Window) (q : ℕ) → WindowFits n a d W q → (l t : ℕ)
    → l < across a W.height W.width → t < q + along a W.height W.width
    → across a (line_in a W l) (index_in a d W q t) < W.top + W.height + along a (if_backward (is_backward d) q) 0
row_in columns d W q fits l t h k = index_below d W.top W.height q t fits.start k
row_in rows d W q fits l t h k = omega arith

-- ---- they fit, and are apart

line_below : (a : Axis) (w l i z n : ℕ) → along a l i < w → across a l i < z → z * w ≤ n → line_of a (row_major w) l i < n
line_below columns w l i z n h k f = omega (arith, place_below z w i l k h)
line_below rows w l i z n h k f = omega (arith, place_below z w l i k h)

one_line : (a : Axis) (w l i m j : ℕ) → along a l i < w → along a m j < w
    → line_of a (row_major w) l i ≡ line_of a (row_major w) m j → (l ≡ m) × (i ≡ j)
one_line columns w l i m j h k e = let p = same_row_column w i l j m h k e in (p.1, p.0)
one_line rows w l i m j h k e = same_row_column w l i m j h k e

module _ {n : ℕ} (a : Axis) (d : Direction) (W : Window) (q : ℕ) (fits : WindowFits n a d W q) where
  place_in : (l t : ℕ) → l < across a W.height W.width → t < q + along a W.height W.width
      → line_place (window_lines a d W q) l t < n
  place_in l t h k =
      rw (line_place_law a d W q fits l t k)
      (line_below a W.stride _ _ _ n (column_in a d W q fits l t h k) (row_in a d W q fits l t h k) fits.in_buffer)

  pub lines_apart : Apart (window_lines a d W q) (q + along a W.height W.width)
  lines_apart l j t u hl hj ht hu e =
      let p = one_line a W.stride _ _ _ _ (column_in a d W q fits l t hl ht) (column_in a d W q fits j u hj hu)
      (sym (line_place_law a d W q fits l t ht) ∙ e ∙ line_place_law a d W q fits j u hu) in
      (omega (arith, p.0), index_apart d _ _ q t u fits.start ht hu p.1)

pub some_lines : {n : ℕ} (a : Axis) (d : Direction) (W : Window) (q : ℕ) → WindowFits n a d W q
    → (0 < across a W.height W.width) × (0 < along a W.height W.width)
some_lines columns d W q fits = (fits.wide, fits.tall)
some_lines rows d W q fits = (fits.tall, fits.wide)

-- A window has no more rows, and no more columns, than a buffer has places.
pub few_places : {n : ℕ} (a : Axis) (d : Direction) (W : Window) (q : ℕ) → WindowFits n a d W q
    → q + along a W.height W.width ≤ n
few_places a d W q fits =
    let bottom : ℕ = W.top + W.height + along a (if_backward (is_backward d) q) 0 in
    few a d W q fits (mul-le-mul_left {m = 1} {n = W.stride} bottom (omega (arith, fits.wide, fits.in_row)))
    (mul-le-mul_right {m = 1} {n = bottom} W.stride (omega (arith, fits.tall)))
  where
    few : {n : ℕ} (a : Axis) (d : Direction) (W : Window) (q : ℕ) → WindowFits n a d W q
        → (W.top + W.height + along a (if_backward (is_backward d) q) 0) * 1
        ≤ (W.top + W.height + along a (if_backward (is_backward d) q) 0) * W.stride
        → 1 * W.stride ≤ (W.top + W.height + along a (if_backward (is_backward d) q) 0) * W.stride
        → q + along a W.height W.width ≤ n
    few columns forward W q fits h k = omega (arith, fits.start, fits.in_buffer)
    few columns backward W q fits h k = omega (arith, fits.in_buffer)
    few rows forward W q fits h k = omega (arith, fits.start, fits.in_row, fits.in_buffer)
    few rows backward W q fits h k = omega (arith, fits.in_row, fits.in_buffer)

pub lines_fit : {n : ℕ} (a : Axis) (d : Direction) (W : Window) (q : ℕ) → WindowFits n a d W q
    → LinesFit n (window_lines a d W q) (q + along a W.height W.width)
lines_fit a forward W q fits =
    record {
      some = (some_lines a forward W q fits).0;
      enough = few_places a forward W q fits;
      low = λ t e. omega arith;
      high = λ l t h e. omega (arith, place_in a forward W q fits l t h e);
    }
lines_fit a backward W q fits =
    record {
      some = (some_lines a backward W q fits).0;
      enough = few_places a backward W q fits;
      low = λ t e.
          let last : ℕ = (along a W.height W.width + q) - 1 in
          omega (arith, mul-le-mul_right {m = t} {n = last} (along a W.stride 1) (omega arith));
      high = λ l t h e. omega (arith, place_in a backward W q fits l 0 h (omega arith));
    }

-- ---- a pass over a window

-- A buffer has at each pixel of the window the word of the filter over the window's lines, H l standing for the words
-- beyond line l, and everywhere else the word that it had before.
abbrev pub Passed : Axis → Direction → Window → Filter → (H : ℕ → ℕ → ℕ) → (before after : List ℕ) → Type 0
Passed a d W f H before after =
    InWindow W (filter_lines a d f (along a W.height W.width) H (window_of W before)) before after

-- What holds of each line holds of each pixel.
by_line : (a : Axis) (h w : ℕ) (X : ℕ → ℕ → ℕ) (line : ℕ → ℕ → ℕ)
    → ((l i : ℕ) → l < across a h w → i < along a h w → line_of a X l i ≡ line l i)
    → (y x : ℕ) → y < h → x < w → X y x ≡ line_of a line y x
by_line columns h w X line e y x p q = e x y q p
by_line rows h w X line e y x p q = e y x p q

-- A place of a line is a pixel.
by_pixel : (a : Axis) (h w : ℕ) (place : ℕ → ℕ → ℕ) (z : ℕ) → ((y x : ℕ) → y < h → x < w → z ≢ place y x)
    → (l i : ℕ) → l < across a h w → i < along a h w → z ≢ line_of a place l i
by_pixel columns h w place z e l i p q = e i l q p
by_pixel rows h w place z e l i p q = e l i p q

-- A word of a line is a word of a pixel.
line_word_law : (a : Axis) (word : ℕ → ℕ) (place : ℕ → ℕ → ℕ) (l i : ℕ)
    → word (line_of a place l i) ≡ line_of a (λ y x. word (place y x)) l i
line_word_law columns word place l i = refl
line_word_law rows word place l i = refl

line_pixel : (a : Axis) (W : Window) (l i : ℕ)
    → line_of a (row_major W.stride) (line_in a W l) (along a W.top W.left + i) ≡ line_of a (window_place W) l i
line_pixel columns W l i = refl
line_pixel rows W l i = refl

module _ (a : Axis) (d : Direction) (W : Window) (f : Filter) (q : ℕ) (before : List ℕ)
    (fits : WindowFits (length before) a d W q) where
  abbrev L : Lines
  L = window_lines a d W q

  abbrev H : ℕ → ℕ → ℕ
  H = history_beside a d W q before

  abbrev m : ℕ
  m = along a W.height W.width

  -- The place that the kernel comes to after j others.
  place_is : (l j : ℕ) → j < m → line_place L l (q + j) ≡ line_of a (window_place W) l (reflect d m j)
  place_is l j h =
      line_place_law a d W q fits l (q + j) (omega arith)
      ∙ ap (line_of a (row_major W.stride) (line_in a W l)) (index_inside d _ m q j fits.start h)
      ∙ line_pixel a W l (reflect d m j)

  word_is : (buffer : List ℕ) (l j : ℕ) → j < m
      → word_at buffer (line_place L l (q + j)) ≡ line_of a (window_of W buffer) l (reflect d m j)
  word_is buffer l j h =
      ap (word_at buffer) (place_is l j h) ∙ line_word_law a (word_at buffer) (window_place W) l (reflect d m j)

  history_is : (l k : ℕ) → words_before (λ k. 0) (λ t. word_at before (line_place L l t)) q k ≡ H l k
  history_is l k =
      elim (dec_lt k q) [
        | yes b ↦
            rw (lt-ltb k q b)
            (words_before_inside (λ k. 0) _ q k b
            ∙ ap (word_at before)
            (line_place_law a d W q fits l (q - suc k) (omega arith)
            ∙ ap (line_of a (row_major W.stride) (line_in a W l)) (index_beside d _ m q k fits.start b)))
        | no b ↦ rw (le-ltb k q (omega arith)) (words_before_past (λ k. 0) _ q k (omega arith))
      ]

  -- The words of a line as the kernel leaves them.
  line_is : (after : List ℕ) → Filtered L f q before m after → (l i : ℕ) → l < across a W.height W.width → i < m
      → line_of a (window_of W after) l i ≡ filter_line d f m (H l) (line_of a (window_of W before) l) i
  unfolding filter_line
  line_is after u l i h e =
      let j : ℕ = reflect d m i in
      let b : j < m = reflect_lt d m i e in
      ap (line_of a (window_of W after) l) (sym (reflect_twice d m i e))
      ∙ sym (word_is after l j b)
      ∙ u.at l j h b
      ∙ output_reads (filter_step f) f.order (filter_step_reads f) _ (H l) _ _ (λ k c. history_is l k) j
      (λ k c. word_is before l k (omega arith))

  passed_at : (after : List ℕ) → Filtered L f q before m after → Passed a d W f H before after
  unfolding filter_lines
  passed_at after u =
      record {
        length_kept = u.length_kept;
        at = by_line a W.height W.width (window_of W after) _ (line_is after u);
        elsewhere = λ z e.
            u.elsewhere z
            (λ l i h c p.
            by_pixel a W.height W.width (window_place W) z e l (reflect d m i) h (reflect_lt d m i c)
            (p ∙ place_is l i c));
      }

-- ---- with other histories

-- The histories are the words beside the window, q of each line, and 0 past these.
pub record Histories (a : Axis) (d : Direction) (W : Window) (f : Filter) (q : ℕ) (H : ℕ → ℕ → ℕ) (buffer : List ℕ) : Type 0
  where
    pub near : (l k : ℕ) → l < across a W.height W.width → k < q → k < f.order
        → words_beside_window a d W buffer l k ≡ H l k
    pub far : (l k : ℕ) → l < across a W.height W.width → q ≤ k → k < f.order → 0 ≡ H l k

-- A history that the words beside the window are.
history_beside_law : (a : Axis) (d : Direction) (W : Window) (f : Filter) (q : ℕ) (H : ℕ → ℕ → ℕ) (buffer : List ℕ)
    → Histories a d W f q H buffer → (l k : ℕ) → l < across a W.height W.width → k < f.order
    → history_beside a d W q buffer l k ≡ H l k
history_beside_law a d W f q H buffer histories l k h e =
    elim (dec_lt k q) [
      | yes b ↦ rw (lt-ltb k q b) (histories.near l k h b e)
      | no b ↦ rw (le-ltb k q (omega arith)) (histories.far l k h (omega arith) e)
    ]

module _ (pass : ℕ) (W : Window) (f : Filter) (q : ℕ) (before : List ℕ)
    (fits : WindowFits (length before) (axis_of pass) (direction_of pass) W q) where
  abbrev a : Axis
  a = axis_of pass

  abbrev d : Direction
  d = direction_of pass

  -- What the kernel leaves is the buffer after the pass.
  pub kernel_pass : filter_in_place (window_lines a d W q) f q (along a W.height W.width) before
      ≡ window_pass pass W q f before
  unfolding window_pass
  kernel_pass =
      window_is before fits _
      (passed_at a d W f q before fits _
      (filtered (window_lines a d W q) f q (q + along a W.height W.width) before (lines_fit a d W q fits)
      (lines_apart a d W q fits) (along a W.height W.width) (omega arith)))

  -- A pass with the outputs before each line as given.
  pub window_pass_passed : (H : ℕ → ℕ → ℕ) → Histories a d W f q H before
      → Passed a d W f H before (window_pass pass W q f before)
  unfolding window_pass
  window_pass_passed H histories =
      let u = window_written_law before fits (pass_word pass W q f before) in
      record {
        length_kept = u.length_kept;
        at =
            λ y x h k.
            u.at y x h k
            ∙ filter_lines_reads a d f W.height W.width _ H _ (window_of W before)
            (history_beside_law a d W f q H before histories) (λ y x h k. refl) y x h k;
        elsewhere = u.elsewhere;
      }

pub no_history_law : (a : Axis) (d : Direction) (W : Window) (f : Filter) (buffer : List ℕ)
    → Histories a d W f 0 (λ l k. 0) buffer
no_history_law a d W f buffer = record { near = λ l k h e g. absurd (omega arith); far = λ l k h e g. refl }
