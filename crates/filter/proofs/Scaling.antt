-- The gain of a pass may come first: a pass over a window is the pass of gain 1 over the window's words times the gain.
-- Assumes nothing.
use mathlib.Core.Path.{◌≡◌, refl, sym, ap, ◌∙◌}
use mathlib.Core.List.{List, ◌++◌}
use mathlib.Core.Logic.{◌≢◌}
use Prim.Native.Nat.{ℕ, zero, suc, ◌+◌, ◌-◌, ◌*◌, ◌^◌, ◌<◌, ◌≤◌}
use native.Mathlib.Nat.{mul-le-mul_left, mul-le-mul_right}
use native.Mathlib.Omega.{arith}
use lib.ListN.{length, take, drop, set}
use Rattle.std.proofs.lemmas.List.{length-drop, length-take-le, set-append_left, set-append_right, get_or-take, get_or-drop}
use borrow.Author.Tests.{lt-ltb, le-ltb}
use borrow.Rule.Slice.PartMut.{mid_of, put_mid, put_same}
use Rattle.word.specs.Word.{◌⊗◌}
use Rattle.word.proofs.Ring.{one_mul, reduced_small}
use Rattle.buffer.specs.Lists.{word_at}
use Rattle.buffer.specs.Written.{written, row_written}
use Rattle.buffer.specs.Copies.{scaled_from}
use Rattle.buffer.proofs.Written.{written_same}
use Rattle.buffer.proofs.Copies.{row_length, rectangle_more, rectangle_unchanged, rectangle_other}
use Rattle.passes.specs.Filter.{Filter}
use Rattle.axis.specs.Axis.{Axis, columns, rows, Direction, forward, backward, axis_of, direction_of, along, across, line_of}
use Rattle.passes.proofs.Passes.{filter_lines_reads, filter_lines_scales}
use Rattle.passes.specs.Gains.{unit_gain}
use Rattle.passes.proofs.Gains.{filter_lines_gain}
use Rattle.filter.specs.declared.Window.{Window}
use Rattle.number.specs.Numbers.{row_major}
use Rattle.filter.specs.Windows.{window_pass, window_place, window_of, scaled_word, window_scaled, beyond, history_beside, WindowFits}
use Rattle.number.proofs.RowMajor.{same_row_column}
use Rattle.filter.proofs.WindowWords.{InWindow, window_written_law, window_is}
use Rattle.filter.proofs.Windows.{Histories, window_pass_passed}

-- ---- the window's words times the gain

-- The words of a row lie in the buffer.
pub row_fits : {n : ℕ} (W : Window) → WindowFits n columns forward W 0 → (row : ℕ) → row < W.height
    → (W.top + row ≤ n) × (row_major W.stride (W.top + row) W.left + W.width ≤ n)
row_fits {n} W fits row h =
    let below : suc (W.top + row) * W.stride ≤ (W.top + W.height) * W.stride = mul-le-mul_right W.stride (omega arith) in
    let end : row_major W.stride (W.top + row) W.left + W.width ≤ n =
    omega (arith, fits.in_row, fits.in_buffer) in
    let wide : (W.top + row) * 1 ≤ (W.top + row) * W.stride =
    mul-le-mul_left (W.top + row) (omega (arith, fits.wide, fits.in_row)) in
    (omega arith, end)

-- A row that is written in a list of its own, and put back.
put_row : (start width : ℕ) (words : ℕ → ℕ) (a : List ℕ) → start + width ≤ length a → (n : ℕ) → n ≤ width
    → put_mid start width a (row_written 0 words n (mid_of start width a)) ≡ row_written start words n a
unfolding row_written written
put_row start width words a fits zero h = put_same start width a
put_row start width words a fits (suc n) h =
    let row : List ℕ = row_written 0 words n (mid_of start width a) in
    let before : length (take start a) ≡ start = length-take-le start a (omega arith) in
    let long : length row ≡ width =
    row_length 0 words n (mid_of start width a)
    ∙ length-take-le width (drop start a) (omega (arith, length-drop start a)) in
    let place : (start + n) - start ≡ 0 + n = omega arith in
    ap (take start a ++◌)
    (sym (set-append_left row (drop width (drop start a)) (0 + n) (words n) (omega arith))
    ∙ ap (λ p. set (row ++ drop width (drop start a)) p (words n)) (sym place))
    ∙ sym (set-append_right (take start a) (row ++ drop width (drop start a)) start (start + n) (words n) before (omega arith))
    ∙ ap (λ z. set z (start + n) (words n)) (put_row start width words a fits n (omega arith))

-- The same of words that are scaled.
pub row_put : (gain start width : ℕ) (a : List ℕ) → start + width ≤ length a
    → let row = mid_of start width a in
    put_mid start width a (row_written 0 (scaled_from gain row 0 1) width row)
    ≡ row_written start (scaled_from gain a start 1) width a
unfolding row_written
row_put gain start width a fits =
    put_row start width (scaled_from gain (mid_of start width a) 0 1) a fits width (omega arith)
    ∙ written_same _ _ _ (scaled_from gain a start 1) width a (λ i h. refl)
    (λ i h.
    ap (gain ⊗◌)
    (get_or-take width (drop start a) (0 + i * 1) 0 (omega arith)
    ∙ get_or-drop start a (0 + i * 1) 0
    ∙ ap (word_at a) (omega arith)))

-- One row more: no word of it stands in the rows before.
pub scale_row : {m : ℕ} (gain : ℕ) (W : Window) → WindowFits m columns forward W 0 → (n : ℕ) (a b : List ℕ) {e : List ℕ}
    → b ≡ window_scaled gain W n a
    → let start = row_major W.stride (W.top + n) W.left in
    e ≡ row_written start (scaled_from gain b start 1) W.width b
    → e ≡ window_scaled gain W (n + 1) a
unfolding row_written
scale_row gain W fits n a b p f =
    let words : ℕ → ℕ → ℕ = scaled_word gain W a in
    let above : (x : ℕ) → x < W.width → word_at (window_scaled gain W n a) (window_place W n x) ≡ window_of W a n x =
    λ x h.
    rectangle_other (window_place W) words W.width n a (window_place W n x)
    (λ y z k g e.
    absurd (omega (arith, (same_row_column W.stride _ _ _ _ (omega (arith, fits.in_row)) (omega (arith, fits.in_row)) e).0))) in
    rectangle_more (window_place W) words W.width n a b _ p
    (f
    ∙ written_same _ (window_place W n) _ (words n) W.width b
    (λ x h. omega arith)
    (λ x h.
    ap (gain ⊗◌) (ap (word_at b) {y = window_place W n x} (omega arith) ∙ ap (λ l. word_at l (window_place W n x)) p ∙ above x h)))

-- Gain 1 changes nothing.
pub scale_unchanged : (W : Window) (n : ℕ) (a : List ℕ) → ((i : ℕ) → word_at a i < 2 ^ 64) → window_scaled 1 W n a ≡ a
scale_unchanged W n a small =
    rectangle_unchanged (window_place W) (scaled_word 1 W a) W.width n a (λ y x h k. one_mul _ ∙ reduced_small _ (small _))

-- ---- the words beside a window, and those in it

-- What lies beside a window is none of its pixels.
beside_outside : {n : ℕ} (a : Axis) (d : Direction) (W : Window) (q : ℕ) → WindowFits n a d W q → (l k : ℕ)
    → l < across a W.height W.width → k < q → (y x : ℕ) → y < W.height → x < W.width
    → line_of a (row_major W.stride) (across a W.top W.left + l)
    (beyond d (along a W.top W.left) (along a W.height W.width) k)
    ≢ window_place W y x
beside_outside columns forward W q fits l k hl hk y x hy hx e =
    absurd (omega (arith, fits.start, (same_row_column W.stride _ _ _ _ (omega (arith, fits.in_row)) (omega (arith, fits.in_row)) e).0))
beside_outside columns backward W q fits l k hl hk y x hy hx e =
    absurd (omega (arith, (same_row_column W.stride _ _ _ _ (omega (arith, fits.in_row)) (omega (arith, fits.in_row)) e).0))
beside_outside rows forward W q fits l k hl hk y x hy hx e =
    absurd (omega (arith, fits.start, (same_row_column W.stride _ _ _ _ (omega (arith, fits.in_row)) (omega (arith, fits.in_row)) e).1))
beside_outside rows backward W q fits l k hl hk y x hy hx e =
    absurd (omega (arith, (same_row_column W.stride _ _ _ _ (omega (arith, fits.in_row)) (omega (arith, fits.in_row)) e).1))

-- ---- the gain first

module _ (pass : ℕ) (W : Window) (f : Filter) (q : ℕ) (before : List ℕ)
    (fits : WindowFits (length before) (axis_of pass) (direction_of pass) W q) where
  abbrev a : Axis
  a = axis_of pass

  abbrev d : Direction
  d = direction_of pass

  abbrev scaled : List ℕ
  scaled = window_scaled f.gain W W.height before

  scaled_is : InWindow W (scaled_word f.gain W before) before scaled
  scaled_is = window_written_law before fits (scaled_word f.gain W before)

  -- What stands beside the window is not scaled.
  beside_kept : Histories a d W (unit_gain f) q (history_beside a d W q before) scaled
  beside_kept =
      record {
        near = λ l k h b e. rw (lt-ltb k q b) (scaled_is.elsewhere _ (beside_outside a d W q fits l k h b));
        far = λ l k h b e. rw (le-ltb k q b) refl;
      }

  window_pass_scaled : window_pass pass W q (unit_gain f) scaled ≡ window_pass pass W q f before
  unfolding window_pass
  window_pass_scaled =
      let s = scaled_is in
      let u = window_pass_passed pass W (unit_gain f) q scaled (rw s.length_kept fits) _ beside_kept in
      window_is before fits _
      (record {
        length_kept = u.length_kept ∙ s.length_kept;
        at =
            λ y x h k.
            u.at y x h k
            ∙ filter_lines_reads a d (unit_gain f) W.height W.width _ _ _ _ (λ l k c g. refl) s.at y x h k
            ∙ sym (filter_lines_gain a d f _ _ (window_of W before) y x);
        elsewhere = λ z no. u.elsewhere z no ∙ s.elsewhere z no;
      })

  -- The gain, and then the pass of gain 1;
  pub gain_then_pass : {b c : List ℕ} → b ≡ scaled → c ≡ window_pass pass W q (unit_gain f) b → c ≡ window_pass pass W q f before
  gain_then_pass e g = g ∙ ap (window_pass pass W q (unit_gain f)) e ∙ window_pass_scaled

  -- or, at order 0, nothing more.
  pub gain_then_none : {b : List ℕ} → b ≡ scaled → f.order ≡ 0 → b ≡ window_pass pass W q f before
  unfolding window_pass
  gain_then_none e none =
      let s = scaled_is in
      e
      ∙ window_is before fits _
      (record {
        length_kept = s.length_kept;
        at =
            λ y x h k. s.at y x h k ∙ sym (filter_lines_scales a d f W.height W.width _ (window_of W before) y x none h k);
        elsewhere = s.elsewhere;
      })
