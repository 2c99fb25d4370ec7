-- The words of a window: which windows fit, and what a buffer holds once they are written. Assumes nothing.
use mathlib.Core.Path.{◌≡◌, refl, sym, ap₂, ◌∙◌}
use mathlib.Core.Bool.{Bool, true, false}
use mathlib.Core.List.{List}
use mathlib.Core.Logic.{◌≢◌}
use Prim.Native.Nat.{ℕ, ◌+◌, ◌-◌, ◌*◌, ◌/◌, ◌%◌, ◌<◌, ◌≤◌}
use native.Mathlib.Nat.{add-mul, div-add-mod', mod-lt}
use native.Mathlib.Decide.{dec_lt}
use native.Mathlib.Omega.{arith}
use lib.ListN.{length}
use lib.Seq.{ext_get_or}
use Rattle.buffer.specs.Lists.{word_at}
use Rattle.buffer.proofs.Copies.{rectangle_length, rectangle_other, rectangle_at}
use Rattle.axis.specs.Axis.{Axis, columns, rows, Direction, forward, along, is_backward, if_forward, if_backward}
use Rattle.number.specs.Numbers.{row_major}
use Rattle.number.proofs.RowMajor.{place_below, same_row_column}
use Rattle.filter.specs.declared.Window.{Window}
use Rattle.filter.specs.Windows.{window_place, window_of, window_written, WindowFits}

-- ---- windows without history

nothing_forward : (b : Bool) → if_forward b 0 ≡ 0
nothing_forward false = refl
nothing_forward true = refl

nothing_backward : (b : Bool) → if_backward b 0 ≡ 0
nothing_backward false = refl
nothing_backward true = refl

along_same : (a : Axis) (x : ℕ) → along a x x ≡ x
along_same columns x = refl
along_same rows x = refl

pub fits_alone : {n : ℕ} (a : Axis) (d : Direction) (W : Window) → 0 < W.height → 0 < W.width
    → W.left + W.width ≤ W.stride → (W.top + W.height) * W.stride ≤ n → WindowFits n a d W 0
fits_alone a d W tall wide in_row in_buffer =
    let e : if_forward (is_backward d) 0 ≡ 0 = nothing_forward (is_backward d) in
    let none : along a (if_backward (is_backward d) 0) 0 ≡ 0 = rw nothing_backward (along_same a 0) in
    let none_across : along a 0 (if_backward (is_backward d) 0) ≡ 0 = rw nothing_backward (along_same a 0) in
    record {
      tall = tall;
      wide = wide;
      start = omega arith;
      in_row = omega arith;
      in_buffer = rw none (omega arith);
    }

-- A window that fits with a history fits without.
pub fits_down : {n : ℕ} (a : Axis) (d : Direction) (W : Window) (q : ℕ) → WindowFits n a d W q
    → WindowFits n columns forward W 0
fits_down a d W q fits =
    fits_alone columns forward W fits.tall fits.wide (omega (arith, fits.in_row))
    (omega (
      arith,
      fits.in_buffer,
      add-mul (W.top + W.height) (along a (if_backward (is_backward d) q) 0) W.stride,
    ))

-- ---- what a written window holds

-- A place is a pixel of a window or it is none.
pixel_or_not : (W : Window) (z : ℕ) → 0 < W.stride → W.left + W.width ≤ W.stride → {P : Type 0}
    → ((y x : ℕ) → y < W.height → x < W.width → z ≡ window_place W y x → P)
    → (((y x : ℕ) → y < W.height → x < W.width → z ≢ window_place W y x) → P) → P
pixel_or_not W z some in_row {P} inside outside =
    let row : ℕ = z / W.stride in
    let column : ℕ = z % W.stride in
    let split : row * W.stride + column ≡ z = div-add-mod' z W.stride in
    let low : column < W.stride = mod-lt z some in
    let parts : (y x : ℕ) → x < W.width → z ≡ window_place W y x → (row ≡ W.top + y) × (column ≡ W.left + x) =
    λ y x h e. same_row_column W.stride row column (W.top + y) (W.left + x) low (omega arith) (split ∙ e) in
    let none_row : ((y : ℕ) → y < W.height → row ≢ W.top + y) → P =
    λ no. outside (λ y x h k e. no y h (parts y x k e).0) in
    let none_column : ((x : ℕ) → x < W.width → column ≢ W.left + x) → P =
    λ no. outside (λ y x h k e. no x k (parts y x k e).1) in
    elim (dec_lt row W.top) [
      | yes b ↦ none_row (λ y h e. absurd (omega arith))
      | no b ↦
          elim (dec_lt row (W.top + W.height)) [
            | no c ↦ none_row (λ y h e. absurd (omega arith))
            | yes c ↦
                elim (dec_lt column W.left) [
                  | yes g ↦ none_column (λ x h e. absurd (omega arith))
                  | no g ↦
                      elim (dec_lt column (W.left + W.width)) [
                        | no k ↦ none_column (λ x h e. absurd (omega arith))
                        | yes k ↦
                            inside (row - W.top) (column - W.left) (omega arith) (omega arith)
                            (sym split ∙ ap₂ (row_major W.stride) (omega arith) (omega arith))
                      ]
                ]
          ]
    ]

-- A buffer has these words in a window, and everywhere else the words that it had before.
pub record InWindow (W : Window) (words : ℕ → ℕ → ℕ) (before after : List ℕ) : Type 0 where
  pub length_kept : length after ≡ length before
  pub at : (y x : ℕ) → y < W.height → x < W.width → window_of W after y x ≡ words y x
  pub elsewhere : (z : ℕ) → ((y x : ℕ) → y < W.height → x < W.width → z ≢ window_place W y x)
      → word_at after z ≡ word_at before z

module _ {a : Axis} {d : Direction} {W : Window} {q : ℕ} (before : List ℕ) (fits : WindowFits (length before) a d W q)
    (words : ℕ → ℕ → ℕ) where
  in_rows : W.left + W.width ≤ W.stride
  in_rows = omega (arith, fits.in_row)

  pub window_written_law : InWindow W words before (window_written W words W.height before)
  window_written_law =
      record {
        length_kept = rectangle_length (window_place W) words W.width W.height before;
        at =
            rectangle_at (window_place W) words W.width W.height before
            (λ y x v u b c d g e.
            let s = same_row_column W.stride _ _ _ _ (omega (arith, in_rows)) (omega (arith, in_rows)) e in
            (omega (arith, s.0), omega (arith, s.1)))
            (λ y x b c.
            omega (
              arith,
              (fits_down a d W q fits).in_buffer,
              place_below (W.top + W.height) W.stride (W.top + y) (W.left + x) (omega arith) (omega (arith, in_rows)),
            ));
        elsewhere = rectangle_other (window_place W) words W.width W.height before;
      }

  -- It is the only buffer that does.
  pub window_is : {after : List ℕ} → InWindow W words before after → after ≡ window_written W words W.height before
  window_is {after} holds =
      ext_get_or 0 _ _ (holds.length_kept ∙ sym window_written_law.length_kept)
      (λ z h.
      pixel_or_not W z (omega (arith, fits.wide, in_rows)) in_rows
      (λ y x hy hx e. rw e (holds.at y x hy hx ∙ sym (window_written_law.at y x hy hx)))
      (λ no. holds.elsewhere z no ∙ sym (window_written_law.elsewhere z no)))
