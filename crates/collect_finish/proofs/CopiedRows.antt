-- Rectangles that are written row after row: the start, one row more, and the end; and rows times a gain. Assumes
-- nothing.
use mathlib.Core.Path.{◌≡◌, refl, ap, ◌∙◌}
use mathlib.Core.List.{List}
use Prim.Native.Nat.{ℕ, ◌+◌, ◌*◌, ◌^◌, ◌<◌}
use native.Mathlib.Omega.{arith}
use Rattle.word.specs.Word.{◌⊗◌}
use Rattle.buffer.specs.Lists.{word_at}
use Rattle.buffer.specs.Copies.{words_from, scaled_from, stride_place, stride_scaled, stride_written}
use Rattle.buffer.specs.Written.{row_written}
use Rattle.buffer.proofs.Written.{written_same}
use Rattle.buffer.proofs.Copies.{row_unscaled, rectangle_none, rectangle_more}

-- A rectangle of h rows of w words has been written.
pub record RectangleWritten (start stride w : ℕ) (words : ℕ → ℕ → ℕ) (h : ℕ) (before after : List ℕ) : Type 0 where
  pub written : after ≡ stride_written start stride w words h before

module _ {start stride w : ℕ} {words : ℕ → ℕ → ℕ} {before : List ℕ} where
  pub rows_none : RectangleWritten start stride w words 0 before before
  rows_none = record { written = rectangle_none (stride_place start stride) words w before }

  pub rows_more : {row : ℕ} {after next : List ℕ} → RectangleWritten start stride w words row before after
      → next ≡ row_written (start + row * stride) (words row) w after
      → RectangleWritten start stride w words (row + 1) before next
  unfolding row_written
  rows_more {row} {after} {next} inv e =
      record { written = rectangle_more (stride_place start stride) words w row before after next inv.written e }

-- ---- words times a gain

-- Gain 1 changes nothing.
pub unscaled_row : (gain to : ℕ) (from : List ℕ) (start n : ℕ) (before : List ℕ) {after : List ℕ} → gain ≡ 1
    → ((i : ℕ) → word_at from i < 2 ^ 64) → after ≡ row_written to (words_from from start) n before
    → after ≡ row_written to (scaled_from gain from start 1) n before
unscaled_row gain to from start n before one small e = rw one (e ∙ row_unscaled to from start n before small)

-- One row more of a rectangle.
pub scaled_more : (gain : ℕ) (from : List ℕ) (start stride : ℕ) {to to_stride w row : ℕ} {before after next : List ℕ}
    → RectangleWritten to to_stride w (stride_scaled gain from start stride) row before after
    → next ≡ row_written (to + row * to_stride) (scaled_from gain from (start + row * stride) 1) w after
    → RectangleWritten to to_stride w (stride_scaled gain from start stride) (row + 1) before next
unfolding row_written
scaled_more gain from start stride {w = w} {after = after} inv e =
    rows_more inv
    (e ∙ written_same _ _ _ _ w after (λ i h. refl) (λ i h. ap (λ z. gain ⊗ word_at from z) (omega arith)))
