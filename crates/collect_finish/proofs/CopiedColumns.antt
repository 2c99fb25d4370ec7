-- Rectangles that are written column after column or group after group: the start, one column or group more, and
-- the end. Assumes nothing.
use mathlib.Core.Path.{◌≡◌, refl, sym, ap, ◌∙◌}
use mathlib.Core.List.{List}
use mathlib.Core.Logic.{◌≢◌}
use Prim.Native.Nat.{ℕ, zero, suc, ◌+◌, ◌*◌, ◌≤◌, ◌<◌}
use native.Mathlib.Nat.{mul-le-mul_right}
use native.Mathlib.Numerals.{add-one}
use native.Mathlib.Omega.{arith}
use lib.ListN.{set}
use Rattle.word.specs.Word.{◌⊗◌}
use Rattle.buffer.specs.Lists.{word_at}
use Rattle.buffer.specs.Copies.{scaled_from, stride_place, stride_scaled, stride_written}
use Rattle.buffer.specs.Written.{written, rectangle_written}
use Rattle.buffer.proofs.Written.{written_none, written_next, written_same, written_swap}
use Rattle.collect_finish.proofs.CopiedRows.{RectangleWritten}
use Rattle.buffer.proofs.Copies.{rectangle_none, rectangle_more, rectangle_unchanged}

-- ---- column c of a rectangle, into a list that has the columns before it: no row reaches into the next

module _ (start stride : ℕ) (words : ℕ → ℕ → ℕ) (c : ℕ) (narrow : c < stride) (before : List ℕ) where
  -- So many columns of h rows.
  abbrev columns : ℕ → ℕ → List ℕ
  columns w h = stride_written start stride w words h before

  abbrev row : ℕ → ℕ → ℕ
  row y = stride_place start stride y

  abbrev cell : ℕ → ℕ
  cell y = row y c

  -- Column c of h rows, into a list.
  abbrev with_column : ℕ → List ℕ → List ℕ
  with_column h list = written cell (λ y. words y c) h list

  -- The cells of the rows before h are not in row h.
  apart : (h y i : ℕ) → y < h → i < c → row h i ≢ cell y
  apart h y i below left e =
      let rows : (y + 1) * stride ≤ h * stride = mul-le-mul_right stride (omega arith) in
      omega arith

  one_row_more : (h : ℕ) → with_column h (columns c h) ≡ columns (c + 1) h
      → with_column (h + 1) (columns c (h + 1)) ≡ columns (c + 1) (h + 1)
  one_row_more h e =
      sym (written_next cell (λ y. words y c) h (columns c (h + 1)))
      ∙ ap (λ z. set (with_column h z) (cell h) (words h c)) (sym (rectangle_more row words c h before _ _ refl refl))
      ∙ ap (λ z. set z (cell h) (words h c))
      (written_swap cell (λ y. words y c) h (row h) (words h) c (columns c h) (apart h)
      ∙ ap (written (row h) (words h) c) e)
      ∙ written_next (row h) (words h) c (columns (c + 1) h)
      ∙ rectangle_more row words (c + 1) h before _ _ refl refl

  one_column_more : (h : ℕ) → with_column h (columns c h) ≡ columns (c + 1) h
  one_column_more zero =
      written_none cell (λ y. words y c) _
      ∙ sym (rectangle_none row words c before)
      ∙ rectangle_none row words (c + 1) before
  one_column_more (suc h) = rw (← add-one h) (one_row_more h (one_column_more h))

-- ---- the columns from column c on, into a list that has the columns before it

module _ (start stride : ℕ) (words : ℕ → ℕ → ℕ) (c h : ℕ) (before : List ℕ) where
  -- So many columns of h rows.
  abbrev first_columns : ℕ → List ℕ
  first_columns w = stride_written start stride w words h before

  -- The words from column c on.
  abbrev group : ℕ → ℕ → ℕ
  group y x = words y (c + x)

  -- So many columns from column c on, into a list.
  abbrev with_group : ℕ → List ℕ → List ℕ
  with_group m list = stride_written (start + c) stride m group h list

  group_joins : (m : ℕ) → c + m ≤ stride → with_group m (first_columns c) ≡ first_columns (c + m)
  group_joins zero narrow =
      let none : c + 0 ≡ c = omega arith in
      rw none
      (rectangle_unchanged (stride_place (start + c) stride) group 0 h _ (λ y x b d. absurd (omega arith)))
  group_joins (suc m) narrow =
      let whole : c + suc m ≡ c + m + 1 = omega arith in
      rw (whole, ← add-one m)
      (sym (one_column_more (start + c) stride group m (omega arith) (first_columns c) h)
      ∙ written_same _ _ _ _ h _ (λ y b. omega arith) (λ y b. refl)
      ∙ ap (with_column start stride words (c + m) (omega arith) before h) (group_joins m (omega arith))
      ∙ one_column_more start stride words (c + m) (omega arith) before h)

-- ---- the code's loops

module _ {to to_stride : ℕ} {words : ℕ → ℕ → ℕ} {h : ℕ} {before : List ℕ} where
  pub columns_none : RectangleWritten to to_stride 0 words h before before
  columns_none =
      record {
        written = sym (rectangle_unchanged (stride_place to to_stride) words 0 h before (λ y x b d. absurd (omega arith)));
      }

  -- A group of so many columns more.
  pub next_group : (width : ℕ) {column : ℕ} {after next : List ℕ} {read : ℕ → ℕ → ℕ}
      → RectangleWritten to to_stride column words h before after → column + width ≤ to_stride
      → ((y x : ℕ) → read y x ≡ words y (column + x)) → next ≡ stride_written (to + column) to_stride width read h after
      → RectangleWritten to to_stride (column + width) words h before next
  unfolding rectangle_written
  next_group width {column} {after} inv narrow same e =
      record {
        written =
            e
            ∙ written_same _ _ _ _ (h * width) after (λ q b. refl) (λ q b. same _ _)
            ∙ ap (with_group to to_stride words column h before width) inv.written
            ∙ group_joins to to_stride words column h before width narrow;
      }

-- A column more, times a gain.
pub columns_more : (gain : ℕ) (from : List ℕ) (start stride : ℕ) {to to_stride h column : ℕ} {before after next : List ℕ}
    → RectangleWritten to to_stride column (stride_scaled gain from start stride) h before after → column < to_stride
    → next ≡ written (λ y. to + column + y * to_stride) (scaled_from gain from (start + column) stride) h after
    → RectangleWritten to to_stride (column + 1) (stride_scaled gain from start stride) h before next
columns_more gain from start stride {to} {to_stride} {h} {column} {before} {after} inv narrow e =
    let words = stride_scaled gain from start stride in
    record {
      written =
          e
          ∙ written_same _ _ _ _ h after (λ y c. omega arith) (λ y c. ap (λ z. gain ⊗ word_at from z) (omega arith))
          ∙ ap (with_column to to_stride words column narrow before h) inv.written
          ∙ one_column_more to to_stride words column narrow before h;
    }
