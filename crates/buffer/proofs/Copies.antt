-- Rows, zeros and rectangles that are written: one turn of each loop, what stands there then, and what stands
-- elsewhere. Assumes nothing.
use mathlib.Core.Path.{◌≡◌, refl, sym, ap, ap₂, ◌∙◌}
use mathlib.Core.List.{List}
use mathlib.Core.Logic.{◌≢◌}
use Prim.Native.Nat.{ℕ, ◌+◌, ◌*◌, ◌^◌, ◌<◌, ◌≤◌}
use native.Mathlib.Nat.{div-add-mod'}
use native.Mathlib.Omega.{arith}
use lib.ListN.{length, set}
use Rattle.word.specs.Word.{◌⊗◌}
use Rattle.word.proofs.Ring.{one_mul, reduced_small}
use Rattle.buffer.specs.Lists.{word_at, by_place}
use Rattle.buffer.specs.Written.{written, cleared, row_written, rectangle_written}
use Rattle.buffer.proofs.Written.{written_none, written_length, written_same, written_parts, written_more, written_other, written_at, written_unchanged}
use Rattle.number.proofs.RowMajor.{row_of, column_of, place_below, row_below, column_below}
use Rattle.buffer.specs.Copies.{words_from, scaled_from, WordsFit}
use Rattle.number.specs.Numbers.{row_major}

-- ---- a row

pub row_none : (start : ℕ) (words : ℕ → ℕ) (a : List ℕ) → a ≡ row_written start words 0 a
unfolding row_written
row_none start words a = sym (written_none _ words a)

pub row_more : (start : ℕ) (words : ℕ → ℕ) (n : ℕ) (a b : List ℕ) (v : ℕ) → b ≡ row_written start words n a → v ≡ words n
    → set b (start + n) v ≡ row_written start words (n + 1) a
unfolding row_written
row_more start words n a b v e f = written_more (λ i. start + i) words n a b v e f

-- What stands in a row that the list has room for.
pub row_at : (start : ℕ) (words : ℕ → ℕ) (n : ℕ) (a : List ℕ) {b : List ℕ} → b ≡ row_written start words n a
    → start + n ≤ length a → (i p : ℕ) → i < n → p ≡ start + i → word_at b p ≡ words i
unfolding row_written
row_at start words n a e room i p h f =
    ap₂ word_at e f ∙ written_at (λ j. start + j) words n a (λ j k c d. omega arith) (λ j c. omega arith) i h

row_other : (start : ℕ) (words : ℕ → ℕ) (n : ℕ) (a : List ℕ) (p : ℕ) → ((i : ℕ) → i < n → p ≢ start + i)
    → word_at (row_written start words n a) p ≡ word_at a p
unfolding row_written
row_other start words n a p out = written_other (λ i. start + i) words n a p out

pub row_length : (start : ℕ) (words : ℕ → ℕ) (n : ℕ) (a : List ℕ) → length (row_written start words n a) ≡ length a
unfolding row_written
row_length start words n a = written_length (λ i. start + i) words n a

-- A row of two.
pub row_two : (start : ℕ) (words : ℕ → ℕ) (a : List ℕ) (v w : ℕ) → v ≡ words 0 → w ≡ words 1
    → set (set a start v) (start + 1) w ≡ row_written start words 2 a
row_two start words a v w e f =
    let first : start ≡ start + 0 = omega arith in
    row_more start words 1 a _ w (ap (λ place. set a place v) first ∙ row_more start words 0 a a v (row_none start words a) e) f

-- A row in two parts.
pub row_parts : (start : ℕ) (words rest : ℕ → ℕ) (m n : ℕ) (a b d : List ℕ) → b ≡ row_written start words m a
    → ((i : ℕ) → rest i ≡ words (m + i)) → d ≡ row_written (start + m) rest n b → d ≡ row_written start words (m + n) a
unfolding row_written
row_parts start words rest m n a b d e same f =
    f
    ∙ written_same _ (λ i. start + (m + i)) rest (λ i. words (m + i)) n b (λ i h. omega arith) (λ i h. same i)
    ∙ ap (written (λ i. start + (m + i)) (λ i. words (m + i)) n) e
    ∙ sym (written_parts (λ i. start + i) words m n a)

-- Places that lie 1 apart are a row.
pub row_apart : (start : ℕ) (words : ℕ → ℕ) (n : ℕ) (a : List ℕ)
    → written (λ i. start + i * 1) words n a ≡ row_written start words n a
unfolding row_written
row_apart start words n a = written_same _ _ _ _ n a (λ i h. omega arith) (λ i h. refl)

-- Words that lie one after another, times 1.
pub row_unscaled : (start : ℕ) (from : List ℕ) (from_start n : ℕ) (a : List ℕ) → ((i : ℕ) → word_at from i < 2 ^ 64)
    → row_written start (words_from from from_start) n a ≡ row_written start (scaled_from 1 from from_start 1) n a
unfolding row_written
row_unscaled start from from_start n a small =
    written_same _ _ _ _ n a (λ i h. refl)
    (λ i h.
    let e : from_start + i * 1 ≡ from_start + i = omega arith in
    rw e (sym (one_mul _ ∙ reduced_small _ (small (from_start + i)))))

-- A row that is scaled in place: each word is read before it is replaced.
pub row_scaled_more : (gain start n : ℕ) (a b : List ℕ) (v : ℕ) → b ≡ row_written start (scaled_from gain a start 1) n a
    → v ≡ gain ⊗ word_at b (start + n) → set b (start + n) v ≡ row_written start (scaled_from gain a start 1) (n + 1) a
unfolding row_written
row_scaled_more gain start n a b v e f =
    let words : ℕ → ℕ = scaled_from gain a start 1 in
    let same : start + n ≡ start + n * 1 = omega arith in
    let kept : word_at (written (λ i. start + i) words n a) (start + n) ≡ word_at a (start + n) =
    written_other _ _ n a (start + n) (λ i h p. absurd (omega arith)) in
    row_more start words n a b v e (f ∙ ap (gain ⊗◌) (ap (λ l. word_at l (start + n)) e ∙ kept ∙ ap (word_at a) same))

-- Words one after another are words that lie 1 apart.
pub words_fit : (n start count : ℕ) → start + count ≤ n → WordsFit n start 1 count
words_fit n start count h = record { inside = λ i l. omega arith }

-- ---- zeros

pub cleared_none : (start step : ℕ) (a : List ℕ) → a ≡ cleared start step 0 a
unfolding cleared
cleared_none start step a = sym (written_none _ _ a)

pub cleared_more : (start step n : ℕ) (a b : List ℕ) → b ≡ cleared start step n a
    → set b (start + n * step) 0 ≡ cleared start step (n + 1) a
unfolding cleared
cleared_more start step n a b e = written_more (λ i. start + i * step) (λ i. 0) n a b 0 e refl

-- ---- a rectangle

module _ (place words : ℕ → ℕ → ℕ) (w : ℕ) where
  pub rectangle_none : (a : List ℕ) → a ≡ rectangle_written place words w 0 a
  unfolding rectangle_written
  rectangle_none a =
      let e : 0 * w ≡ 0 = omega arith in
      rw e (sym (written_none _ _ a))

  -- One row more.
  pub rectangle_more : (n : ℕ) (a b d : List ℕ) → b ≡ rectangle_written place words w n a
      → d ≡ written (place n) (words n) w b → d ≡ rectangle_written place words w (n + 1) a
  unfolding rectangle_written
  rectangle_more n a b d e f =
      let count : (n + 1) * w ≡ n * w + w = omega arith in
      let p : ℕ → ℕ = by_place w place in
      let v : ℕ → ℕ = by_place w words in
      f
      ∙ written_same (place n) (λ i. p (n * w + i)) (words n) (λ i. v (n * w + i)) w b
      (λ i h. sym (ap₂ place (row_of w n i h) (column_of w n i h)))
      (λ i h. sym (ap₂ words (row_of w n i h) (column_of w n i h)))
      ∙ ap (written (λ i. p (n * w + i)) (λ i. v (n * w + i)) w) e
      ∙ sym (written_parts p v (n * w) w a)
      ∙ ap (λ z. written p v z a) (sym count)

  pub rectangle_length : (h : ℕ) (a : List ℕ) → length (rectangle_written place words w h a) ≡ length a
  unfolding rectangle_written
  rectangle_length h a = written_length _ _ (h * w) a

  -- Each place gets the word that stands there.
  pub rectangle_unchanged : (h : ℕ) (a : List ℕ) → ((y x : ℕ) → y < h → x < w → words y x ≡ word_at a (place y x))
      → rectangle_written place words w h a ≡ a
  unfolding rectangle_written
  rectangle_unchanged h a e =
      written_unchanged _ _ (h * w) a (λ q c. e _ _ (row_below h w q c) (column_below h w q c))

  -- A place outside the rectangle.
  pub rectangle_other : (h : ℕ) (a : List ℕ) (q : ℕ) → ((y x : ℕ) → y < h → x < w → q ≢ place y x)
      → word_at (rectangle_written place words w h a) q ≡ word_at a q
  unfolding rectangle_written
  rectangle_other h a q out =
      written_other _ _ (h * w) a q (λ i c. out _ _ (row_below h w i c) (column_below h w i c))

  -- A place of the rectangle, where all of them differ and lie in the list.
  pub rectangle_at : (h : ℕ) (a : List ℕ)
      → ((y x v u : ℕ) → y < h → x < w → v < h → u < w → place y x ≡ place v u → (y ≡ v) × (x ≡ u))
      → ((y x : ℕ) → y < h → x < w → place y x < length a)
      → (y x : ℕ) → y < h → x < w → word_at (rectangle_written place words w h a) (place y x) ≡ words y x
  unfolding rectangle_written
  rectangle_at h a apart fits y x c d =
      ap (word_at (rectangle_written place words w h a)) (sym (ap₂ place (row_of w y x d) (column_of w y x d)))
      ∙ written_at _ _ (h * w) a
      (λ i j f g e.
      let k : j < h * w = omega arith in
      let s = apart _ _ _ _ (row_below h w i g) (column_below h w i g) (row_below h w j k) (column_below h w j k) e in
      let t : i ≡ j = sym (div-add-mod' i w) ∙ ap₂ (row_major w) s.0 s.1 ∙ div-add-mod' j w in
      omega arith)
      (λ i g. fits _ _ (row_below h w i g) (column_below h w i g))
      (row_major w y x) (place_below h w y x c d)
      ∙ ap₂ words (row_of w y x d) (column_of w y x d)

-- The same words at the same places, whatever the rows.
pub rectangle_same : (place words : ℕ → ℕ → ℕ) (w h : ℕ) (r v : ℕ → ℕ) (a : List ℕ)
    → ((q : ℕ) → q < h * w → by_place w place q ≡ r q) → ((q : ℕ) → q < h * w → by_place w words q ≡ v q)
    → rectangle_written place words w h a ≡ written r v (h * w) a
unfolding rectangle_written
rectangle_same place words w h r v a e f = written_same _ r _ v (h * w) a e f
