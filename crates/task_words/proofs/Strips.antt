-- Strips in the list of strips: they lie apart, a strip reads as it was written, and no other word changes.
-- Assumes nothing.
use mathlib.Core.Path.{◌≡◌, refl, ap, ap₂, sym, ◌∙◌}
use mathlib.Core.Bool.{Bool, true, false, true≢false}
use mathlib.Core.List.{List}
use mathlib.Core.Logic.{◌≢◌, ⊎_elim}
use Prim.Native.Nat.{ℕ, zero, suc, ◌+◌, ◌*◌, ◌/◌, ◌%◌, ◌≤◌, ◌<◌}
use native.Mathlib.Nat.{mul-le-mul_left, mul-le-mul_right, eq-or-lt_of_le, div-add-mod'}
use native.Mathlib.Numerals.{add-one}
use native.Mathlib.Omega.{arith}
use lib.ListN.{length}
use Rattle.buffer.specs.Written.{row_written}
use Rattle.plan.specs.declared.Plan.{Plan}
use Rattle.plan.specs.Sizes.{order_sum, needed_marks, half_words, needed_strips, order_of}
use Rattle.buffer.specs.Lists.{word_at}
use Rattle.number.proofs.Sums.{total_grows}
use Rattle.number.proofs.Tests.{lt_or_ge}
use Rattle.axis.specs.Axis.{Axis, columns, rows, axis_of}
use Rattle.task_words.specs.declared.Half.{Half}
use Rattle.task_words.specs.declared.Half.TheVariants.{Lone, Linked}
use Rattle.task_words.specs.Strips.{half_start, strip_words, strip_start, place_in_strip, strip_place, laid_in_rows, strip_written_to, strip_written, half_written}
use Rattle.buffer.proofs.Written.{written_length, written_same, written_other, written_at}
use Rattle.number.proofs.RowMajor.{row_of, column_of, place_below, row_below, column_below}

-- A list holds these words, by line and place, as block k's strip of a pass in a half.
abbrev pub HoldsStrip : Plan → List ℕ → Half → ℕ → ℕ → (ℕ → ℕ → ℕ) → Type 0
HoldsStrip plan strips half k pass words =
    (line place : ℕ) → line < plan.grid.side → place < order_of plan pass
    → word_at strips (strip_place plan half k pass line place) ≡ words line place

-- A place of the list of strips stands in none of block k's strip of a pass in a half.
abbrev pub OutsideStrip : Plan → Half → (k pass q : ℕ) → Type 0
OutsideStrip plan half k pass q =
    (line place : ℕ) → line < plan.grid.side → place < order_of plan pass → q ≢ strip_place plan half k pass line place

-- ---- inside a strip

-- Word q of the strip of a pass is the word at a line and a place.
pub record StripCell (a : Axis) (side order q : ℕ) : Type 0 where
  pub line : ℕ
  pub place : ℕ
  pub in_lines : line < side
  pub in_places : place < order
  pub stands : place_in_strip a side order line place ≡ q

module _ (b r : ℕ) where
  pub in_strip : (a : Axis) (line place : ℕ) → line < b → place < r → place_in_strip a b r line place < b * r
  in_strip columns line place p q = let e : place * b + line < r * b = place_below r b place line q p in omega arith
  in_strip rows line place p q = place_below b r line place p q

  pub cell_of : (a : Axis) (q : ℕ) → q < b * r → StripCell a b r q
  cell_of columns q h =
      record {
        line = q % b;
        place = q / b;
        in_lines = column_below r b q (omega arith);
        in_places = row_below r b q (omega arith);
        stands = div-add-mod' q b;
      }
  cell_of rows q h =
      record {
        line = q / r;
        place = q % r;
        in_lines = row_below b r q h;
        in_places = column_below b r q h;
        stands = div-add-mod' q r;
      }

  -- The word laid at a line and a place is theirs.
  pub word_laid : (a : Axis) (words : ℕ → ℕ → ℕ) (line place : ℕ) → line < b → place < r
      → laid_in_rows a b r words (place_in_strip a b r line place) ≡ words line place
  word_laid columns words line place p q = ap₂ words (column_of b place line p) (row_of b place line p)
  word_laid rows words line place p q = ap₂ words (row_of r line place q) (column_of r line place q)

-- ---- strips of a half, halves of the list

-- The halves of all slots, numbered in the order in which they lie.
abbrev pub half_number : Half → ℕ → ℕ
half_number Lone k = 2 * k
half_number Linked k = 2 * k + 1

-- A half is not the other.
pub lone_not_linked : Lone ≢ Linked
lone_not_linked e = true≢false (ap is_lone e)
  where
    is_lone : Half → Bool
    is_lone Lone = true
    is_lone Linked = false

-- The number tells the half and the block.
same_half : (half other : Half) (k j : ℕ) → half_number half k ≡ half_number other j → (half ≡ other) × (k ≡ j)
same_half Lone Lone k j e = (refl, omega arith)
same_half Lone Linked k j e = absurd (omega arith)
same_half Linked Lone k j e = absurd (omega arith)
same_half Linked Linked k j e = (refl, omega arith)

module _ (plan : Plan) where
  -- Halves of as many words lie one after another.
  pub half_start_law : (half : Half) (k : ℕ) → half_start plan half k ≡ half_number half k * half_words plan
  half_start_law Lone k = omega arith
  half_start_law Linked k = omega arith

  half_below : (half : Half) (k : ℕ) → k < needed_marks plan → half_number half k < 2 * needed_marks plan
  half_below Lone k h = omega arith
  half_below Linked k h = omega arith

  pub strip_in_half : (pass : ℕ) → pass < 4 → plan.grid.side * order_sum plan pass + strip_words plan pass ≤ half_words plan
  strip_in_half pass h =
      let e : plan.grid.side * (order_sum plan pass + order_of plan pass) ≤ plan.grid.side * order_sum plan 4 =
      mul-le-mul_left plan.grid.side (total_grows (order_of plan) pass 4 h) in
      omega arith

  pub half_in_list : (half : Half) (k : ℕ) → k < needed_marks plan → half_start plan half k + half_words plan ≤ needed_strips plan
  half_in_list half k h =
      let e : suc (half_number half k) * half_words plan ≤ (2 * needed_marks plan) * half_words plan =
      mul-le-mul_right (half_words plan) (half_below half k h) in
      omega (arith, half_start_law half k)

  pub strip_in_list : (half : Half) (k pass : ℕ) → k < needed_marks plan → pass < 4
      → strip_start plan half k pass + strip_words plan pass ≤ needed_strips plan
  strip_in_list half k pass h p = omega (arith, strip_in_half pass p, half_in_list half k h)

  pub strip_place_below : (half : Half) (k pass line place : ℕ) → k < needed_marks plan → pass < 4 → line < plan.grid.side
      → place < order_of plan pass → strip_place plan half k pass line place < needed_strips plan
  unfolding strip_place
  strip_place_below half k pass line place h p a b =
      omega (arith, strip_in_list half k pass h p, in_strip plan.grid.side (order_of plan pass) (axis_of pass) line place a b)

  -- The strips of a half, and the halves, lie one after another.
  half_before : (half other : Half) (k u j v : ℕ) → u < 4 → half_number half k < half_number other j
      → strip_start plan half k u + strip_words plan u ≤ strip_start plan other j v
  half_before half other k u j v a h =
      let e : suc (half_number half k) * half_words plan ≤ half_number other j * half_words plan = mul-le-mul_right (half_words plan) h in
      omega (arith, strip_in_half u a, half_start_law half k, half_start_law other j)

  strip_before_law : (half : Half) (k u v : ℕ) → u < v → strip_start plan half k u + strip_words plan u ≤ strip_start plan half k v
  strip_before_law half k u v h =
      let e : plan.grid.side * (order_sum plan u + order_of plan u) ≤ plan.grid.side * order_sum plan v =
      mul-le-mul_left plan.grid.side (total_grows (order_of plan) u v h) in
      omega arith

  strips_apart : (half other : Half) (k u j v q p : ℕ) → u < 4 → v < 4 → (half ≡ other → k ≡ j → u ≡ v → ⊥)
      → q < strip_words plan u → p < strip_words plan v → strip_start plan half k u + q ≢ strip_start plan other j v + p
  strips_apart half other k u j v q p a b differ c d e =
      by_order (half_number half k) (half_number other j)
      (λ o. omega (arith, half_before half other k u j v a o))
      (λ o. omega (arith, half_before other half j v k u b o))
      (λ same.
      let (half_is, block_is) = same_half half other k j same in
      let f : strip_start plan other j u + q ≡ strip_start plan other j v + p = rw (half_is, block_is) at e in
      by_order u v
      (λ o. omega (arith, strip_before_law other j u v o))
      (λ o. omega (arith, strip_before_law other j v u o))
      (differ half_is block_is))
    where
      by_order : (m n : ℕ) → (m < n → ⊥) → (n < m → ⊥) → (m ≡ n → ⊥) → ⊥
      by_order m n f g h =
          ⊎_elim f (λ (ge : n ≤ m). ⊎_elim (λ (z : n ≡ m). h (sym z)) g (eq-or-lt_of_le ge)) (lt_or_ge m n)

  -- The words of two strips stand apart.
  pub places_apart : (half other : Half) (k u j v line place l p : ℕ) → u < 4 → v < 4 → (half ≡ other → k ≡ j → u ≡ v → ⊥)
      → line < plan.grid.side → place < order_of plan u → l < plan.grid.side → p < order_of plan v
      → strip_place plan half k u line place ≢ strip_place plan other j v l p
  unfolding strip_place
  places_apart half other k u j v line place l p a b differ c d e f =
      strips_apart half other k u j v _ _ a b differ
      (in_strip plan.grid.side (order_of plan u) (axis_of u) line place c d)
      (in_strip plan.grid.side (order_of plan v) (axis_of v) l p e f)

-- ---- writing one strip

module _ (plan : Plan) (half : Half) (k pass : ℕ) (words : ℕ → ℕ → ℕ) where
  pub strip_length : (n : ℕ) (strips : List ℕ) → length (strip_written_to plan half k pass words n strips) ≡ length strips
  unfolding strip_written_to row_written
  strip_length n strips = written_length _ _ n strips

  -- The strip reads as it was written.
  pub strip_holds : (strips : List ℕ) → k < needed_marks plan → pass < 4 → needed_strips plan ≤ length strips
      → HoldsStrip plan (strip_written plan half k pass words strips) half k pass words
  unfolding strip_written_to row_written strip_place
  strip_holds strips h p long line place a b =
      written_at (λ q. strip_start plan half k pass + q) _ (strip_words plan pass) strips
      (λ i j c d e. omega arith) (λ i c. omega (arith, strip_in_list plan half k pass h p)) _
      (in_strip plan.grid.side (order_of plan pass) (axis_of pass) line place a b)
      ∙ word_laid plan.grid.side (order_of plan pass) (axis_of pass) words line place a b

  -- Every word outside the strip is as it was,
  pub strip_outside : (strips : List ℕ) (q : ℕ) → OutsideStrip plan half k pass q
      → word_at (strip_written plan half k pass words strips) q ≡ word_at strips q
  unfolding strip_written_to row_written strip_place
  strip_outside strips q out =
      written_other _ _ (strip_words plan pass) strips q
      (λ i c e.
      let cell = cell_of plan.grid.side (order_of plan pass) (axis_of pass) i c in
      out cell.line cell.place cell.in_lines cell.in_places
      (e ∙ ap (strip_start plan half k pass +◌) (sym cell.stands)))

  -- and so is another strip.
  pub strip_other : (strips : List ℕ) (other : Half) (j v line place : ℕ) → pass < 4 → v < 4
      → (half ≡ other → k ≡ j → pass ≡ v → ⊥) → line < plan.grid.side → place < order_of plan v
      → word_at (strip_written plan half k pass words strips) (strip_place plan other j v line place)
      ≡ word_at strips (strip_place plan other j v line place)
  strip_other strips other j v line place p q differ a b =
      strip_outside strips _
      (λ l i c d e. places_apart plan half other k pass j v l i line place p q differ c d a b (sym e))

pub strip_same_words : (plan : Plan) (half : Half) (k pass : ℕ) (words other : ℕ → ℕ → ℕ) (strips : List ℕ)
    → ((line place : ℕ) → line < plan.grid.side → place < order_of plan pass → words line place ≡ other line place)
    → strip_written plan half k pass words strips ≡ strip_written plan half k pass other strips
unfolding strip_written_to row_written
strip_same_words plan half k pass words other strips e =
    written_same _ _ _ _ (strip_words plan pass) strips (λ q h. refl)
    (λ q h.
    let a = axis_of pass in
    let b = plan.grid.side in
    let r = order_of plan pass in
    let c = cell_of b r a q h in
    ap (laid_in_rows a b r words) (sym c.stands)
    ∙ word_laid b r a words c.line c.place c.in_lines c.in_places
    ∙ e c.line c.place c.in_lines c.in_places
    ∙ sym (word_laid b r a other c.line c.place c.in_lines c.in_places)
    ∙ ap (laid_in_rows a b r other) c.stands)

-- ---- writing the strips of a half

module _ (plan : Plan) (half : Half) (k : ℕ) (words : ℕ → ℕ → ℕ → ℕ) where
  pub half_none : (strips : List ℕ) → half_written plan half k words 0 strips ≡ strips
  unfolding half_written
  half_none strips = refl

  pub half_next : (pass : ℕ) (strips : List ℕ)
      → strip_written plan half k pass (words pass) (half_written plan half k words pass strips)
      ≡ half_written plan half k words (pass + 1) strips
  unfolding half_written
  half_next pass strips = rw (add-one pass)

  pub half_length : (n : ℕ) (strips : List ℕ) → length (half_written plan half k words n strips) ≡ length strips
  unfolding half_written
  half_length zero strips = refl
  half_length (suc n) strips = strip_length plan half k n (words n) (strip_words plan n) _ ∙ half_length n strips

  -- Each of the strips reads as it was written,
  pub half_holds : (n : ℕ) (strips : List ℕ) (pass : ℕ) → n ≤ 4 → pass < n → k < needed_marks plan
      → needed_strips plan ≤ length strips → HoldsStrip plan (half_written plan half k words n strips) half k pass (words pass)
  unfolding half_written
  half_holds zero strips pass h p here long line place a b = absurd (omega arith)
  half_holds (suc n) strips pass h p here long line place a b =
      ⊎_elim
      (λ (q : suc pass ≡ suc n).
      let same : pass ≡ n = omega arith in
      rw (← same)
      (strip_holds plan half k pass (words pass) _ here (omega arith) (rw (half_length pass strips) long) line place a b))
      (λ (q : suc pass < suc n).
      strip_other plan half k n (words n) _ half k pass line place h (omega arith) (λ _ _ z. omega arith) a b
      ∙ half_holds n strips pass (omega arith) (omega arith) here long line place a b)
      (eq-or-lt_of_le p)

  -- and every word outside them is as it was.
  pub half_outside : (n : ℕ) (strips : List ℕ) (q : ℕ) → ((pass : ℕ) → pass < n → OutsideStrip plan half k pass q)
      → word_at (half_written plan half k words n strips) q ≡ word_at strips q
  unfolding half_written
  half_outside zero strips q out = refl
  half_outside (suc n) strips q out =
      strip_outside plan half k n (words n) _ q (out n (omega arith))
      ∙ half_outside n strips q (λ pass h. out pass (omega arith))
