-- Laws of the block count and the block extent, over plain numbers: a length `n`, a block side `b`, a block `m`. Assumes nothing.
use mathlib.Core.Path.{◌≡◌, sym}
use mathlib.Core.Logic.{⊎_elim}
use Prim.Native.Nat.{ℕ, zero, suc, ◌+◌, ◌-◌, ◌*◌, ◌/◌, ◌%◌, ◌<◌, ◌≤◌, min}
use native.Mathlib.Omega.{arith}
use native.Mathlib.Nat.{add-mul, mul-le-mul_left, div-zero, div-add-mod', mod-lt, div-eq_of_lt-le, le-div_iff_mul-le, min-le_left, min-le_right, le-min, min-eq_left, min-eq_right}
use Rattle.grid.specs.Grid.{block_count, block_extent}
use lib.Dec.{ltb}
use borrow.Author.Tests.{ltb-true, lt-ltb}
use Rattle.std.proofs.lemmas.Grind.{div_ceil_times}
use Rattle.number.proofs.Tests.{lt_or_ge, same_test}

pub count_side_zero : (n : ℕ) → block_count n 0 ≡ 0
unfolding block_count
count_side_zero n = div-zero _

module _ (n b : ℕ) (side : 1 ≤ b) where
  -- The count by the remainder, as `div_ceil` makes it.
  pub count_rounded_up : n / b + min 1 (n % b) ≡ block_count n b
  unfolding block_count
  count_rounded_up =
      let times = div_ceil_times n b side in
      sym (div-eq_of_lt-le b (omega (arith, times.1)) (rw add-mul (omega (arith, times.0))))

  -- A block that starts inside the length is counted.
  pub start_counted : (m : ℕ) → m * b < n → m < block_count n b
  unfolding block_count
  start_counted m h =
      let l : (m + 1) * b ≤ n + (b - 1) = rw add-mul (omega arith) in
      omega (arith, (le-div_iff_mul-le {k = b} {x = m + 1} {y = n + (b - 1)} side).1 l)

  pub count_positive : 1 ≤ n → 1 ≤ block_count n b
  count_positive h = start_counted 0 (omega arith)

  -- A place of the length lies in a counted block.
  pub place_counted : (i : ℕ) → i < n → i / b < block_count n b
  place_counted i h = let d = div-add-mod' i b in start_counted (i / b) (omega arith)

  -- The counted blocks cover the length.
  pub length_covered : n ≤ block_count n b * b
  length_covered =
      ⊎_elim (λ (l : block_count n b * b < n). absurd (omega (arith, start_counted (block_count n b) l))) (λ (h : n ≤ block_count n b * b). h)
      (lt_or_ge (block_count n b * b) n)

module _ (n b m : ℕ) (counted : m < block_count n b) where
  -- Blocks are counted only of a side that is not 0.
  pub counted_side : 1 ≤ b
  counted_side = by b counted where
    by : (s : ℕ) → m < block_count n s → 1 ≤ s
    by zero h = absurd (omega (arith, count_side_zero n))
    by (suc s) h = omega arith

  -- A counted block starts inside the length.
  pub counted_start : m * b < n
  unfolding block_count
  counted_start =
      let l : (m + 1) * b ≤ n + (b - 1) = (le-div_iff_mul-le {k = b} {x = m + 1} {y = n + (b - 1)} counted_side).0 (omega arith) in
      omega (arith, counted_side, rw add-mul at l)

  pub extent_positive : 1 ≤ block_extent n b m
  unfolding block_extent
  extent_positive = le-min counted_side (omega (arith, counted_start))

  -- A counted block lies inside the length.
  pub extent_inside : m * b + block_extent n b m ≤ n
  unfolding block_extent
  extent_inside = omega (arith, counted_start, min-le_right b (n - m * b))

-- Whether a block is counted, by where it starts.
pub counted_test : (n b m : ℕ) → 1 ≤ b → ltb (m * b) n ≡ ltb m (block_count n b)
counted_test n b m side =
    same_test _ _ (λ e. lt-ltb _ _ (start_counted n b side m (ltb-true _ _ e)))
    (λ e. lt-ltb _ _ (counted_start n b m (ltb-true _ _ e)))

pub count_bounded : (n b : ℕ) → block_count n b ≤ n
count_bounded n b =
    ⊎_elim
    (λ (over : n < block_count n b).
    let m : n * 1 ≤ n * b = mul-le-mul_left n (counted_side n b n over) in
    absurd (omega (arith, counted_start n b n over)))
    (λ (h : block_count n b ≤ n). h)
    (lt_or_ge n (block_count n b))

pub extent_in_side : (n b m : ℕ) → block_extent n b m ≤ b
unfolding block_extent
extent_in_side n b m = min-le_left _ _

-- What is inside a block is inside the length.
pub extent_place : (n b m i : ℕ) → i < block_extent n b m → m * b + i < n
unfolding block_extent
extent_place n b m i h = omega (arith, min-le_right b (n - m * b))

-- Past the counted blocks there is no extent.
pub extent_none : (n b m : ℕ) → block_count n b ≤ m → block_extent n b m ≡ 0
unfolding block_extent
extent_none n zero m h = omega (arith, min-le_left 0 (n - m * 0))
extent_none n (suc b) m h =
    ⊎_elim (λ (l : m * suc b < n). absurd (omega (arith, start_counted n (suc b) (omega arith) m l)))
    (λ (g : n ≤ m * suc b). omega (arith, min-le_right (suc b) (n - m * suc b)))
    (lt_or_ge (m * suc b) n)

-- Only the last block may be narrower.
pub extent_full : (n b m : ℕ) → m + 1 < block_count n b → block_extent n b m ≡ b
unfolding block_extent
extent_full n b m h =
    let l : (m + 1) * b < n = counted_start n b (m + 1) h in
    let k = rw add-mul at l in
    min-eq_left (omega arith)

-- The last block reaches to the end of the length.
pub extent_last : (n b m : ℕ) → m + 1 ≡ block_count n b → m * b + block_extent n b m ≡ n
unfolding block_extent
extent_last n b m e =
    let counted : m < block_count n b = omega arith in
    let covered : n ≤ (m + 1) * b = rw e (length_covered n b (counted_side n b m counted)) in
    let k = rw add-mul at covered in
    omega (arith, counted_start n b m counted, min-eq_right {n = n - m * b} {m = b} (omega arith))

-- A place of the length lies inside its block.
pub place_in_extent : (n b i : ℕ) → 1 ≤ b → i < n → i % b < block_extent n b (i / b)
unfolding block_extent
place_in_extent n b i side h =
    let d = div-add-mod' i b in
    le-min (mod-lt i side) (omega arith)
