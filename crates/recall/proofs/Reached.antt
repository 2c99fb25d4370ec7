-- Where a recall reaches a task: of each block the tasks from one on, and a link because its pass comes from the recalled block.
-- Assumes nothing.
use mathlib.Core.Path.{◌≡◌, refl, sym, ap, ap₂, ◌∙◌}
use mathlib.Core.Logic.{⊎_elim}
use mathlib.Core.Bool.{Bool, true, false, cond}
use Prim.Native.Nat.{ℕ, zero, suc, ◌<◌, ◌≤◌}
use native.Mathlib.Omega.{arith}
use native.Mathlib.Nat.{eq-or-lt_of_le}
use lib.Dec.{ltb, eqb, leb}
use borrow.Author.Tests.{ltb-true, ltb-false, leb-true, le-leb, eqb-true, eq-eqb, ne_eqb}
use Rattle.number.proofs.Tests.{and_left, and_right, and_both, lt_or_ge}
use Rattle.axis.specs.Axis.{Direction, forward, backward, direction_of}
use Rattle.grid.specs.declared.Grid.{Grid}
use Rattle.grid.specs.Grid.{block_number, block_row, block_column, line_index}
use Rattle.grid.specs.Shapes.{position_of}
use Rattle.grid.proofs.Blocks.{number_of_block}
use Rattle.recall.specs.Recall.{reaches}
use Rattle.recall.specs.Clearing.{first_reached}

-- ---- the test in words of rows and columns

abbrev pub Reached : Grid → (k t j : ℕ) → Type 0
Reached grid k zero j = j ≡ k
Reached grid k (suc zero) j = (block_column grid j ≡ block_column grid k) × (block_row grid k ≤ block_row grid j)
Reached grid k (suc (suc zero)) j = block_column grid j ≡ block_column grid k
Reached grid k (suc (suc (suc zero))) j = block_column grid k ≤ block_column grid j
Reached grid k (suc (suc (suc (suc t)))) j = Unit {0}

module _ (grid : Grid) (k : ℕ) where
  from_left_links : (t j : ℕ) → 4 ≤ t → reaches grid k t j ≡ true
  unfolding reaches
  from_left_links t j h =
      rw (
        ne_eqb t 0 (λ e. omega arith),
        ne_eqb t 1 (λ e. omega arith),
        ne_eqb t 2 (λ e. omega arith),
        ne_eqb t 3 (λ e. omega arith),
      )

  pub reaches_reached : (t j : ℕ) → reaches grid k t j ≡ true → Reached grid k t j
  unfolding reaches
  reaches_reached zero j e = eqb-true j k e
  reaches_reached (suc zero) j e =
      let same = eqb (block_column grid j) (block_column grid k) in
      let below = leb (block_row grid k) (block_row grid j) in
      (eqb-true _ _ (and_left same below e), leb-true _ _ (and_right same below e))
  reaches_reached (suc (suc zero)) j e = eqb-true _ _ e
  reaches_reached (suc (suc (suc zero))) j e = leb-true _ _ e
  reaches_reached (suc (suc (suc (suc t)))) j e = tt

  pub reached_reaches : (t j : ℕ) → Reached grid k t j → reaches grid k t j ≡ true
  unfolding reaches
  reached_reaches zero j r = eq-eqb j k r
  reached_reaches (suc zero) j r = and_both (eq-eqb _ _ r.0) (le-leb _ _ r.1)
  reached_reaches (suc (suc zero)) j r = eq-eqb _ _ r
  reached_reaches (suc (suc (suc zero))) j r = le-leb _ _ r
  reached_reaches (suc (suc (suc (suc t)))) j r = from_left_links (suc (suc (suc (suc t)))) j (omega arith)

  -- Where a task is reached the next one is,
  reached_next : (t j : ℕ) → Reached grid k t j → Reached grid k (suc t) j
  reached_next zero j r = rw r (refl, omega arith)
  reached_next (suc zero) j r = r.0
  reached_next (suc (suc zero)) j r = omega arith
  reached_next (suc (suc (suc t))) j r = tt

  -- and so is every later one.
  pub reached_later : (u t j : ℕ) → u ≤ t → Reached grid k u j → Reached grid k t j
  reached_later u zero j h r = let z : u ≡ 0 = omega arith in rw z at r
  reached_later u (suc t) j h r =
      ⊎_elim (λ (q : u ≡ suc t). rw q at r) (λ (l : u < suc t). reached_next t j (reached_later u t j (omega arith) r))
      (eq-or-lt_of_le {n = u} {m = suc t} h)

-- ---- the first task that is reached

-- Index i of a line comes before index j, as a pass in this direction has them.
abbrev pub Before : Direction → (i j : ℕ) → Type 0
Before forward i j = i < j
Before backward i j = j < i

-- Of the tasks of block j, those from `first` on are reached; and where that is a link, its pass comes from block k.
pub record ReachedFrom (grid : Grid) (k j first : ℕ) : Type 0 where
  pub reached : Reached grid k first j
  pub least : (t : ℕ) → Reached grid k t j → first ≤ t
  pub comes_from : (pass : ℕ) → first ≡ suc pass → Before (direction_of pass) (line_index grid k pass) (line_index grid j pass)

module _ (grid : Grid) (k j : ℕ) where
  -- The link of a pass is the first where the task before it is not reached.
  link_first : (pass : ℕ) → Before (direction_of pass) (line_index grid k pass) (line_index grid j pass)
      → (Reached grid k pass j → ⊥) → Reached grid k (suc pass) j → ReachedFrom grid k j (suc pass)
  link_first pass before u r =
      record {
        reached = r;
        least = λ t e.
            ⊎_elim (λ (l : pass < t). l) (λ (l : t ≤ pass). absurd (u (reached_later grid k t pass j l e))) (lt_or_ge pass t);
        comes_from = λ other e. let same : pass ≡ other = omega arith in rw same at before;
      }

  pub reached_from : ReachedFrom grid k j (first_reached (position_of grid k) (position_of grid j))
  unfolding first_reached position_of
  reached_from =
      by (ltb (block_column grid j) (block_column grid k)) (ltb (block_column grid k) (block_column grid j))
      (ltb (block_row grid j) (block_row grid k)) (ltb (block_row grid k) (block_row grid j)) refl refl refl refl
    where
      by : (left right above below : Bool) → ltb (block_column grid j) (block_column grid k) ≡ left
          → ltb (block_column grid k) (block_column grid j) ≡ right → ltb (block_row grid j) (block_row grid k) ≡ above
          → ltb (block_row grid k) (block_row grid j) ≡ below
          → ReachedFrom grid k j (cond left 4 (cond right 3 (cond above 2 (cond below 1 0))))
      by true right above below l r a b = link_first 3 (ltb-true _ _ l) (λ u. omega (arith, ltb-true)) tt
      by false true above below l r a b =
          link_first 2 (ltb-true _ _ r) (λ u. omega (arith, ltb-true)) (omega (arith, ltb-false))
      by false false true below l r a b =
          link_first 1 (ltb-true _ _ a) (λ u. omega (arith, ltb-true)) (omega (arith, ltb-false))
      by false false false true l r a b =
          link_first 0 (ltb-true _ _ b) (λ u. let row = ap (block_row grid) u in omega (arith, ltb-true))
          (omega (arith, ltb-false), omega (arith, ltb-false))
      by false false false false l r a b =
          let row : block_row grid j ≡ block_row grid k = omega (arith, ltb-false) in
          let column : block_column grid j ≡ block_column grid k = omega (arith, ltb-false) in
          record {
            reached = sym (number_of_block grid j) ∙ ap₂ (block_number grid) row column ∙ number_of_block grid k;
            least = λ t e. omega arith;
            comes_from = λ pass e. absurd (omega arith);
          }
