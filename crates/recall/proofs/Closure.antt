-- A recall clears exactly what needs its block, and what it spares has only needs that it spares. Assumes nothing.
use mathlib.Core.Path.{◌≡◌, refl, sym, ap, ◌∙◌}
use mathlib.Core.Logic.{⊎_elim}
use mathlib.Core.Bool.{Bool, true, false, not, true≢false}
use mathlib.Core.List.Memᴰ
use mathlib.Core.List.{Memᴰ}
use Rattle.std.specs.Prelude.{Some}
use Prim.Native.Nat.{ℕ, zero, suc, ◌+◌, ◌<◌, ◌≤◌, min}
use native.Mathlib.Omega.{arith}
use native.Mathlib.Nat.{eq-or-lt_of_le}
use borrow.Author.Tests.{lt-ltb}
use Rattle.number.proofs.Tests.{and_left, and_right, and_both, lt_or_ge}
use Rattle.axis.specs.Axis.{Direction, forward, backward, axis_of, direction_of}
use Rattle.grid.specs.declared.Grid.{Grid}
use Rattle.grid.specs.Grid.{block_total, line_index, line_step_of, has_before, step_before, neighbour}
use Rattle.grid.specs.Shapes.{position_of}
use Rattle.grid.proofs.Neighbours.{StandsBefore, neighbour_stands, index_below}
use Rattle.tasks.specs.Tasks.{exists, own_collect, needs_of, all_done}
use Rattle.tasks.proofs.Existence.{exists_block, exists_task, neighbour_linked}
use Rattle.tasks.proofs.NeedLists.{all_member}
use Rattle.tasks.proofs.Needs.{link_needs, needs_are, needs_all, distance, nearer}
use Rattle.recall.specs.Recall.{NeedsBlock, its_own, through, clears, ClearsWhatNeedsIt, SparedNeedsSpared}
use Rattle.recall.specs.Clearing.{first_reached}
use Rattle.recall.proofs.Reached.{Reached, reaches_reached, reached_reaches, reached_later, Before, reached_from}

-- ---- a link that is reached, along its pass

module _ (grid : Grid) (k j : ℕ) where
  -- The link of a pass that is reached at the neighbour where the pass comes from is reached at the block.
  reached_on : (pass i : ℕ) → pass < 4 → StandsBefore grid j pass i → Reached grid k (suc pass) i → Reached grid k (suc pass) j
  reached_on zero i l at r = (sym at.across_pass ∙ r.0, omega arith)
  reached_on (suc zero) i l at r = sym at.across_pass ∙ r
  reached_on (suc (suc zero)) i l at r = omega arith
  reached_on (suc (suc (suc zero))) i l at r = tt
  reached_on (suc (suc (suc (suc pass)))) i l at r = absurd (omega arith)

  -- Where the pass comes from block k the link is reached at that neighbour too,
  reached_before : (pass i : ℕ) → pass < 4 → Before (direction_of pass) (line_index grid k pass) (line_index grid j pass)
      → StandsBefore grid j pass i → Reached grid k (suc pass) j → Reached grid k (suc pass) i
  reached_before zero i l b at r = (at.across_pass ∙ r.0, omega arith)
  reached_before (suc zero) i l b at r = at.across_pass ∙ r
  reached_before (suc (suc zero)) i l b at r = omega arith
  reached_before (suc (suc (suc zero))) i l b at r = tt
  reached_before (suc (suc (suc (suc pass)))) i l b at r = absurd (omega arith)

  -- which there is.
  neighbour_there : (pass : ℕ) → k < block_total grid → Before (direction_of pass) (line_index grid k pass) (line_index grid j pass)
      → neighbour grid j pass ≡ Some (step_before (direction_of pass) (line_step_of grid pass) j)
  unfolding neighbour
  neighbour_there pass here before =
      rw (has_before_law (direction_of pass) _ _ _ (index_below grid k here (axis_of pass)) before)
    where
      has_before_law : (d : Direction) (count m n : ℕ) → m < count → Before d m n → has_before d count n ≡ true
      has_before_law forward count m n h b = lt-ltb 0 n (omega arith)
      has_before_law backward count m n h b = lt-ltb (n + 1) count (omega arith)

-- ---- what is spared has only needs that are spared

module _ (grid : Grid) (k t j : ℕ) (there : exists grid t j ≡ true) (e : clears grid k t j ≡ false) where
  -- A task is spared that is reached only where task t of block j is.
  spared : (u i : ℕ) → (Reached grid k u i → Reached grid k t j) → not (clears grid k u i) ≡ true
  unfolding clears
  spared u i only = by (clears grid k u i) refl
    where
      by : (x : Bool) → clears grid k u i ≡ x → not x ≡ true
      by true c =
          let r = only (reaches_reached grid k u i (and_right (exists grid u i) _ c)) in
          absurd (true≢false (sym (and_both there (reached_reaches grid k t j r)) ∙ e))
      by false c = refl

  spared_needs : all_done (λ u i. not (clears grid k u i)) (needs_of grid t j) ≡ true
  spared_needs =
      needs_all (λ u i. not (clears grid k u i)) grid t j (exists_task grid t j there)
      (spared 0 j (reached_later grid k 0 t j (omega arith)))
      (λ pass i l beside.
      spared (suc pass) i
      (λ r.
      reached_later grid k (suc pass) t j (omega arith)
      (reached_on grid k j pass i (omega arith) (neighbour_stands grid j pass i (exists_block grid t j there) beside) r)))

pub spared_needs_spared : SparedNeedsSpared
spared_needs_spared = spared_needs

-- ---- what needs the block is cleared

needs_cleared : (grid : Grid) (k : ℕ) {t j : ℕ} → NeedsBlock grid k t j → clears grid k t j ≡ true
unfolding clears
needs_cleared grid k (its_own t there) =
    and_both there (reached_reaches grid k t k (reached_later grid k 0 t k (omega arith) refl))
needs_cleared grid k (through t j there need m n) = by (clears grid k t j) refl (needs_cleared grid k n)
  where
    by : (x : Bool) → clears grid k t j ≡ x → clears grid k need.task need.block ≡ true → x ≡ true
    by true e i = refl
    by false e i =
        let stays : not (clears grid k need.task need.block) ≡ true =
        all_member _ (needs_of grid t j) (spared_needs grid k t j there e) need m in
        sym (sym stays ∙ ap not i)

-- ---- what is cleared needs the block

link_member : (grid : Grid) (j pass i n : ℕ) → pass < n → neighbour grid j pass ≡ Some i
    → Memᴰ (record { task = suc pass; block = i }) (link_needs grid j n)
unfolding link_needs
link_member grid j pass i zero l e = absurd (omega arith)
link_member grid j pass i (suc n) l e =
    ⊎_elim (λ (q : pass ≡ n). rw (← q, e) (Memᴰ.append_right (link_needs grid j pass) (Memᴰ.head refl)))
    (λ (m : pass < n). Memᴰ.append_left _ (link_member grid j pass i n m e))
    (eq-or-lt_of_le {n = pass} {m = n} (omega arith))

-- The link of a pass at the neighbour is a need.
need_member : (grid : Grid) (t j pass i : ℕ) → t < 6 → pass < min t 4 → neighbour grid j pass ≡ Some i
    → Memᴰ (record { task = suc pass; block = i }) (needs_of grid t j)
need_member grid zero j pass i l b e = absurd (omega arith)
need_member grid (suc t) j pass i l b e =
    rw (needs_are grid t j (omega arith)) (Memᴰ.append_right (own_collect j) (link_member grid j pass i (min (suc t) 4) b e))

module _ (grid : Grid) (k : ℕ) (here : k < block_total grid) where
  -- Where task u is reached, it and every later task of the block needs block k.
  Needing : ℕ → Type 0
  Needing u = (t j : ℕ) → u ≤ t → exists grid t j ≡ true → Reached grid k u j → NeedsBlock grid k t j

  -- Along one pass, block by block from where it begins: an earlier task is reached already, or the link at the neighbour
  -- that the pass comes from needs block k.
  needing_along : (pass : ℕ) → pass < 4 → Needing pass → (n t j : ℕ) → distance (direction_of pass) (block_total grid) j < n
      → suc pass ≤ t → exists grid t j ≡ true → Reached grid k (suc pass) j → NeedsBlock grid k t j
  unfolding Needing
  needing_along pass l earlier zero t j near h there r = absurd (omega arith)
  needing_along pass l earlier (suc n) t j near h there r =
      let first = first_reached (position_of grid k) (position_of grid j) in
      let from = reached_from grid k j in
      let inside = exists_block grid t j there in
      let i = step_before (direction_of pass) (line_step_of grid pass) j in
      ⊎_elim
      (λ (e : first ≡ suc pass).
      let before = from.comes_from pass e in
      let beside = neighbour_there grid k j pass here before in
      through t j there (record { task = suc pass; block = i })
      (need_member grid t j pass i (exists_task grid t j there) (omega arith) beside)
      (needing_along pass l earlier n (suc pass) i (omega (arith, nearer grid j pass i inside beside)) (omega arith)
      (neighbour_linked grid j pass i inside l beside)
      (reached_before grid k j pass i l before (neighbour_stands grid j pass i inside beside) r)))
      (λ (e : first < suc pass). earlier t j (omega arith) there (reached_later grid k first pass j (omega arith) from.reached))
      (eq-or-lt_of_le {n = first} {m = suc pass} (from.least (suc pass) r))

  needing : (u : ℕ) → u ≤ 4 → Needing u
  unfolding Needing
  needing zero l t j h there r = rw r (its_own t (rw r at there))
  needing (suc pass) l t j h there r =
      needing_along pass (omega arith) (needing pass (omega arith)) (suc (distance (direction_of pass) (block_total grid) j)) t j
      (omega arith) h there r

  cleared_needs : (t j : ℕ) → clears grid k t j ≡ true → NeedsBlock grid k t j
  unfolding clears Needing
  cleared_needs t j e =
      let there = and_left (exists grid t j) _ e in
      ⊎_elim
      (λ (l : t < 4).
      needing t (omega arith) t j (omega arith) there (reaches_reached grid k t j (and_right (exists grid t j) _ e)))
      (λ (l : 4 ≤ t). needing 4 (omega arith) t j l there tt) (lt_or_ge t 4)

pub clears_what_needs_it : ClearsWhatNeedsIt
clears_what_needs_it grid k t j here = (needs_cleared grid k, cleared_needs grid k here t j)
