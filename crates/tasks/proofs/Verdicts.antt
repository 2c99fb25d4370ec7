-- What the marks say to a call: the least broken mark, block by block among all and pass by pass among those that a
-- task looks at; and on marks that show what is done the answer is the one by what is done, accepted exactly where the
-- task is ready. Assumes nothing.
use mathlib.Core.Path.{◌≡◌, refl, sym, ap, ◌∙◌}
use mathlib.Core.Bool.{Bool, true, false, not, ◌&&◌, cond, true≢false}
use mathlib.Core.List.{List, [], ◌∷◌, ◌++◌}
use Rattle.std.specs.Prelude.{Option, None, Some}
use mathlib.Core.Logic.{⊎_elim}
use Prim.Native.Nat.{ℕ, zero, suc, ◌+◌, ◌^◌, ◌<◌, ◌≤◌, min}
use native.Mathlib.Omega.{arith}
use native.Mathlib.Nat.{eq-or-lt_of_le}
use native.Mathlib.Numerals.{add-one}
use lib.ListN.{get_or}
use borrow.Author.Tests.{le-ltb, ltb-false, not-false}
use Rattle.refusal.specs.Refusals.{Answer, accepted}
use Rattle.refusal.specs.Table.{◌at◌when◌, first_due}
use Rattle.refusal.proofs.Table.{not_due}
use Rattle.buffer.specs.Lists.{list_of}
use Rattle.grid.specs.declared.Grid.{Grid}
use Rattle.grid.specs.Grid.{block_total, neighbour}
use Rattle.grid.proofs.Neighbours.{neighbour_below}
use Rattle.tasks.specs.Tasks.{exists, BlockTask, needs_of, all_done, ready}
use Rattle.tasks.specs.Marks.{is_marked, mark_valid_at, Shows}
use Rattle.tasks.specs.Verdict.{blocks_of, looked_at, all_blocks, broken_at, least_broken_of, least_broken, verdict_rows, done_rows}
use Rattle.tasks.specs.Neighbours.{broken_in, broken_beside}
use Rattle.tasks.proofs.Existence.{exists_block, exists_task}
use Rattle.tasks.proofs.Needs.{need_at, link_needs, needs_are, needs_collect, needs_same}
use Rattle.tasks.proofs.Counting.{Only}
use Rattle.tasks.proofs.Marking.{Valid, valid_room, shows_marked, shows_valid}

blocks_append : (xs ys : List BlockTask) → blocks_of (xs ++ ys) ≡ blocks_of xs ++ blocks_of ys
unfolding blocks_of
blocks_append [] ys = refl
blocks_append (x ∷ xs) ys = rw (blocks_append xs ys)

module _ (grid : Grid) (marks : List ℕ) where
  least_most : (ks : List ℕ) → least_broken_of grid marks ks ≤ block_total grid
  unfolding least_broken_of
  least_most [] = omega arith
  least_most (k ∷ ks) = omega (arith, least_most ks)

  least_append : (xs ys : List ℕ)
      → least_broken_of grid marks (xs ++ ys) ≡ min (least_broken_of grid marks xs) (least_broken_of grid marks ys)
  unfolding least_broken_of
  least_append [] ys = omega (arith, least_most ys)
  least_append (x ∷ xs) ys = omega (arith, least_append xs ys)

  broken_most : (k : ℕ) → k < block_total grid → broken_at grid marks k ≤ block_total grid
  broken_most k h = by (mark_valid_at grid marks k)
    where
      by : (valid : Bool) → cond valid (block_total grid) k ≤ block_total grid
      by true = omega arith
      by false = omega arith

  unbroken_valid : (k : ℕ) → k < block_total grid → block_total grid ≤ broken_at grid marks k → mark_valid_at grid marks k ≡ true
  unbroken_valid k h = by (mark_valid_at grid marks k)
    where
      by : (valid : Bool) → block_total grid ≤ cond valid (block_total grid) k → valid ≡ true
      by true l = refl
      by false l = absurd (omega arith)

  -- The least broken of the first n blocks.
  pub least_below : ℕ → ℕ
  least_below n = least_broken_of grid marks (list_of (λ k. k) n)

  pub below_none : least_below 0 ≡ block_total grid
  unfolding least_below least_broken_of list_of
  below_none = refl

  pub below_all : least_below (block_total grid) ≡ least_broken_of grid marks (all_blocks grid)
  unfolding least_below all_blocks
  below_all = refl

  below_more : (k : ℕ) → k < block_total grid → least_below (suc k) ≡ min (least_below k) (broken_at grid marks k)
  unfolding least_below least_broken_of list_of
  below_more k h = least_append (list_of (λ j. j) k) (k ∷ []) ∙ omega (arith, broken_most k h)

  -- While none is broken, one more that passes the test leaves it so.
  pub below_valid : (k : ℕ) → k < block_total grid → least_below k ≡ block_total grid → mark_valid_at grid marks k ≡ true
      → least_below (k + 1) ≡ block_total grid
  below_valid k h whole valid = rw (add-one k, below_more k h, whole, valid) (omega arith)

  -- Where the first n pass the test, none of them is broken;
  pub below_whole : (n : ℕ) → n ≤ block_total grid → ((k : ℕ) → k < n → mark_valid_at grid marks k ≡ true)
      → least_below n ≡ block_total grid
  below_whole zero l valid = below_none
  below_whole (suc n) l valid =
      sym (ap least_below (add-one n))
      ∙ below_valid n (omega arith) (below_whole n (omega arith) (λ k h. valid k (omega arith))) (valid n (omega arith))

  -- and where all marks do, none of all blocks is.
  pub all_valid : Valid grid marks → least_broken_of grid marks (all_blocks grid) ≡ block_total grid
  all_valid valid = sym below_all ∙ below_whole (block_total grid) (omega arith) valid

  -- Conversely, where none of all blocks is broken all marks pass the test.
  pub none_broken_valid : block_total grid ≤ least_broken_of grid marks (all_blocks grid) → Valid grid marks
  none_broken_valid whole k h = upto (block_total grid) (omega arith) h (omega (arith, below_all))
    where
      upto : (n : ℕ) → n ≤ block_total grid → k < n → block_total grid ≤ least_below n → mark_valid_at grid marks k ≡ true
      upto zero m l w = absurd (omega arith)
      upto (suc n) m l w =
          let more = below_more n (omega arith) in
          ⊎_elim (λ (e : k ≡ n). unbroken_valid k h (rw e (omega arith)))
          (λ (i : k < n). upto n (omega arith) i (omega arith)) (eq-or-lt_of_le (omega arith))

  -- The first broken of all blocks is the least.
  pub first_least : (k : ℕ) → k < block_total grid → least_below k ≡ block_total grid → mark_valid_at grid marks k ≡ false
      → k ≡ least_broken_of grid marks (all_blocks grid)
  first_least k h whole broken = sym (upto (block_total grid) h (omega arith)) ∙ below_all
    where
      later : (j : ℕ) → k ≤ j → k ≤ broken_at grid marks j
      later j l = by (mark_valid_at grid marks j)
        where
          by : (valid : Bool) → k ≤ cond valid (block_total grid) j
          by true = omega arith
          by false = omega arith

      upto : (n : ℕ) → k < n → n ≤ block_total grid → least_below n ≡ k
      upto zero l m = absurd (omega arith)
      upto (suc n) l m =
          below_more n (omega arith)
          ∙ ⊎_elim (λ (e : k ≡ n). rw (← e, whole, broken) (omega arith))
          (λ (i : k < n). omega (arith, upto n i (omega arith), later n (omega arith))) (eq-or-lt_of_le (omega arith))

  -- The needs look at the neighbour of a pass as the code does.
  least_beside : (k pass : ℕ) → k < block_total grid
      → least_broken_of grid marks (blocks_of (need_at pass (neighbour grid k pass))) ≡ broken_beside grid marks k pass
  unfolding least_broken_of blocks_of broken_beside
  least_beside k pass h = by (neighbour grid k pass) refl
    where
      by : (beside : Option ℕ) → neighbour grid k pass ≡ beside
          → least_broken_of grid marks (blocks_of (need_at pass beside)) ≡ broken_in grid marks beside
      by None e = refl
      by (Some j) e = omega (arith, broken_most j (neighbour_below grid k pass j h e))

  -- The least broken mark among that of block k and those of its neighbours for the first n passes.
  pub least_around : ℕ → ℕ → ℕ
  least_around k zero = broken_at grid marks k
  least_around k (suc pass) = min (least_around k pass) (broken_beside grid marks k pass)

  pub around_none : (k : ℕ) → least_around k 0 ≡ broken_at grid marks k
  unfolding least_around
  around_none k = refl

  -- One more turn of the loop over the passes.
  pub around_on : (k pass least beside : ℕ) → least ≡ least_around k pass → beside ≡ broken_beside grid marks k pass
      → min least beside ≡ least_around k (pass + 1)
  unfolding least_around
  around_on k pass least beside p q = rw (add-one pass, p, q)

  module _ (k : ℕ) (h : k < block_total grid) where
    around_links : (n : ℕ)
        → min (broken_at grid marks k) (least_broken_of grid marks (blocks_of (link_needs grid k n))) ≡ least_around k n
    unfolding least_around link_needs least_broken_of blocks_of
    around_links zero = omega (arith, broken_most k h)
    around_links (suc pass) =
        rw (
          blocks_append (link_needs grid k pass) (need_at pass (neighbour grid k pass)),
          least_append (blocks_of (link_needs grid k pass)) (blocks_of (need_at pass (neighbour grid k pass))),
          least_beside k pass h,
        )
        (omega (arith, around_links pass))

    -- The marks looked at are the block's own and those of its neighbours for the passes that the task needs.
    pub around_is : (t : ℕ) → t < 6 → least_around k (min t 4) ≡ least_broken grid marks t k
    unfolding least_broken looked_at least_broken_of blocks_of least_around
    around_is zero l = rw (needs_collect grid k) (omega (arith, broken_most k h))
    around_is (suc t) l = rw (needs_are grid t k (omega arith)) (omega (arith, around_links (min (suc t) 4)))

    -- Where all marks pass the test, no mark that is looked at is broken.
    around_valid : Valid grid marks → (n : ℕ) → least_around k n ≡ block_total grid
    unfolding least_around broken_beside
    around_valid valid zero = rw (valid k h)
    around_valid valid (suc pass) = omega (arith, around_valid valid pass, by (neighbour grid k pass) refl)
      where
        by : (beside : Option ℕ) → neighbour grid k pass ≡ beside → broken_in grid marks beside ≡ block_total grid
        by None e = refl
        by (Some j) e = rw (valid j (neighbour_below grid k pass j h e))

    none_broken : Valid grid marks → (t : ℕ) → t < 6 → least_broken grid marks t k ≡ block_total grid
    none_broken valid t l = sym (around_is t l) ∙ around_valid valid (min t 4)

    -- Where no mark that is looked at is broken, the block's own passes the test.
    own_valid : (t : ℕ) → block_total grid ≤ least_broken grid marks t k → mark_valid_at grid marks k ≡ true
    unfolding least_broken looked_at least_broken_of
    own_valid t l = unbroken_valid k h (omega arith)

-- On marks that show what is done, the answer is the one by what is done.
pub verdict_shown : (grid : Grid) (done : ℕ → ℕ → Bool) (marks : List ℕ) → Shows grid done marks → Only grid done → (t k : ℕ)
    → first_due (verdict_rows grid marks t k) ≡ first_due (done_rows grid done t k)
unfolding verdict_rows done_rows
verdict_shown grid done marks shows only t k = by (exists grid t k) refl
  where
    by : (x : Bool) → exists grid t k ≡ x → first_due (verdict_rows grid marks t k) ≡ first_due (done_rows grid done t k)
    by true e =
        let l = exists_task grid t k e in
        let h = exists_block grid t k e in
        let b = none_broken grid marks k h (shows_valid grid done marks shows only) t l in
        rw (
          le-ltb (least_broken grid marks t k) (block_total grid) (omega arith),
          shows_marked grid done marks shows t k l h,
          needs_same grid (is_marked marks) done (shows_marked grid done marks shows) t k l h,
        )
    by false e = rw e

-- Accepted exactly where ready.
module _ (grid : Grid) (done : ℕ → ℕ → Bool) (t k : ℕ) where
  decided : Bool → Bool → Bool → Answer
  decided x d a = first_due (8 at 0 when not x ∷ 10 at 0 when d ∷ 11 at 0 when not a ∷ [])

  pub accepted_ready : first_due (done_rows grid done t k) ≡ accepted → ready grid done t k ≡ true
  unfolding done_rows ready decided
  accepted_ready = by (exists grid t k) (done t k) (all_done done (needs_of grid t k))
    where
      by : (x d a : Bool) → decided x d a ≡ accepted → (x && (not d && a)) ≡ true
      by true true a e = cc
      by true false true e = refl
      by true false false e = cc
      by false d a e = cc

  pub ready_accepted : ready grid done t k ≡ true → first_due (done_rows grid done t k) ≡ accepted
  unfolding done_rows ready decided
  ready_accepted = by (exists grid t k) (done t k) (all_done done (needs_of grid t k))
    where
      by : (x d a : Bool) → (x && (not d && a)) ≡ true → decided x d a ≡ accepted
      by true true a e = absurd (true≢false (sym e))
      by true false true e = refl
      by true false false e = absurd (true≢false (sym e))
      by false d a e = absurd (true≢false (sym e))

-- What an accepted call's verdict says: what `set_bit` asks.
pub record Settable (grid : Grid) (marks : List ℕ) (t k : ℕ) : Type 0 where
  pub task : t < 6
  pub block : k < block_total grid
  pub room : get_or marks k 0 + 2 ^ t < 2 ^ 32

pub accepted_settable : (grid : Grid) (marks : List ℕ) (t k : ℕ) → first_due (verdict_rows grid marks t k) ≡ accepted
    → Settable grid marks t k
unfolding verdict_rows
accepted_settable grid marks t k e =
    let there = not_due _ _ _ _ e in
    let whole = not_due _ _ _ _ there.others in
    let exist = not-false (exists grid t k) there.first in
    let l = exists_task grid t k exist in
    let h = exists_block grid t k exist in
    let valid = own_valid grid marks k h t (ltb-false (least_broken grid marks t k) (block_total grid) whole.first) in
    record { task = l; block = h; room = valid_room grid k (get_or marks k 0) valid t l }
