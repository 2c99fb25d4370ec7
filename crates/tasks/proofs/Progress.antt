-- One more task done: what is then done, counted and shown; and what any number of ready tasks keeps. Assumes nothing.
use mathlib.Core.Path.{◌≡◌, refl, sym, ap, ◌∙◌}
use mathlib.Core.Logic.{◌⊎◌, inl, inr, ⊎_elim, ◌≢◌}
use mathlib.Core.Bool.{Bool, true, false, ◌&&◌, ◌||◌, or-false, or-true, true≢false}
use mathlib.Core.List.{List}
use Prim.Native.Nat.{ℕ, ◌+◌, ◌*◌, ◌^◌, ◌<◌, ◌≤◌}
use native.Mathlib.Omega.{arith}
use native.Mathlib.Decide.{ℕ_discrete}
use lib.Dec.{eqb}
use lib.ListN.{length, get_or, set, length-set}
use lib.Seq.{get_or-set_same, get_or-set_other}
use borrow.Author.Tests.{eq-eqb, ne_eqb, eqb-true}
use Rattle.number.specs.Numbers.{total, one}
use Rattle.number.proofs.Sums.{total_same, total_bump}
use Rattle.grid.specs.declared.Grid.{Grid}
use Rattle.grid.specs.Grid.{block_total}
use Rattle.tasks.specs.Tasks.{exists, needs_of, all_done, ready, nothing_done, also_done}
use Rattle.tasks.specs.Counts.{one_at, done_at, done_count}
use Rattle.tasks.specs.Marks.{bit_at, mark_of, Shows, with_bit}
use Rattle.tasks.proofs.Existence.{exists_block, exists_task}
use Rattle.tasks.proofs.NeedLists.{all_kept}
use Rattle.tasks.proofs.Needs.{ready_exists, ready_undone, ready_needs}
use Rattle.tasks.proofs.Marking.{mark_same}

module _ (done : ℕ → ℕ → Bool) (t k : ℕ) where
  pub also_new : also_done done t k t k ≡ true
  unfolding also_done
  also_new = rw (eq-eqb t t refl, eq-eqb k k refl) (or-true (done t k))

  pub also_kept : (u j : ℕ) → done u j ≡ true → also_done done t k u j ≡ true
  unfolding also_done
  also_kept u j e = rw e

  pub also_task : (u j : ℕ) → u ≢ t → also_done done t k u j ≡ done u j
  unfolding also_done
  also_task u j n = rw (ne_eqb u t n) (or-false (done u j))

  pub also_block : (u j : ℕ) → j ≢ k → also_done done t k u j ≡ done u j
  unfolding also_done
  also_block u j n = rw (ne_eqb j k n) (by (eqb u t))
    where
      by : (x : Bool) → (done u j || (x && false)) ≡ done u j
      by true = or-false (done u j)
      by false = or-false (done u j)

  -- What is done afterwards was done before, or is the one task.
  pub also_cases : (u j : ℕ) → also_done done t k u j ≡ true → (done u j ≡ true) ⊎ ((u ≡ t) × (j ≡ k))
  unfolding also_done
  also_cases u j e = by (done u j) (eqb u t) (eqb j k) refl refl refl e
    where
      by : (a b c : Bool) → done u j ≡ a → eqb u t ≡ b → eqb j k ≡ c → (a || (b && c)) ≡ true
          → (done u j ≡ true) ⊎ ((u ≡ t) × (j ≡ k))
      by true b c p q r e = inl p
      by false true true p q r e = inr (eqb-true u t q, eqb-true j k r)
      by false true false p q r e = absurd (true≢false (sym e))
      by false false c p q r e = absurd (true≢false (sym e))

-- One more task that was not done is one more.
count_also : (grid : Grid) (done : ℕ → ℕ → Bool) (t k : ℕ) → t < 6 → k < block_total grid → done t k ≡ false
    → done_count grid (also_done done t k) ≡ done_count grid done + 1
unfolding done_count done_at
count_also grid done t k l h e =
    total_bump (done_at done) (done_at (also_done done t k)) k 1 (block_total grid) h
    (λ j n. total_same _ _ 6 (λ u m. ap one (also_block done t k u j n)))
    (total_bump (one_at done k) (one_at (also_done done t k) k) t 1 6 l
    (λ u n. ap one (also_task done t k u k n))
    (rw (also_new done t k, e)))

-- Its bit is one more bit of its block's mark.
mark_also : (done : ℕ → ℕ → Bool) (t k : ℕ) → t < 6 → done t k ≡ false → mark_of (also_done done t k) k ≡ mark_of done k + 2 ^ t
unfolding mark_of
mark_also done t k l e =
    let r : total (bit_at (also_done done t k) k) 6 ≡ total (bit_at done k) 6 + 2 ^ t =
    total_bump (bit_at done k) (bit_at (also_done done t k) k) t (2 ^ t) 6 l
    (λ u n. ap (λ x. one x * 2 ^ u) (also_task done t k u k n))
    (rw (also_new done t k, e) (omega arith))
    in
    omega arith

mark_other : (done : ℕ → ℕ → Bool) (t k j : ℕ) → j ≢ k → mark_of (also_done done t k) j ≡ mark_of done j
mark_other done t k j n = mark_same _ done j (λ u h. also_block done t k u j n)

module _ (marks : List ℕ) (t k : ℕ) where
  pub bit_length : length (with_bit marks t k) ≡ length marks
  unfolding with_bit
  bit_length = length-set marks k _

  -- No other mark changes.
  pub bit_other : (j : ℕ) → j ≢ k → get_or (with_bit marks t k) j 0 ≡ get_or marks j 0
  unfolding with_bit
  bit_other j n = get_or-set_other marks k j _ 0 n

  -- Setting the bit shows one more task done.
  pub shows_bit : (grid : Grid) (done : ℕ → ℕ → Bool) → t < 6 → k < block_total grid → block_total grid ≤ length marks
      → done t k ≡ false → Shows grid done marks → Shows grid (also_done done t k) (with_bit marks t k)
  unfolding with_bit
  shows_bit grid done l h enough undone shows j g = by (ℕ_discrete j k)
    where
      by : Dec (j ≡ k) → get_or (set marks k (get_or marks k 0 + 2 ^ t)) j 0 ≡ mark_of (also_done done t k) j
      by (yes e) =
          rw e
          (get_or-set_same marks k _ 0 (omega arith)
          ∙ ap (λ x. x + 2 ^ t) (shows k h)
          ∙ sym (mark_also done t k l undone))
      by (no e) = get_or-set_other marks k j _ 0 e ∙ shows j g ∙ sym (mark_other done t k j e)

-- Only tasks that exist are done, and with each its needs.
pub record Sound (grid : Grid) (done : ℕ → ℕ → Bool) : Type 0 where
  pub exist : (t k : ℕ) → done t k ≡ true → exists grid t k ≡ true
  pub closed : (t k : ℕ) → done t k ≡ true → all_done done (needs_of grid t k) ≡ true

pub sound_nothing : (grid : Grid) → Sound grid nothing_done
sound_nothing grid = record { exist = λ t k e. absurd (true≢false (sym e)); closed = λ t k e. absurd (true≢false (sym e)) }

-- Performing a ready task keeps that.
pub sound_also : (grid : Grid) (done : ℕ → ℕ → Bool) (t k : ℕ) → ready grid done t k ≡ true → Sound grid done
    → Sound grid (also_done done t k)
sound_also grid done t k r s =
    record {
      exist = λ u j e.
          ⊎_elim (λ (p : done u j ≡ true). s.exist u j p)
          (λ (p : (u ≡ t) × (j ≡ k)). rw (p.0, p.1) (ready_exists grid done t k r))
          (also_cases done t k u j e);
      closed = λ u j e.
          all_kept done (also_done done t k) (also_kept done t k) (needs_of grid u j)
          (⊎_elim (λ (p : done u j ≡ true). s.closed u j p)
          (λ (p : (u ≡ t) × (j ≡ k)). rw (p.0, p.1) (ready_needs grid done t k r))
          (also_cases done t k u j e));
    }

-- Performing a ready task makes one more done.
pub count_ready : (grid : Grid) (done : ℕ → ℕ → Bool) (t k : ℕ) → ready grid done t k ≡ true
    → done_count grid (also_done done t k) ≡ done_count grid done + 1
count_ready grid done t k r =
    let e = ready_exists grid done t k r in
    count_also grid done t k (exists_task grid t k e) (exists_block grid t k e) (ready_undone grid done t k r)
