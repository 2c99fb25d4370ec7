-- Judged from the end: through a step, the words of the tasks that stay done from then on are right for the map at the end. The
-- needs of such a task stay done too, so that it reads words which are right for that map already. Assumes nothing.
use mathlib.Core.Path.{◌≡◌, refl, sym, ◌∙◌}
use mathlib.Core.Bool.{Bool, true, ◌&&◌}
use mathlib.Core.List.{List}
use mathlib.Core.Logic.{⊎_elim}
use Prim.Native.Nat.{ℕ, suc, ◌≤◌, ◌<◌}
use native.Mathlib.Omega.{arith}
use lib.IntN.{ℤ}
use Rattle.number.proofs.Tests.{and_both}
use Rattle.plan.specs.declared.Plan.{Plan}
use Rattle.plan.specs.Sizes.{order_of}
use Rattle.grid.specs.Grid.{rows_of, columns_of, block_pixel_place, part_of, goes_on}
use Rattle.grid.proofs.Blocks.{same_pixel}
use Rattle.buffer.specs.Lists.{word_at}
use Rattle.tasks.specs.Tasks.{needs_of, all_done, ready, also_done}
use Rattle.tasks.proofs.Existence.{exists_block, exists_has, link_exists}
use Rattle.tasks.proofs.Needs.{needs_collected, needs_linked, ready_exists, ready_undone, ready_needs}
use Rattle.tasks.proofs.NeedLists.{all_and}
use Rattle.tasks.proofs.Progress.{also_cases}
use Rattle.filter.specs.PlanFilters.{map_of, serial_result}
use Rattle.task_words.specs.declared.Half.TheVariants.{Lone, Linked}
use Rattle.task_words.specs.Strips.{strip_place}
use Rattle.task_words.specs.Matching.{SameBlock, matching_word}
use Rattle.task_words.proofs.Places.{SideFits}
use Rattle.task_words.proofs.Strips.{lone_not_linked, places_apart}
use Rattle.task_words.proofs.StripReads.{NeedsTrue}
use Rattle.task_words.proofs.Depends.{collect_depends, finish_depends}
use Rattle.task_words.proofs.Tasks.{link_is, finish_is}
use Rattle.job_spec.specs.Calls.{Buffers, lists}
use Rattle.job_spec.specs.Rescan.{RightFor}
use Rattle.job_spec.proofs.Done.{clash}
use Rattle.job_spec.proofs.Wrote.{StripsWrote, OutputWrote}

-- In both tables.
abbrev pub both : (ℕ → ℕ → Bool) → (ℕ → ℕ → Bool) → ℕ → ℕ → Bool
both done alive t k = done t k && alive t k

-- A table that has with each task its needs.
abbrev pub Closed : Plan → (ℕ → ℕ → Bool) → Type 0
Closed plan alive = (t k : ℕ) → alive t k ≡ true → all_done alive (needs_of plan.grid t k) ≡ true

-- Every task of the one table is in the other.
abbrev pub Within : (ℕ → ℕ → Bool) → (ℕ → ℕ → Bool) → Type 0
Within alive done = (t k : ℕ) → alive t k ≡ true → done t k ≡ true

pub right_fewer : (plan : Plan) (X : List ℤ) (done alive : ℕ → ℕ → Bool) (now : Buffers) → RightFor plan X done now → Within alive done
    → RightFor plan X alive now
right_fewer plan X done alive now right was =
    record {
      lone_strips = λ k pass line place h a. right.lone_strips k pass line place h (was 0 k a);
      linked_strips_law = λ k pass line place h a. right.linked_strips_law k pass line place h (was (suc pass) k a);
      finished_blocks = λ k y x a. right.finished_blocks k y x (was 5 k a);
    }

-- Task t of block k, ready by what is done, was performed on the map `heights`, which has the pixels of X in each block that is
-- collected in the table of tasks that are alive.
module _ (plan : Plan) (fits : SideFits plan) (X heights : List ℤ) (done alive : ℕ → ℕ → Bool) (now : Buffers)
    (right : RightFor plan X (both done alive) now) (closed : Closed plan alive)
    (same : (k : ℕ) → alive 0 k ≡ true → SameBlock plan k (map_of plan heights) (map_of plan X)) (t k : ℕ)
    (r : ready plan.grid done t k ≡ true) where
  -- The needs of the task, if it is alive, are done and alive.
  met : alive t k ≡ true → all_done (both done alive) (needs_of plan.grid t k) ≡ true
  met a = all_and done alive (needs_of plan.grid t k) (ready_needs plan.grid done t k r) (closed t k a)

  needs_right : (u : ℕ) → u < 5 → t ≡ suc u → alive t k ≡ true → (n : ℕ) → n ≤ suc u → n ≤ 4
      → NeedsTrue plan (map_of plan X) now.strips k n
  needs_right u l e a n b c pass j h beside line place =
      right.linked_strips_law j pass line place (omega arith)
      (needs_linked (both done alive) plan.grid u k l (rw e at (met a)) pass j (omega arith) beside)

  module _ (strips output : List ℕ) (wrote : StripsWrote plan heights t k now.strips strips)
      (wrote_output : OutputWrote plan heights t k now.strips now.output output) where
    new_link : (u : ℕ) → u < 4 → t ≡ suc u → alive t k ≡ true → (line place : ℕ) → line < plan.grid.side → place < order_of plan u
        → word_at strips (strip_place plan Linked k u line place) ≡ matching_word plan (map_of plan X) k u line place
    new_link u l e a line place p q =
        let there = ready_exists plan.grid done (suc u) k (rw e at r) in
        let goes : goes_on plan.grid k u ≡ true = sym (link_exists plan.grid k u l) ∙ exists_has plan.grid (suc u) k there in
        let own = needs_collected (both done alive) plan.grid u k (omega arith) (rw e at (met a)) in
        wrote.linked_new u l e line place p q
        ∙ link_is plan fits (map_of plan X) now.strips k u (exists_block plan.grid (suc u) k there) l goes
        (λ line place. right.lone_strips k u line place l own)
        (needs_right u (omega arith) e a (suc u) (omega arith) (omega arith)) line place q

    new_block : t ≡ 5 → alive t k ≡ true → (y x : ℕ) → y < rows_of plan.grid k → x < columns_of plan.grid k
        → word_at output (block_pixel_place plan.grid k y x) ≡ part_of plan.grid k (serial_result plan (map_of plan X) 4) y x
    new_block e a y x p q =
        let here = exists_block plan.grid t k (ready_exists plan.grid done t k r) in
        let collected = needs_collected alive plan.grid 4 k (omega arith) (rw e at (closed t k a)) in
        wrote_output.block_new e y x p q
        ∙ finish_depends plan (map_of plan heights) (map_of plan X) now.strips now.strips k (same k collected)
        (λ pass j h n line place b inside. refl) y x p q
        ∙ finish_is plan fits (map_of plan X) now.strips k here (needs_right 4 (omega arith) e a 4 (omega arith) (omega arith)) y x p q

    -- A task that was done before is another one.
    other : (u j : ℕ) → done u j ≡ true → t ≡ u → j ≡ k → ⊥
    other u j was e i = clash was (rw (i, ← e) (ready_undone plan.grid done t k r))

    pub performed_right : (marks : List ℕ) → Within alive (also_done done t k) → RightFor plan X alive (lists marks strips output)
    performed_right marks now_done =
        record {
          lone_strips = λ j pass line place h a l p.
              ⊎_elim
              (λ (was : done 0 j ≡ true).
              wrote.others _
              (λ e v b i c d f z. places_apart plan Lone Lone j pass k v line place i c h b (λ _ n _. other 0 j was e n) l p d f z)
              (λ v b e i c d f z. places_apart plan Lone Linked j pass k v line place i c h b (λ n. absurd (lone_not_linked n)) l p d f z)
              ∙ right.lone_strips j pass line place h (and_both was a) l p)
              (λ (new : (0 ≡ t) × (j ≡ k)).
              rw new.1
              (wrote.lone_new (sym new.0) pass h line place l p
              ∙ collect_depends plan (map_of plan heights) (map_of plan X) k pass (same k (rw new.1 at a)) line place p))
              (also_cases done t k 0 j (now_done 0 j a));
          linked_strips_law = λ j v line place h a l p.
              ⊎_elim
              (λ (was : done (suc v) j ≡ true).
              wrote.others _
              (λ e u b i c d f z. places_apart plan Linked Lone j v k u line place i c h b (λ n. absurd (lone_not_linked (sym n))) l p d f z)
              (λ u b e i c d f z.
              places_apart plan Linked Linked j v k u line place i c h b (λ _ n s. other (suc v) j was (rw (← s) at e) n) l p d f z)
              ∙ right.linked_strips_law j v line place h (and_both was a) l p)
              (λ (new : (suc v ≡ t) × (j ≡ k)).
              rw new.1 (new_link v h (sym new.0) (rw (new.0, new.1) at a) line place l p))
              (also_cases done t k (suc v) j (now_done (suc v) j a));
          finished_blocks = λ j y x a l p.
              ⊎_elim
              (λ (was : done 5 j ≡ true).
              wrote_output.others _
              (λ e v u c d f. other 5 j was e (same_pixel plan.grid j y x k v u l p c d f).0)
              ∙ right.finished_blocks j y x (and_both was a) l p)
              (λ (new : (5 ≡ t) × (j ≡ k)).
              rw new.1 (new_block (sym new.0) (rw (new.0, new.1) at a) y x (rw new.1 at l) (rw new.1 at p)))
              (also_cases done t k 5 j (now_done 5 j a));
        }
