-- An accepted task writes its strips or its block, and no other word. Assumes nothing.
use mathlib.Core.Path.{◌≡◌, refl}
use mathlib.Core.Bool.{Bool, true, false, cond}
use mathlib.Core.List.{List}
use mathlib.Core.Logic.{◌≢◌}
use Prim.Native.Nat.{ℕ, zero, suc, ◌≤◌, ◌<◌}
use native.Mathlib.Omega.{arith}
use lib.IntN.{ℤ}
use lib.Dec.{ltb, eqb}
use lib.ListN.{length}
use borrow.Author.Tests.{ltb-true, ltb-false, eqb-true, eqb-false}
use Rattle.plan.specs.declared.Plan.{Plan}
use Rattle.grid.specs.Grid.{rows_of, columns_of, block_pixel_place}
use Rattle.plan.specs.Sizes.{needed_marks, needed_strips, needed_pixels}
use Rattle.buffer.specs.Lists.{word_at}
use Rattle.filter.specs.PlanFilters.{map_of}
use Rattle.task_words.specs.declared.Half.TheVariants.{Lone, Linked}
use Rattle.task_words.specs.Writes.{alone_word, link_word, linked, finish_word, finished}
use Rattle.task_words.proofs.Strips.{HoldsStrip, OutsideStrip}
use Rattle.task_words.proofs.Tasks.{collected_length, collected_holds, collected_outside, linked_length, linked_holds, linked_outside, finished_length, finished_holds, finished_outside}
use Rattle.job_spec.specs.Calls.{strips_after, output_after}

-- A word of the output is no pixel of block k.
abbrev pub OutsideBlock : Plan → (k q : ℕ) → Type 0
OutsideBlock plan k q =
    (y x : ℕ) → y < rows_of plan.grid k → x < columns_of plan.grid k → q ≢ block_pixel_place plan.grid k y x

-- The strips after task t of block k on a map: its strips are written, and no other word.
pub record StripsWrote (plan : Plan) (heights : List ℤ) (t k : ℕ) (before after : List ℕ) : Type 0 where
  pub same_length : length after ≡ length before
  pub lone_new : t ≡ 0 → (pass : ℕ) → pass < 4 → HoldsStrip plan after Lone k pass (alone_word plan (map_of plan heights) k pass)
  pub linked_new : (pass : ℕ) → pass < 4 → t ≡ suc pass → HoldsStrip plan after Linked k pass (link_word plan before k pass)
  pub others : (q : ℕ) → (t ≡ 0 → (pass : ℕ) → pass < 4 → OutsideStrip plan Lone k pass q)
      → ((pass : ℕ) → pass < 4 → t ≡ suc pass → OutsideStrip plan Linked k pass q) → word_at after q ≡ word_at before q

-- The output after it, strips being those that it read.
pub record OutputWrote (plan : Plan) (heights : List ℤ) (t k : ℕ) (strips before after : List ℕ) : Type 0 where
  pub same_length : length after ≡ length before
  pub block_new : t ≡ 5 → (y x : ℕ) → y < rows_of plan.grid k → x < columns_of plan.grid k
      → word_at after (block_pixel_place plan.grid k y x) ≡ finish_word plan (map_of plan heights) strips k y x
  pub others : (q : ℕ) → (t ≡ 5 → OutsideBlock plan k q) → word_at after q ≡ word_at before q

pub strips_wrote : (plan : Plan) (heights : List ℤ) (t k : ℕ) (strips : List ℕ) → k < needed_marks plan
    → needed_strips plan ≤ length strips → StripsWrote plan heights t k strips (strips_after plan heights t k strips)
unfolding strips_after
strips_wrote plan heights zero k strips here long =
    let X = map_of plan heights in
    record {
      same_length = collected_length plan X k strips;
      lone_new = λ e pass h. collected_holds plan X k strips pass h here long;
      linked_new = λ pass h e. absurd (omega arith);
      others = λ q lone linked. collected_outside plan X k strips q (lone refl);
    }
strips_wrote plan heights (suc u) k strips here long = by (ltb u 4) refl
  where
    by : (test : Bool) → ltb u 4 ≡ test → StripsWrote plan heights (suc u) k strips (cond test (linked plan k u strips) strips)
    by true e =
        let l = ltb-true u 4 e in
        record {
          same_length = linked_length plan k u l strips;
          lone_new = λ e. absurd (omega arith);
          linked_new = λ pass h e. let v : pass ≡ u = omega arith in rw v (linked_holds plan k u l strips here long);
          others = λ q lone linked. linked_outside plan k u l strips q (linked u l refl);
        }
    by false e =
        let l = ltb-false u 4 e in
        record {
          same_length = refl;
          lone_new = λ e. absurd (omega arith);
          linked_new = λ pass h e. absurd (omega arith);
          others = λ q lone linked. refl;
        }

pub output_wrote : (plan : Plan) (heights : List ℤ) (t k : ℕ) (strips output : List ℕ) → needed_pixels plan ≤ length output
    → OutputWrote plan heights t k strips output (output_after plan heights t k strips output)
unfolding output_after
output_wrote plan heights t k strips output long = by (eqb t 5) refl
  where
    by : (test : Bool) → eqb t 5 ≡ test
        → OutputWrote plan heights t k strips output (cond test (finished plan (map_of plan heights) strips k output) output)
    by true e =
        let X = map_of plan heights in
        record {
          same_length = finished_length plan X strips k output;
          block_new = λ five y x. finished_holds plan X strips k output y x long;
          others = λ q out. finished_outside plan X strips k output q (out (eqb-true t 5 e));
        }
    by false e =
        record {
          same_length = refl;
          block_new = λ five. absurd (eqb-false t 5 e five);
          others = λ q out. refl;
        }
