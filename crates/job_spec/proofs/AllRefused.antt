-- Lists of calls that the record or a length refuses: all of them, by the least number of the lists that are too short.
-- Assumes nothing.
use mathlib.Core.Path.{◌≡◌, refl, ap, ap₂, sym, ◌∙◌}
use mathlib.Core.List.{List, [], ◌∷◌, map}
use Prim.Native.Nat.{ℕ, ◌+◌, ◌*◌, ◌≤◌}
use native.Mathlib.Omega.{arith}
use lib.IntN.{ℤ}
use lib.ListN.{length}
use Rattle.refusal.specs.Refusals.{accepted, refused}
use Rattle.refusal.specs.Table.{first_due}
use Rattle.refusal.proofs.Table.{refused_before}
use Rattle.plan.specs.declared.Plan.{Plan}
use Rattle.plan.specs.Sizes.{needed_marks, needed_strips, needed_pixels}
use Rattle.plan.specs.FirstTests.{lent_rows, ShortBuffer, of7_short, strips_short, map_short, output_short}
use Rattle.plan.proofs.FirstTests.{Suffices, least_short_decides}
use Rattle.buffer.specs.Written.{cleared}
use Rattle.buffer.proofs.Written.{written_length}
use Rattle.tasks.specs.Tasks.{BlockTask}
use Rattle.job_spec.specs.Calls.{Buffers, lent_to_start, start_answer, unmarked, marks_after_start, strips_after_start, started, lent_to_task, task_answer, after_task, after_calls, answers_of}
use Rattle.job_spec.specs.Demand3.{RefusedThroughout, ShortForTask, marks_too_short, strips_too_short, map_too_short, output_too_short, ShortRefused, ShortAfterStart}
use Rattle.job_spec.proofs.Start.{start_tells}

-- ---- a record or a length that refuses

module _ (plan : Plan) (heights : List ℤ) (now : Buffers) (number place : ℕ)
    (refuses : first_due (lent_rows plan (lent_to_task heights now)) ≡ refused number place) where
  refused_call : (t k : ℕ) → task_answer plan heights now t k ≡ refused number place
  unfolding task_answer
  refused_call t k = sym (refused_before (lent_rows plan (lent_to_task heights now)) _ (sym refuses))

  unchanged : (t k : ℕ) → after_task plan heights t k now ≡ now
  unfolding after_task
  unchanged t k = rw (refused_call t k)

  all_unchanged : (calls : List BlockTask) → after_calls plan heights calls now ≡ now
  unfolding after_calls
  all_unchanged [] = refl
  all_unchanged (call ∷ calls) =
      ap (after_calls plan heights calls) (unchanged call.task call.block) ∙ all_unchanged calls

  all_refused : (calls : List BlockTask) → answers_of plan heights calls now ≡ map (λ call. refused number place) calls
  unfolding answers_of
  all_refused [] = refl
  all_refused (call ∷ calls) =
      ap₂ ◌∷◌ (refused_call call.task call.block)
      (ap (answers_of plan heights calls) (unchanged call.task call.block) ∙ all_refused calls)

pub refused_throughout : RefusedThroughout
refused_throughout plan heights now number place refuses calls =
    (all_unchanged plan heights now number place refuses calls, all_refused plan heights now number place refuses calls)

-- ---- lists that are too short

-- The lists that are too short for a task are the buffers that the tests find so.
module _ (plan : Plan) (heights : List ℤ) (now : Buffers) where
  as_buffer : (number : ℕ) → ShortForTask plan heights now number → ShortBuffer plan (lent_to_task heights now) number
  as_buffer number (marks_too_short h) = of7_short h
  as_buffer number (strips_too_short h) = strips_short h
  as_buffer number (map_too_short h) = map_short h
  as_buffer number (output_too_short h) = output_short h

  as_list : (number : ℕ) → ShortBuffer plan (lent_to_task heights now) number → ShortForTask plan heights now number
  as_list number (of7_short h) = marks_too_short h
  as_list number (strips_short h) = strips_too_short h
  as_list number (map_short h) = map_too_short h
  as_list number (output_short h) = output_too_short h

pub short_refused : ShortRefused
unfolding lent_rows
short_refused plan heights now number kept short least =
    refused_throughout plan heights now number 0
    (least_short_decides plan (lent_to_task heights now) [] number kept (as_buffer plan heights now number short)
    (λ other s. least other (as_list plan heights now other s)))

-- ---- after an accepted start

module _ (plan : Plan) (heights : List ℤ) (lent : Buffers) (start : start_answer plan lent.marks lent.strips ≡ accepted) where
  tells : Suffices plan (lent_to_start lent.marks lent.strips)
  tells = start_tells plan lent.marks lent.strips start

  -- Start changes no length, so that marks and strips are long enough.
  marks_long : needed_marks plan ≤ length (started plan lent).marks
  unfolding started marks_after_start unmarked
  marks_long = rw (start, written_length (λ k. k) _ (needed_marks plan) lent.marks) tells.of7_long

  strips_long : needed_strips plan ≤ length (started plan lent).strips
  unfolding started strips_after_start cleared
  strips_long = rw (start, written_length (λ i. 0 + i * 1) _ (needed_strips plan) lent.strips) tells.strips_long

  map_least : (other : ℕ) → ShortForTask plan heights (started plan lent) other → 15 ≤ other
  map_least other (marks_too_short h) = absurd (omega (arith, h, marks_long))
  map_least other (strips_too_short h) = absurd (omega (arith, h, strips_long))
  map_least other (map_too_short h) = omega arith
  map_least other (output_too_short h) = omega arith

  output_least : needed_pixels plan ≤ length heights → (other : ℕ) → ShortForTask plan heights (started plan lent) other
      → 16 ≤ other
  output_least map_long other (marks_too_short h) = absurd (omega (arith, h, marks_long))
  output_least map_long other (strips_too_short h) = absurd (omega (arith, h, strips_long))
  output_least map_long other (map_too_short h) = absurd (omega (arith, h, map_long))
  output_least map_long other (output_too_short h) = omega arith

pub short_after_start : ShortAfterStart
unfolding started
short_after_start plan heights lent start =
    let rules = (tells plan heights lent start).rules in (
      λ few. short_refused plan heights (started plan lent) 15 rules (map_too_short few) (map_least plan heights lent start),
      λ map_long few.
          short_refused plan heights (started plan lent) 16 rules (output_too_short few)
          (output_least plan heights lent start map_long),
    )
