-- Start, the task call and a list of task calls: the exact answer, and the marks, strips and output after it.
-- Document 01, 'Blocks, marks and strips' and 'Refused calls'; document 02, CR 4, CR 8, and CR 7 through `map_of`.
use Rattle.std.specs.Prelude.{cond, List, [], ◌∷◌, ◌++◌, ℕ, zero, suc, ◌+◌, min, ℤ, ltb, eqb, length, None, Some}
use Rattle.refusal.specs.Refusals.{Answer}
use Rattle.refusal.specs.Table.{first_due, if_accepted}
use Rattle.plan.specs.declared.BufferOf7.TheVariants.{Marks}
use Rattle.plan.specs.declared.Lengths.{Lengths}
use Rattle.plan.specs.declared.Plan.{Plan}
use Rattle.plan.specs.Sizes.{needed_marks, needed_strips}
use Rattle.plan.specs.FirstTests.{lent_rows}
use Rattle.tasks.specs.Tasks.{BlockTask, nothing_done}
use Rattle.tasks.specs.Marks.{mark_of, with_bit}
use Rattle.tasks.specs.Verdict.{verdict_rows}
use Rattle.buffer.specs.Lists.{word_at}
use Rattle.buffer.specs.Written.{written, cleared}
use Rattle.filter.specs.PlanFilters.{map_of}
use Rattle.task_words.specs.Writes.{collected, linked, finished}

-- The lists that a job's calls write.
pub record Buffers : Type 0 where
  pub marks : List ℕ
  pub strips : List ℕ
  pub output : List ℕ

-- Marks, strips and output as lent to a call.
abbrev pub lists : List ℕ → List ℕ → List ℕ → Buffers
lists marks strips output = record { marks = marks; strips = strips; output = output }

-- ---- start

-- Start is lent marks and strips,
abbrev pub lent_to_start : List ℕ → List ℕ → Lengths
lent_to_start marks strips =
    record { of7 = Some (Marks (length marks)); strips = Some (length strips); map = None; output = None }

-- and tests the record and just those: 6, 7 for the marks, 14 for the strips.
unfoldable pub start_answer : Plan → List ℕ → List ℕ → Answer
start_answer plan marks strips = first_due (lent_rows plan (lent_to_start marks strips))

-- Marks of which the first n are of kind 7 with no bit.
unfoldable pub unmarked : ℕ → List ℕ → List ℕ
unmarked n marks = written (λ k. k) (λ k. mark_of nothing_done k) n marks

-- The marks after a call of start: all needed marks are unmarked, or a refused call leaves them.
unfoldable pub marks_after_start : Plan → List ℕ → List ℕ → List ℕ
marks_after_start plan marks strips = if_accepted (start_answer plan marks strips) (unmarked (needed_marks plan) marks) marks

-- The strips after a call of start: all needed strip words, the first and those after it, are 0; or a refused call leaves them.
unfoldable pub strips_after_start : Plan → List ℕ → List ℕ → List ℕ
strips_after_start plan marks strips =
    if_accepted (start_answer plan marks strips) (cleared 0 1 (needed_strips plan) strips) strips

-- The lists of a job after its start: marks and strips as start leaves them, and the output untouched.
unfoldable pub started : Plan → Buffers → Buffers
started plan lent =
    record {
      marks = marks_after_start plan lent.marks lent.strips;
      strips = strips_after_start plan lent.marks lent.strips;
      output = lent.output;
    }

-- ---- the task call

-- A task is lent four lists: all are tested, also where the task doesn't read or write them.
abbrev pub lent_to_task : List ℤ → Buffers → Lengths
lent_to_task heights buffers =
    record {
      of7 = Some (Marks (length buffers.marks));
      strips = Some (length buffers.strips);
      map = Some (length heights);
      output = Some (length buffers.output);
    }

-- What a call of task t at block k answers: 6, 7, 14, 15, 16, and then what the marks say, 8 to 11.
unfoldable pub task_answer : Plan → List ℤ → Buffers → ℕ → ℕ → Answer
task_answer plan heights buffers t k =
    first_due (lent_rows plan (lent_to_task heights buffers) ++ verdict_rows plan.grid buffers.marks t k)

-- The strips after an accepted task: collect writes the lone half of the block's slot, a link the strip of its pass in the
-- linked half, finish none.
unfoldable pub strips_after : Plan → List ℤ → ℕ → ℕ → List ℕ → List ℕ
strips_after plan heights zero k strips = collected plan (map_of plan heights) k strips
strips_after plan heights (suc pass) k strips = cond (ltb pass 4) (linked plan k pass strips) strips

-- The output after an accepted task: finish writes the block's words, the others none.
unfoldable pub output_after : Plan → List ℤ → ℕ → ℕ → List ℕ → List ℕ → List ℕ
output_after plan heights t k strips output =
    cond (eqb t 5) (finished plan (map_of plan heights) strips k output) output

-- An accepted task sets its bit and writes its place.
unfoldable pub performed : Plan → List ℤ → ℕ → ℕ → Buffers → Buffers
performed plan heights t k buffers =
    record {
      marks = with_bit buffers.marks t k;
      strips = strips_after plan heights t k buffers.strips;
      output = output_after plan heights t k buffers.strips buffers.output;
    }

-- The lists after a call of task t at block k: a refused call leaves all as it was.
unfoldable pub after_task : Plan → List ℤ → ℕ → ℕ → Buffers → Buffers
after_task plan heights t k buffers =
    if_accepted (task_answer plan heights buffers t k) (performed plan heights t k buffers) buffers

-- ---- a list of task calls, one after another

-- The lists after the calls.
unfoldable pub after_calls : Plan → List ℤ → List BlockTask → Buffers → Buffers
after_calls plan heights [] buffers = buffers
after_calls plan heights (call ∷ calls) buffers =
    after_calls plan heights calls (after_task plan heights call.task call.block buffers)

-- The answer of each call.
unfoldable pub answers_of : Plan → List ℤ → List BlockTask → Buffers → List Answer
answers_of plan heights [] buffers = []
answers_of plan heights (call ∷ calls) buffers =
    task_answer plan heights buffers call.task call.block
    ∷ answers_of plan heights calls (after_task plan heights call.task call.block buffers)

-- The number of accepted calls among the answers.
unfoldable pub accepted_count : List Answer → ℕ
accepted_count [] = 0
accepted_count (answer ∷ answers) = if_accepted answer 1 0 + accepted_count answers

-- The n calls from number i on, where call i is of the task number i of one list at the block number i of another.
unfoldable pub calls_from : List ℕ → List ℕ → ℕ → ℕ → List BlockTask
calls_from tasks blocks i zero = []
calls_from tasks blocks i (suc n) =
    record { task = word_at tasks i; block = word_at blocks i } ∷ calls_from tasks blocks (suc i) n

-- The calls of two lists, as many as the shorter has.
abbrev pub calls_of : List ℕ → List ℕ → List BlockTask
calls_of tasks blocks = calls_from tasks blocks 0 (min (length tasks) (length blocks))
