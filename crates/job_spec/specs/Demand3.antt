-- Demand 3 of task calls on one map: what is done after a list of them, by the list alone, and the one claim about the list.
-- Document 01, the paragraph on the words of demand 3; document 02, CR 4, CR 7 through `map_of`, and CR 8 for the two halves of
-- a slot. With recalls, and maps that change, demand 3 is `Rescan`; this follows from it.
use Rattle.std.specs.Prelude.{◌≡◌, Bool, true, cond, ◌≢◌, List, [], ◌∷◌, map, ℕ, suc, ◌≤◌, ◌<◌, ℤ, length, get_or}
use Rattle.refusal.specs.Refusals.{Answer, accepted, refused}
use Rattle.refusal.specs.Table.{first_due}
use Rattle.plan.specs.declared.Plan.{Plan}
use Rattle.plan.specs.Rules.{keeps_rules}
use Rattle.grid.specs.Grid.{rows_of, columns_of, part_of, block_pixel_place}
use Rattle.plan.specs.Sizes.{needed_marks, needed_strips, needed_pixels, task_count, order_of}
use Rattle.plan.specs.FirstTests.{lent_rows}
use Rattle.buffer.specs.Lists.{word_at}
use Rattle.tasks.specs.Tasks.{BlockTask, ready, nothing_done, also_done}
use Rattle.tasks.specs.Counts.{done_count}
use Rattle.tasks.specs.Marks.{Shows}
use Rattle.tasks.specs.Verdict.{done_rows}
use Rattle.serial.specs.Serial.{serial_output}
use Rattle.report.specs.declared.Progress.{Progress}
use Rattle.report.specs.Report.{progress_of, report}
use Rattle.report.specs.Values.{values_of, all_done_values}
use Rattle.task_words.specs.declared.Half.TheVariants.{Lone, Linked}
use Rattle.task_words.specs.Strips.{strip_place}
use Rattle.filter.specs.PlanFilters.{map_of, serial_result}
use Rattle.task_words.specs.Writes.{alone_word}
use Rattle.task_words.specs.Matching.{matching_word}
use Rattle.job_spec.specs.Calls.{Buffers, start_answer, started, lent_to_task, task_answer, after_calls, answers_of, accepted_count}

-- ---- what is done

-- A call makes its task done if that task exists there, is not yet done and has all its needs done; no other call does.
unfoldable pub done_by : Plan → (ℕ → ℕ → Bool) → BlockTask → ℕ → ℕ → Bool
done_by plan done call =
    cond (ready plan.grid done call.task call.block)
    (also_done done call.task call.block) done

-- What is done after more calls.
unfoldable pub done_from : Plan → (ℕ → ℕ → Bool) → List BlockTask → ℕ → ℕ → Bool
done_from plan done [] = done
done_from plan done (call ∷ calls) = done_from plan (done_by plan done call) calls

-- What is done after a list of calls.
unfoldable pub done_after : Plan → List BlockTask → ℕ → ℕ → Bool
done_after plan calls = done_from plan nothing_done calls

-- What a call is to be answered, by what was done before it, with no look at marks: 8 where the task does not exist at the
-- block, 10 where it is done, 11 where a need of it is not, each with place 0; else accepted. 9 cannot be due: marks that begin
-- with an accepted start never break.
unfoldable pub due_answer : Plan → (ℕ → ℕ → Bool) → BlockTask → Answer
due_answer plan done call = first_due (done_rows plan.grid done call.task call.block)

-- These answers for calls one after another.
unfoldable pub due_from : Plan → (ℕ → ℕ → Bool) → List BlockTask → List Answer
due_from plan done [] = []
due_from plan done (call ∷ calls) = due_answer plan done call ∷ due_from plan (done_by plan done call) calls

-- How many tasks are done after a list of calls.
abbrev pub count_after : Plan → List BlockTask → ℕ
count_after plan calls = done_count plan.grid (done_after plan calls)

-- What the report is to say after a list of calls: by what is done, with no look at marks.
abbrev pub progress_after : Plan → List BlockTask → Progress
progress_after plan calls = progress_of plan.grid (done_after plan calls)

-- ---- what the words of the demand mean, for any table of what is done

-- A block is collected with its task 0 done.
abbrev pub Collected : (ℕ → ℕ → Bool) → ℕ → Type 0
Collected done k = done 0 k ≡ true

-- A block is finished with its task 5 done.
abbrev pub Finished : (ℕ → ℕ → Bool) → ℕ → Type 0
Finished done k = done 5 k ≡ true

-- A word of the output outside finished blocks: it is no pixel of any, whether below h×w or past it.
abbrev pub OutsideFinished : Plan → (ℕ → ℕ → Bool) → ℕ → Type 0
OutsideFinished plan done q =
    (k y x : ℕ) → Finished done k → y < rows_of plan.grid k → x < columns_of plan.grid k → q ≢ block_pixel_place plan.grid k y x

-- A word of the strips outside what is done: it stands in no lone strip of a collected block and in no strip of a done link.
abbrev pub OutsideStrips : Plan → (ℕ → ℕ → Bool) → ℕ → Type 0
OutsideStrips plan done q =
    (k pass line place : ℕ) → pass < 4 → line < plan.grid.side → place < order_of plan pass
    → (Collected done k → q ≢ strip_place plan Lone k pass line place)
    × (done (suc pass) k ≡ true → q ≢ strip_place plan Linked k pass line place)

-- ---- the answers of a list of calls

-- Call number i is accepted; past the end of the list none is.
abbrev pub AcceptedAt : List Answer → ℕ → Type 0
AcceptedAt said i = get_or said i (refused 0 0) ≡ accepted

-- Call number i of the list.
abbrev pub call_at : List BlockTask → ℕ → BlockTask
call_at calls i = get_or calls i (record { task = 0; block = 0 })

-- ---- the claim

-- The claim about a list of calls on a map. `lent` has the marks and strips lent to start and an output of any words, `after`
-- the lists after the calls, and `said` has their answers.
pub record Claim (plan : Plan) (heights : List ℤ) (lent : Buffers) (calls : List BlockTask) (after : Buffers)
    (said : List Answer) : Type 0 where
  -- Each word of a finished block is the result of left over the whole map.
  pub finished_blocks : (k y x : ℕ) → Finished (done_after plan calls) k → y < rows_of plan.grid k → x < columns_of plan.grid k
      → word_at after.output (block_pixel_place plan.grid k y x)
      ≡ part_of plan.grid k (serial_result plan (map_of plan heights) 4) y x
  -- All output words outside finished blocks, those past h×w included, are as they were.
  pub other_output : (q : ℕ) → OutsideFinished plan (done_after plan calls) q
      → word_at after.output q ≡ word_at lent.output q
  -- A linked strip, the one that a done link writes, in the linked half, is its matching strip.
  pub linked_strips_law : (k pass line place : ℕ) → pass < 4 → done_after plan calls (suc pass) k ≡ true
      → line < plan.grid.side → place < order_of plan pass
      → word_at after.strips (strip_place plan Linked k pass line place)
      ≡ matching_word plan (map_of plan heights) k pass line place
  -- Each lone strip of a collected block is what collect writes, whatever is linked: that of the block filtered alone, or 0
  -- where no neighbour needs it.
  pub collected_strips_law : (k pass line place : ℕ) → pass < 4 → Collected (done_after plan calls) k
      → line < plan.grid.side → place < order_of plan pass
      → word_at after.strips (strip_place plan Lone k pass line place) ≡ alone_word plan (map_of plan heights) k pass line place
  -- All other needed strip words are 0, as start left them.
  pub other_strips : (q : ℕ) → q < needed_strips plan → OutsideStrips plan (done_after plan calls) q
      → word_at after.strips q ≡ 0
  -- Each needed mark has kind 7 and the bits of the tasks that are done.
  pub marks_are : Shows plan.grid (done_after plan calls) after.marks
  -- Strips and marks past the needed length are as lent.
  pub strips_past : (q : ℕ) → needed_strips plan ≤ q → word_at after.strips q ≡ word_at lent.strips q
  pub marks_past : (k : ℕ) → needed_marks plan ≤ k → word_at after.marks k ≡ word_at lent.marks k
  -- No list changes its length.
  pub marks_length : length after.marks ≡ length lent.marks
  pub strips_length : length after.strips ≡ length lent.strips
  pub output_length : length after.output ≡ length lent.output
  -- Each call is answered by what was done before it: accepted exactly if it makes its task done, else refused by 8, 10 or 11.
  pub answers_are : said ≡ due_from plan nothing_done calls
  -- So no task is accepted twice: of two accepted calls the second is of another task or at another block,
  pub accepted_once : (i j : ℕ) → i < j → AcceptedAt said i → AcceptedAt said j → call_at calls i ≢ call_at calls j
  -- and as many calls are accepted as tasks are done.
  pub accepted_are_done : accepted_count said ≡ count_after plan calls
  -- The report on the marks is made: it counts the tasks that are done, its tally is the area of each collected block plus that
  -- of each finished one, and it names the first task that is ready, by number and then by block, or none.
  pub report_is : report plan after.marks ≡ record { answer = accepted; value = values_of (progress_after plan calls) }
  -- No more tasks are done than there are, 6MN - 2M - 2N.
  pub never_more : count_after plan calls ≤ task_count plan
  -- Until that many are done the report names a task that is accepted if called next.
  pub names_next : count_after plan calls < task_count plan
      → let values = (report plan after.marks).value in
      (values.ready ≡ 1) × (task_answer plan heights after values.task values.block ≡ accepted)
  -- With that many done it names none, and the tally is two for each pixel.
  pub names_none : count_after plan calls ≡ task_count plan
      → (report plan after.marks).value ≡ all_done_values plan
  -- With that many done, the output is the one that the serial call leaves of the same map and output, the words past h×w included.
  -- That call accepts where demand 3 is claimed: the record keeps the rules, and map and output are long enough.
  pub whole_job : count_after plan calls ≡ task_count plan → after.output ≡ serial_output plan heights lent.output

-- Demand 3: for every plan, map, lent marks and strips that start accepts, output of any words, map and output long enough,
-- the claim holds of every list of calls, whatever their task and block numbers.
abbrev pub Demand3 : Type 0
Demand3 =
    (plan : Plan) (heights : List ℤ) (lent : Buffers) → start_answer plan lent.marks lent.strips ≡ accepted
    → needed_pixels plan ≤ length heights → needed_pixels plan ≤ length lent.output → (calls : List BlockTask)
    → Claim plan heights lent calls (after_calls plan heights calls (started plan lent))
    (answers_of plan heights calls (started plan lent))

-- A call is accepted exactly if it makes its task done, that is, if its task is ready.
abbrev pub AcceptedIfReady : Type 0
AcceptedIfReady =
    (plan : Plan) (done : ℕ → ℕ → Bool) (call : BlockTask)
    → (due_answer plan done call ≡ accepted
    → ready plan.grid done call.task call.block ≡ true)
    × (ready plan.grid done call.task call.block ≡ true
    → due_answer plan done call ≡ accepted)

-- Start accepts every record that keeps the rules, with marks and strips that are long enough: demand 3 speaks of all of
-- these.
abbrev pub StartAccepts : Type 0
StartAccepts =
    (plan : Plan) (marks strips : List ℕ) → keeps_rules plan ≡ true → needed_marks plan ≤ length marks
    → needed_strips plan ≤ length strips → start_answer plan marks strips ≡ accepted

-- ---- where the record or a length refuses

-- Of any list, every call is refused by this number at this place, and nothing changes.
abbrev pub AllRefused : Plan → List ℤ → Buffers → (number place : ℕ) → Type 0
AllRefused plan heights now number place =
    (calls : List BlockTask)
    → (after_calls plan heights calls now ≡ now)
    × (answers_of plan heights calls now ≡ map (λ call. refused number place) calls)

-- Where the record or a length refuses, every call of every list is refused by that number and place.
abbrev pub RefusedThroughout : Type 0
RefusedThroughout =
    (plan : Plan) (heights : List ℤ) (now : Buffers) (number place : ℕ)
    → first_due (lent_rows plan (lent_to_task heights now)) ≡ refused number place → AllRefused plan heights now number place

-- The lists that are too short for a task, each by its number: `ShortBuffer` of what a task is lent, written out.
pub data ShortForTask (plan : Plan) (heights : List ℤ) (now : Buffers) : ℕ → Type 0 where
  marks_too_short : length now.marks < needed_marks plan → ShortForTask plan heights now 7
  strips_too_short : length now.strips < needed_strips plan → ShortForTask plan heights now 14
  map_too_short : length heights < needed_pixels plan → ShortForTask plan heights now 15
  output_too_short : length now.output < needed_pixels plan → ShortForTask plan heights now 16

-- So, beside a record that keeps the rules, where one or more of the four lists are too short, every call of every list
-- is refused, whatever its task, by the least of their numbers at place 0;
abbrev pub ShortRefused : Type 0
ShortRefused =
    (plan : Plan) (heights : List ℤ) (now : Buffers) (number : ℕ) → keeps_rules plan ≡ true
    → ShortForTask plan heights now number → ((other : ℕ) → ShortForTask plan heights now other → number ≤ other)
    → AllRefused plan heights now number 0

-- and after an accepted start by 15 with a map of fewer than h×w heights, else by 16 with an output of fewer than h×w
-- words.
abbrev pub ShortAfterStart : Type 0
ShortAfterStart =
    (plan : Plan) (heights : List ℤ) (lent : Buffers) → start_answer plan lent.marks lent.strips ≡ accepted
    → (length heights < needed_pixels plan → AllRefused plan heights (started plan lent) 15 0)
    × (needed_pixels plan ≤ length heights → length lent.output < needed_pixels plan
    → AllRefused plan heights (started plan lent) 16 0)
