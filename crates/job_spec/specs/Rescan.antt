-- Demand 3 over lists of task calls, each with the map lent to it, and recalls: the one claim about such a list. Document 02,
-- CR 8. Demand 3 of calls on one map (Demand3) follows from it.
use Rattle.std.specs.Prelude.{◌≡◌, Bool, true, false, ◌&&◌, cond, List, [], ◌∷◌, map, ℕ, suc, ◌≤◌, ◌<◌, ℤ, ltb, eqb, length}
use Rattle.refusal.specs.Refusals.{Answer, accepted, refused}
use Rattle.grid.specs.Grid.{rows_of, columns_of, part_of, block_pixel_place}
use Rattle.plan.specs.declared.Plan.{Plan}
use Rattle.plan.specs.Sizes.{needed_marks, needed_strips, needed_pixels, task_count, order_of}
use Rattle.buffer.specs.Lists.{word_at}
use Rattle.tasks.specs.Tasks.{BlockTask, needs_of, all_done, ready, nothing_done}
use Rattle.tasks.specs.Counts.{done_count}
use Rattle.tasks.specs.Marks.{Shows}
use Rattle.serial.specs.Serial.{serial_output}
use Rattle.report.specs.Report.{progress_of, report}
use Rattle.report.specs.Values.{values_of, all_done_values}
use Rattle.filter.specs.PlanFilters.{map_of, serial_result}
use Rattle.task_words.specs.declared.Half.TheVariants.{Lone, Linked}
use Rattle.task_words.specs.Strips.{strip_place}
use Rattle.task_words.specs.Writes.{alone_word}
use Rattle.task_words.specs.Matching.{SameBlock, matching_word}
use Rattle.recall.specs.Recall.{NeedsBlock}
use Rattle.job_spec.specs.Calls.{Buffers, start_answer, started, task_answer, after_calls}
use Rattle.job_spec.specs.Steps.{Step, perform, recall, after_steps, step_answers, is_long, accepts, done_by_step, done_by_steps, done_now, due_to_step, due_to_steps, stays_done, was_made, was_cleared, ClearedDoneAgain, accepted_calls}
use Rattle.job_spec.specs.Demand3.{Collected, Finished, OutsideFinished, OutsideStrips, done_after}

-- ---- the premise: no height of a block now collected has changed since that collect

-- The map that a step is lent has the pixels of the present map in block i. A list that is too short for a map is read by no
-- call, and a recall is lent none.
abbrev pub LentSame : Plan → (present : List ℤ) → (i : ℕ) → Step → Type 0
LentSame plan present i (perform heights t k) =
    needed_pixels plan ≤ length heights → SameBlock plan i (map_of plan heights) (map_of plan present)
LentSame plan present i (recall k) = Unit {0}

-- Block i, if it is collected at the end of the steps, was lent with the pixels of the present map at its last collect and at
-- every call since.
unfoldable pub UnchangedFrom : Plan → (present : List ℤ) → (i : ℕ) → (ℕ → ℕ → Bool) → List Step → Type 0
UnchangedFrom plan present i done [] = Unit {0}
UnchangedFrom plan present i done (step ∷ steps) =
    (stays_done plan (done_by_step plan done step) steps 0 i ≡ true → LentSame plan present i step)
    × UnchangedFrom plan present i (done_by_step plan done step) steps

-- The same of a list of steps from a start.
abbrev pub UnchangedBlock : Plan → (present : List ℤ) → (i : ℕ) → List Step → Type 0
UnchangedBlock plan present i steps = UnchangedFrom plan present i nothing_done steps

-- No height of a block now collected has changed, even for a time, since that collect, as far as calls were lent them: its
-- pixels are those of the present map.
abbrev pub Unchanged : Plan → (present : List ℤ) → List Step → Type 0
Unchanged plan present steps = (i : ℕ) → i < needed_marks plan → UnchangedBlock plan present i steps

-- ---- what the words are

-- The words of every done task are those of the present map.
pub record RightFor (plan : Plan) (present : List ℤ) (done : ℕ → ℕ → Bool) (now : Buffers) : Type 0 where
  -- The lone strips of a collected block are those of the block filtered alone, or 0 where no neighbour needs them;
  pub lone_strips : (k pass line place : ℕ) → pass < 4 → Collected done k → line < plan.grid.side → place < order_of plan pass
      → word_at now.strips (strip_place plan Lone k pass line place) ≡ alone_word plan (map_of plan present) k pass line place
  -- the linked strip of a done link is its matching strip;
  pub linked_strips_law : (k pass line place : ℕ) → pass < 4 → done (suc pass) k ≡ true → line < plan.grid.side
      → place < order_of plan pass
      → word_at now.strips (strip_place plan Linked k pass line place) ≡ matching_word plan (map_of plan present) k pass line place
  -- each word of a finished block is the result of left over the whole map.
  pub finished_blocks : (k y x : ℕ) → Finished done k → y < rows_of plan.grid k → x < columns_of plan.grid k
      → word_at now.output (block_pixel_place plan.grid k y x)
      ≡ part_of plan.grid k (serial_result plan (map_of plan present) 4) y x

-- The words of every task that is not made done are as before, whatever the maps.
pub record KeptFrom (plan : Plan) (before : Buffers) (made : ℕ → ℕ → Bool) (now : Buffers) : Type 0 where
  -- The lone strips of a block,
  pub lone_kept : (k pass line place : ℕ) → pass < 4 → made 0 k ≡ false → line < plan.grid.side → place < order_of plan pass
      → word_at now.strips (strip_place plan Lone k pass line place)
      ≡ word_at before.strips (strip_place plan Lone k pass line place)
  -- a linked strip,
  pub linked_kept : (k pass line place : ℕ) → pass < 4 → made (suc pass) k ≡ false → line < plan.grid.side
      → place < order_of plan pass
      → word_at now.strips (strip_place plan Linked k pass line place)
      ≡ word_at before.strips (strip_place plan Linked k pass line place)
  -- a block of the output,
  pub block_kept : (k y x : ℕ) → made 5 k ≡ false → y < rows_of plan.grid k → x < columns_of plan.grid k
      → word_at now.output (block_pixel_place plan.grid k y x) ≡ word_at before.output (block_pixel_place plan.grid k y x)
  -- and each word that is in none of what the tasks that are made done write.
  pub other_strips : (q : ℕ) → OutsideStrips plan made q → word_at now.strips q ≡ word_at before.strips q
  pub other_output : (q : ℕ) → OutsideFinished plan made q → word_at now.output q ≡ word_at before.output q

-- Task t of block k alone, where it is done.
abbrev pub only_task : (ℕ → ℕ → Bool) → (t k : ℕ) → ℕ → ℕ → Bool
only_task done t k u j = done u j && (eqb u t && eqb j k)

-- How many tasks are done after steps.
abbrev pub count_now : Plan → List Step → ℕ
count_now plan steps = done_count plan.grid (done_now plan steps)

-- ---- the claim

-- The claim about a list of steps. `lent` has the marks and strips lent to start and an output of any words, `after` the lists
-- after the steps, and `said` has their answers. `present` is the map now.
pub record RescanClaim (plan : Plan) (lent : Buffers) (steps : List Step) (after : Buffers) (said : List Answer) : Type 0 where
  -- Each step is answered by what was done before it.
  pub answers_are : said ≡ due_to_steps plan nothing_done steps
  -- Each needed mark has kind 7 and the bits of the tasks that are done now.
  pub marks_are : Shows plan.grid (done_now plan steps) after.marks
  -- The report on the marks is made by what is done now: its count, its tally and the task that it names.
  pub report_is : report plan after.marks
      ≡ record { answer = accepted; value = values_of (progress_of plan.grid (done_now plan steps)) }
  -- No more tasks are done than there are; until that many are done the report names a task that is accepted if called next
  -- with a map that is long enough, and with that many done it names none.
  pub never_more : count_now plan steps ≤ task_count plan
  pub names_next : (present : List ℤ) → needed_pixels plan ≤ length present → count_now plan steps < task_count plan
      → let values = (report plan after.marks).value in
      (values.ready ≡ 1) × (task_answer plan present after values.task values.block ≡ accepted)
  pub names_none : count_now plan steps ≡ task_count plan → (report plan after.marks).value ≡ all_done_values plan
  -- Strips and marks past the needed length and output words past h×w are as lent, and no list changes its length.
  pub marks_past : (k : ℕ) → needed_marks plan ≤ k → word_at after.marks k ≡ word_at lent.marks k
  pub strips_past : (q : ℕ) → needed_strips plan ≤ q → word_at after.strips q ≡ word_at lent.strips q
  pub output_past : (q : ℕ) → needed_pixels plan ≤ q → word_at after.output q ≡ word_at lent.output q
  pub marks_length : length after.marks ≡ length lent.marks
  pub strips_length : length after.strips ≡ length lent.strips
  pub output_length : length after.output ≡ length lent.output
  -- Words of tasks that no step made done are as start left them: strips 0, the output as lent.
  pub never_written : KeptFrom plan (started plan lent) (was_made plan nothing_done steps) after
  -- Kept words: whatever steps come now, words of every task that none of them makes done stay, whether the task is done,
  -- cleared or neither.
  pub kept_until_done_again : (more : List Step)
      → KeptFrom plan after (was_made plan (done_now plan steps) more) (after_steps plan more after)
  -- Judged by the new map: if no height of a block now collected has changed, even for a time, since that collect, the words
  -- of every done task are those of the map now.
  pub judged : (present : List ℤ) → Unchanged plan present steps → RightFor plan present (done_now plan steps) after
  -- The same task by task: the premise is asked of the blocks that the task needs, directly or through others.
  pub judged_task : (present : List ℤ) (t k : ℕ) → ((i : ℕ) → NeedsBlock plan.grid i t k → UnchangedBlock plan present i steps)
      → RightFor plan present (only_task (done_now plan steps) t k) after
  -- With all tasks done the output is then the one that the serial call leaves of the map now and the lent output.
  pub whole_job : (present : List ℤ) → needed_pixels plan ≤ length present → Unchanged plan present steps → count_now plan steps ≡ task_count plan
      → after.output ≡ serial_output plan present lent.output
  -- As a fresh job: under that premise, once the cleared tasks are done again, marks, strips and output equal, as lists, those
  -- of any calls on the map now, begun on the same lent words, with the same tasks done;
  pub as_fresh : (present : List ℤ) → needed_pixels plan ≤ length present → Unchanged plan present steps → ClearedDoneAgain plan steps
      → (calls : List BlockTask) → ((t k : ℕ) → done_now plan steps t k ≡ done_after plan calls t k)
      → after ≡ after_calls plan present calls (started plan lent)
  -- and there are such calls: the accepted ones among the steps, in their order.
  pub fresh_exists : ClearedDoneAgain plan steps → (t k : ℕ)
      → done_now plan steps t k ≡ done_after plan (accepted_calls plan nothing_done steps) t k

-- Demand 3 with recalls: for every plan, lent marks and strips that start accepts and output of any words that is long enough,
-- the claim holds of every list of steps, whatever their maps, tasks and blocks.
abbrev pub Rescan : Type 0
Rescan =
    (plan : Plan) (lent : Buffers) → start_answer plan lent.marks lent.strips ≡ accepted
    → needed_pixels plan ≤ length lent.output → (steps : List Step)
    → RescanClaim plan lent steps (after_steps plan steps (started plan lent)) (step_answers plan steps (started plan lent))

-- A step is answered 'accepted' exactly if it is accepted by what is done.
abbrev pub AcceptedStep : Type 0
AcceptedStep =
    (plan : Plan) (done : ℕ → ℕ → Bool) (step : Step)
    → (due_to_step plan done step ≡ accepted → accepts plan done step ≡ true)
    × (accepts plan done step ≡ true → due_to_step plan done step ≡ accepted)

-- What is done after an accepted recall of block k.
pub record AfterRecall (plan : Plan) (done : ℕ → ℕ → Bool) (k : ℕ) : Type 0 where
  -- A cleared task is no longer done,
  pub no_longer_done : (t j : ℕ) → NeedsBlock plan.grid k t j → done_by_step plan done (recall k) t j ≡ false
  -- and every other task is as it was.
  pub others_stay : (t j : ℕ) → (NeedsBlock plan.grid k t j → ⊥) → done_by_step plan done (recall k) t j ≡ done t j
  -- A cleared task may be accepted again: the collect of the block at once,
  pub collect_ready : ready plan.grid (done_by_step plan done (recall k)) 0 k ≡ true
  -- and each as soon as its needs are done, while it is not.
  pub ready_again : (t j : ℕ) → NeedsBlock plan.grid k t j → (later : ℕ → ℕ → Bool) → later t j ≡ false
      → all_done later (needs_of plan.grid t j) ≡ true → ready plan.grid later t j ≡ true

-- So it is after every accepted recall.
abbrev pub RecallClears : Type 0
RecallClears = (plan : Plan) (done : ℕ → ℕ → Bool) (k : ℕ) → accepts plan done (recall k) ≡ true → AfterRecall plan done k

-- A task is accepted twice only if a recall between the two calls cleared it: `steps` are those between.
abbrev pub AcceptedTwice : Type 0
AcceptedTwice =
    (plan : Plan) (done : ℕ → ℕ → Bool) (first second : List ℤ) (t k : ℕ) (steps : List Step)
    → accepts plan done (perform first t k) ≡ true
    → accepts plan (done_by_steps plan (done_by_step plan done (perform first t k)) steps) (perform second t k) ≡ true
    → was_cleared plan (done_by_step plan done (perform first t k)) steps t k ≡ true

-- ---- where the output is too short

-- What a step is then answered after a start: a call 15 or 16, a recall 8 or 17.
abbrev pub due_without_output : Plan → Step → Answer
due_without_output plan (perform heights t k) = refused (cond (is_long plan heights) 16 15) 0
due_without_output plan (recall k) = refused (cond (ltb k (needed_marks plan)) 17 8) 0

-- After an accepted start, with an output of fewer than h×w words, every step of every list is so refused, and nothing
-- changes.
abbrev pub ShortOutputSteps : Type 0
ShortOutputSteps =
    (plan : Plan) (lent : Buffers) → start_answer plan lent.marks lent.strips ≡ accepted
    → length lent.output < needed_pixels plan → (steps : List Step)
    → (after_steps plan steps (started plan lent) ≡ started plan lent)
    × (step_answers plan steps (started plan lent) ≡ map (due_without_output plan) steps)
