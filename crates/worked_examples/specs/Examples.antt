-- The starred examples of document 01, with document 02's changes, in one list, each through the definition that the
-- contract of its call cites; further rectangles, a map with dropouts, the difference of two maps, and two jobs worked by
-- hand, their strips word by word after the collects and after all tasks, one of them with a block scanned again.
use Rattle.std.specs.Prelude.{◌≡◌, List, [], ◌∷◌, ◌++◌, map, ℕ, ℤ, pos, replicate}
use Rattle.word.specs.Word.{residue}
use Rattle.refusal.specs.Refusals.{Answer, number_in, place_in}
use Rattle.plan.specs.declared.Pass.{Pass}
use Rattle.plan.specs.declared.Plan.{Plan}
use Rattle.plan.specs.Sizes.{needed_marks, needed_strips, needed_pixels}
use Rattle.plan_reader.specs.ReadPlan.{read_plan}
use Rattle.passes.specs.Examples.{Example, minus}
use Rattle.serial.specs.Serial.{serial_output, serial_words_output}
use Rattle.rectangle.specs.Rectangle.{rectangle_call}
use Rattle.dropouts.specs.Dropouts.{dropouts_call}
use Rattle.tasks.specs.Tasks.{BlockTask}
use Rattle.task_words.specs.Examples.{WorkedJob, zeros, column_job, row_job}
use Rattle.job_spec.specs.Calls.{Buffers, started, after_calls}
use Rattle.job_spec.specs.Steps.{Step, perform, recall, after_steps, step_answers, on_map}
use Rattle.filter.specs.PlanFilters.{summed_area_passes, pass_of, unchanged_pass, running_sum_pass}

-- ---- plan words

-- An answer as document 01's number and place.
abbrev pub number_and_place : Answer → List ℤ
number_and_place answer = pos (number_in answer) ∷ pos (place_in answer) ∷ []

-- What the plan's reader answers to a list of words.
abbrev pub reading_example : List ℕ → List ℕ → Example (List ℤ)
reading_example words answer = record { computed = number_and_place (read_plan words).answer; expected = map pos answer }

-- The words of a plan of one pixel with a block word, a pass word for down and its coefficients; the other passes have
-- order 0, and all gains are 1.
abbrev plan_words : ℕ → ℕ → List ℕ → List ℕ
plan_words block down coefficients =
    (0x10002001 ∷ block ∷ down ∷ 0x40000001 ∷ [])
    ++ (coefficients
    ++ (0x30000010 ∷ 0x40000001 ∷ 0x30000020 ∷ 0x40000001 ∷ 0x30000030 ∷ 0x40000001 ∷ 0x60000000 ∷ []))

-- The words of so many coefficients of 1.
abbrev coefficients_of_one : ℕ → List ℕ
coefficients_of_one count = replicate count 0x50000001

-- ---- plan records

-- A plan of a size with these passes, of order 0 or 1, and block side 1.
abbrev plan_of : (rows columns : ℕ) (down up right left : Pass) → Plan
plan_of rows columns down up right left =
    record { grid = record { rows = rows; columns = columns; side = 1 }; passes = down ∷ up ∷ right ∷ left ∷ [] }

-- The summed-area table of two rows and three columns.
abbrev table_plan : Plan
table_plan = record { grid = record { rows = 2; columns = 3; side = 2 }; passes = summed_area_passes }

-- Order 0 and a gain.
abbrev gain_alone : ℤ → Pass
gain_alone gain = pass_of gain []

-- ---- the serial passes

-- Words, and numbers whose residues they should be.
abbrev words_example : List ℕ → List ℤ → Example (List ℤ)
words_example words numbers = record { computed = map pos words; expected = map (λ number. pos (residue number)) numbers }

-- The output of the serial passes over a map, begun on words of 7.
unfoldable pub serial_example : Plan → List ℤ → List ℤ → Example (List ℤ)
serial_example plan heights words = words_example (serial_output plan heights (replicate (needed_pixels plan) 7)) words

-- 1 2 3 / 4 5 6
abbrev one_to_six : List ℤ
one_to_six = pos 1 ∷ pos 2 ∷ pos 3 ∷ pos 4 ∷ pos 5 ∷ pos 6 ∷ []

-- 1, 0, 0
abbrev one_then_zeros : List ℤ
one_then_zeros = pos 1 ∷ pos 0 ∷ pos 0 ∷ []

-- Down gain 6, d1 = 2,
abbrev down : Pass
down = pass_of (pos 6) (pos 2 ∷ [])

-- then up gain -1, d1 = 2.
abbrev up : Pass
up = pass_of (minus 1) (pos 2 ∷ [])

-- ---- a rectangle

-- 1 -2 3 / -4 5 -6
abbrev above_and_below : List ℤ
above_and_below = pos 1 ∷ minus 2 ∷ pos 3 ∷ minus 4 ∷ pos 5 ∷ minus 6 ∷ []

-- What the rectangle sum answers on the table that the serial passes leave of a map of two rows and three columns:
-- number, place and sum.
unfoldable pub rectangle_example : List ℤ → (top left bottom right : ℕ) → (number place : ℕ) → (sum : ℤ) → Example (List ℤ)
rectangle_example heights top left bottom right number place sum =
    let given = rectangle_call table_plan (serial_output table_plan heights (replicate 6 7)) top left bottom right in
    record {
      computed = number_and_place given.answer ++ (given.value ∷ []);
      expected = pos number ∷ pos place ∷ sum ∷ [];
    }

-- ---- dropouts

-- A map with two dropouts, and the least height that is none: 1 * 3 / * 5 -2147483647, each * a dropout
abbrev with_dropouts : List ℤ
with_dropouts = pos 1 ∷ minus 2147483648 ∷ pos 3 ∷ minus 2147483648 ∷ pos 5 ∷ minus 2147483647 ∷ []

-- What the count of dropouts answers of a map of two rows and three columns: number, place and count.
unfoldable pub dropouts_example : List ℤ → (top left bottom right : ℕ) → (number place count : ℕ) → Example (List ℤ)
dropouts_example heights top left bottom right number place count =
    let given = dropouts_call table_plan heights top left bottom right in
    record {
      computed = number_and_place given.answer ++ (pos given.value ∷ []);
      expected = pos number ∷ pos place ∷ pos count ∷ [];
    }

-- ---- jobs

-- Buffers of just the needed lengths, of words of 7.
abbrev lent_for : Plan → Buffers
lent_for plan =
    record {
      marks = replicate (needed_marks plan) 7;
      strips = replicate (needed_strips plan) 7;
      output = replicate (needed_pixels plan) 7;
    }

-- The lists after a list of calls on started buffers.
unfoldable pub after_job : Plan → List ℤ → List BlockTask → Buffers
after_job plan heights calls = after_calls plan heights calls (started plan (lent_for plan))

-- Collect both of two blocks.
abbrev collect_both : List BlockTask
collect_both = record { task = 0; block = 0 } ∷ record { task = 0; block = 1 } ∷ []

-- All tasks of two blocks: collect both, a link forth of the first and a link back of the second, finish both.
abbrev two_blocks : (forth back : ℕ) → List BlockTask
two_blocks forth back =
    collect_both
    ++ (record { task = forth; block = 0 }
    ∷ record { task = back; block = 1 }
    ∷ record { task = 5; block = 0 }
    ∷ record { task = 5; block = 1 }
    ∷ [])

-- The output after a list of calls.
unfoldable pub output_example : Plan → List ℤ → List BlockTask → List ℤ → Example (List ℤ)
output_example plan heights calls words = words_example (after_job plan heights calls).output words

-- The strips after a list of calls.
unfoldable pub strips_example : Plan → List ℤ → List BlockTask → List ℤ → Example (List ℤ)
strips_example plan heights calls words = words_example (after_job plan heights calls).strips words

-- A job of two blocks worked by hand: the strips after the collects, and the strips and the output after all tasks.
unfoldable pub job_examples : WorkedJob → (forth back : ℕ) → List (Example (List ℤ))
job_examples job forth back =
    strips_example job.plan job.heights collect_both (job.strips_collected (pos 0))
    ∷ strips_example job.plan job.heights (two_blocks forth back) (job.strips_linked (pos 0))
    ∷ output_example job.plan job.heights (two_blocks forth back) job.output_finished
    ∷ []

-- Three rows and one column in two blocks, b = 2.
abbrev column_plan : Plan
column_plan = record { grid = record { rows = 3; columns = 1; side = 2 }; passes = down ∷ up ∷ unchanged_pass ∷ unchanged_pass ∷ [] }

-- ---- the list

-- The starred examples, in the document's order. By request CR 5 the rectangle without rows has the sum 0, by request
-- CR 7 the height -2147483648 gives 0. Order 9 stands for order 5 by request CR 1; order 8 beside order 4 holds the
-- limit from below.
unfoldable pub starred : List (Example (List ℤ))
starred =
    serial_example table_plan one_to_six (pos 1 ∷ pos 3 ∷ pos 6 ∷ pos 5 ∷ pos 12 ∷ pos 21 ∷ [])
    ∷ rectangle_example one_to_six 0 1 2 3 0 0 (pos 16)
    ∷ rectangle_example one_to_six 0 0 0 3 0 0 (pos 0)
    ∷ serial_example (plan_of 3 1 down unchanged_pass unchanged_pass unchanged_pass) one_then_zeros (pos 6 ∷ minus 12 ∷ pos 24 ∷ [])
    ∷ serial_example (plan_of 3 1 down up unchanged_pass unchanged_pass) one_then_zeros (minus 126 ∷ pos 60 ∷ minus 24 ∷ [])
    ∷ output_example column_plan one_then_zeros (two_blocks 1 2) (minus 126 ∷ pos 60 ∷ minus 24 ∷ [])
    ∷ serial_example (plan_of 1 3 unchanged_pass unchanged_pass running_sum_pass running_sum_pass) one_then_zeros (pos 3 ∷ pos 2 ∷ pos 1 ∷ [])
    ∷ serial_example (plan_of 1 1 unchanged_pass unchanged_pass unchanged_pass unchanged_pass) (minus 1 ∷ []) (pos 18446744073709551615 ∷ [])
    ∷ serial_example (plan_of 1 1 (gain_alone (pos 65536)) (gain_alone (pos 65536)) (gain_alone (pos 65536)) (gain_alone (pos 65536)))
    (pos 1 ∷ []) (pos 0 ∷ [])
    ∷ serial_example (plan_of 1 1 (gain_alone (minus 134217728)) unchanged_pass unchanged_pass unchanged_pass) (minus 2147483648 ∷ [])
    (pos 0 ∷ [])
    ∷ reading_example (plan_words 0x20000004 0x30000004 (coefficients_of_one 4)) (0 ∷ 0 ∷ [])
    ∷ reading_example (plan_words 0x20000003 0x30000004 (coefficients_of_one 4)) (4 ∷ 1 ∷ [])
    ∷ reading_example (plan_words 0x20000008 0x30000008 (coefficients_of_one 8)) (0 ∷ 0 ∷ [])
    ∷ reading_example (plan_words 0x20000007 0x30000008 (coefficients_of_one 8)) (4 ∷ 1 ∷ [])
    ∷ reading_example (plan_words 0x20000009 0x30000009 (coefficients_of_one 9)) (3 ∷ 2 ∷ [])
    ∷ []

-- Further rectangles: document 01's second; by request CR 2, of a map with heights below 0, totals below 0 of a row and
-- of the whole map, and a total of 0; by request CR 5, three empty ones, without rows, without columns at the right
-- edge, and without both at the far corner. Refused by 12: an empty one past that corner; top past bottom; left past
-- right; bottom past the map; right past the map.
unfoldable pub further_rectangles : List (Example (List ℤ))
further_rectangles =
    rectangle_example one_to_six 1 0 2 1 0 0 (pos 4)
    ∷ rectangle_example above_and_below 1 0 2 3 0 0 (minus 5)
    ∷ rectangle_example above_and_below 0 0 2 3 0 0 (minus 3)
    ∷ rectangle_example above_and_below 0 1 2 3 0 0 (pos 0)
    ∷ rectangle_example one_to_six 1 1 1 3 0 0 (pos 0)
    ∷ rectangle_example one_to_six 0 3 2 3 0 0 (pos 0)
    ∷ rectangle_example one_to_six 2 3 2 3 0 0 (pos 0)
    ∷ rectangle_example one_to_six 3 4 3 4 12 0 (pos 0)
    ∷ rectangle_example one_to_six 2 0 1 3 12 0 (pos 0)
    ∷ rectangle_example one_to_six 0 2 2 1 12 0 (pos 0)
    ∷ rectangle_example one_to_six 0 0 3 3 12 0 (pos 0)
    ∷ rectangle_example one_to_six 0 0 2 4 12 0 (pos 0)
    ∷ []

-- Dropouts, by request CR 7: the least height that is none with document 01's gain; of the map with two, its table by
-- the serial passes and by a job of two blocks, and its total; the dropouts of all of it, of a column with one, of a
-- column without, and of an empty rectangle; refused by 12, and by 15 before 12.
unfoldable pub dropouts : List (Example (List ℤ))
dropouts =
    serial_example (plan_of 1 1 (gain_alone (minus 134217728)) unchanged_pass unchanged_pass unchanged_pass) (minus 2147483647 ∷ [])
    (pos 288230376017494016 ∷ [])
    ∷ serial_example table_plan with_dropouts (pos 1 ∷ pos 1 ∷ pos 4 ∷ pos 1 ∷ pos 6 ∷ minus 2147483638 ∷ [])
    ∷ output_example table_plan with_dropouts (two_blocks 3 4) (pos 1 ∷ pos 1 ∷ pos 4 ∷ pos 1 ∷ pos 6 ∷ minus 2147483638 ∷ [])
    ∷ rectangle_example with_dropouts 0 0 2 3 0 0 (minus 2147483638)
    ∷ dropouts_example with_dropouts 0 0 2 3 0 0 2
    ∷ dropouts_example with_dropouts 0 1 2 2 0 0 1
    ∷ dropouts_example with_dropouts 0 2 2 3 0 0 0
    ∷ dropouts_example with_dropouts 1 0 1 3 0 0 0
    ∷ dropouts_example with_dropouts 0 0 3 3 12 0 0
    ∷ dropouts_example (pos 1 ∷ []) 0 0 3 3 15 0 0
    ∷ []

-- ---- two faces

-- The output of the serial passes over words, given as numbers whose residues they are, begun on words of 7.
unfoldable pub serial_words_example : Plan → List ℤ → List ℤ → Example (List ℤ)
serial_words_example plan numbers words =
    words_example (serial_words_output plan (map residue numbers) (replicate (needed_pixels plan) 7)) words

-- Running sums along a row of four.
abbrev row_plan : Plan
row_plan = plan_of 1 4 unchanged_pass unchanged_pass running_sum_pass unchanged_pass

-- Today's face 3 * 9 5, its * a dropout; yesterday's 4 7 7 5; and the words of today's less yesterday's, with 0 for the
-- dropout: their output is the difference of the outputs. Of words none is a dropout, not even that of its number.
unfoldable pub faces : List (Example (List ℤ))
faces =
    serial_example row_plan (pos 3 ∷ minus 2147483648 ∷ pos 9 ∷ pos 5 ∷ []) (pos 3 ∷ pos 3 ∷ pos 12 ∷ pos 17 ∷ [])
    ∷ serial_example row_plan (pos 4 ∷ pos 7 ∷ pos 7 ∷ pos 5 ∷ []) (pos 4 ∷ pos 11 ∷ pos 18 ∷ pos 23 ∷ [])
    ∷ serial_words_example row_plan (minus 1 ∷ minus 7 ∷ pos 2 ∷ pos 0 ∷ []) (minus 1 ∷ minus 8 ∷ minus 6 ∷ minus 6 ∷ [])
    ∷ serial_words_example row_plan (pos 3 ∷ minus 2147483648 ∷ pos 9 ∷ pos 5 ∷ [])
    (pos 3 ∷ minus 2147483645 ∷ minus 2147483636 ∷ minus 2147483631 ∷ [])
    ∷ []

-- ---- a block scanned again

-- The column job, with 5 in the place of its last height, 1: down gives 1, -1, 1, 6 and then up -64, -24, 14, 12.
abbrev rescanned_heights : List ℤ
rescanned_heights = pos 1 ∷ pos 0 ∷ pos 2 ∷ pos 5 ∷ []

-- All its tasks are done; then the lower block is recalled, scanned again and collected.
abbrev collected_again : List Step
collected_again =
    on_map column_job.heights (two_blocks 1 2) ++ (recall 1 ∷ perform rescanned_heights 0 1 ∷ [])

-- Then the other tasks that the recall cleared are done again: the lower block's up link, and both finishes.
abbrev done_again : List Step
done_again =
    collected_again
    ++ on_map rescanned_heights (record { task = 2; block = 1 } ∷ record { task = 5; block = 0 } ∷ record { task = 5; block = 1 } ∷ [])

-- The strips of both blocks, lone and linked, by the first word of the lower one's up strip in each half.
abbrev column_strips : (lone linked : ℤ) → List ℤ
column_strips lone linked =
    let down = minus 1 ∷ pos 0 ∷ pos 0 ∷ pos 1 ∷ zeros 8 in
    down ++ (down ++ (zeros 6 ++ (lone ∷ (zeros 11 ++ (linked ∷ zeros 5)))))

-- The lists after steps on started buffers.
unfoldable pub after_history : List Step → Buffers
after_history steps = after_steps column_job.plan steps (started column_job.plan (lent_for column_job.plan))

-- What each step says, as numbers alone.
unfoldable pub numbers_said : List Step → List ℤ
numbers_said steps =
    map (λ answer. pos (number_in answer)) (step_answers column_job.plan steps (started column_job.plan (lent_for column_job.plan)))

-- Marks, strips and output with the lower block collected again: what the recall cleared keeps its old words. The same with
-- all done again: those of the new map. And what is said: a block that is not collected, or not there, is not recalled.
unfoldable pub rescan_examples : List (Example (List ℤ))
rescan_examples =
    record { computed = map pos (after_history collected_again).marks; expected = pos 0x70000003 ∷ pos 0x70000001 ∷ [] }
    ∷ words_example (after_history collected_again).strips (column_strips (pos 10) (pos 4))
    ∷ words_example (after_history collected_again).output column_job.output_finished
    ∷ record { computed = map pos (after_history done_again).marks; expected = pos 0x70000023 ∷ pos 0x70000025 ∷ [] }
    ∷ words_example (after_history done_again).strips (column_strips (pos 10) (pos 12))
    ∷ words_example (after_history done_again).output (minus 64 ∷ minus 24 ∷ pos 14 ∷ pos 12 ∷ [])
    ∷ record {
      computed = numbers_said (recall 1 ∷ perform rescanned_heights 0 1 ∷ recall 1 ∷ recall 1 ∷ recall 2 ∷ perform [] 0 1 ∷ []);
      expected = pos 17 ∷ pos 0 ∷ pos 0 ∷ pos 17 ∷ pos 8 ∷ pos 15 ∷ [];
    }
    ∷ []

-- The starred examples, further rectangles, dropouts, two faces, strips and outputs of two jobs of order 2 whose last block
-- is short, and one of them with that block scanned again.
abbrev pub examples : List (Example (List ℤ))
examples =
    starred
    ++ (further_rectangles
    ++ (dropouts ++ (faces ++ (job_examples column_job 1 2 ++ (job_examples row_job 3 4 ++ rescan_examples)))))

-- The definitions compute what is given, in every example.
abbrev pub ExamplesHold : Type 0
ExamplesHold = map (λ e. e.computed) examples ≡ map (λ e. e.expected) examples
