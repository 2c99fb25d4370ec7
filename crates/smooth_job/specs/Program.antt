-- Document 01's program: what its input asks for, what it answers, and the output words that it prints.
use Rattle.std.specs.Prelude.{not, cond, List, [], ◌∷◌, ◌++◌, ℕ, zero, suc, ◌+◌, ◌*◌, ◌/◌, ◌%◌, min, ℤ, ltb, leb, eqb, length, replicate, Result, Ok, Err}
use Rattle.refusal.specs.declared.Refusal.{Refusal}
use Rattle.refusal.specs.Refusals.{Answer, accepted, refused, refused_for}
use Rattle.refusal.specs.Table.{Row, ◌at◌when◌, first_of, first_due, Given, given}
use Rattle.plan.specs.declared.Plan.{Plan}
use Rattle.grid.specs.Grid.{side_limit}
use Rattle.plan.specs.Sizes.{word_limit, needed_pixels, order_sum_limit}
use Rattle.buffer.specs.Lists.{word_at, list_of}
use Rattle.plan_reader.specs.PlanWords.{end_kind}
use Rattle.plan_reader.specs.ReadPlan.{plan_rows, plan_from}
use Rattle.report.specs.Values.{Values}
use Rattle.report.specs.Report.{report}
use Rattle.job_spec.specs.Calls.{Buffers, lists}
use Rattle.whole_job.specs.WholeJob.{whole_answer, after_whole_job}
use Rattle.smooth_job.specs.declared.Smoothed.{Smoothed}
use Rattle.number.specs.KindWords.{kind_of}
use Rattle.number.specs.SignedBits.{twos_complement}

-- ---- the input

-- The most pixels.
abbrev pub pixel_limit : ℕ
pixel_limit = 64

-- The byte of the input at a place, 0 past the end.
abbrev pub byte_at : List ℕ → ℕ → ℕ
byte_at input place = word_at input place

-- Word number i of the input: four bytes, the lowest first.
unfoldable pub word_in : List ℕ → ℕ → ℕ
word_in input i =
    byte_at input (4 * i) + 256 * byte_at input (4 * i + 1) + 65536 * byte_at input (4 * i + 2)
    + 16777216 * byte_at input (4 * i + 3)

-- The place after the first word of kind 6, the end word's, among the n from place i on; the place after them where
-- there is none.
unfoldable pub after_end : (ℕ → ℕ) → ℕ → ℕ → ℕ
after_end word i zero = i
after_end word i (suc n) = cond (eqb (kind_of (word i)) end_kind) (suc i) (after_end word (suc i) n)

-- How many words the plan has: up to its first word of kind 6, looking at as many as a plan can have, 43, at most.
unfoldable pub plan_length : List ℕ → ℕ
plan_length input = after_end (word_in input) 0 (min (length input / 4) word_limit)

-- The plan's words.
unfoldable pub plan_words : List ℕ → List ℕ
plan_words input = list_of (word_in input) (plan_length input)

-- A word of 32 bits as a height, two's complement.
unfoldable pub signed32 : ℕ → ℤ
signed32 word = twos_complement 32 word

-- The n heights from word number `first` on.
unfoldable pub heights_in : List ℕ → ℕ → ℕ → List ℤ
heights_in input first n = list_of (λ q. signed32 (word_in input (first + q))) n

-- ---- what the input asks for

-- The plan that its words hold.
abbrev pub plan_in : List ℕ → Plan
plan_in input = plan_from (plan_words input)

-- With a plan read: 13 if the map has too many pixels, 13 if heights are missing or too many.
unfoldable pub count_rows : List ℕ → Plan → List Row
count_rows input plan =
    13 at 0 when ltb pixel_limit (needed_pixels plan)
    ∷ 13 at 0 when not (eqb (length input / 4) (plan_length input + needed_pixels plan))
    ∷ []

-- The program's tests in their order: 13 if the bytes are not whole words, those of the plan's words, those of the counts.
unfoldable pub input_rows : List ℕ → List Row
input_rows input =
    13 at 0 when not (eqb (length input % 4) 0) ∷ (plan_rows (plan_words input) ++ count_rows input (plan_in input))

-- A job on a map, or a refusal by a number with a place.
pub data Asked : Type 0 where
  refused_input : (number place : ℕ) → Asked
  job : Plan → List ℤ → Asked

-- What an answer to the tests comes to.
abbrev pub asked_by : Answer → Plan → List ℤ → Asked
asked_by accepted plan heights = job plan heights
asked_by (refused number place) plan heights = refused_input number place

-- With a plan read, as many heights behind its words as it has pixels.
abbrev pub map_in : List ℕ → Plan → List ℤ
map_in input plan = heights_in input (plan_length input) (needed_pixels plan)

-- What the input asks for.
unfoldable pub asked : List ℕ → Asked
asked input = asked_by (first_due (input_rows input)) (plan_in input) (map_in input (plan_in input))

-- What it asks for with a plan read.
abbrev pub asked_with : List ℕ → Plan → Asked
asked_with input plan = asked_by (first_due (count_rows input plan)) plan (map_in input plan)

-- ---- the answer

-- Room for the strips of any job of so many pixels: a slot of two halves of the largest side and the largest orders for each.
abbrev pub strip_limit : ℕ
strip_limit = pixel_limit * (2 * (side_limit * order_sum_limit))

-- The lists of the program's job: marks and strips of zeros, and an output of any words.
unfoldable pub job_lists : List ℕ → Buffers
job_lists output = lists (replicate pixel_limit 0) (replicate strip_limit 0) output

-- The lists after the job.
unfoldable pub job_after : Plan → List ℤ → List ℕ → Buffers
job_after plan heights output = after_whole_job plan heights (job_lists output)

-- The numbers of the first line that is printed.
pub record Line : Type 0 where
  pub rows : ℕ
  pub columns : ℕ
  pub tasks : ℕ
  pub tally : ℕ

-- All of them 0.
abbrev pub zero_line : Line
zero_line = record { rows = 0; columns = 0; tasks = 0; tally = 0 }

-- The size, and the tasks marked and the tally of a report.
abbrev pub line_of : Plan → Values → Line
line_of plan values =
    record { rows = plan.grid.rows; columns = plan.grid.columns; tasks = values.count; tally = values.tally }

-- The line of a report on a plan's marks, where an earlier answer accepted; its refusal or else the report's, and zeros
-- beside it.
abbrev pub reported_after : Answer → Plan → Given Values → Given Line
reported_after earlier plan reported =
    given (first_of earlier reported.answer) (line_of plan reported.value) zero_line

-- The line of a report alone.
abbrev pub reported_with : Plan → Given Values → Given Line
reported_with plan reported = reported_after accepted plan reported

-- What is answered beside a refusal's number and place: all zeros.
abbrev pub refused_with : (number place : ℕ) → Given Line
refused_with number place = given (refused number place) zero_line zero_line

-- What is answered: to a job what the whole job is refused by (for a job that an input asks for, 16 alone: `SmoothTable`),
-- else after the job what the report says of its marks.
unfoldable pub answer_to : Asked → List ℕ → Given Line
answer_to (refused_input number place) output = refused_with number place
answer_to (job plan heights) output =
    reported_after (whole_answer plan heights (job_lists output)) plan (report plan (job_after plan heights output).marks)

-- The line of a job that was done.
abbrev pub line_in : Smoothed → Line
line_in smoothed =
    record { rows = smoothed.rows; columns = smoothed.columns; tasks = smoothed.marked; tally = smoothed.tally }

-- The documents' number and place, and the line, that `smooth` answers; all zeros beside a refusal.
abbrev pub smooth_given : Result Smoothed Refusal → Given Line
smooth_given (Ok smoothed) = record { answer = accepted; value = line_in smoothed }
smooth_given (Err refusal) = record { answer = refused_for refusal; value = zero_line }

-- The output words: of a job those after it, and beside a refusal as they were.
unfoldable pub output_of : Asked → List ℕ → List ℕ
output_of (refused_input number place) output = output
output_of (job plan heights) output = (job_after plan heights output).output

-- ---- long inputs

-- The most bytes of an input that asks for a job.
abbrev pub input_limit : ℕ
input_limit = 4 * (word_limit + pixel_limit)

-- How many bytes stand for an input of a length: all; of a longer one than any that asks for a job the first bytes, one word
-- more, and the bytes over.
unfoldable pub cut_length : ℕ → ℕ
cut_length length = cond (leb length input_limit) length (input_limit + 4 + length % 4)

-- The most bytes that stand for an input.
abbrev pub cut_limit : ℕ
cut_limit = input_limit + 7
