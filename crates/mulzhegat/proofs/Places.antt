-- The place of every refusal that a call can answer is below 2^32. Assumes nothing.
use mathlib.Core.Path.{◌≡◌, refl, ap, ◌∙◌}
use mathlib.Core.Bool.{Bool, true, false, cond}
use mathlib.Core.List.{List, [], ◌∷◌, ◌++◌}
use Prim.Native.Nat.{ℕ, zero, suc, ◌+◌, ◌-◌, ◌*◌, ◌<◌, ◌≤◌, min}
use native.Mathlib.Omega.{arith}
use lib.Dec.{ltb}
use lib.IntN.{ℤ}
use lib.ListN.{length}
use borrow.Author.Tests.{leb-true, ltb-true, not-false}
use Rattle.number.proofs.RowMajor.{row_of, column_of}
use Rattle.refusal.specs.Refusals.{refused, number_in, place_in}
use Rattle.refusal.specs.Table.{Row, first_due}
use Rattle.plan.specs.declared.Lengths.{Lengths}
use Rattle.plan.specs.declared.Plan.{Plan}
use Rattle.plan.specs.Rules.{keeps_rules}
use Rattle.plan.specs.FirstTests.{lent_rows, nothing_lent, sizes_for, plan_sizes}
use Rattle.grid.specs.Grid.{block_total}
use Rattle.plan.proofs.Needed.{bounds}
use Rattle.plan_reader.specs.PlanWords.{size_allowed, side_allowed, pass_allowed, end_allowed}
use Rattle.plan_reader.specs.ReadPlan.{payload_at, order_at, pass_place, word_rows, head_rows, coefficient_rows, pass_rows, passes_rows, end_rows, side_rows, plan_rows, read_plan}
use Rattle.plan_reader.proofs.PassPlaces.{order_bounded, pass_place_bounded}
use Rattle.plan_writer.specs.WritePlan.{lent_to_writer, write_plan}
use Rattle.serial.specs.Serial.{lent_to_passes, serial_answer}
use Rattle.rectangle.specs.Rectangle.{lent_to_sum, rectangle_call}
use Rattle.dropouts.specs.Dropouts.{lent_to_count, dropouts_call}
use Rattle.macro_values.specs.declared.Quantity.{Quantity}
use Rattle.macro_values.specs.MacroValues.{macro_call, pair_call}
use Rattle.tasks.specs.Verdict.{verdict_rows}
use Rattle.job_spec.specs.Calls.{Buffers, lent_to_start, start_answer, lent_to_task, task_answer}
use Rattle.report.specs.Report.{marks_rows, lent_to_report, report}
use Rattle.recall.specs.RecallCall.{lent_to_recall, recall_answer}
use Rattle.turns.specs.declared.Job.{Job}
use Rattle.turns.specs.Jobs.{jobs_kept, first_misplaced, first_broken_place}
use Rattle.turns.specs.Dispatch.{dispatch_rows, dispatch}
use Rattle.turns.proofs.Parts.{tested_kept}
use Rattle.mulzhegat.specs.Places.{PlacesFit, CappedCodes}
use Rattle.buffer.specs.Lists.{joined}

-- ---- rows

-- In each row that can decide, that is, where those before it are not due, the place is below a bound.
abbrev PlacesBelow : ℕ → List Row → Type 0
PlacesBelow bound [] = Unit {0}
PlacesBelow bound (row ∷ rows) = (row.due ≡ true → row.place < bound) × (row.due ≡ false → PlacesBelow bound rows)

both : (bound : ℕ) (xs ys : List Row) → PlacesBelow bound xs → PlacesBelow bound ys → PlacesBelow bound (xs ++ ys)
both bound [] ys first second = second
both bound (x ∷ xs) ys (h, first) second = (h, λ d. both bound xs ys (first d) second)

several : (bound : ℕ) (rows : ℕ → List Row) (count : ℕ) → ((i : ℕ) → i < count → PlacesBelow bound (rows i))
    → PlacesBelow bound (joined rows count)
unfolding joined
several bound rows zero each = tt
several bound rows (suc count) each =
    both bound (joined rows count) (rows count) (several bound rows count (λ i h. each i (omega arith))) (each count (omega arith))

first_below : (bound : ℕ) → 0 < bound → (rows : List Row) → PlacesBelow bound rows → place_in (first_due rows) < bound
first_below bound low [] all = low
first_below bound low (row ∷ rows) (h, rest) = by row.due h (λ d. first_below bound low rows (rest d))
  where
    by : (due : Bool) → (due ≡ true → row.place < bound) → (due ≡ false → place_in (first_due rows) < bound)
        → place_in (cond due (refused row.number row.place) (first_due rows)) < bound
    by true h l = h refl
    by false h l = l refl

-- The bound of a place in C.
abbrev half : ℕ
half = 4294967296

in_half : (rows : List Row) → PlacesBelow half rows → place_in (first_due rows) < half
in_half = first_below half (omega arith)

-- A row with place 0.
at_0 : {A : Type 0} → A → 0 < half
at_0 due = omega arith

-- ---- reading a plan

-- A due word is refused at its place, or at the number of words if they end before it.
module _ (words : List ℕ) (limit : ℕ) where
  word_places : (place kind : ℕ) (allowed : Bool) → place < limit → PlacesBelow limit (word_rows words place kind allowed)
  unfolding word_rows
  word_places place kind allowed h =
      (λ early. omega (arith, leb-true (length words) place early), λ n. (λ d. h, λ n. (λ d. h, λ n. tt)))

  coefficient_places : (place count : ℕ) → place + count < limit → PlacesBelow limit (coefficient_rows words place count)
  unfolding coefficient_rows
  coefficient_places place count h = several limit _ count (λ j l. word_places (place + j) 5 true (omega arith))

-- Each place of a plan's words is below 100: an order takes four bits.
module _ (words : List ℕ) where
  pass_places : (i : ℕ) → i < 4 → PlacesBelow 100 (pass_rows words i (pass_place words i))
  unfolding pass_rows
  pass_places i h =
      let place = pass_place words i in
      let near : place ≤ 2 + 17 * i = pass_place_bounded words i in
      let low : order_at words place ≤ 15 = order_bounded words place in
      both 100 (word_rows words place 3 (pass_allowed i (payload_at words place))) _
      (word_places words 100 place 3 _ (omega arith))
      (both 100 (word_rows words (place + 1) 4 true) (coefficient_rows words (place + 2) (order_at words place))
      (word_places words 100 (place + 1) 4 true (omega arith))
      (coefficient_places words 100 (place + 2) (order_at words place) (omega arith)))

  passes_places : PlacesBelow 100 (passes_rows words 4)
  unfolding passes_rows
  passes_places = several 100 _ 4 pass_places

  head_places : PlacesBelow 100 (head_rows words)
  unfolding head_rows
  head_places =
      both 100 (word_rows words 0 1 (size_allowed (payload_at words 0))) (word_rows words 1 2 (side_allowed (payload_at words 1)))
      (word_places words 100 0 1 _ (omega arith)) (word_places words 100 1 2 _ (omega arith))

  end_places : PlacesBelow 100 (end_rows words (pass_place words 4))
  unfolding end_rows
  end_places =
      let near : pass_place words 4 ≤ 2 + 17 * 4 = pass_place_bounded words 4 in
      both 100 (word_rows words (pass_place words 4) 6 (end_allowed (payload_at words (pass_place words 4)))) _
      (word_places words 100 (pass_place words 4) 6 _ (omega arith)) (λ d. omega arith, λ n. tt)

  side_places : PlacesBelow 100 (side_rows words)
  unfolding side_rows
  side_places = (λ d. omega arith, λ n. tt)

  plan_places : PlacesBelow 100 (plan_rows words)
  unfolding plan_rows
  plan_places =
      both 100 (head_rows words) (passes_rows words 4 ++ (end_rows words (pass_place words 4) ++ side_rows words)) head_places
      (both 100 (passes_rows words 4) (end_rows words (pass_place words 4) ++ side_rows words) passes_places
      (both 100 (end_rows words (pass_place words 4)) (side_rows words) end_places side_places))

  pub read_place : place_in (read_plan words).answer < half
  unfolding read_plan
  read_place = omega (arith, first_below 100 (omega arith) (plan_rows words) plan_places)

-- ---- the calls of a job: a broken mark is that of a block, and a plan that keeps the rules has at most 2^24 blocks

module _ (plan : Plan) where
  -- The place of the least broken mark, where the record was tested first.
  block_place : (k : ℕ) → keeps_rules plan ≡ true → ltb k (block_total plan.grid) ≡ true → k < half
  block_place k kept broken = omega (arith, ltb-true k (block_total plan.grid) broken, (bounds plan kept).marks_high)

  -- Record and lengths have place 0, and what is tested after them is tested of a record that keeps the rules.
  after_lent : (lent : Lengths) (rows : List Row) → (keeps_rules plan ≡ true → PlacesBelow half rows)
      → place_in (first_due (lent_rows plan lent ++ rows)) < half
  unfolding lent_rows
  after_lent lent rows below =
      in_half (lent_rows plan lent ++ rows) (
        at_0,
        λ kept. (at_0, λ n. (at_0, λ n. (at_0, λ n. (at_0, λ n. below (not-false (keeps_rules plan) kept))))),
      )

  lent_place : (lent : Lengths) → place_in (first_due (lent_rows plan lent)) < half
  unfolding lent_rows
  lent_place lent = after_lent lent [] (λ kept. tt)

  pub start_place : (marks strips : List ℕ) → place_in (start_answer plan marks strips) < half
  unfolding start_answer
  start_place marks strips = lent_place (lent_to_start marks strips)

  pub task_place : (heights : List ℤ) (buffers : Buffers) (t k : ℕ) → place_in (task_answer plan heights buffers t k) < half
  unfolding task_answer verdict_rows
  task_place heights buffers t k =
      after_lent (lent_to_task heights buffers) (verdict_rows plan.grid buffers.marks t k)
      (λ kept. (at_0, λ n. (block_place _ kept, λ n. (at_0, λ n. (at_0, λ n. tt)))))

  pub report_place : (marks : List ℕ) → place_in (report plan marks).answer < half
  unfolding report
  report_place marks =
      after_lent (lent_to_report marks) (marks_rows plan.grid marks) (λ kept. (block_place _ kept, λ n. tt))

  pub recall_place : (marks : List ℕ) (k : ℕ) → place_in (recall_answer plan marks k) < half
  unfolding recall_answer
  recall_place marks k =
      after_lent (lent_to_recall marks) _ (λ kept. (at_0, λ n. (block_place _ kept, λ n. (at_0, λ n. tt))))

  -- ---- the other calls: their refusals have place 0

  pub sizes_place : place_in (plan_sizes plan).answer < half
  unfolding sizes_for
  sizes_place = lent_place nothing_lent

  pub written_place : (room : ℕ) → place_in (write_plan plan room).answer < half
  unfolding write_plan
  written_place room = lent_place (lent_to_writer room)

  pub serial_place : (map_length output_length : ℕ) → place_in (serial_answer plan map_length output_length) < half
  unfolding serial_answer
  serial_place map_length output_length = lent_place (lent_to_passes map_length output_length)

  pub rectangle_place : (table : List ℕ) (top left bottom right : ℕ)
      → place_in (rectangle_call plan table top left bottom right).answer < half
  unfolding rectangle_call
  rectangle_place table top left bottom right = after_lent (lent_to_sum table) _ (λ kept. (at_0, λ n. tt))

  pub dropouts_place : (heights : List ℤ) (top left bottom right : ℕ)
      → place_in (dropouts_call plan heights top left bottom right).answer < half
  unfolding dropouts_call
  dropouts_place heights top left bottom right = after_lent (lent_to_count heights) _ (λ kept. (at_0, λ n. tt))

  -- Macro variables have the answer of the rectangle sum.
  macro_place : (quantity : Quantity) (table : List ℕ) (top left bottom right : ℕ)
      → place_in (macro_call quantity plan table top left bottom right).answer < half
  unfolding macro_call
  macro_place quantity table top left bottom right = rectangle_place table top left bottom right

  pair_place : (table : List ℕ) (top left bottom right : ℕ)
      → place_in (pair_call plan table top left bottom right).answer < half
  unfolding pair_call
  pair_place table top left bottom right = rectangle_place table top left bottom right

-- ---- several jobs: 18 names one of at most eight, 9 a place of the common list

dispatch_place : (jobs : List Job) (last : ℕ) (marks : List ℕ) → length marks ≤ half
    → place_in (dispatch jobs last marks).answer < half
unfolding dispatch dispatch_rows
dispatch_place jobs last marks short =
    in_half (dispatch_rows jobs marks) (
      at_0,
      λ kept. (
        λ due.
            let few = (tested_kept jobs (not-false (jobs_kept jobs) kept)).few in
            omega (arith, ltb-true (first_misplaced jobs (length marks)) (length jobs) due),
        λ n. (λ due. omega (arith, ltb-true (first_broken_place jobs marks) (length marks) due), λ n. tt),
      ),
    )

pub places_fit : PlacesFit
places_fit =
    record {
      plan_read = read_place;
      plan_write = written_place;
      plan_sizes_law = sizes_place;
      start = start_place;
      task = task_place;
      report_on_law = report_place;
      recall = recall_place;
      dispatched = dispatch_place;
      serial = serial_place;
      rectangle = rectangle_place;
      dropouts = dropouts_place;
      macro = λ quantity plan. macro_place plan quantity;
      pair = pair_place;
    }

-- ---- a place that may not fit

pub capped_codes : CappedCodes
capped_codes answer =
    let number = number_in answer in
    let place = min (place_in answer) (half - 1) in
    record {
      number_kept = row_of half number place (omega arith);
      as_code = λ fits. let e : place ≡ place_in answer = omega arith in ap (number * half +◌) e;
      place_capped = λ long. column_of half number place (omega arith) ∙ omega arith;
    }
