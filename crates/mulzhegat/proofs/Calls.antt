-- What the calls are proved by: the answer that stands beside a value, and the place of each answer. Assumes nothing.
use mathlib.Core.Path.{◌≡◌, refl}
use Rattle.std.specs.Prelude.{Result, Ok, Err, replicate, pos}
use Rattle.refusal.specs.declared.Refusal.{Refusal}
use Rattle.refusal.specs.Table.{answer_of, given_by}
use Rattle.plan_reader.specs.ReadPlan.{zero_plan}
use Rattle.plan_record.specs.Records.{record_length, record_of_pass, record_of_passes, record_of_plan}
use Rattle.report.specs.declared.Progress.{Progress}
use Rattle.report.specs.Values.{report_given}
use Rattle.buffer.specs.Lists.{joined}
use Rattle.macro_values.proofs.Quantities.{sum_fits}
use Rattle.mulzhegat.proofs.Places.{read_place, written_place, sizes_place, start_place, task_place, report_place, recall_place, serial_place, rectangle_place, dropouts_place}

-- The answer that stands beside a value, and beside a report.
pub answered : {A : Type 0} (otherwise : A) (answer : Result A Refusal)
    → (given_by otherwise answer).answer ≡ answer_of answer
answered otherwise (Ok value) = refl
answered otherwise (Err refusal) = refl

pub reported : (answer : Result Progress Refusal) → (report_given answer).answer ≡ answer_of answer
reported (Ok progress) = refl
reported (Err refusal) = refl

-- The record beside a refusal is all zeros.
pub zero_record : record_of_plan zero_plan ≡ replicate record_length (pos 0)
unfolding record_of_plan record_of_passes record_of_pass joined
zero_record = refl

-- What each answer's place is bounded by, and with it what the calls of the rectangle sum and of the reader need.
pub ruleset call_answers = (
  answered,
  reported,
  read_place,
  written_place,
  sizes_place,
  start_place,
  task_place,
  report_place,
  recall_place,
  serial_place,
  rectangle_place,
  dropouts_place,
  sum_fits,
  zero_record,
)
