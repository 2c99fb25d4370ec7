-- The place of every refusal that a call can answer fits the lower half of its code, or is capped there.
use Rattle.std.specs.Prelude.{◌≡◌, List, ℕ, ◌/◌, ◌%◌, ◌<◌, ◌≤◌, ℤ, length}
use Rattle.refusal.specs.Refusals.{Answer, number_in, place_in}
use Rattle.plan.specs.declared.Plan.{Plan}
use Rattle.plan.specs.FirstTests.{plan_sizes}
use Rattle.plan_reader.specs.ReadPlan.{read_plan}
use Rattle.plan_writer.specs.WritePlan.{write_plan}
use Rattle.serial.specs.Serial.{serial_answer}
use Rattle.rectangle.specs.Rectangle.{rectangle_call}
use Rattle.dropouts.specs.Dropouts.{dropouts_call}
use Rattle.macro_values.specs.declared.Quantity.{Quantity}
use Rattle.macro_values.specs.MacroValues.{macro_call, pair_call}
use Rattle.job_spec.specs.Calls.{Buffers, start_answer, task_answer}
use Rattle.report.specs.Report.{report}
use Rattle.recall.specs.RecallCall.{recall_answer}
use Rattle.turns.specs.declared.Job.{Job}
use Rattle.turns.specs.Dispatch.{dispatch}
use Rattle.mulzhegat.specs.Codes.{code_half, code_of, capped_code}

-- A place fits the lower half of a code.
abbrev pub Fits : Answer → Type 0
Fits answer = place_in answer < code_half

-- So it is in the answer of each call.
pub record PlacesFit : Type 0 where
  pub plan_read : (words : List ℕ) → Fits (read_plan words).answer
  pub plan_write : (plan : Plan) (room : ℕ) → Fits (write_plan plan room).answer
  pub plan_sizes_law : (plan : Plan) → Fits (plan_sizes plan).answer
  pub start : (plan : Plan) (marks strips : List ℕ) → Fits (start_answer plan marks strips)
  pub task : (plan : Plan) (heights : List ℤ) (buffers : Buffers) (t k : ℕ) → Fits (task_answer plan heights buffers t k)
  pub report_on_law : (plan : Plan) (marks : List ℕ) → Fits (report plan marks).answer
  pub recall : (plan : Plan) (marks : List ℕ) (k : ℕ) → Fits (recall_answer plan marks k)
  -- (of several jobs where the common list has no more than 2^32 marks)
  pub dispatched : (jobs : List Job) (last : ℕ) (marks : List ℕ) → length marks ≤ code_half
      → Fits (dispatch jobs last marks).answer
  pub serial : (plan : Plan) (map_length output_length : ℕ) → Fits (serial_answer plan map_length output_length)
  pub rectangle : (plan : Plan) (table : List ℕ) (top left bottom right : ℕ)
      → Fits (rectangle_call plan table top left bottom right).answer
  pub dropouts : (plan : Plan) (heights : List ℤ) (top left bottom right : ℕ)
      → Fits (dropouts_call plan heights top left bottom right).answer
  pub macro : (quantity : Quantity) (plan : Plan) (table : List ℕ) (top left bottom right : ℕ)
      → Fits (macro_call quantity plan table top left bottom right).answer
  pub pair : (plan : Plan) (table : List ℕ) (top left bottom right : ℕ)
      → Fits (pair_call plan table top left bottom right).answer

-- A capped code has the answer's number in its upper half, whatever the place is; it is the code itself where the place fits,
-- and has 2^32 - 1 in its lower half where not.
pub record Capped (answer : Answer) : Type 0 where
  pub number_kept : capped_code answer / code_half ≡ number_in answer
  pub as_code : Fits answer → capped_code answer ≡ code_of answer
  pub place_capped : code_half ≤ place_in answer → capped_code answer % code_half ≡ 4294967295

-- So it is for every answer.
abbrev pub CappedCodes : Type 0
CappedCodes = (answer : Answer) → Capped answer
