-- What is proved of document 01's program beyond its definition.
use Rattle.std.specs.Prelude.{◌≡◌, List, [], ◌∷◌, ◌++◌, ℕ, ◌≤◌, ℤ, ltb, length, take}
use Rattle.refusal.specs.Refusals.{accepted}
use Rattle.refusal.specs.Table.{◌at◌when◌, first_due}
use Rattle.plan.specs.declared.Plan.{Plan}
use Rattle.plan.specs.Sizes.{needed_pixels}
use Rattle.report.specs.Values.{all_done_values}
use Rattle.serial.specs.Serial.{serial_output}
use Rattle.smooth_job.specs.Program.{plan_in, input_rows, asked, line_of, job, answer_to, output_of, input_limit, cut_length}

-- What is answered to an input that asks for a job: the size, 6MN - 2M - 2N tasks, a tally of two for each pixel, and the output
-- that the serial call leaves of the same map and output.
pub record Smooths (plan : Plan) (heights : List ℤ) (output : List ℕ) : Type 0 where
  pub answer : answer_to (job plan heights) output ≡ record { answer = accepted; value = line_of plan (all_done_values plan) }
  pub output_is : output_of (job plan heights) output ≡ serial_output plan heights output

-- Every input that asks for a job is answered so, in an output of h×w words or more.
abbrev pub SmoothDone : Type 0
SmoothDone =
    (input : List ℕ) (plan : Plan) (heights : List ℤ) (output : List ℕ) → asked input ≡ job plan heights
    → needed_pixels plan ≤ length output → Smooths plan heights output

-- All that is refused, as one table: the program's tests, and then 16 where the output has fewer than h×w words. The
-- program's own output has 64, so that it never prints 16; it lends enough of all else, and prints no 7, 14 or 15.
abbrev pub SmoothTable : Type 0
SmoothTable =
    (input output : List ℕ)
    → (answer_to (asked input) output).answer
    ≡ first_due (input_rows input ++ (16 at 0 when ltb (length output) (needed_pixels (plan_in input)) ∷ []))

-- An input cut to the length that stands for it asks for what the whole input does.
abbrev pub CutAsksTheSame : Type 0
CutAsksTheSame =
    (whole cut : List ℕ) → length cut ≡ cut_length (length whole) → take input_limit cut ≡ take input_limit whole
    → asked cut ≡ asked whole
