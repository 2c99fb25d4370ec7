-- What is printed answers the whole input. Assumes nothing.
use Rattle.std.specs.Prelude.{◌≡◌, ℕ, ◌<◌, ◌≤◌, List, length, take, replicate, Option, None, Some, IfSome, IfOk, Result, Ok, Err, ◌*◌}
use Rattle.refusal.specs.declared.Refusal.{Refusal}
use Rattle.std.proofs.Common.{◌∙◌, arith}
use Rattle.std.proofs.lemmas.List.{length-take-le}
use Rattle.std.specs.Io.KnownBytes.{Appends}
use Rattle.smooth_job.specs.declared.Smoothed.{Smoothed}
use Rattle.smooth_job.specs.Program.{pixel_limit, asked, answer_to, output_of, smooth_given}
use Rattle.smooth_job.proofs.Cut.{cut_same}
use Rattle.smooth_job.proofs.Laws.{few_pixels}
use Rattle.smooth.specs.declared.TheConstants.{READ_LIMIT}
use Rattle.smooth.specs.Input.{StandsFor}
use Rattle.smooth.specs.Printed.{given_text, program_text}

pub answers_whole : (known old new : Option (List ℕ)) (kept output : List ℕ) (count : ℕ) (answer : Result Smoothed Refusal)
    → IfSome known (λ whole. length whole < READ_LIMIT → StandsFor whole kept count) → count ≤ length kept
    → smooth_given answer ≡ answer_to (asked (take count kept)) (replicate pixel_limit 0)
    → output ≡ output_of (asked (take count kept)) (replicate pixel_limit 0)
    → Appends old new (given_text (smooth_given answer) output)
    → IfSome known (λ whole. length whole < READ_LIMIT → Appends old new (program_text whole))
unfolding program_text
answers_whole None old new kept output count answer stands room said words written = tt
answers_whole (Some whole) old new kept output count answer stands room said words written = λ bounded.
    let stand = stands bounded in
    let same : asked (take count kept) ≡ asked whole =
    cut_same whole (take count kept) (length-take-le count kept room ∙ stand.count_is) stand.first_bytes in
    rw (← same, ← said, ← words) written

-- What is printed of an answer lies in the output, since no answer has more pixels than the limit.
pub answer_fits : (input output : List ℕ) (answer : Result Smoothed Refusal) (n : ℕ) → pixel_limit ≤ n
    → smooth_given answer ≡ answer_to (asked input) output → IfOk answer (λ smoothed. smoothed.rows * smoothed.columns ≤ n)
answer_fits input output (Ok smoothed) n long said = omega (arith, few_pixels input output smoothed said)
answer_fits input output (Err refusal) n long said = tt
