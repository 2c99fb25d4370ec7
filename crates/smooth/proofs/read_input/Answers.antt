-- What is kept of the input stands for it.
use Rattle.std.proofs.Common.{arith, length-take-le}
use Rattle.smooth_job.specs.Program.{input_limit}
use Rattle.smooth.proofs.Input.{all_kept, first_kept}
use Rattle.smooth.proofs.read_input.Goals as goal

pub returns-then-first-lt-INPUT_LIMIT-clause-whole : goal.returns-then-first-lt-INPUT_LIMIT-clause-whole
returns-then-first-lt-INPUT_LIMIT-clause-whole g c =
    let long = length-take-le input_limit c.args.input.now c.requires in
    all_kept _ _ _ _ _ c.in_ok-first.ensures.bytes (c.in_ok-first.ensures.end (omega (arith, long))) c.in_ok-first.ensures.room
    (omega arith)

pub returns-clause-whole : goal.returns-clause-whole
returns-clause-whole g c =
    let long = length-take-le input_limit c.args.input.now c.requires in
    first_kept _ _ _ _ _ _ _ c.in_ok-first.ensures.bytes c.in_ok-first.ensures.room (omega arith) (omega (arith, long))
    c.in_ok-count.ensures c.cut_length.ensures.0
