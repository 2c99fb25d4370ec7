-- `smooth_job::smooth_counted` meets its contract: each test is the definition's. Assumes nothing.
use Rattle.smooth_job.proofs.SmoothAnswers.{too_many_pixels, wrong_heights, right_heights}
use Rattle.smooth_job.proofs.smooth_counted.Goals as goal

pub returns-then-pixels-gt-PIXEL_LIMIT : goal.returns-then-pixels-gt-PIXEL_LIMIT
returns-then-pixels-gt-PIXEL_LIMIT c =
    let both = too_many_pixels c.args.plan c.args.input.now _ c.requires.0 c.if-pixels-gt-PIXEL_LIMIT.true _ in
    record { answer = both.0; output = both.1 }

pub returns-then-input-first : goal.returns-then-input-first
returns-then-input-first c =
    let both = wrong_heights c.args.plan c.args.input.now _ c.requires.0 c.if-pixels-gt-PIXEL_LIMIT.false _ c.requires.1 c.if-input-first.true _ in
    record { answer = both.0; output = both.1 }

pub returns : goal.returns
returns c =
    let asked = right_heights c.args.plan c.args.input.now _ c.requires.0 c.if-pixels-gt-PIXEL_LIMIT.false _ c.requires.1 c.if-input-first.false in
    record { answer = rw asked at c.smooth_map.ensures.answer; output = rw asked at c.smooth_map.ensures.output }
