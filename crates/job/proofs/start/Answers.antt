-- Each way out is one law of `Starting`.
use native.Mathlib.Omega.{arith}
use Rattle.std.proofs.lemmas.Result.{err_from_is_err_and}
use Rattle.buffer.proofs.Copies.{words_fit}
use Rattle.job.proofs.Starting.{start_refused, long_enough, start_accepted}
use Rattle.job.proofs.start.Goals as goal

-- Marks and strips are long enough where the lengths were accepted.
pub unmark-requires : goal.unmark-requires
unmark-requires c = (long_enough _ _ _ _ c.sizes_for.ensures _ c.in_ok-sizes.was).0

pub clear_words-requires : goal.clear_words-requires
clear_words-requires c =
    let long = (long_enough _ _ _ _ c.sizes_for.ensures _ c.in_ok-sizes.was).1 in words_fit _ 0 _ (omega (arith, long))

pub returns : goal.returns
returns c =
    let both = start_accepted _ _ _ _ c.sizes_for.ensures _ c.in_ok-sizes.was _ _ c.unmark.ensures c.clear_words.ensures in
    record { answer = both.0; marked = both.1.0; stripped = both.1.1 }

pub returns-in_err-sizes : goal.returns-in_err-sizes
returns-in_err-sizes c =
    let passed = err_from_is_err_and c.from_residual.result c.from_residual.ensures.1 in
    let both = start_refused _ _ _ _ c.sizes_for.ensures _ c.in_err-sizes.was in
    record { answer = rw (passed.1, passed.2) both.0; marked = both.1.0; stripped = both.1.1 }
