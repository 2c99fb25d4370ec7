-- The test of each job is the test of each index. Assumes nothing.
use Rattle.std.proofs.Common.{rules, tests}
use Rattle.std.proofs.lemmas.Iterator.{YieldsList-from_slice}
use Rattle.std.proofs.lemmas.Iterator.Search.{all_from_yields_List}
use Rattle.turns.specs.Jobs.{sizes_kept}
use Rattle.dispatch.proofs.Searching.{few_kept}
use Rattle.dispatch.proofs.sizes_kept.Goals as goal

pub returns-then-jobs-le-JOB_LIMIT : goal.returns-then-jobs-le-JOB_LIMIT
returns-then-jobs-le-JOB_LIMIT c =
    let jobs = c.args.jobs.now in
    few_kept jobs c.if-jobs-le-JOB_LIMIT.true _
    (all_from_yields_List sizes_kept _ _ _ c.all.ensures.ran (YieldsList-from_slice jobs cc) (λ x b q k. search (rules, tests)))
