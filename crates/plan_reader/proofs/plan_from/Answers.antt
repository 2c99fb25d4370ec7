-- `plan_reader::plan_from` meets its contract: each pass stands at its place. Assumes nothing.
use Rattle.std.proofs.Common.{rules}
use Rattle.plan_reader.specs.ReadPlan.{pass_place, pass_from, plan_from, zero_pass}
use Rattle.plan_reader.proofs.MadeArrays.{made_listed}
use Rattle.plan_reader.proofs.plan_from.Goals as goal

pub returns : goal.returns
unfolding plan_from
returns c =
    let words = c.args.words.now in
    let passes =
    made_listed c.from_fn.result (λ i. pass_from words (pass_place words i)) 4
    (λ i answer after h called. search rules) zero_pass c.from_fn.ensures.items in
    search rules
