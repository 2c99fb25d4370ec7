-- `plan_reader::pass_from` meets its contract: each place has its coefficient. Assumes nothing.
use Rattle.std.proofs.Common.{rules, pos}
use Rattle.plan.specs.Rules.{order_limit}
use Rattle.plan_reader.specs.ReadPlan.{pass_from, coefficient_in}
use Rattle.plan_reader.proofs.MadeArrays.{made_listed}
use Rattle.plan_reader.proofs.pass_from.Goals as goal

pub returns : goal.returns
unfolding pass_from
returns c =
    let coefficients =
    made_listed c.from_fn.result (coefficient_in c.args.words.now c.args.place) order_limit
    (λ i answer after h called. search rules) (pos 0) c.from_fn.ensures.items in
    search rules
