-- `plan_record::pass_of_record` meets its contract: each coefficient is the number at its place. Assumes nothing.
use Rattle.std.proofs.Common.{rules, pos, ◌+◌}
use Rattle.plan.specs.Rules.{order_limit}
use Rattle.buffer.specs.Lists.{number_at}
use Rattle.plan_reader.proofs.MadeArrays.{made_listed}
use Rattle.plan_record.specs.Records.{pass_of_record}
use Rattle.plan_record.proofs.pass_of_record.Goals as goal

pub returns : goal.returns
unfolding pass_of_record
returns c =
    let coefficients =
    made_listed c.from_fn.result (λ j. number_at c.args.words.now (c.args.place + 2 + j)) order_limit
    (λ i answer after h called. search rules) (pos 0) c.from_fn.ensures.items in
    search rules
