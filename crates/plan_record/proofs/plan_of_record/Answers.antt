-- `plan_record::plan_of_record` meets its contract: each pass is the one whose words stand at its place. Assumes nothing.
use Rattle.std.proofs.Common.{rules}
use Rattle.plan_reader.specs.ReadPlan.{zero_pass}
use Rattle.plan_reader.proofs.MadeArrays.{made_listed}
use Rattle.plan_record.specs.Records.{pass_start, pass_of_record, plan_of_record}
use Rattle.plan_record.proofs.plan_of_record.Goals as goal

pub returns : goal.returns
unfolding plan_of_record
returns c =
    let passes =
    made_listed c.from_fn.result (λ i. pass_of_record c.args.words.now (pass_start i)) 4
    (λ i answer after h called. search rules) zero_pass c.from_fn.ensures.items in
    search rules
