-- Each arm writes what the task writes, by one law of `Tasking`.
use Rattle.job.proofs.Tasking.{left_collect, left_finish, left_link}
use Rattle.job.proofs.write_block.Goals as goal

pub returns-in-0 : goal.returns-in-0
returns-in-0 c =
    let both = left_collect _ _ _ _ _ _ _ c.in-0.is c.collect.ensures in
    record { strip = both.0; words = both.1 }

pub returns-in-5 : goal.returns-in-5
returns-in-5 c =
    let both = left_finish _ _ _ _ _ _ _ c.in-5.is c.finish.ensures in
    record { strip = both.0; words = both.1 }

pub returns-in_default : goal.returns-in_default
returns-in_default c =
    let both = left_link _ _ _ _ _ _ _ c.requires.task_below c.in_default.in_default-own.rest.0.1 c.in_default.in_default-own.rest.1 c.link.ensures in
    record { strip = both.0; words = both.1 }
