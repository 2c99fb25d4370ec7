-- `strip_before` is the strip of the neighbour, or none.
use Rattle.plan.proofs.Record.{in_grid}
use Rattle.strips.proofs.StripRecords.{before_below, before_block, before_none}
use Rattle.strips.proofs.strip_before.Goals as goal

pub neighbour-requires : goal.neighbour-requires
neighbour-requires c = in_grid _ c.requires.kept _ c.requires.counted

pub strip_of-requires : goal.strip_of-requires
strip_of-requires c =
    let pre = c.requires in
    record {
      kept = pre.kept;
      counted = before_below c.args.plan _ _ _ c.in-Some.ensures pre.counted;
      pass_below = pre.pass_below;
    }

pub returns-in-Some : goal.returns-in-Some
returns-in-Some c = before_block c.args.plan _ _ _ _ c.in-Some.ensures c.strip_of.ensures

pub returns-in-None : goal.returns-in-None
returns-in-None c = before_none c.args.plan _ _ c.in-None.ensures
