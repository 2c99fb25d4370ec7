-- `read_edge` reads the strip of a block of the map.
use Rattle.plan.proofs.Record.{in_grid}
use Rattle.strips.proofs.StripRecords.{before_below}
use Rattle.link.proofs.ahead.read_edge.Goals as goal

pub neighbour-requires : goal.neighbour-requires
neighbour-requires c = let at = c.requires.strip_at in in_grid _ at.kept _ at.counted

pub read_strip-requires : goal.read_strip-requires
read_strip-requires c =
    let at = c.requires.strip_at in
    record {
      strip_at =
          record {
            kept = at.kept;
            counted = before_below c.args.plan _ _ _ c.in-Some.ensures at.counted;
            pass_below = at.pass_below;
          };
      strips_long = c.requires.strips_long;
    }
