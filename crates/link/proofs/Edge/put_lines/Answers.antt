-- `put_lines` has put the lines of the distances so far into their rows.
use mathlib.Core.Path.{refl}
use native.Mathlib.Omega.{arith}
use Rattle.axis.specs.Axis.{direction_of}
use Rattle.link.proofs.lines.StripRows.{strip_lines_none, strip_lines_next}
use Rattle.link.proofs.Edge.put_lines.Goals as goal

pub loop-distance-init : goal.loop-distance-init
loop-distance-init c =
    record {
      length_kept = refl;
      as_made = strip_lines_none _ _ _ _ _ _ _ _;
    }

pub loop-distance-preserved : goal.loop-distance-preserved
loop-distance-preserved c =
    let a = c.args in
    record {
      length_kept = omega (arith, c.put_line.auto, c.loop-distance.invariant.length_kept);
      as_made =
          strip_lines_next a.self.now.gain (direction_of a.self.now.pass) a.self.now.order a.self.now.strip a.strips.now a.row a.places
          a.lines.now c.loop-distance.distance c.loop-distance.invariant.as_made c.place-place.ensures c.put_line.ensures;
    }
