-- `copy_ends` has put the ends of the rows so far into the margin.
use mathlib.Core.Path.{refl}
use native.Mathlib.Omega.{arith}
use Rattle.axis.specs.Axis.{direction_of}
use Rattle.link.proofs.crossing.Ends.{ends_none, ends_next}
use Rattle.link.proofs.crossing.copy_ends.Goals as goal

pub loop-distance-init : goal.loop-distance-init
loop-distance-init c =
    record { length_kept = refl; as_made = ends_none _ _ _ _ _ }

pub loop-distance-preserved : goal.loop-distance-preserved
loop-distance-preserved c =
    let a = c.args in
    record {
      length_kept = omega (arith, c.copy_words.auto, c.loop-distance.invariant.length_kept);
      as_made =
          ends_next (direction_of a.pass) a.course.now a.row a.lines.now a.responses.now c.loop-distance.distance
          c.loop-distance.invariant.as_made c.margin-to.ensures c.copy_words.ensures;
    }
