-- `write_strip` has written the places so far.
use Prim.Native.Nat.{◌+◌}
use native.Mathlib.Omega.{arith}
use lib.ListN.{length}
use Rattle.link.specs.Writing.{StripLaid}
use Rattle.link.proofs.writing.Places.{laid_fewer, places_next}
use Rattle.link.proofs.writing.write_strip.Goals as goal
use Rattle.link.proofs.writing.write_strip.Goals.{In-loop-place}

-- The place of this turn is laid.
laid : (c : In-loop-place)
    → let a = c.args in
    StripLaid (length c.loop-place.strips) a.lone a.shift (c.loop-place.place + 1) a.side (length a.responses.now)
laid c = laid_fewer c.requires (c.loop-place.place + 1) (omega arith) c.loop-place.invariant.length_kept

pub loop-place-preserved : goal.loop-place-preserved
loop-place-preserved c =
    let a = c.args in
    places_next a.lone a.shift a.side c.loop-place.place a.responses.now a.strips.now (laid (goal.at.loop-place-preserved c).In-loop-place) c.loop-place.invariant
    c.write_place.ensures
