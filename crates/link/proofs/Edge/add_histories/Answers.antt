-- `add_histories` has added the distances so far.
use mathlib.Core.Path.{ap}
use native.Mathlib.Omega.{arith}
use Rattle.word.specs.Word.{◌⊗◌}
use Rattle.strips.specs.StripRecord.{strip_read}
use Rattle.link.proofs.carrying.Histories.{histories_none, histories_more}
use Rattle.link.proofs.Edge.add_histories.Goals as goal

pub loop-distance-init : goal.loop-distance-init
loop-distance-init c =
    histories_none _ _ _ _ _ (λ z. omega (arith, c.type_inv.responses z))

pub loop-distance-preserved : goal.loop-distance-preserved
loop-distance-preserved c =
    let a = c.args in
    histories_more a.course.now.lines a.course.now.order c.loop-distance.distance _ _ a.responses.now
    c.loop-distance.invariant
    (λ line. ap (λ place. a.self.now.gain ⊗ strip_read a.self.now.strip a.strips.now line place) c.place-place.ensures)
    c.add_distance.ensures
