-- `load_line` has loaded the pairs passed so far.
use mathlib.Core.Path.{◌≡◌, ap}
use Prim.Native.Nat.{◌+◌, ◌*◌}
use native.Mathlib.Omega.{arith}
use Rattle.buffer.specs.Lists.{number_at}
use Rattle.buffer.specs.Pixel.{pixel}
use Rattle.buffer.specs.Copies.{heights_from}
use Rattle.buffer.proofs.Copies.{row_none, row_parts}
use Rattle.collect_finish.proofs.load_line.Goals as goal

pub loop-pair-init : goal.loop-pair-init
loop-pair-init c = row_none _ (heights_from c.args.map.now c.args.map_start) _

pub loop-pair-preserved : goal.loop-pair-preserved
loop-pair-preserved c =
    let a = c.args in
    let both : 2 * c.loop-pair.pair + 2 ≡ 2 * (c.loop-pair.pair + 1) = omega arith in
    let loaded = row_parts a.work_start (heights_from a.map.now a.map_start) _ (2 * c.loop-pair.pair) 2 a.work.now _ _ c.loop-pair.invariant
    (λ i. ap (λ place. pixel (number_at a.map.now place)) (omega arith)) c.load_pair.ensures in
    rw both at loaded
