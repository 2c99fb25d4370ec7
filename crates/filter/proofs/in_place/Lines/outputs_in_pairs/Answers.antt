-- `outputs_in_pairs` has done the pairs of places passed so far of all lines.
use mathlib.Core.Path.{◌≡◌, refl, ◌∙◌}
use Prim.Native.Nat.{◌+◌, ◌*◌}
use native.Mathlib.Omega.{arith}
use Rattle.filter.specs.Kernel.{filter_in_place}
use Rattle.filter.proofs.Turns.{lead_fits, places_more}
use Rattle.filter.proofs.TwoPlaces.{two_places_fit, two_places}
use Rattle.filter.proofs.in_place.Lines.outputs_in_pairs.Goals as goal

pub loop-pair-init : goal.loop-pair-init
unfolding filter_in_place
loop-pair-init c = refl

pub overflow_mul-pair : goal.overflow_mul-pair
overflow_mul-pair c = omega (arith, c.requires.2.enough)

pub overflow_add-time : goal.overflow_add-time
overflow_add-time c = omega (arith, c.requires.2.enough)

pub lead_place-place-requires : goal.lead_place-place-requires
lead_place-place-requires c =
    lead_fits c.requires.2 (omega arith) (c.args.time + 2 * c.loop-pair.pair) (omega arith)

pub outputs_at_two_places-requires : goal.outputs_at_two_places-requires
outputs_at_two_places-requires c =
    let all_taps = c.requires.1 (omega arith) in (
      c.requires.0,
      rw (c.loop-pair.auto.buffer, c.lead_place-place.ensures)
          (two_places_fit c.args.self c.requires.2 c.requires.3 (c.args.time + 2 * c.loop-pair.pair)
          c.args.taps.order (omega arith) (omega arith)),
    )

pub loop-pair-preserved : goal.loop-pair-preserved
loop-pair-preserved c =
    let all_taps = c.requires.1 (omega arith) in
    let count : 2 * (c.loop-pair.pair + 1) ≡ 2 * c.loop-pair.pair + 2 = omega arith in
    rw count
    ((rw c.lead_place-place.ensures at c.outputs_at_two_places.ensures)
    ∙ two_places c.args.self c.requires.2 _ (c.args.time + 2 * c.loop-pair.pair) c.loop-pair.buffer (omega arith)
    (omega arith)
    ∙ places_more _ _ _ (2 * c.loop-pair.pair) _ c.loop-pair.invariant 2)
