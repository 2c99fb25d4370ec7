-- `outputs_at_time` is the outputs at one place of the lines.
use mathlib.Core.Path.{ap}
use Prim.Native.Nat.{◌≤◌}
use native.Mathlib.Omega.{arith}
use Rattle.passes.specs.Filter.{Filter}
use Rattle.filter.proofs.Turns.{lead_fits, places_fit}
use Rattle.filter.proofs.in_place.Lines.outputs_at_time.Goals as goal

pub lead_place-place-requires : goal.lead_place-place-requires
lead_place-place-requires c = lead_fits c.requires (omega arith) c.args.time (omega arith)

pub outputs_at_place-requires : goal.outputs_at_place-requires
outputs_at_place-requires c =
    let few : c.first.result.order ≤ c.args.time = omega (arith, ap (λ (f : Filter). f.order) c.first.ensures) in
    rw c.lead_place-place.ensures
    (places_fit c.requires c.args.time c.first.result.order (omega arith) few)

pub returns : goal.returns
returns c = rw (c.lead_place-place.ensures, c.first.ensures) at c.outputs_at_place.ensures
