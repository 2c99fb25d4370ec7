-- `filter` does the places that have not all their taps, the pairs and the last place, one after another.
use mathlib.Core.Path.{◌≡◌, ◌∙◌}
use Prim.Native.Nat.{ℕ, ◌+◌, ◌-◌, ◌*◌, ◌/◌, ◌≤◌}
use native.Mathlib.Omega.{arith}
use Rattle.filter.proofs.Turns.{lines_fit_fewer, apart_fewer, place_more, places_more}
use Rattle.filter.proofs.in_place.Lines.filter.Goals as goal

pub outputs_one_by_one-requires : goal.outputs_one_by_one-requires
outputs_one_by_one-requires c = lines_fit_fewer c.requires.1 _ (omega (arith, c.min-lead.ensures))

pub overflow_add-history : goal.overflow_add-history
overflow_add-history c = omega (arith, c.min-lead.ensures, c.requires.1.enough)

pub outputs_in_pairs-requires : goal.outputs_in_pairs-requires
outputs_in_pairs-requires c =
    let lead = c.min-lead.result in
    let few : c.args.history + lead + 2 * ((c.args.places - lead) / 2) ≤ c.args.history + c.args.places =
    omega (arith, c.min-lead.ensures) in (
      c.requires.0,
      λ some. omega (arith, c.saturating_sub.ensures, c.min-lead.ensures),
      rw c.outputs_one_by_one.auto.buffer (lines_fit_fewer c.requires.1 _ few),
      apart_fewer c.args.self _ c.requires.2 _ few,
    )

pub outputs_at_time-requires : goal.outputs_at_time-requires
outputs_at_time-requires c =
    rw (c.outputs_in_pairs.auto.buffer, c.outputs_one_by_one.auto.buffer)
    (lines_fit_fewer c.requires.1 _ (omega (arith, c.min-lead.ensures)))

pub returns-then-done-places : goal.returns-then-done-places
returns-then-done-places c =
    let lead = c.min-lead.result in
    let done : ℕ = lead + 2 * ((c.args.places - lead) / 2) in
    let all : done + 1 ≡ c.args.places = omega (arith, c.min-lead.ensures) in
    rw all
    at (place_more _ _ _ done _ _
    (c.outputs_in_pairs.ensures ∙ places_more _ _ _ lead _ c.outputs_one_by_one.ensures _)
    c.outputs_at_time.ensures)

pub returns-else-done-places : goal.returns-else-done-places
returns-else-done-places c =
    let lead = c.min-lead.result in
    let all : lead + 2 * ((c.args.places - lead) / 2) ≡ c.args.places = omega (arith, c.min-lead.ensures) in
    rw all at (c.outputs_in_pairs.ensures ∙ places_more _ _ _ lead _ c.outputs_one_by_one.ensures _)
