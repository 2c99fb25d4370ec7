-- The least of the jobs' first broken places is the first of all. Assumes nothing.
use Rattle.std.proofs.Common.{arith, rules, tests, length, ◌≡◌, sym, ◌∙◌}
use Rattle.std.proofs.lemmas.Bool.Decides.{nat_tests}
use Rattle.std.proofs.lemmas.Iterator.Adapters.{option_map_id}
use Rattle.std.proofs.lemmas.Iterator.{YieldsList-from_slice}
use Rattle.std.proofs.lemmas.Iterator.Consumers.{YieldsList-at, YieldsList-from_filter_map, min_from_yields_List}
use Rattle.turns.specs.Jobs.{first_broken_place}
use Rattle.dispatch.specs.Part.{found_below, first_broken_of}
use Rattle.dispatch.proofs.Searching.{first_found}
use Rattle.dispatch.proofs.test_marks.Goals as goal
use Rattle.dispatch.proofs.test_marks.Goals.{After-min}

found : (c : After-min) → c.min.result ≡ found_below (length c.args.marks.now) (first_broken_place c.args.jobs.now c.args.marks.now)
found c =
    let jobs = c.args.jobs.now in
    let marks = c.args.marks.now in
    sym (option_map_id c.min.result)
    ∙ min_from_yields_List _ c.min.result c.min.ensures.ran
    (YieldsList-from_filter_map _ (first_broken_of marks)
    (YieldsList-at c.filter_map-places.ensures.source (YieldsList-from_slice jobs cc)) c.filter_map-places.ensures.closure
    (λ x r q k. search (rules, tests)))
    ∙ first_found marks jobs

pub returns-in-Some : goal.returns-in-Some
returns-in-Some c = let e = found (goal.at.returns-in-Some c).After-min in grind (arith, nat_tests)

pub returns-in-None : goal.returns-in-None
returns-in-None c = let e = found (goal.at.returns-in-None c).After-min in grind (arith, nat_tests)
