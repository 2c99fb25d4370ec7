-- `collect` has written the strips of the passes so far; the work array holds the block filtered alone, with gain 1.
use Rattle.filter.specs.PlanFilters.{map_of}
use Rattle.collect_finish.proofs.Collecting.{Collecting}
use Rattle.collect_finish.proofs.collect.Given as goal

abbrev pub invariant-loop-pass : goal.invariant-loop-pass
invariant-loop-pass l = Collecting l.fn.plan l.k (map_of l.fn.plan l.map) l.initial.strips l.strips l.pass l.work
