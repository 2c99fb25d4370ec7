-- `run_passes` has run the passes so far in the work array with all gains in the first, the neighbours' strips past the
-- block's edges times the gains of the passes after each.
use Rattle.collect_finish.proofs.Finishing.{Finishing}
use Rattle.collect_finish.proofs.Block.run_passes.Given as goal

abbrev pub invariant-loop-pass : goal.invariant-loop-pass
invariant-loop-pass l = Finishing l.self.plan l.self.k l.strips l.initial.work l.pass l.work
