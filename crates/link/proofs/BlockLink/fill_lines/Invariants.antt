-- `fill_lines` has filled the rows of the passes so far.
use Rattle.squares.specs.LineBuffers.{filter_at}
use Rattle.link.specs.Lines.{LinesFilled}
use Rattle.task_words.specs.ScaledEdges.{scaled_edges}
use Rattle.link.proofs.BlockLink.fill_lines.Given as goal

abbrev pub invariant-loop-pass : goal.invariant-loop-pass
invariant-loop-pass l =
    LinesFilled (filter_at l.self.filters) l.self.course (scaled_edges l.self.plan l.strips l.self.k l.self.course.pass) l.pass l.lines
