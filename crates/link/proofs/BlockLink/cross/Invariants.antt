-- `cross` has made the passes of the other axis so far.
use mathlib.Core.List.{List}
use mathlib.Core.Path.{◌≡◌}
use Prim.Native.Nat.{ℕ}
use lib.ListN.{length}
use Rattle.passes.specs.Filter.{Filter}
use Rattle.squares.specs.LineBuffers.{filter_at}
use Rattle.link.specs.Lines.{LinesReady}
use Rattle.link.specs.Crossing.{response_words, Held}
use Rattle.link.specs.declared.Course.{Course}
use Rattle.link.proofs.crossing.OtherAxis.{crossed_to}
use Rattle.link.proofs.BlockLink.cross.Given as goal

-- The first passes have been made.
pub record PassesMade (filters : ℕ → Filter) (course : Course) (lines responses : List ℕ) (pass : ℕ) : Type 0 where
  pub length_is : length responses ≡ response_words
  pub held : (H : ℕ → ℕ → ℕ → ℕ) → LinesReady filters course H lines → Held course (crossed_to filters course H pass) responses

abbrev pub invariant-loop-pass : goal.invariant-loop-pass
invariant-loop-pass l = PassesMade (filter_at l.self.filters) l.self.course l.lines l.responses l.pass
