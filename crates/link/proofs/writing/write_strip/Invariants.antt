-- `write_strip` has written the places so far.
use Rattle.link.specs.Writing.{linked_word, PlacesWritten}
use Rattle.link.proofs.writing.write_strip.Given as goal

abbrev pub invariant-loop-place : goal.invariant-loop-place
invariant-loop-place l =
    PlacesWritten l.lone l.shift l.side l.place (linked_word l.lone l.initial.strips l.responses) l.initial.strips l.strips
