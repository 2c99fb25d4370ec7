-- `finish_up` has passed up over the bands from `band` on, and finished all of these but the highest.
use mathlib.Core.Path.{◌≡◌}
use Prim.Native.Nat.{◌-◌}
use Rattle.serial.specs.Stages.{bands_passed_up}
use Rattle.serial.proofs.finish_up.Given as goal

abbrev pub invariant-loop-band : goal.invariant-loop-band
invariant-loop-band l = l.output ≡ bands_passed_up l.plan (l.last - l.band) l.initial.output
