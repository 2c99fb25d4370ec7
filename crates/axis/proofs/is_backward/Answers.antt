-- `is_backward` is the parity of the pass number.
use Rattle.axis.proofs.Passes.{backward_is}
use Rattle.axis.proofs.is_backward.Goals as goal

pub returns : goal.returns
returns c = backward_is c.args.pass
