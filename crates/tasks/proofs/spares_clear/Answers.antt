-- Each bit in turn.
use mathlib.Core.Path.{◌∙◌}
use native.Mathlib.Omega.{arith}
use Rattle.std.proofs.Common.{rules, tests}
use Rattle.std.proofs.lemmas.Iterator.{YieldsList-from_range}
use Rattle.std.proofs.lemmas.Iterator.Search.{all_from_yields_List}
use Rattle.tasks.specs.Marks.{spare_clear}
use Rattle.tasks.proofs.Ranges.{all_of_range}
use Rattle.tasks.proofs.spares_clear.Goals as goal

pub returns : goal.returns
returns c =
    all_from_yields_List (spare_clear c.args.grid c.args.at.row c.args.at.column c.args.mark) _ _ _ c.all.ensures.ran
    (YieldsList-from_range 0 6 6 (cc) (omega arith)) (λ x b q k. search (rules, tests))
    ∙ all_of_range _ 6
