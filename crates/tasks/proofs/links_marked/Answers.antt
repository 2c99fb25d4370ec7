-- Pass after pass.
use mathlib.Core.Path.{◌∙◌}
use native.Mathlib.Omega.{arith}
use Rattle.std.proofs.Common.{rules, tests}
use Rattle.std.proofs.lemmas.Iterator.{YieldsList-from_range}
use Rattle.std.proofs.lemmas.Iterator.Search.{all_from_yields_List}
use Rattle.tasks.specs.Marks.{is_marked}
use Rattle.tasks.specs.Neighbours.{link_done}
use Rattle.tasks.proofs.Ranges.{all_of_range}
use Rattle.tasks.proofs.links_marked.Goals as goal

pub returns : goal.returns
returns c =
    all_from_yields_List (link_done c.args.grid (is_marked c.args.marks.now) c.args.block) _ _ _ c.all.ensures.ran
    (YieldsList-from_range 0 c.args.passes c.args.passes (cc) (omega arith)) (λ x b q k. search (rules, tests))
    ∙ all_of_range _ c.args.passes
