-- Where the record and the length of the marks pass the first tests of a call, as many marks are lent as are needed.
-- Assumes nothing.
use mathlib.Core.Path.{◌≡◌}
use mathlib.Core.List.{List}
use Prim.Native.Nat.{ℕ}
use lib.ListN.{length}
use Rattle.std.specs.Prelude.{Result, Ok}
use Rattle.refusal.specs.declared.Refusal.{Refusal}
use Rattle.plan.specs.declared.Plan.{Plan}
use Rattle.plan.specs.declared.Sizes.{Sizes}
use Rattle.plan.specs.FirstTests.{sizes_for, sizes_given}
use Rattle.plan.proofs.FirstTests.{suffices}
use Rattle.plan.proofs.Known.{sizes_known}
use Rattle.plan.proofs.Record.{rules}
use Rattle.tasks.specs.Lent.{Lent}
use Rattle.report.specs.Report.{lent_to_report}

pub marks_lent : (plan : Plan) (marks : List ℕ) (known : Result Sizes Refusal)
    → sizes_given known ≡ sizes_for plan (lent_to_report marks) → (sizes : Sizes) → known ≡ Ok sizes
    → Lent plan.grid (length marks)
marks_lent plan marks known is sizes e =
    let enough = suffices plan (lent_to_report marks) (sizes_known plan (lent_to_report marks) known is sizes e).0 in
    record { kept = (rules plan enough.rules).grid_kept_law; enough = enough.of7_long }
