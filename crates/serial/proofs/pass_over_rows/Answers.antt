-- The window of those rows fits the output, and the order of the plan's filter its limit.
use lib.ListN.{length}
use Rattle.plan.proofs.Record.{order_limited_at}
use Rattle.filter.proofs.Filters.{gains_first_words_order}
use Rattle.serial.proofs.Stages.{rows_fit}
use Rattle.serial.proofs.pass_over_rows.Goals as goal

pub run_pass-requires : goal.run_pass-requires
run_pass-requires c =
    let a = c.args in (
      rw (c.gains_first-filter.ensures, gains_first_words_order a.plan a.pass)
          (order_limited_at a.plan c.requires.kept a.pass c.requires.is_pass),
      rw c.history_rows-history.ensures
          (rows_fit a.plan c.requires.kept (length a.output.now) a.band.top a.band.height c.requires.tall c.requires.in_map
          c.requires.output_long _ _),
    )
