-- The table of a whole job gives the heights' sums: it is the serial call's. Assumes nothing.
use Rattle.job_spec.proofs.Start.{start_tells}
use Rattle.job_spec.proofs.Demand3.{demand3}
use Rattle.rectangle.proofs.Heights.{sums_heights}
use Rattle.totals.specs.Totals.{JobSumsHeights}

pub job_sums_heights : JobSumsHeights
job_sums_heights plan heights lent calls job passes fit top left bottom right inside =
    rw ((demand3 plan heights lent job.start_accepts job.map_long job.output_long calls).whole_job job.all_done_law)
    (sums_heights plan (start_tells plan lent.marks lent.strips job.start_accepts).rules passes heights lent.output
    fit job.map_long job.output_long top left bottom right inside)
