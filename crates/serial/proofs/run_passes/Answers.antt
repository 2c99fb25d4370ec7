-- `run_passes` answers as it is defined, and leaves the output as it is defined.
use Rattle.std.proofs.lemmas.Result.{err_from_is_err_and}
use Rattle.serial.proofs.SerialAnswers.{passes_refused, map_fits, passes_accepted}
use Rattle.serial.proofs.run_passes.Goals as goal

pub filter_map-requires : goal.filter_map-requires
filter_map-requires g c =
    let a = c.args in
    map_fits a.plan g.P.Pixel.word a.map.now a.output.now _ c.sizes_for.ensures _ c.in_ok-sizes_for.was

pub returns-in_err-sizes_for : goal.returns-in_err-sizes_for
returns-in_err-sizes_for g c =
    let a = c.args in
    let passed = err_from_is_err_and c.from_residual.result c.from_residual.ensures.1 in
    let both = passes_refused a.plan g.P.Pixel.word a.map.now a.output.now _ c.sizes_for.ensures _ c.in_err-sizes_for.was in
    record { answer = rw (passed.1, passed.2) both.0; result = both.1 }

pub returns : goal.returns
returns g c =
    let a = c.args in
    let both = passes_accepted a.plan g.P.Pixel.word a.map.now a.output.now _ c.sizes_for.ensures _ c.in_ok-sizes_for.was _
    c.filter_map.ensures in
    record { answer = both.0; result = both.1 }
