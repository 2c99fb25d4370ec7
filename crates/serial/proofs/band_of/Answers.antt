-- A counted block starts inside the map.
use native.Mathlib.Omega.{arith}
use Rattle.grid.proofs.Extents.{counted_start}
use Rattle.serial.specs.Stages.{band_rows}
use Rattle.serial.proofs.band_of.Goals as goal

pub overflow_mul-result : goal.overflow_mul-result
overflow_mul-result c = omega (arith, counted_start _ band_rows _ c.requires)
