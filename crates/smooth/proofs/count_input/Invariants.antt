-- All that came is counted; each read before this one gave a byte or more, and 65,536 bytes at most.
use Rattle.std.proofs.Common.{◌≡◌, ℕ, ◌+◌, ◌*◌, ◌≤◌, List, length}
use Rattle.std.specs.Io.KnownBytes.{Consumes}
use Rattle.smooth_job.specs.Program.{input_limit}
use Rattle.smooth.proofs.count_input.Given as goal

abbrev pub invariant-loop : goal.invariant-loop
invariant-loop g l =
    (moved : List ℕ) × (l.count ≡ input_limit + length moved)
    × Consumes (g.R.Read.remaining l.initial.reader) (g.R.Read.remaining l.reader) moved
    × (l.count ≤ input_limit + 65536 * l.counter) × (l.counter ≤ length moved)
