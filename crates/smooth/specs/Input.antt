-- What the program keeps of its input.
use Rattle.std.specs.Prelude.{◌≡◌, List, ℕ, length, take}
use Rattle.smooth_job.specs.Program.{input_limit, cut_length}

-- The first `count` of the bytes that are kept stand for the whole input: as many as its length comes to, and they begin as it
-- does.
pub record StandsFor (whole kept : List ℕ) (count : ℕ) : Type 0 where
  pub count_is : count ≡ cut_length (length whole)
  pub first_bytes : take input_limit (take count kept) ≡ take input_limit whole
