-- What the machine reads of a word's bits as a height. Assumes nothing.
use Rattle.std.proofs.Common.{◌≡◌, ℕ, ◌<◌, suc, ◌-◌, ◌^◌, Bool, true, false, cond, pos, negsuc, refl, w32, to_z, ltb}
use mir.Val.{sel}
use Rattle.number.specs.SignedBits.{twos_complement}
use Rattle.smooth_job.specs.Program.{signed32}

pub read_is_signed32 : (word : ℕ) → to_z w32 word ≡ signed32 word
unfolding signed32 twos_complement
read_is_signed32 word = by (ltb word (2 ^ 31))
  where
    by : (low : Bool)
        → sel low (pos word) (negsuc (2 ^ 32 - suc word)) ≡ cond low (pos word) (negsuc (2 ^ 32 - suc word))
    by true = refl
    by false = refl

-- Below 2^31 too.
pub decoded_low : (word : ℕ) → word < 2147483648 → to_z w32 word ≡ signed32 word
decoded_low word low = read_is_signed32 word
