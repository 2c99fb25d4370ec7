-- Laws of signed payloads: what the machine makes of a number, and that reading and writing a payload undo each other.
-- Assumes nothing.
use mathlib.Core.Path.{◌≡◌, ap}
use mathlib.Core.Bool.{true}
use Prim.Native.Nat.{ℕ, ◌<◌}
use native.Mathlib.Omega.{arith}
use lib.IntN.{ℤ, pos, negsuc}
use mir.ValLaws.{to_z-of_z}
use Rattle.std.specs.Int.{int_rem_euclid}
use borrow.Author.Tests.{ltb-true}
use Rattle.plan.specs.Rules.{in_signed28}
use Rattle.number.proofs.SignedBits.{complement_kept, bits_of_complement, complement_of_bits}
use Rattle.plan_reader.specs.PlanWords.{signed28}
use Rattle.plan_writer.specs.WritePlan.{payload28}

pub payload_below : (value : ℤ) → in_signed28 value ≡ true → payload28 value < 268435456
unfolding payload28
payload_below (pos n) k = omega (arith, ltb-true n 134217728 k)
payload_below (negsuc n) k = omega arith

-- The code takes the remainder by 2^28.
pub encoded : (value : ℤ) → in_signed28 value ≡ true → int_rem_euclid value (pos 268435456) ≡ pos (payload28 value)
unfolding payload28
encoded (pos n) k = ap pos (omega (arith, ltb-true n 134217728 k))
encoded (negsuc n) k = ap pos (omega (arith, ltb-true n 134217728 k))

-- ---- the two readings of a payload

-- The payload of a number of signed 28 bits is read as that number.
pub signed_payload : (value : ℤ) → in_signed28 value ≡ true → signed28 (payload28 value) ≡ value
unfolding payload28 signed28
signed_payload value kept = complement_of_bits 28 (omega arith) value kept

-- The number that a payload is read as has that payload.
pub payload_signed : (payload : ℕ) → payload < 268435456 → payload28 (signed28 payload) ≡ payload
unfolding payload28 signed28
payload_signed payload h = bits_of_complement 28 (omega arith) payload h

-- It is a number of signed 28 bits.
pub signed_kept : (payload : ℕ) → payload < 268435456 → in_signed28 (signed28 payload) ≡ true
unfolding signed28
signed_kept payload h = complement_kept 28 (omega arith) payload h

-- What the machine reads back of a number of signed 28 bits and its payload.
pub ruleset encoding = (encoded, to_z-of_z)
