-- What the calls of the serial passes write over sums and differences of maps: document 02, CR 10. The passes themselves:
-- passes/Adding.
use Rattle.std.specs.Prelude.{◌≡◌, List, ℕ, ◌<◌, ℤ, ◌+ℤ◌, ◌-ℤ◌, length}
use Rattle.refusal.specs.Refusals.{accepted}
use Rattle.word.specs.Word.{◌⊕◌, ◌⊖◌, residue}
use Rattle.plan.specs.declared.Plan.{Plan}
use Rattle.plan.specs.Sizes.{needed_pixels}
use Rattle.buffer.specs.Lists.{word_at, number_at}
use Rattle.buffer.specs.Pixel.{reading}
use Rattle.serial.specs.Serial.{serial_answer, serial_output, serial_words_output}

-- A call of the passes is accepted with a map of so many places and this output.
abbrev pub Accepted : Plan → (map_length : ℕ) → (output : List ℕ) → Type 0
Accepted plan map_length output = serial_answer plan map_length (length output) ≡ accepted

-- At each of the h×w places of a map or an output the third list has what an operation makes of the words of the others.
abbrev pub Wordwise : Plan → (operation : ℕ → ℕ → ℕ) → (first second third : List ℕ) → Type 0
Wordwise plan operation first second third =
    (place : ℕ) → place < needed_pixels plan → word_at third place ≡ operation (word_at first place) (word_at second place)

-- Of three accepted calls over words, the third over what an operation makes wordwise of the maps of the others, the
-- outputs are wordwise so too.
abbrev pub KeptByPasses : (operation : ℕ → ℕ → ℕ) → Type 0
KeptByPasses operation =
    (plan : Plan) (a b c a_output b_output c_output : List ℕ)
    → Accepted plan (length a) a_output → Accepted plan (length b) b_output → Accepted plan (length c) c_output
    → Wordwise plan operation a b c
    → Wordwise plan operation (serial_words_output plan a a_output) (serial_words_output plan b b_output)
    (serial_words_output plan c c_output)

-- Of two accepted calls over heights and one over words, which are the residues of what an operation on whole numbers
-- makes of the heights with dropouts replaced by 0, the third output is wordwise what its operation makes of the others.
abbrev pub KeptOfHeights : (whole : ℤ → ℤ → ℤ) → (operation : ℕ → ℕ → ℕ) → Type 0
KeptOfHeights whole operation =
    (plan : Plan) (a b : List ℤ) (c a_output b_output c_output : List ℕ)
    → Accepted plan (length a) a_output → Accepted plan (length b) b_output → Accepted plan (length c) c_output
    → ((place : ℕ) → place < needed_pixels plan
    → word_at c place ≡ residue (whole (reading (number_at a place)) (reading (number_at b place))))
    → Wordwise plan operation (serial_output plan a a_output) (serial_output plan b b_output) (serial_words_output plan c c_output)

-- The passes keep sums and differences modulo 2^64, of maps of words and of maps of heights, for every plan.
pub record AddsOutputs : Type 0 where
  pub sums : KeptByPasses ◌⊕◌
  pub differences : KeptByPasses ◌⊖◌
  pub sums_of_heights : KeptOfHeights ◌+ℤ◌ ◌⊕◌
  pub differences_of_heights : KeptOfHeights ◌-ℤ◌ ◌⊖◌
