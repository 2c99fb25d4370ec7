-- Words of 32 bits that say what they are: plan words and marks have a kind in the top four bits and a payload in the low 28.
use Rattle.std.specs.Prelude.{ℕ, ◌+◌, ◌*◌, ◌/◌, ◌%◌}

-- 2^28: payloads are the numbers below it.
abbrev pub payload_limit : ℕ
payload_limit = 268435456

-- The kind of a word: its top four bits.
abbrev pub kind_of : ℕ → ℕ
kind_of word = word / payload_limit

-- The payload of a word: its low 28 bits.
abbrev pub payload_of : ℕ → ℕ
payload_of word = word % payload_limit

-- The word of a kind and a payload.
abbrev pub word_of : ℕ → ℕ → ℕ
word_of kind payload = kind * payload_limit + payload
