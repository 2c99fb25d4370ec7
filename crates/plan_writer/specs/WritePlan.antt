-- The words of a plan, in the order of document 01's table, and the call that writes them, refused by 6 and 7; document
-- 02, CR 4.
use Rattle.std.specs.Prelude.{List, [], ◌∷◌, ◌++◌, ℕ, ◌+◌, ◌*◌, ℤ, length, drop, Result, Some}
use Rattle.refusal.specs.declared.Refusal.{Refusal}
use Rattle.refusal.specs.Table.{first_due, if_accepted, Given, given, given_by}
use Rattle.plan.specs.declared.BufferOf7.TheVariants as of7
use Rattle.plan.specs.declared.Lengths.{Lengths}
use Rattle.plan.specs.declared.Pass.{Pass}
use Rattle.plan.specs.declared.Plan.{Plan}
use Rattle.plan.specs.Rules.{coefficient_at, pass_at}
use Rattle.plan.specs.Sizes.{word_count}
use Rattle.plan.specs.FirstTests.{lent_rows, only_of7}
use Rattle.buffer.specs.Lists.{list_of, joined}
use Rattle.number.specs.KindWords.{word_of}
use Rattle.number.specs.SignedBits.{signed_bits}
use Rattle.plan_reader.specs.PlanWords.{end_kind}

-- The payload of a number of signed 28 bits, two's complement.
unfoldable pub payload28 : ℤ → ℕ
payload28 value = signed_bits 28 value

-- The payload of the size word: rows in bits 13 to 25, columns in bits 0 to 12.
abbrev pub size_payload : (rows columns : ℕ) → ℕ
size_payload rows columns = rows * 8192 + columns

-- The payload of a pass word: the pass in bits 4 and 5, its order in bits 0 to 3.
abbrev pub pass_payload : (i order : ℕ) → ℕ
pass_payload i order = i * 16 + order

-- The first `count` coefficient words of a pass.
unfoldable pub coefficient_words : Pass → ℕ → List ℕ
coefficient_words pass count = list_of (λ j. word_of 5 (payload28 (coefficient_at pass j))) count

-- The words of pass i: pass word, gain word, coefficient words.
unfoldable pub pass_words : ℕ → Pass → List ℕ
pass_words i pass =
    word_of 3 (pass_payload i pass.order) ∷ word_of 4 (payload28 pass.gain) ∷ coefficient_words pass pass.order

-- The words of the first `count` passes.
unfoldable pub passes_words : Plan → ℕ → List ℕ
passes_words plan count = joined (λ i. pass_words i (pass_at plan i)) count

-- The size word of a plan.
abbrev pub size_word : Plan → ℕ
size_word plan = word_of 1 (size_payload plan.grid.rows plan.grid.columns)

-- The words of a plan: size, block, the four passes, end.
unfoldable pub words_of : Plan → List ℕ
words_of plan =
    size_word plan ∷ word_of 2 plan.grid.side ∷ (passes_words plan 4 ++ (word_of end_kind 0 ∷ []))

-- The writer is lent room for the words.
abbrev pub lent_to_writer : (room : ℕ) → Lengths
lent_to_writer room = only_of7 (Some (of7.Words room))

-- How many words are written into so much room; 0 beside a refusal, by 6 or by 7.
unfoldable pub write_plan : Plan → (room : ℕ) → Given ℕ
write_plan plan room =
    given (first_due (lent_rows plan (lent_to_writer room))) (word_count plan) 0

-- Document 01's number and place, and the count, of what `write_plan` answers; 0 beside a refusal.
abbrev pub written_given : Result ℕ Refusal → Given ℕ
written_given = given_by 0

-- The lent words after the call: the plan's words and then what stood there; unaltered by a refusal.
unfoldable pub written_words : Plan → List ℕ → List ℕ
written_words plan words =
    if_accepted (write_plan plan (length words)).answer (words_of plan ++ drop (word_count plan) words) words
