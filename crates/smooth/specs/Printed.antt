-- What the program prints.
use Rattle.std.specs.Prelude.{List, [], ◌++◌, ℕ, zero, suc, ◌+◌, ◌*◌, length, replicate, slice_index, slice_range, codes, decimal}
use Rattle.refusal.specs.Refusals.{Answer, accepted, refused}
use Rattle.refusal.specs.Table.{Given}
use Rattle.smooth_job.specs.Program.{Line, pixel_limit, asked, answer_to, output_of}

-- The texts of the places below n, one after another.
abbrev pub joined : (ℕ → List ℕ) → ℕ → List ℕ
joined text zero = []
joined text (suc n) = joined text n ++ text n

-- A word of a row, with a space before each but the first.
abbrev pub word_text : (word column : ℕ) → List ℕ
word_text word zero = decimal word
word_text word (suc column) = codes " " ++ decimal word

-- A row's words, and the end of the line.
abbrev pub row_text : List ℕ → List ℕ
row_text words = joined (λ column. word_text (slice_index words column) column) (length words) ++ codes "\n"

-- The rows of the output, one after another.
abbrev pub rows_text : (rows columns : ℕ) → List ℕ → List ℕ
rows_text rows columns output =
    joined (λ row. row_text (slice_range output (row * columns) (row * columns + columns))) rows

-- The line of a refusal.
abbrev pub refusal_text : (number place : ℕ) → List ℕ
refusal_text number place = codes "refused " ++ (decimal number ++ (codes " at " ++ (decimal place ++ codes "\n")))

-- The line of an accepted job, and its rows.
abbrev pub output_text : Line → List ℕ → List ℕ
output_text line output =
    (codes "rows " ++ (decimal line.rows ++ (codes " columns " ++ (decimal line.columns
    ++ (codes " tasks " ++ (decimal line.tasks ++ (codes " words " ++ (decimal line.tally ++ codes "\n"))))))))
    ++ rows_text line.rows line.columns output

-- The answer, with the output words beside it.
abbrev pub answer_text : Answer → Line → List ℕ → List ℕ
answer_text accepted line output = output_text line output
answer_text (refused number place) line output = refusal_text number place

abbrev pub given_text : Given Line → List ℕ → List ℕ
given_text given output = answer_text given.answer given.value output

-- The answer to an input, on an output of zeros.
unfoldable pub program_text : List ℕ → List ℕ
program_text input =
    let output = replicate pixel_limit 0 in
    given_text (answer_to (asked input) output) (output_of (asked input) output)
