-- What is read of an input stands for the whole of it. Assumes nothing.
use Rattle.std.specs.Prelude.{◌≡◌, ℕ, ◌+◌, ◌<◌, ◌≤◌, List, ◌++◌, length, take, Option, None, Some, IfSome}
use Rattle.std.proofs.Common.{sym, ap, ◌∙◌, arith, length-append}
use Rattle.std.proofs.lemmas.Grind.{common_steps}
use Rattle.std.proofs.lemmas.Bool.Decides.{nat_tests}
use Rattle.std.proofs.lemmas.List.{take_all, take-take, take-append-le, length-take-le}
use Rattle.std.specs.Io.KnownBytes.{Consumes, IsAtEnd}
use Rattle.std.proofs.KnownBytes.{Consumes-whole}
use Rattle.smooth_job.specs.Program.{input_limit, cut_length}
use Rattle.smooth.specs.declared.TheConstants.{READ_LIMIT}
use Rattle.smooth.specs.Input.{StandsFor}

cut_short : (n : ℕ) → n ≤ input_limit → cut_length n ≡ n
unfolding cut_length
cut_short n h = grind (arith, nat_tests, common_steps)

cut_long : (n : ℕ) → input_limit ≤ n → input_limit ≤ cut_length n
unfolding cut_length
cut_long n h = grind (arith, nat_tests, common_steps)

-- Of an input that ends within the first bytes all is kept.
pub all_kept : (old new : Option (List ℕ)) (part rest : List ℕ) (count : ℕ) → Consumes old new (take count part) → IsAtEnd new
    → count ≤ length part → count < input_limit
    → IfSome old (λ whole. length whole < READ_LIMIT → StandsFor whole (part ++ rest) count)
all_kept old new part rest count read end room short =
    let long : length (take count part) ≡ count = length-take-le count part room in
    Consumes-whole old new (take count part) (λ whole. length whole < READ_LIMIT → StandsFor whole (part ++ rest) count) read end
    (λ _. record {
      count_is = sym (ap cut_length long ∙ cut_short count (omega arith));
      first_bytes = ap (take input_limit) (take-append-le count part rest room);
    })

-- Of a longer one the first bytes are kept, and all are counted.
pub first_kept : (old new : Option (List ℕ)) (part rest : List ℕ) (first count kept : ℕ) → Consumes old new (take first part)
    → first ≤ length part → input_limit ≤ first → length part ≡ input_limit
    → IfSome new (λ more. length more < READ_LIMIT → count ≡ input_limit + length more) → kept ≡ cut_length count
    → IfSome old (λ whole. length whole < READ_LIMIT → StandsFor whole (part ++ rest) kept)
first_kept None new part rest first count kept read room most long counted cut = tt
first_kept (Some whole) None part rest first count kept read room most long counted cut = absurd read
first_kept (Some whole) (Some more) part rest first count kept read room most long counted cut = λ bounded.
    let all : take first part ≡ part = take_all first part (omega arith) in
    let split : whole ≡ part ++ more = read ∙ ap (λ l. l ++ more) all in
    let sizes : length whole ≡ input_limit + length more = ap length split ∙ length-append part more ∙ ap (λ n. n + length more) long in
    let number : count ≡ length whole = counted (omega arith) ∙ sym sizes in
    let some : input_limit ≤ kept = grind (arith, cut_long count (omega arith)) in
    let start : (tail : List ℕ) → take input_limit (part ++ tail) ≡ part =
    λ tail. take-append-le input_limit part tail (omega arith) ∙ take_all input_limit part (omega arith) in
    record {
      count_is = cut ∙ ap cut_length number;
      first_bytes = take-take input_limit kept (part ++ rest) some ∙ start rest ∙ sym (ap (take input_limit) split ∙ start more);
    }
