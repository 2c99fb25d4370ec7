-- What is printed of the output lies in it, since no answer has more pixels than the limit; and it answers the whole input.
use Rattle.std.proofs.Common.{arith}
use Rattle.std.proofs.lemmas.Result.{on_ok_weaker}
use Rattle.smooth.proofs.Program.{answers_whole, answer_fits}
use Rattle.smooth.proofs.run.Goals as goal

pub print_answer-requires : goal.print_answer-requires
print_answer-requires g c =
    let answer = c.smooth-answer in
    answer_fits _ _ _ _ (omega (arith, answer.auto.output)) answer.ensures.answer

pub returns : goal.returns
returns g c =
    let answer = c.smooth-answer in
    on_ok_weaker c.print_answer.result
    (answers_whole
    _
    _
    _
    c.read_input.new.input
    answer.new.output
    c.in_ok-count.count
    answer.result
    c.in_ok-count.ensures.whole
    (omega (arith, c.in_ok-count.ensures.limit))
    answer.ensures.answer
    answer.ensures.output)
    c.print_answer.ensures
