-- The first test that fails decides. Assumes nothing.
use Rattle.std.proofs.lemmas.Result.{err_from_is_err_and}
use Rattle.dispatch.proofs.Deciding.{refused_6, sizes_passed, refused_18, places_passed, refused_9, made}
use Rattle.dispatch.proofs.dispatch.Goals as goal

pub returns-in_err-test_sizes : goal.returns-in_err-test_sizes
returns-in_err-test_sizes c =
    let p = err_from_is_err_and c.from_residual.result c.from_residual.ensures.1 in
    rw (p.1, p.2) (refused_6 _ _ _ _ c.in_err-test_sizes.ensures)

pub test_places-requires : goal.test_places-requires
test_places-requires c = sizes_passed _ c.args.last c.args.marks.now c.in_ok-test_sizes.ensures

pub returns-in_err-test_places : goal.returns-in_err-test_places
returns-in_err-test_places c =
    let p = err_from_is_err_and c.from_residual-in_err-test_places.result c.from_residual-in_err-test_places.ensures.1 in
    rw (p.1, p.2) (refused_18 _ _ _ c.in_ok-test_sizes.ensures _ c.in_err-test_places.ensures)

pub test_marks-requires : goal.test_marks-requires
test_marks-requires c = places_passed _ c.args.last _ c.in_ok-test_sizes.ensures c.in_ok-test_places.ensures

pub returns-in_err-test_marks : goal.returns-in_err-test_marks
returns-in_err-test_marks c =
    let p = err_from_is_err_and c.from_residual-in_err-test_marks.result c.from_residual-in_err-test_marks.ensures.1 in
    rw (p.1, p.2) (refused_9 _ _ _ c.in_ok-test_sizes.ensures c.in_ok-test_places.ensures _ c.in_err-test_marks.ensures)

pub next_turn-requires : goal.next_turn-requires
next_turn-requires c = places_passed _ c.args.last _ c.in_ok-test_sizes.ensures c.in_ok-test_places.ensures

pub returns : goal.returns
returns c = made _ _ _ c.in_ok-test_sizes.ensures c.in_ok-test_places.ensures c.in_ok-test_marks.ensures _ c.next_turn.ensures
