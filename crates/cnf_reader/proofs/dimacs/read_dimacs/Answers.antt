use Rattle.std.proofs.Common.{[], subst}
use Rattle.cnf_reader.specs.CnfText.{cnf_answer}
use Rattle.cnf_reader.specs.Pieces.{IsGiven}
use Rattle.cnf_reader.proofs.PlaceLemmas.{given_ok}
use Rattle.cnf_reader.proofs.dimacs.read_dimacs.Goals as goal

pub returns-clause-ok : goal.returns-clause-ok
returns-clause-ok c =
    let text = c.args.text.now in
    given_ok (cnf_answer text) c.finish.result (c.finish.ensures text (c.in_ok-take_piece.ensures [] c.in_ok-reader.ensures))

pub returns-clause-form : goal.returns-clause-form
returns-clause-form c = λ line is.
    let text = c.args.text.now in
    subst (IsGiven (cnf_answer text)) is (c.finish.ensures text (c.in_ok-take_piece.ensures [] c.in_ok-reader.ensures))

pub returns-clause-variables : goal.returns-clause-variables
returns-clause-variables c = λ is.
    let text = c.args.text.now in
    subst (IsGiven (cnf_answer text)) is (c.finish.ensures text (c.in_ok-take_piece.ensures [] c.in_ok-reader.ensures))

pub returns-clause-clauses : goal.returns-clause-clauses
returns-clause-clauses c = λ is.
    let text = c.args.text.now in
    subst (IsGiven (cnf_answer text)) is (c.finish.ensures text (c.in_ok-take_piece.ensures [] c.in_ok-reader.ensures))
