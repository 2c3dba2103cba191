use Rattle.tsl_terms.proofs.NameLemmas.{number-named}
use Rattle.tsl_terms.proofs.names.Names.find.Goals as goal

pub returns-in_err-place : goal.returns-in_err-place
returns-in_err-place c =
    let same = number-named c.args.text.now c.self.inside.meanings.entries in
    cc (c.from_residual.ensures, c.in_err-place.ensures.index, same)

pub returns : goal.returns
returns c =
    let same = number-named c.args.text.now c.self.inside.meanings.entries in
    cc (c.in_ok-place.ensures.index, same)
