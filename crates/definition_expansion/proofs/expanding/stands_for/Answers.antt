use Rattle.std.proofs.Common.{length, Some, None, refl, sym}
use Rattle.std.proofs.lemmas.Option.{slice_get_past, slice_get_read}
use Rattle.definition_expansion.proofs.FoundByNumber.{numbered_name, no_parameter}
use Rattle.definition_expansion.proofs.expanding.stands_for.Goals as goal

pub returns-in-Some-get : goal.returns-in-Some-get
returns-in-Some-get c =
    let names = c.args.passed.now.names.now in
    numbered_name c.args.passed.now.parameters.now names c.args.name.now c.in-Some.number (Some c.in-Some-get.given.now)
    (sym c.in-Some.ensures)
    (slice_get_read names (length names) c.in-Some.number c.in-Some-get.given.now refl c.in-Some-get.ensures.lookup.3.0
    c.in-Some-get.ensures.lookup.1)

pub returns-in-None-get : goal.returns-in-None-get
returns-in-None-get c =
    let names = c.args.passed.now.names.now in
    numbered_name c.args.passed.now.parameters.now names c.args.name.now c.in-Some.number None (sym c.in-Some.ensures)
    (slice_get_past names c.in-Some.number c.in-None-get.ensures.lookup.3)

pub returns-in-None : goal.returns-in-None
returns-in-None c = no_parameter c.args.passed.now.parameters.now c.args.passed.now.names.now c.args.name.now (sym c.in-None.ensures)
