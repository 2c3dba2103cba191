use Rattle.std.proofs.Common.{sym}
use Rattle.definition_expansion.proofs.FoundByNumber.{got_definition, no_definition}
use Rattle.definition_expansion.proofs.expanding.definition.Goals as goal

pub returns-in-Some-clause-some : goal.returns-in-Some-clause-some
returns-in-Some-clause-some c =
    got_definition c.args.heads.now c.args.definitions.now c.args.name.now c.in-Some.number c.get.result _ c.requires
    (sym c.in-Some.ensures)
    c.get.ensures.lookup.1 c.get.ensures.lookup.3

pub returns-in-None-clause-none : goal.returns-in-None-clause-none
returns-in-None-clause-none c = no_definition c.args.heads.now c.args.definitions.now c.args.name.now c.requires (sym c.in-None.ensures)
