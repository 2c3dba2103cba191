use Rattle.std.proofs.Common.{sym, ◌∙◌, arith}
use Rattle.std.proofs.lemmas.List.{length-map}
use Rattle.name_resolution.specs.Faults.{has_kind_fault, has_arity_fault}
use Rattle.name_resolution.specs.OccurrenceView.{occurrence_of}
use Rattle.tsl_reader.proofs.TextParts.{few_occurrences, none, kind_told, arity_told}
use Rattle.tsl_reader.proofs.text_names.check_names.Goals as goal

pub plain_names-requires : goal.plain_names-requires
plain_names-requires c =
    omega (arith, length-map c.args.names.occurrences.now occurrence_of, few_occurrences c.requires.ordered.2.parts.named c.requires.text)

pub returns-in-Some-clause-cause : goal.returns-in-Some-clause-cause
returns-in-Some-clause-cause c = kind_told (sym c.in-Some.is ∙ c.told_token.ensures) c.requires.ordered.2 c.first_kind_fault-wrong.ensures

pub returns-in-Some-told_token-clause-cause : goal.returns-in-Some-told_token-clause-cause
returns-in-Some-told_token-clause-cause c =
    arity_told (sym c.in-Some-told_token.is ∙ c.told_token-2.ensures) c.requires.ordered.2
    (none c.requires.ordered.2.parts.named (λ hs os. has_kind_fault os) c.first_kind_fault-wrong.ensures
    (sym c.in_default.is ∙ c.told_token.ensures)) c.first_arity_fault-wrong.ensures

pub returns-clause-kinds : goal.returns-clause-kinds
returns-clause-kinds c =
    none c.requires.ordered.2.parts.named (λ hs os. has_kind_fault os) c.first_kind_fault-wrong.ensures
    (sym c.in_default.is ∙ c.told_token.ensures)

pub returns-clause-arities : goal.returns-clause-arities
returns-clause-arities c =
    none c.requires.ordered.2.parts.named has_arity_fault c.first_arity_fault-wrong.ensures
    (sym c.in_default-told_token.is ∙ c.told_token-2.ensures)
