use Rattle.std.proofs.Common.{◌≡◌, ◌∙◌, map, Some, None, sym, ap, subst}
use Rattle.std.specs.List.{AllByRecursion}
use Rattle.ltl_formula.specs.LtlTree.{ltl_tree}
use Rattle.obligations.specs.Numbers.{lent_trees, choice_keys}
use Rattle.base_library.proofs.Results.{handed_on}
use Rattle.obligations.specs.Named.{choice_named, IsWell}
use Rattle.obligations.specs.declared.step_error.StepError.TheVariants.{Choices}
use Rattle.obligations.specs.Expansion.{choices}
use Rattle.obligations.proofs.StepLemmas.{rising, found, found_well, none}
use Rattle.obligations.proofs.stepping.step_with.Goals as goal

pub choices_of-requires-clause-rising : goal.choices_of-requires-clause-rising
choices_of-requires-clause-rising c = rising (map ltl_tree c.args.members.now) (lent_trees c.args.names.now) c.requires

pub choices_of-requires-clause-well : goal.choices_of-requires-clause-well
choices_of-requires-clause-well c =
    subst (λ cs. AllByRecursion (IsWell (lent_trees c.args.names.now)) (choice_keys cs)) (sym c.as_slice.ensures.value)
    (found_well (map ltl_tree c.args.members.now) (lent_trees c.args.names.now) c.requires
    (choice_keys c.in_ok-numbered.numbered.items) c.in_ok-numbered.ensures.choices)

pub returns-clause-choices : goal.returns-clause-choices
returns-clause-choices c =
    found (map ltl_tree c.args.members.now) (lent_trees c.args.names.now) c.requires
    (choice_keys c.in_ok-numbered.numbered.items) c.in_ok-numbered.ensures.choices
    ∙ ap (λ cs. Some (map (choice_named (lent_trees c.args.names.now)) (choice_keys cs))) (sym c.as_slice.ensures.value)
    ∙ ap Some (sym c.in_ok-choices_of.ensures)

pub returns-in_err-numbered-clause-many : goal.returns-in_err-numbered-clause-many
returns-in_err-numbered-clause-many c =
    handed_on c.from_residual.result c.in_err-numbered.field-0.0
    (λ e. e ≡ Choices → choices (map ltl_tree c.args.members.now) ≡ None) c.from_residual.ensures.1
    (λ is. none (map ltl_tree c.args.members.now) (lent_trees c.args.names.now) c.requires (c.in_err-numbered.ensures.many is))

pub numbered_choices-requires-clause-rising : goal.numbered_choices-requires-clause-rising
numbered_choices-requires-clause-rising c = rising (map ltl_tree c.args.members.now) (lent_trees c.args.names.now) c.requires
