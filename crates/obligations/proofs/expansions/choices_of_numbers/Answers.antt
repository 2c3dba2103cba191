use Rattle.std.proofs.Common.{◌≡◌, ◌<◌, None, Bor, map, subst, [], ◌∷◌}
use Rattle.std.specs.List.{AllByRecursion}
use Rattle.std.proofs.lemmas.List.{length-map}
use Rattle.base_library.proofs.Results.{handed_on}
use Rattle.ltl_formula.specs.declared.formula.Ltl.{Ltl}
use Rattle.ltl_formula.specs.LtlTree.{ltl_tree}
use Rattle.obligations.specs.declared.step_error.StepError.TheVariants.{Choices}
use Rattle.obligations.specs.Expansion.{choices}
use Rattle.obligations.specs.Numbers.{choice_keys, lent_trees}
use Rattle.obligations.specs.Named.{formula_named}
use Rattle.obligations.proofs.StepLemmas.{rising}
use Rattle.obligations.proofs.ClosureLemmas.{set_found, set_well, set_none}
use Rattle.obligations.proofs.expansions.choices_of_numbers.Goals as goal

pub products_of-requires-clause-members : goal.products_of-requires-clause-members
products_of-requires-clause-members c = subst (λ k. AllByRecursion (λ n. n < k) c.args.members.now)
    (length-map c.args.names.now (λ (f : Bor Ltl). ltl_tree f.now)) c.requires.members

pub returns-in_err-list-clause-many : goal.returns-in_err-list-clause-many
returns-in_err-list-clause-many c =
    handed_on c.from_residual.result c.in_err-list.field-0.0
    (λ e. e ≡ Choices → choices (map (formula_named (lent_trees c.args.names.now)) c.args.members.now) ≡ None) c.from_residual.ensures.1
    (λ is. set_none c.requires.names.0 (lent_trees c.args.names.now) c.requires.names.1 c.args.members.now c.requires.members
    (c.in_err-list.ensures.many is))

pub returns-clause-choices : goal.returns-clause-choices
returns-clause-choices c = set_found c.requires.names.0 (lent_trees c.args.names.now) c.requires.names.1 c.args.members.now
    c.requires.members (choice_keys c.in_ok-list.list.items) c.in_ok-list.ensures.choices

pub returns-clause-well : goal.returns-clause-well
returns-clause-well c = set_well c.requires.names.0 (lent_trees c.args.names.now) c.requires.names.1 c.args.members.now
    c.requires.members (choice_keys c.in_ok-list.list.items) c.in_ok-list.ensures.choices

pub products_of-requires-clause-rising : goal.products_of-requires-clause-rising
products_of-requires-clause-rising c = rising (c.requires.names.0 ∷ []) (lent_trees c.args.names.now) c.requires.names.1
