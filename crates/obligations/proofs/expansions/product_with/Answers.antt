use Rattle.std.proofs.Common.{◌∙◌, Some, Bor, sym, ap, arith}
use Rattle.std.proofs.lemmas.List.{length-map}
use Rattle.std.proofs.lemmas.Option.{slice_get-get_or}
use Rattle.ltl_formula.specs.declared.formula.Ltl.{Ltl}
use Rattle.ltl_formula.specs.LtlTree.{ltl_tree}
use Rattle.obligations.specs.Named.{formula_named}
use Rattle.obligations.specs.Numbers.{choice_keys, lent_trees, formula_number}
use Rattle.obligations.proofs.ExpansionAntichains.{expansion_antichain}
use Rattle.obligations.proofs.expansions.product_with.Goals as goal

pub product-requires-clause-right : goal.product-requires-clause-right
product-requires-clause-right c =
    let names = lent_trees c.args.names.now in
    let each = sym (c.requires.expansions.one_each ∙ length-map c.args.names.now (λ (f : Bor Ltl). ltl_tree f.now)) in
    let formula = formula_named names c.args.number in
    let there = slice_get-get_or c.args.expansions.now c.args.number c.index-expansions-number.result
    (omega (arith, each, c.requires.within)) ∙ ap Some c.in-Some.is in
    let made = c.requires.expansions.are c.args.number c.in-Some.own there ∙ ap (λ cs. Some (choice_keys cs)) (sym c.deref.ensures.value) in
    expansion_antichain (formula_number names) formula (choice_keys c.deref.result.now) made
