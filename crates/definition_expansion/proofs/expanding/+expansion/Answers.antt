use Rattle.std.proofs.Common.{map, arith, ◌∙◌, ap, sym, ◌≡◌, ◌-◌}
use Rattle.std.proofs.lemmas.Result.{IfOk-weaker}
use Rattle.definition_expansion.specs.Expansion.{passed_names, expanded, expanded_members, expansion_within, ungrouped, ungrouped_members}
use Rattle.definition_expansion.specs.Folds.{number_or, number_of_test, fold_by, number_within}
use Rattle.definition_expansion.specs.internal.Costs.{costs}
use Rattle.spec_syntax.specs.SyntaxView.{terms_syntax, formula_syntax, formulas_syntax}
use Rattle.definition_expansion.specs.DefinitionView.{definition_of, definitions_of}
use Rattle.definition_expansion.specs.internal.Standing.{names_now, standing}
use Rattle.spec_syntax.proofs.TreeLemmas.{formulas_front_none}
use Rattle.definition_expansion.proofs.MoreMembers.{formulas_more}
use Rattle.definition_expansion.proofs.CostLemmas.{test_cost, put_for_use}
use Rattle.definition_expansion.proofs.expanding.+expansion.Goals as goal

pub expanded-expanded_test-requires : goal.expanded-expanded_test-requires
expanded-expanded_test-requires t c =
    let table = number_within costs (definitions_of c.args.definitions.now) c.args.within in
    let whole : fold_by costs table (formula_syntax c.args.formula.now)
    ≡ number_or (number_of_test costs table c.in-Tested.name.now (passed_names (terms_syntax c.in-Tested.arguments))) 5 =
    ap (λ f. fold_by costs table (formula_syntax f)) c.in-Tested.is in (
      omega (
        arith,
        whole,
        test_cost (definitions_of c.args.definitions.now) c.args.within c.in-Tested.name.now
            (passed_names (terms_syntax c.in-Tested.arguments)),
      ),
      c.requires,
    )

pub expanded_test-replacing_test-requires : goal.expanded_test-replacing_test-requires
expanded_test-replacing_test-requires t c = (
  omega (
    arith,
    test_cost (definitions_of c.args.definitions.now) c.args.within c.args.name.now (passed_names (terms_syntax c.args.arguments.now)),
  ),
  c.requires,
)

pub expanded_members-loop-rest-preserved : goal.expanded_members-loop-rest-preserved
expanded_members-loop-rest-preserved t c = record {
  made =
      formulas_more formula_syntax c.loop-rest.list.items _ c.in_ok-formula.formula
      (ungrouped (expanded (expansion_within (definitions_of c.args.definitions.now) c.args.within) (standing c.args.passed.now)
      (formula_syntax c.deref.result.now)))
      (ungrouped_members (expanded_members (expansion_within (definitions_of c.args.definitions.now) c.args.within)
      (standing c.args.passed.now) (formulas_syntax c.deref-rest.result.now)))
      c.in_ok-push.ensures.items c.in_ok-formula.ensures
      ∙ rw (c.deref.ensures, c.deref-rest.ensures) (rw c.in-More.is at c.loop-rest.invariant.made);
  size = rw c.deref-rest.ensures (omega (arith, rw c.in-More.is at c.loop-rest.invariant.size));
}

pub expanded_members-returns : goal.expanded_members-returns
expanded_members-returns t c =
    IfOk-weaker c.from_vec.result _ _
    (λ list is. is ∙ sym (formulas_front_none (map formula_syntax c.loop-rest.list.items))
    ∙ (rw c.in_default.is at c.loop-rest.invariant.made))
    c.from_vec.ensures

pub replacing-returns-in_ok-body-in-Some : goal.replacing-returns-in_ok-body-in-Some
replacing-returns-in_ok-body-in-Some t c =
    put_for_use (definitions_of c.args.definitions.now) (c.args.within - 1) c.args.within c.args.name.now (names_now c.args.names.now)
    (definition_of c.in-Some.found.now) (formula_syntax c.in_ok-body-in-Some.body) (omega (arith, c.if-within-eq0.false))
    c.in-Some.ensures.some
    c.in_ok-body-in-Some.ensures
