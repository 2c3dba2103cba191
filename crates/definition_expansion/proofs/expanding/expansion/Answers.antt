use Rattle.std.proofs.Common.{◌≡◌, [], IfOk, ap, subst}
use Rattle.tsl_terms.specs.Name.{texts}
use Rattle.spec_syntax.specs.SyntaxView.{formula_syntax}
use Rattle.definition_expansion.specs.Expansion.{passed, expanded, expansion_within, ungrouped}
use Rattle.definition_expansion.specs.DefinitionView.{definitions_of}
use Rattle.definition_expansion.proofs.expanding.expansion.Goals as goal

pub returns : goal.returns
returns c =
    subst (λ s. IfOk c.expanded.result (λ f. formula_syntax f
    ≡ ungrouped (expanded (expansion_within (definitions_of c.args.definitions.now) c.args.within) s (formula_syntax c.args.formula.now))))
    (ap (λ names x. passed (texts names) [] x) c.new-none.ensures) c.expanded.ensures
