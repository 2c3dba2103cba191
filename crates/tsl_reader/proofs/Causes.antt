-- A text has one list of tokens, derives in one way, and spells one specification.
use Rattle.std.proofs.Common.{◌≡◌, ℕ, ◌≤◌, List, ap, sym, ◌∙◌, subst}
use Rattle.std.proofs.Common.{arith}
use Rattle.std.specs.Prelude.{Some}
use Rattle.std.proofs.lemmas.Option.{same_Some}
use Rattle.tsl_text.specs.declared.Token.{Token}
use Rattle.tsl_text.proofs.OneAnswer.{one_list}
use Rattle.tsl_terms.specs.Name.{Name}
use Rattle.tsl_terms.specs.FormulaTree.{FormulaTree}
use Rattle.tsl_terms.specs.SpecTree.{SpecTree, whole_formula}
use Rattle.tsl_terms.specs.Nodes.{nodes}
use Rattle.spec_syntax.specs.declared.syntax.Part.{Part}
use Rattle.spec_syntax.specs.declared.syntax.Part.TheVariants.{AssumeFirst, AssumeAlways, GuaranteeFirst, GuaranteeAlways}
use Rattle.spec_syntax.specs.Syntax.{Terminal, SectionSyntax, Declaration}
use Rattle.spec_syntax.specs.Grammar.{AreSections, AreDeclarations}
use Rattle.tsl_reader.specs.Naming.{names_of, numbered_list, formulas_of_part}
use Rattle.spec_syntax.specs.Texts.{terminals}
use Rattle.tsl_reader.specs.Spells.{deepest_level, most_formula_nodes, Derives, IsDerived, Spells}
use Rattle.tsl_reader.specs.Spells.{HasTooManyNodes}
use Rattle.spec_syntax.proofs.ExactSections.{one_tree}
use Rattle.spec_syntax.proofs.DeclarationLaws as declared
use Rattle.definition_expansion.specs.DefinitionView.{named_in}
use Rattle.definition_expansion.specs.TextExpansion.{Expands}
use Rattle.definition_expansion.specs.WellUsed.{as_written}
use Rattle.definition_expansion.proofs.OneExpansion.{one_expansion}
use Rattle.name_resolution.specs.Heads.{definitions_in}

-- a text derives from one list of sections and definitions, and its sections from one list of terminals
pub one_derivation : (text : List ℕ) (a b : List Token) (own other : List Terminal) (ds es : List Declaration) → Derives text a own ds →
    Derives text b other es → (ds ≡ es) × (own ≡ other)
one_derivation text a b own other ds es h k =
    let same : a ≡ b = one_list text a b h.tokens_are k.tokens_are in
    let derived : AreDeclarations deepest_level (terminals text b) own ds = subst (λ tokens. AreDeclarations deepest_level
    (terminals text tokens) own ds) same h.derived in (
      declared.one_list deepest_level (terminals text b) own other ds es derived k.derived,
      declared.one_own deepest_level (terminals text b) own other ds es derived k.derived,
    )

-- what the sections' own terminals expand to derives from one list of sections
one_expanded : (ds es : List Declaration) (own other xs ys : List Terminal) (ss rs : List SectionSyntax) → ds ≡ es → own ≡ other →
    Expands (as_written (named_in (definitions_in ds))) own xs → Expands (as_written (named_in (definitions_in es))) other ys →
    AreSections deepest_level xs ss → AreSections deepest_level ys rs → ss ≡ rs
one_expanded ds es own other xs ys ss rs same alike h k s r =
    let first : Expands (as_written (named_in (definitions_in es))) other xs =
    subst (λ os. Expands (as_written (named_in (definitions_in es))) os xs) alike
    (subst (λ qs. Expands (as_written (named_in (definitions_in qs))) own xs) same h) in
    let texts : xs ≡ ys = one_expansion (as_written (named_in (definitions_in es))) other xs ys first k in
    one_tree deepest_level ys ss rs (subst (λ zs. AreSections deepest_level zs ss) texts s) r

-- the parts of a specification make it
abbrev spec_from : List Name → List FormulaTree → List FormulaTree → List FormulaTree → List FormulaTree → SpecTree
spec_from names a b c d = record { names = names; assume_first = a; assume_always = b; guarantee_first = c; guarantee_always = d }

numbered_alike : {m n : List Name} {ss rs : List SectionSyntax} {x y : List FormulaTree} (part : Part) → m ≡ n → ss ≡ rs →
    numbered_list m (formulas_of_part part ss) ≡ Some x → numbered_list n (formulas_of_part part rs) ≡ Some y → x ≡ y
numbered_alike {x = x} {y = y} part names sections h k =
    same_Some x y (sym h ∙ (λ i. numbered_list (names i) (formulas_of_part part (sections i))) ∙ k)

-- a text derives from one specification
pub one_derived : (text : List ℕ) (a b : SpecTree) → IsDerived text a → IsDerived text b → a ≡ b
one_derived text a b x y =
    let whole = one_derivation text x.tokens y.tokens x.own y.own x.declarations y.declarations x.derives y.derives in
    let sections : x.sections ≡ y.sections = one_expanded x.declarations y.declarations x.own y.own x.expanded y.expanded x.sections y.sections whole.0 whole.1
    x.expands y.expands x.sections_are y.sections_are in
    let names : a.names ≡ b.names = x.names ∙ ap names_of sections ∙ sym y.names in
    λ i. spec_from (names i) (numbered_alike AssumeFirst names sections x.assume_first y.assume_first i)
    (numbered_alike AssumeAlways names sections x.assume_always y.assume_always i)
    (numbered_alike GuaranteeFirst names sections x.guarantee_first y.guarantee_first i)
    (numbered_alike GuaranteeAlways names sections x.guarantee_always y.guarantee_always i)

-- a text spells one specification
pub one_spec : (text : List ℕ) (a b : SpecTree) → Spells text a → Spells text b → a ≡ b
one_spec text a b x y = one_derived text a b x.derived y.derived

pub nodes_refuse : (text : List ℕ) → HasTooManyNodes text → (spec : SpecTree) → Spells text spec → ⊥
nodes_refuse text h spec spelled =
    let same : spec ≡ h.spec = one_derived text spec h.spec spelled.derived h.derived in
    let few : nodes (whole_formula h.spec) ≤ most_formula_nodes = subst (λ s. nodes
    (whole_formula s) ≤ most_formula_nodes) same spelled.few_nodes in
    omega (arith, few, h.many_nodes)
