use Rattle.std.proofs.Common.{◌≡◌, map, length, ap, sym, ◌∙◌, ◌++◌, arith, rules}
use Rattle.std.proofs.lemmas.List.{length-map}
use Rattle.std.proofs.lemmas.Result.{on_ok_weaker}
use Rattle.std.specs.Borrow.{Bor}
use Rattle.std.specs.Prelude.{ℕ, List}
use Rattle.spec_syntax.specs.SyntaxView.{equation_syntax}
use Rattle.name_resolution.specs.Heads.{is_name, is_among}
use Rattle.name_resolution.specs.Occurrences.{is_repeated, parameter_name}
use Rattle.name_resolution.specs.OccurrenceView.{occurrence_of}
use Rattle.name_resolution.proofs.Walks.{definition_few, definition_added}
use Rattle.name_resolution.proofs.walk.add_definition.Goals as goal

pub add_formula-requires-clause-few : goal.add_formula-requires-clause-few
add_formula-requires-clause-few c =
    definition_few c.args.heads.now c.args.before.now c.in_ok-parameters.parameters.names (equation_syntax c.args.definition.now)
    (λ x. c.in_ok-parameters.ensures.names x
    ∙ ap (λ (ps : List (Bor (List ℕ))). is_among (map (λ p. p.now) ps) x) c.deref.ensures.value)
    c.requires.few

pub returns : goal.returns
returns c =
    let many : c.len-arity.result ≡ length c.args.definition.now.parameters.items = first_of (
      omega (arith, c.len-arity.ensures, c.deref.ensures.len, ap length c.deref.ensures.value),
      search rules,
    ) in
    on_ok_weaker c.add_formula.result (λ body. definition_added c.args.heads.now c.args.before.now c.in_ok-parameters.parameters.names
    c.in_ok-parameters.parameters.repeated (equation_syntax c.args.definition.now) c.len-arity.result _ _ _ _
    (λ x. c.in_ok-parameters.ensures.names x
    ∙ ap (λ (ps : List (Bor (List ℕ))). is_among (map (λ p. p.now) ps) x) c.deref.ensures.value)
    (λ x. c.in_ok-parameters.ensures.repeated x
    ∙ ap (λ (ps : List (Bor (List ℕ))). is_repeated (map (λ p. p.now) ps) x) c.deref.ensures.value)
    (many ∙ sym (length-map c.args.definition.now.parameters.items (λ (p : Bor (List ℕ)). p.now)))
    c.in_ok-add_head.ensures
    (c.in_ok-add_parameters.ensures
    ∙ ap (λ (ps : List (Bor (List ℕ))). map occurrence_of c.add_head.new.list.items
    ++ map (parameter_name (is_name c.args.heads.now) (is_name c.in_ok-parameters.parameters.repeated)) (map (λ p. p.now) ps))
    c.deref-2.ensures.value)
    body)
    c.add_formula.ensures
