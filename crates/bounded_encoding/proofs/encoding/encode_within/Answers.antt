use Rattle.std.proofs.Common.{◌≡◌, ◌∙◌, ℕ, List, sym, ap, subst, All, arith}
use Rattle.clause_core.specs.Literals.{Lit}
use Rattle.clause_core.specs.Clauses.{IsOver}
use Rattle.bounded_encoding.specs.QuestionView.{question_of}
use Rattle.bounded_encoding.specs.Variables.{variable_count}
use Rattle.bounded_encoding.specs.Encoding.{demands, encoding}
use Rattle.bounded_encoding.specs.Made.{Made, with_clauses}
use Rattle.bounded_encoding.specs.internal.Asking.{tree_of}
use Rattle.bounded_encoding.proofs.LeftOut.{numbers_within}
use Rattle.bounded_encoding.proofs.Over.{encoding_over}
use Rattle.bounded_encoding.proofs.encoding.encode_within.Goals as goal

pub returns-then-falling_count-limit-clause-refused : goal.returns-then-falling_count-limit-clause-refused
returns-then-falling_count-limit-clause-refused c =
    λ is. omega (
      arith,
      numbers_within (question_of c.args.automaton.now c.args.space.now c.args.states c.args.bound),
      c.falling_count.ensures,
      c.if-falling_count-limit.true,
    )

pub invariant_of-result : goal.invariant_of-result
invariant_of-result c =
    let asked = c.question_asked-question.ensures.asked in
    let listed : c.into_list.result ≡ encoding (tree_of c.question_asked-question.result) =
    c.into_list.ensures.list ∙ ap (λ (m : Made). m.clauses)
    (c.in_ok-add_demands.ensures.added
    ∙ ap (λ (m : Made). with_clauses m (demands (tree_of c.question_asked-question.result))) c.new-out.ensures) in
    record {
      few = omega (arith, c.variable_count-variables.ensures, asked.few);
      over = subst (λ (n : ℕ). All (IsOver n) c.into_list.result) (sym c.variable_count-variables.ensures)
          (subst (λ (cs : List (List Lit)). All (IsOver (variable_count (tree_of c.question_asked-question.result))) cs) (sym listed)
          (encoding_over (tree_of c.question_asked-question.result) asked.posed));
    }
