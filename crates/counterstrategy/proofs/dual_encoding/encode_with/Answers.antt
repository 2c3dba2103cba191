use Rattle.std.proofs.Common.{◌≡◌, ◌∙◌, ℕ, List, sym, ap, subst, All, arith}
use Rattle.clause_core.specs.Literals.{Lit}
use Rattle.clause_core.specs.Clauses.{IsOver}
use Rattle.bounded_encoding.specs.QuestionView.{question_of}
use Rattle.bounded_encoding.specs.Made.{Made, with_clauses}
use Rattle.counterstrategy.specs.DualVariables.{dual_variable_count}
use Rattle.counterstrategy.specs.DualEncoding.{dual_demands, dual_encoding}
use Rattle.counterstrategy.specs.internal.DualAsking.{dual_tree}
use Rattle.counterstrategy.proofs.DualOver.{dual_encoding_over, pair_numbers_within}
use Rattle.counterstrategy.proofs.dual_encoding.encode_with.Goals as goal

pub returns-then-falling_count-gt-MOST_CLAUSES-clause-refused : goal.returns-then-falling_count-gt-MOST_CLAUSES-clause-refused
returns-then-falling_count-gt-MOST_CLAUSES-clause-refused c =
    λ is. omega (
      arith,
      pair_numbers_within (question_of c.args.automaton.now c.args.space.now c.args.states c.args.bound),
      c.falling_count.ensures,
      c.if-falling_count-gt-MOST_CLAUSES.true,
    )

pub invariant_of-result : goal.invariant_of-result
invariant_of-result c =
    let asked = c.dual_question_asked-question.ensures.asked in
    let listed : c.into_list.result ≡ dual_encoding (dual_tree c.dual_question_asked-question.result) =
    c.into_list.ensures.list ∙ ap (λ (m : Made). m.clauses)
    (c.in_ok-add_dual_demands.ensures.added
    ∙ ap (λ (m : Made). with_clauses m (dual_demands (dual_tree c.dual_question_asked-question.result))) c.new-out.ensures) in
    record {
      few = omega (arith, c.dual_variable_count-variables.ensures, asked.few);
      over = subst (λ (n : ℕ). All (IsOver n) c.into_list.result) (sym c.dual_variable_count-variables.ensures)
          (subst (λ (cs : List (List Lit)). All (IsOver (dual_variable_count (dual_tree c.dual_question_asked-question.result))) cs)
          (sym listed) (dual_encoding_over (dual_tree c.dual_question_asked-question.result) asked.posed));
    }
