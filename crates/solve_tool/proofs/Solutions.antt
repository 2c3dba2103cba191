-- The replies of the three answers are solutions.
use Rattle.std.proofs.Common.{◌≡◌, ℕ, ◌<◌, ◌≤◌, Bool, List, [], ◌++◌, length, All, Result, sym, ap, subst, ◌∙◌}
use Rattle.std.specs.Prelude.{IfOk}
use Rattle.std.proofs.lemmas.Result.{IfOk-weaker}
use Rattle.clause_core.specs.Literals.{Lit}
use Rattle.clause_core.specs.Clauses.{IsIncreasing}
use Rattle.refutation_check.specs.declared.steps.Step.{Step}
use Rattle.refutation_check.proofs.Refuting.{accepted_refutes}
use Rattle.refutation_text.specs.Parted.{SpellsRefutation}
use Rattle.refutation_text.specs.Written.{refutation_text, IsClauseOver}
use Rattle.refutation_text.proofs.Parted.{refutation_spelled}
use Rattle.sat_core.specs.Answers.{AreSatisfying, AreRefuting}
use Rattle.tool_io.specs.declared.status.Status.{Status}
use Rattle.tool_io.specs.declared.reply.Reply.{Reply}
use Rattle.solve_tool.specs.declared.request.Request.{Request}
use Rattle.solve_tool.specs.Outcome.{proper_clauses, IsRightReply}
use Rattle.solve_tool.specs.Values.{satisfiable_text}
use Rattle.solve_tool.specs.internal.Solutions.{IsSatisfiableReply, IsUnsatisfiableReply}
use Rattle.solve_tool.proofs.Proper.{meets_rest, unmet_rest}
use Rattle.refutation_text.proofs.Readable.{are_readable}

module _ {E : Type 0} (request : Request) (variables : ℕ) (clauses proper : List (List Lit)) (same : proper ≡ proper_clauses clauses)
    (r : Result Reply E) where
  abbrev Solves : Reply → Type 0
  Solves reply = IsRightReply request variables clauses reply.status reply.text

  pub satisfiable_solves : (truths lent : List Bool) → lent ≡ truths → AreSatisfying variables proper truths →
      IfOk r (IsSatisfiableReply lent) → IfOk r Solves
  satisfiable_solves truths lent lend meets = IfOk-weaker r _ _ (λ reply h.
      subst (λ (s : Status). IsRightReply request variables clauses s reply.text) (sym h.status)
      (truths, satisfying, h.text ∙ ap satisfiable_text lend))
    where
      satisfying : AreSatisfying variables clauses truths
      satisfying =
          let on_proper : AreSatisfying variables (proper_clauses clauses) truths =
          subst (λ (cs : List (List Lit)). AreSatisfying variables cs truths) same meets in
          record { one_each = on_proper.one_each; all_met = meets_rest _ clauses on_proper.all_met }

  pub unsatisfiable_solves : (steps : List Step) → AreRefuting variables proper steps →
      IfOk r (IsUnsatisfiableReply request.log variables proper) → IfOk r Solves
  unsatisfiable_solves steps refuting = IfOk-weaker r _ _ (λ reply h.
      let on_proper : IsUnsatisfiableReply request.log variables (proper_clauses clauses) reply =
      subst (λ (cs : List (List Lit)). IsUnsatisfiableReply request.log variables cs reply) same h in
      let accepted : AreRefuting variables (proper_clauses clauses) steps =
      subst (λ (cs : List (List Lit)). AreRefuting variables cs steps) same refuting in
      subst (λ (s : Status). IsRightReply request variables clauses s reply.text) (sym h.status)
      (unmet_rest clauses (accepted_refutes variables (proper_clauses clauses) steps accepted.accepted), on_proper.tells))

-- the text of a solver's log spells a refutation
pub refuting_spelled : (variables : ℕ) (clauses : List (List Lit)) (steps : List Step) (text : List ℕ) → variables ≤ 1048576 →
    length clauses ≤ 2000000 → length steps < 200000000000000000 → AreRefuting variables clauses steps →
    All (IsClauseOver variables) clauses → All (λ step. IsIncreasing step.clause) steps → text ≡ [] ++ refutation_text variables clauses steps →
    SpellsRefutation text variables clauses
refuting_spelled variables clauses steps text few within short refuting each rising is =
    subst (λ (t : List ℕ). SpellsRefutation t variables clauses) (sym is)
    (refutation_spelled variables clauses steps (record { few_variables = few; few_clauses = within; each = each })
    (are_readable variables clauses steps few within short refuting.numbered refuting.accepted rising) refuting.accepted)
