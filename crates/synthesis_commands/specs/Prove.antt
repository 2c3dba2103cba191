-- What the command `prove` replies.
use Rattle.std.specs.Prelude.{◌≡◌, ℕ, List, [], ◌++◌, codes, Option}
use Rattle.tsl_terms.specs.SpecTree.{SpecTree, whole_formula}
use Rattle.tsl_reader.specs.Spells.{Spells}
use Rattle.machines.specs.declared.side.Side.TheVariants.{Controller}
use Rattle.machines.specs.MachineTree.{ControllerTree}
use Rattle.program_check.specs.declared.verdict.Limit.{Limit}
use Rattle.refutation_check.specs.declared.steps.Step.{Step}
use Rattle.refutation_text.specs.Parted.{SpellsRefutation}
use Rattle.refutation_text.specs.Written.{comment_text, refutation_text}
use Rattle.bounded_encoding.specs.Question.{QuestionTree, IsSolution}
use Rattle.bounded_encoding.specs.Variables.{variable_count}
use Rattle.bounded_encoding.specs.Encoding.{encoding}
use Rattle.refinement_loop.specs.declared.outcome.Bound.TheVariants.{Fixed}
use Rattle.refinement_loop.specs.Questions.{IsAsked, HasFewClauses, HasNoSolution}
use Rattle.refinement_loop.specs.Outcomes.{IsLargeFor}
use Rattle.tsl_report.specs.declared.fault.Fault.{Fault}
use Rattle.formula_text.specs.FormulaText.{formula_text}
use Rattle.tool_io.specs.declared.status.Status.TheVariants.{Done, No, Spent}
use Rattle.command_words.specs.declared.task.ProveSizes.{ProveSizes}
use Rattle.tool_io.specs.declared.reply.Reply.{Reply}
use Rattle.command_faults.specs.Refusals.{HasSpecFault, fault_at_limit}
use Rattle.command_faults.specs.Replies.{fault_reply}
use Rattle.synthesis_commands.specs.Synth.{TellsSpentOn}

-- the text of a proof for a question: the whole formula as a comment, the clauses that encode the question, and a log
abbrev pub proof_text : SpecTree → QuestionTree → List Step → List ℕ
proof_text spec question steps =
    comment_text (formula_text spec.names (whole_formula spec))
    ++ refutation_text (variable_count question) (encoding question) steps

-- The text is that of a proof that no controller with so many states has an annotation within the bound. It spells a refutation of
-- the clauses that encode the question, which `recheck` verifies, and there is no such controller.
pub record IsProof (sizes : ProveSizes) (spec : SpecTree) (text : List ℕ) : Type 0 where
  pub question : QuestionTree
  pub asked : IsAsked Controller spec [] sizes.states (Fixed sizes.bound) question
  pub steps : List Step
  pub text_is : text ≡ proof_text spec question steps
  pub spelled : SpellsRefutation text (variable_count question) (encoding question)
  pub none : HasNoSolution spec [] sizes.states (Fixed sizes.bound)

-- a controller with so many states has an annotation within the bound, and the text says so
pub record TellsSatisfiable (sizes : ProveSizes) (spec : SpecTree) (text : List ℕ) : Type 0 where
  pub question : QuestionTree
  pub asked : IsAsked Controller spec [] sizes.states (Fixed sizes.bound) question
  pub few : HasFewClauses question
  pub controller : ControllerTree
  pub number : ℕ → ℕ → Option ℕ
  pub solution : IsSolution question controller number
  pub text_is : text ≡ codes "satisfiable\n"

-- what is said where a controller of the size has an annotation within the bound
abbrev pub satisfiable_reply : Reply
satisfiable_reply = record { status = No; text = codes "satisfiable\n" }

-- what is replied to a specification
pub data QuestionOutcome (sizes : ProveSizes) (spec : SpecTree) (reply : Reply) : Type 0 where
  -- no controller of the size has an annotation within the bound, by a proof
  proved : reply.status ≡ Done → IsProof sizes spec reply.text → QuestionOutcome sizes spec reply
  -- one has
  satisfiable : reply.status ≡ No → TellsSatisfiable sizes spec reply.text → QuestionOutcome sizes spec reply
  -- the budget is spent
  spent : reply.status ≡ Spent → TellsSpentOn spec sizes.states sizes.bound sizes.budget reply.text → QuestionOutcome sizes spec reply
  -- a limit is passed
  too_large : (limit : Limit) → IsLargeFor spec [] sizes.states (Fixed sizes.bound) limit → reply ≡ fault_reply (fault_at_limit limit) →
      QuestionOutcome sizes spec reply

pub data ProveOutcome (sizes : ProveSizes) (bytes : List ℕ) (reply : Reply) : Type 0 where
  -- the bytes are refused at a fault
  refused : (fault : Fault) → HasSpecFault bytes fault → reply ≡ fault_reply fault → ProveOutcome sizes bytes reply
  -- they spell a specification
  of_spec : (spec : SpecTree) → Spells bytes spec → QuestionOutcome sizes spec reply → ProveOutcome sizes bytes reply
