-- What the command `gen` replies.
use Rattle.std.specs.Prelude.{◌≡◌, ℕ, Bool, true, false, List, [], length, cond}
use Rattle.tsl_terms.specs.SpecTree.{SpecTree}
use Rattle.tsl_reader.specs.Spells.{Spells}
use Rattle.program_tree.specs.ProgramTree.{ProgramTree}
use Rattle.tsl_meaning.specs.Promise.{Realizes}
use Rattle.letter_space.specs.SpaceTree.{SpaceTree, choice_count}
use Rattle.letter_space.specs.SpecSpace.{spec_space}
use Rattle.program_check.specs.declared.verdict.Limit.{Limit}
use Rattle.refinement_loop.specs.declared.outcome.Bound.TheVariants.{Fixed}
use Rattle.refinement_loop.specs.Questions.{HasNoSolution, IsWrittenFor}
use Rattle.refinement_loop.specs.Outcomes.{IsLargeFor}
use Rattle.generator.specs.Generated.{generated_text, summary_text}
use Rattle.tool_io.specs.declared.status.Status.TheVariants.{Done, No, Spent}
use Rattle.tool_io.specs.declared.reply.Reply.{Reply}
use Rattle.command_faults.specs.Refusals.{fault_at_limit}
use Rattle.command_faults.specs.Replies.{fault_reply}
use Rattle.synthesis_commands.specs.Synth.{TellsSpentOn}

-- the summary of a number, with the predicate terms and the choices that these bits have
abbrev pub bits_summary : ℕ → SpaceTree → Bool → List ℕ
bits_summary n space has_program = summary_text n (length space.predicates) (choice_count space.controlled) has_program

-- what is said of a program that is there, and of one that is not
abbrev pub summary_reply : ℕ → SpaceTree → Bool → Reply
summary_reply n space has_program = record { status = cond has_program Done No; text = bits_summary n space has_program }

-- The program of a controller with so many states, which has an annotation within the same bound, realizes the specification, and
-- the text says that there is one.
pub record TellsProgram (n : ℕ) (spec : SpecTree) (text : List ℕ) : Type 0 where
  pub program : ProgramTree
  pub controlled : IsWrittenFor spec [] n (Fixed n) program
  pub realizes : Realizes spec program
  pub text_is : text ≡ bits_summary n (spec_space spec) true

-- no controller with so many states has an annotation within the same bound, and the text says so
pub record TellsNoProgram (n : ℕ) (spec : SpecTree) (text : List ℕ) : Type 0 where
  pub none : HasNoSolution spec [] n (Fixed n)
  pub text_is : text ≡ bits_summary n (spec_space spec) false

-- what is replied to the generated specification
pub data SummaryOutcome (n : ℕ) (spec : SpecTree) (reply : Reply) : Type 0 where
  -- there is a program
  found : reply.status ≡ Done → TellsProgram n spec reply.text → SummaryOutcome n spec reply
  -- there is no controller of this size
  none : reply.status ≡ No → TellsNoProgram n spec reply.text → SummaryOutcome n spec reply
  -- the budget is spent
  spent : reply.status ≡ Spent → TellsSpentOn spec n n 20000 reply.text → SummaryOutcome n spec reply
  -- a limit is passed
  too_large : (limit : Limit) → IsLargeFor spec [] n (Fixed n) limit → reply ≡ fault_reply (fault_at_limit limit) → SummaryOutcome n spec reply

-- the text of the number spells a specification, and this is replied to it
abbrev pub OfGenerated : ℕ → (SpecTree → Type 0) → Type 0
OfGenerated n P = (spec : SpecTree) × Spells (generated_text n) spec × P spec

abbrev pub GenOutcome : ℕ → Reply → Type 0
GenOutcome n reply = OfGenerated n (λ spec. SummaryOutcome n spec reply)
