-- What is known of bytes that `check` and `circuit` read: their program is accepted under their specification, or what `check`
-- replies says why it is not.
use Rattle.std.specs.Prelude.{◌≢◌, ℕ, List}
use Rattle.tsl_terms.specs.Name.{Name}
use Rattle.tsl_terms.specs.SpecTree.{SpecTree}
use Rattle.tsl_terms.specs.SpecView.{spec_tree}
use Rattle.tsl_terms.specs.WellFormed.{SpecFits}
use Rattle.program_tree.specs.ProgramTree.{ProgramTree}
use Rattle.program_tree.specs.ProgramView.{program_tree}
use Rattle.tsl_meaning.specs.Promise.{Realizes}
use Rattle.program_check.specs.declared.verdict.Verdict.TheVariants.{Yes}
use Rattle.program_check.specs.Verdicts.{HasFewBits, IsVerdict}
use Rattle.tool_io.specs.declared.status.Status.TheVariants.{Done}
use Rattle.checking_commands.specs.Check.{CheckParts, AreCheckParts, SpellCheckInput, CheckOutcome}
use Rattle.checking_commands.specs.declared.checking.Judged.{Judged}
use Rattle.checking_commands.specs.declared.checking.Judged.TheVariants.{Accepted, Replied}

-- The parts spell a specification, which is within the limits of bits, and a program, whose verdict at this bound is yes, so that it
-- realizes the specification.
pub record AreAcceptedTexts (bound : ℕ) (parts : CheckParts) (spec : SpecTree) (program : ProgramTree) : Type 0 where
  pub names : List Name
  pub spelled : SpellCheckInput parts (record { spec = spec; names = names; program = program })
  pub fits : SpecFits spec
  pub few_bits : HasFewBits spec
  pub is_verdict : IsVerdict spec program bound Yes
  pub realizes : Realizes spec program

-- so do the parts of the bytes
pub record IsAcceptedPair (bound : ℕ) (bytes : List ℕ) (spec : SpecTree) (program : ProgramTree) : Type 0 where
  pub parts : CheckParts
  pub are_parts : AreCheckParts bytes parts
  pub accepted : AreAcceptedTexts bound parts spec program

abbrev pub IsJudged : ℕ → List ℕ → Judged → Type 0
IsJudged bound bytes (Accepted spec program) = IsAcceptedPair bound bytes (spec_tree spec) (program_tree program)
IsJudged bound bytes (Replied reply) = CheckOutcome bound bytes reply × (reply.status ≢ Done)
