-- What the command `check` replies.
use Rattle.std.specs.Prelude.{◌≡◌, ◌≢◌, ℕ, List, ◌++◌, codes, decimal}
use Rattle.tsl_terms.specs.Name.{Name}
use Rattle.tsl_terms.specs.SpecTree.{SpecTree}
use Rattle.tsl_reader.specs.Spells.{Spells}
use Rattle.flow_program.specs.declared.reading.ProgramError.{ProgramError}
use Rattle.program_tree.specs.ProgramTree.{ProgramTree}
use Rattle.flow_program.specs.Reading.{IsReading, HasProgramCause}
use Rattle.tsl_meaning.specs.Promise.{Realizes}
use Rattle.program_check.specs.declared.verdict.Verdict.{Verdict}
use Rattle.program_check.specs.declared.verdict.Verdict.TheVariants.{Signals, Test, Choice, Foreign, Unsound, NoAnnotation, Yes}
use Rattle.program_check.specs.declared.verdict.Limit.{Limit}
use Rattle.program_check.specs.Verdicts.{HasFewBits, IsVerdict, IsPassed}
use Rattle.tsl_report.specs.declared.fault.Head.TheVariants.{Program}
use Rattle.tsl_report.specs.declared.fault.Fault.{Fault}
use Rattle.tsl_report.specs.declared.fault.Fault.TheVariants.{Parts}
use Rattle.tool_io.specs.declared.status.Status.TheVariants.{Done, No}
use Rattle.tool_io.specs.declared.reply.Reply.{Reply}
use Rattle.command_faults.specs.HeadLines.{HasNoLine, IsCutBefore}
use Rattle.command_faults.specs.Replies.{fault_reply}
use Rattle.checking_commands.specs.RunFaults.{IsProgramFault}
use Rattle.checking_commands.specs.RunParts.{program_line}
use Rattle.command_faults.specs.Refusals.{HasSpecFault, fault_at_limit}

-- ---- what the parts spell

-- the text of a specification, and that of a program
pub record CheckParts : Type 0 where
  pub spec : List ℕ
  pub program : List ℕ

-- the specification is all before the first line `tslprogram 1`, and the program is all from that line on
abbrev pub AreCheckParts : List ℕ → CheckParts → Type 0
AreCheckParts bytes parts = IsCutBefore bytes program_line parts.spec parts.program

-- a specification, and a program over names that begin with those of the specification
pub record CheckInput : Type 0 where
  pub spec : SpecTree
  pub names : List Name
  pub program : ProgramTree

pub record SpellCheckInput (parts : CheckParts) (input : CheckInput) : Type 0 where
  pub spec : Spells parts.spec input.spec
  pub program : IsReading parts.program input.spec.names input.program input.names

-- ---- verdicts

-- the line of a verdict that the program is refused
abbrev pub refused_reply : List ℕ → Reply
refused_reply what = record { status = No; text = codes "refused " ++ what ++ codes "\n" }

-- the line of a verdict, for annotations within a bound
abbrev pub verdict_reply : ℕ → Verdict → Reply
verdict_reply bound Yes = record { status = Done; text = codes "accepted\n" }
verdict_reply bound Signals = refused_reply (codes "signals")
verdict_reply bound (Test i) = refused_reply (codes "test " ++ decimal i)
verdict_reply bound (Choice i) = refused_reply (codes "choice " ++ decimal i)
verdict_reply bound (Foreign i) = refused_reply (codes "foreign " ++ decimal i)
verdict_reply bound (Unsound i) = refused_reply (codes "window " ++ decimal i)
verdict_reply bound NoAnnotation = refused_reply (codes "bound " ++ decimal bound)

-- ---- the reply

-- what is replied to a specification and a program
pub data VerdictOutcome (bound : ℕ) (spec : SpecTree) (program : ProgramTree) (reply : Reply) : Type 0 where
  -- a limit is passed
  too_large : (limit : Limit) → IsPassed spec program limit → reply ≡ fault_reply (fault_at_limit limit) →
      VerdictOutcome bound spec program reply
  -- within the limits of bits there is a verdict, and a program that is accepted realizes the specification
  judged : (verdict : Verdict) → HasFewBits spec → IsVerdict spec program bound verdict → (verdict ≡ Yes → Realizes spec program) →
      reply ≡ verdict_reply bound verdict → VerdictOutcome bound spec program reply

pub data TextsOutcome (bound : ℕ) (parts : CheckParts) (reply : Reply) : Type 0 where
  -- the specification is refused at a fault, or the program is
  spec_refused : (fault : Fault) → HasSpecFault parts.spec fault → reply ≡ fault_reply fault → TextsOutcome bound parts reply
  program_refused : (spec : SpecTree) (error : ProgramError) (fault : Fault) → Spells parts.spec spec →
      HasProgramCause parts.program spec.names error → IsProgramFault parts.program error fault → reply ≡ fault_reply fault →
      TextsOutcome bound parts reply
  -- the parts spell both
  both_spelled : (input : CheckInput) → SpellCheckInput parts input → VerdictOutcome bound input.spec input.program reply →
      TextsOutcome bound parts reply

pub data CheckOutcome (bound : ℕ) (bytes : List ℕ) (reply : Reply) : Type 0 where
  -- there is no program
  without_program : HasNoLine bytes program_line → reply ≡ fault_reply (Parts Program) → CheckOutcome bound bytes reply
  -- there are both parts
  of_texts : (parts : CheckParts) → AreCheckParts bytes parts → TextsOutcome bound parts reply → CheckOutcome bound bytes reply

-- ---- what the answers promise

-- The bytes spell a specification, which is within the limits of bits, and a program, whose verdict at this bound is yes. The program
-- realizes the specification: each of its windows is congruent, and every closed run of it, under every finite interpretation and
-- every input loop, meets the formula of each window and the whole formula.
pub record IsAcceptedProgram (bound : ℕ) (bytes text : List ℕ) : Type 0 where
  pub parts : CheckParts
  pub are_parts : AreCheckParts bytes parts
  pub input : CheckInput
  pub spelled : SpellCheckInput parts input
  pub few_bits : HasFewBits input.spec
  pub is_verdict : IsVerdict input.spec input.program bound Yes
  pub realizes : Realizes input.spec input.program
  pub text_is : text ≡ codes "accepted\n"

-- the bytes spell a specification within the limits of bits and a program, and the text is that of a verdict that refuses the program
pub record IsRefusedProgram (bound : ℕ) (bytes text : List ℕ) : Type 0 where
  pub parts : CheckParts
  pub are_parts : AreCheckParts bytes parts
  pub input : CheckInput
  pub spelled : SpellCheckInput parts input
  pub few_bits : HasFewBits input.spec
  pub verdict : Verdict
  pub is_verdict : IsVerdict input.spec input.program bound verdict
  pub is_refused : verdict ≢ Yes
  pub text_is : text ≡ (verdict_reply bound verdict).text
