-- The parts of what `run` reads, and the outcomes of each stage.
use Rattle.std.proofs.Common.{◌≡◌, ℕ, ◌≤◌, ◌==◌, Bool, false, List, [], ◌∷◌, length}
use Rattle.std.specs.Prelude.{Result, Ok, Err, IfOk}
use Rattle.tsl_report.specs.declared.fault.Head.{Head}
use Rattle.tsl_report.specs.declared.fault.Fault.{Fault}
use Rattle.tsl_report.specs.declared.fault.Fault.TheVariants.{Parts}
use Rattle.tool_io.specs.declared.reply.Reply.{Reply}
use Rattle.command_faults.specs.Replies.{fault_reply}
use Rattle.tsl_text.specs.Places.{IsBetweenFeeds}
use Rattle.command_faults.specs.HeadLines.{HasNoLine}
use Rattle.checking_commands.specs.declared.parting.Style.{Style}
use Rattle.checking_commands.specs.declared.parting.Style.TheVariants.{Tables, Words}
use Rattle.checking_commands.specs.RunParts.{RunParts, AreParts, LacksPart, tables_line, words_line, line_of, other_style}
use Rattle.checking_commands.specs.internal.RunView.{IsFirstLine, HasNoMeaning}
use Rattle.checking_commands.specs.Run.{HasPartFault, RunInput, SpellRunInput, InputOutcome, PartsOutcome, part_refused, spelled, RunOutcome}
use Rattle.checking_commands.specs.Run.{missing, of_all_parts}

-- ---- the first line of tables or of machine words

pub no_meaning : (text : List ℕ) → HasNoLine text tables_line → HasNoLine text words_line → HasNoMeaning text
no_meaning text tables words Tables = tables
no_meaning text tables words Words = words

-- a first line of one style, before which none of the other begins
pub first_line : (text : List ℕ) (style : Style) (at : ℕ) → IsBetweenFeeds text (line_of style) at →
    ((other : ℕ) → IsBetweenFeeds text (line_of style) other → at ≤ other) →
    ((other : ℕ) → IsBetweenFeeds text (line_of (other_style style)) other → at ≤ other) → IsFirstLine text style at
first_line text style at is first comes_first = record {
  first = record { is_line = is; first = first };
  comes_first = comes_first;
}

-- ---- outcomes

-- what a test of a text without bytes says
pub not_empty : (xs : List ℕ) (empty : Bool) → empty ≡ (length xs == 0) → empty ≡ false → xs ≡ [] → ⊥
not_empty [] empty is some none = cc
not_empty (x ∷ xs) empty is some none = cc

-- the line of the fault of a part is an outcome
pub refused_outcome : {E : Type 0} (parts : RunParts) (fault : Fault) (r : Result Reply E) → HasPartFault parts fault →
    IfOk r (λ reply. reply ≡ fault_reply fault) → IfOk r (PartsOutcome parts)
refused_outcome parts fault (Ok reply) h is = part_refused fault h is
refused_outcome parts fault (Err e) h is = tt

-- and so is the reply to what the parts spell
pub spelled_outcome : {E : Type 0} (parts : RunParts) (input : RunInput) (r : Result Reply E) → SpellRunInput parts input →
    IfOk r (InputOutcome input) → IfOk r (PartsOutcome parts)
spelled_outcome parts input (Ok reply) h outcome = spelled input h outcome
spelled_outcome parts input (Err e) h outcome = tt

-- and the reply to the parts of the bytes
pub parts_outcome : {E : Type 0} (bytes : List ℕ) (parts : RunParts) (r : Result Reply E) → AreParts bytes parts →
    IfOk r (PartsOutcome parts) → IfOk r (RunOutcome bytes)
parts_outcome bytes parts (Ok reply) are outcome = of_all_parts parts are outcome
parts_outcome bytes parts (Err e) are outcome = tt

-- and so is the line of a missing part
pub missing_outcome : {E : Type 0} (bytes : List ℕ) (head : Head) (r : Result Reply E) → LacksPart bytes head →
    IfOk r (λ reply. reply ≡ fault_reply (Parts head)) → IfOk r (RunOutcome bytes)
missing_outcome bytes head (Ok reply) lacks is = missing head lacks is
missing_outcome bytes head (Err e) lacks is = tt
