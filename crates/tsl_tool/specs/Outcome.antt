-- What the words and the bytes of the source may lead to: a reply, which is a status and one text.
use Rattle.std.specs.Prelude.{◌≡◌, ◌≢◌, ℕ, ◌<◌, false, List, length, Some, None}
use Rattle.command_words.specs.declared.task.Task.{Task}
use Rattle.command_words.specs.declared.task.Task.TheVariants.{Synth, Check, Run, Prove, Recheck, Gen, Circuit, Automaton, Accepts}
use Rattle.command_words.specs.Commands.{ParsesTo, are_taken}
use Rattle.tsl_report.specs.declared.fault.LimitName.TheVariants.{Text}
use Rattle.tsl_report.specs.declared.fault.Fault.TheVariants.{Usage, Read, Large}
use Rattle.tool_io.specs.declared.reply.Reply.{Reply}
use Rattle.synthesis_commands.specs.Gen.{GenOutcome}
use Rattle.tsl_tool.specs.Tasks.{AreFewBytes, most_bytes, search_sizes}
use Rattle.command_faults.specs.Replies.{fault_reply}
use Rattle.synthesis_commands.specs.Synth.{SynthOutcome}
use Rattle.checking_commands.specs.Check.{CheckOutcome}
use Rattle.checking_commands.specs.Run.{RunOutcome}
use Rattle.synthesis_commands.specs.Prove.{ProveOutcome}
use Rattle.checking_commands.specs.Recheck.{RecheckOutcome}
use Rattle.exchange_commands.specs.Circuit.{CircuitOutcome}
use Rattle.exchange_commands.specs.Automaton.{AutomatonOutcome}
use Rattle.exchange_commands.specs.Accepts.{AcceptsOutcome}

-- what a task replies to bytes that are not too many
abbrev pub TaskOutcome : Task → List ℕ → Reply → Type 0
TaskOutcome (Synth sizes) bytes reply = SynthOutcome (search_sizes sizes) bytes reply
TaskOutcome (Check bound) bytes reply = CheckOutcome bound bytes reply
TaskOutcome Run bytes reply = RunOutcome bytes reply
TaskOutcome (Prove sizes) bytes reply = ProveOutcome sizes bytes reply
TaskOutcome Recheck bytes reply = RecheckOutcome bytes reply
TaskOutcome (Gen n) bytes reply = GenOutcome n reply
TaskOutcome (Circuit bound) bytes reply = CircuitOutcome bound bytes reply
TaskOutcome Automaton bytes reply = AutomatonOutcome bytes reply
TaskOutcome Accepts bytes reply = AcceptsOutcome bytes reply

pub data Outcome (words : List (List ℕ)) (bytes : List ℕ) (reply : Reply) : Type 0 where
  -- the words are refused
  usage : are_taken words ≡ false → reply ≡ fault_reply Usage → Outcome words bytes reply
  -- the source failed, which it may on all bytes, where any are read
  source_failed : (task : Task) → ParsesTo words task → most_bytes task ≢ None → reply ≡ fault_reply Read → Outcome words bytes reply
  -- there are more bytes than may be read
  too_long : (task : Task) (most : ℕ) → ParsesTo words task → most_bytes task ≡ Some most → most < length bytes →
      reply ≡ fault_reply (Large Text most) → Outcome words bytes reply
  -- what is asked for replies to the bytes
  on_bytes : (task : Task) → ParsesTo words task → AreFewBytes (most_bytes task) bytes → TaskOutcome task bytes reply →
      Outcome words bytes reply
