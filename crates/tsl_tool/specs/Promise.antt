-- What the answers to tasks promise.
use Rattle.std.specs.Prelude.{◌≡◌, ℕ, List, codes}
use Rattle.command_words.specs.declared.task.Task.{Task}
use Rattle.command_words.specs.declared.task.Task.TheVariants.{Synth, Check, Run, Prove, Recheck, Gen, Circuit, Automaton, Accepts}
use Rattle.tool_io.specs.declared.status.Status.{Status}
use Rattle.tool_io.specs.declared.status.Status.TheVariants.{Done, No, Spent}
use Rattle.synthesis_commands.specs.Synth.{IsWritten, TellsNone, TellsSpent, TellsSpentOn, OfSpec}
use Rattle.synthesis_commands.specs.Prove.{IsProof, TellsSatisfiable}
use Rattle.checking_commands.specs.Check.{IsAcceptedProgram, IsRefusedProgram}
use Rattle.checking_commands.specs.Run.{AllHold, SomeFails}
use Rattle.checking_commands.specs.Recheck.{IsRefutation, IsRefused, OfParts}
use Rattle.synthesis_commands.specs.Gen.{OfGenerated, TellsProgram, TellsNoProgram}
use Rattle.exchange_commands.specs.Circuit.{IsWrittenCircuit}
use Rattle.exchange_commands.specs.Automaton.{IsWrittenAutomaton}
use Rattle.exchange_commands.specs.Accepts.{OfAcceptsInput, AcceptsInputLoop, RejectsInputLoop}
use Rattle.tsl_tool.specs.Tasks.{search_sizes}

-- What a task promises of the bytes and of the text that is written, by the status. docs/PROVED.md says it in words, a row for each
-- command, and each definition that is used here says its part.
abbrev pub Promise : Task → Status → List ℕ → List ℕ → Type 0
Promise (Synth sizes) Done bytes text = OfSpec bytes (λ spec. IsWritten (search_sizes sizes) spec text)
Promise (Synth sizes) No bytes text = OfSpec bytes (λ spec. TellsNone (search_sizes sizes) spec text)
Promise (Synth sizes) Spent bytes text = OfSpec bytes (λ spec. TellsSpent (search_sizes sizes) spec text)
Promise (Check bound) Done bytes text = IsAcceptedProgram bound bytes text
Promise (Check bound) No bytes text = IsRefusedProgram bound bytes text
Promise Run Done bytes text = AllHold bytes text
Promise Run No bytes text = SomeFails bytes text
Promise (Prove sizes) Done bytes text = OfSpec bytes (λ spec. IsProof sizes spec text)
Promise (Prove sizes) No bytes text = OfSpec bytes (λ spec. TellsSatisfiable sizes spec text)
Promise (Prove sizes) Spent bytes text = OfSpec bytes (λ spec. TellsSpentOn spec sizes.states sizes.bound sizes.budget text)
Promise Recheck Done bytes text = OfParts bytes IsRefutation × (text ≡ codes "verified\n")
Promise Recheck No bytes text = OfParts bytes IsRefused
Promise (Gen n) Done bytes text = OfGenerated n (λ spec. TellsProgram n spec text)
Promise (Gen n) No bytes text = OfGenerated n (λ spec. TellsNoProgram n spec text)
Promise (Gen n) Spent bytes text = OfGenerated n (λ spec. TellsSpentOn spec n n 20000 text)
Promise (Circuit bound) Done bytes text = IsWrittenCircuit bound bytes text
Promise (Circuit bound) No bytes text = IsRefusedProgram bound bytes text
Promise Automaton Done bytes text = OfSpec bytes (λ spec. IsWrittenAutomaton spec text)
Promise Accepts Done bytes text = OfAcceptsInput bytes AcceptsInputLoop × (text ≡ codes "accepted\n")
Promise Accepts No bytes text = OfAcceptsInput bytes RejectsInputLoop × (text ≡ codes "rejected\n")
Promise _ _ bytes text = Unit {0}
