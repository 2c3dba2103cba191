-- What tasks read, and how far their searches go.
use Rattle.std.specs.Prelude.{◌≡◌, ℕ, ◌≤◌, ◌⊎◌, false, List, length, Option, Some, None}
use Rattle.command_words.specs.declared.synth_bound.SynthBound.{SynthBound}
use Rattle.command_words.specs.declared.synth_bound.SynthBound.TheVariants.{Number, Full as NamedFull}
use Rattle.command_words.specs.declared.task.SynthSizes.{SynthSizes}
use Rattle.command_words.specs.declared.task.Task.{Task}
use Rattle.command_words.specs.declared.task.Task.TheVariants.{Synth, Check, Run, Prove, Recheck, Gen, Circuit, Automaton, Accepts}
use Rattle.command_words.specs.Commands.{ParsesTo, are_taken}
use Rattle.refinement_loop.specs.declared.outcome.Bound.{Bound}
use Rattle.refinement_loop.specs.declared.outcome.Bound.TheVariants.{Fixed, Full}
use Rattle.refinement_loop.specs.declared.outcome.Search.{Search}
use Rattle.tsl_tool.specs.declared.tasks.TheConstants.{MOST_SPECIFICATION_BYTES, MOST_RUN_BYTES, MOST_LOG_BYTES}

-- the most bytes that a task reads, where it reads any
abbrev pub most_bytes : Task → Option ℕ
most_bytes (Synth sizes) = Some MOST_SPECIFICATION_BYTES
most_bytes (Check bound) = Some MOST_RUN_BYTES
most_bytes Run = Some MOST_RUN_BYTES
most_bytes (Prove sizes) = Some MOST_SPECIFICATION_BYTES
most_bytes Recheck = Some MOST_LOG_BYTES
most_bytes (Gen n) = None
most_bytes (Circuit bound) = Some MOST_RUN_BYTES
most_bytes Automaton = Some MOST_SPECIFICATION_BYTES
most_bytes Accepts = Some MOST_RUN_BYTES

-- the bytes are no more than may be read, where any are
abbrev pub AreFewBytes : Option ℕ → List ℕ → Type 0
AreFewBytes (Some most) bytes = length bytes ≤ most
AreFewBytes None bytes = Unit {0}

-- nothing is read for these words: they are refused, or they ask for what reads nothing
abbrev pub ReadNothing : List (List ℕ) → Type 0
ReadNothing words = (are_taken words ≡ false) ⊎ ((task : Task) × ParsesTo words task × (most_bytes task ≡ None))

-- the bound that a word names
abbrev pub bound_asked : SynthBound → Bound
bound_asked (Number number) = Fixed number
bound_asked NamedFull = Full

-- how far the search of `synth` goes
abbrev pub search_sizes : SynthSizes → Search
search_sizes sizes = record {
  states = sizes.states;
  bound = bound_asked sizes.bound;
  env_states = sizes.env_states;
  env_bound = sizes.env_bound;
  depth = sizes.depth;
  rounds = sizes.rounds;
  budget = sizes.budget;
}
