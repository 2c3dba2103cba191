-- The commands, their arguments, and what words ask for.
use Rattle.std.specs.Prelude.{◌≡◌, ◌≤◌, ◌&&◌, ℕ, Bool, true, false, List, [], ◌∷◌, codes, Option, Some, None, if◌then◌else◌}
use Rattle.std.specs.Prelude.{is_some, option_and_then}
use Rattle.std.specs.Option.{option_map_or}
use Rattle.std.specs.Str.{bytes_eq}
use Rattle.clap.specs.Words.{App, Rule, Text}
use Rattle.command_words.specs.Arguments.{command_with, given_word, number_option, number_positional, takes_words}
use Rattle.command_words.specs.Arguments.{word_option, written_number}
use Rattle.command_words.specs.Bounds.{bound_named}
use Rattle.command_words.specs.declared.synth_bound.SynthBound.{SynthBound}
use Rattle.command_words.specs.declared.command_word.CommandWord.{CommandWord}
use Rattle.command_words.specs.declared.command_word.CommandWord.TheVariants as word
use Rattle.command_words.specs.declared.task.Task.{Task}
use Rattle.command_words.specs.declared.task.Task.TheVariants as task
use Rattle.command_words.specs.declared.task.SynthSizes.{SynthSizes}
use Rattle.command_words.specs.declared.task.ProveSizes.{ProveSizes}

abbrev pub word_text : CommandWord → Text
word_text word.Synth = codes "synth"
word_text word.Check = codes "check"
word_text word.Run = codes "run"
word_text word.Prove = codes "prove"
word_text word.Recheck = codes "recheck"
word_text word.Gen = codes "gen"
word_text word.Circuit = codes "circuit"
word_text word.Automaton = codes "automaton"
word_text word.Accepts = codes "accepts"

-- the arguments of a command: each with its name, its least and its greatest number and, for an option, its default
abbrev pub command_arguments : CommandWord → List Rule
command_arguments word.Synth =
    number_option (codes "states") 1 8 (codes "2")
    ∷ word_option (codes "bound") (codes "2")
    ∷ number_option (codes "env-states") 1 8 (codes "2")
    ∷ number_option (codes "env-bound") 0 15 (codes "2")
    ∷ number_option (codes "depth") 1 3 (codes "2")
    ∷ number_option (codes "rounds") 0 64 (codes "8")
    ∷ number_option (codes "budget") 1 1000000 (codes "20000") ∷ []
command_arguments word.Check = number_option (codes "bound") 0 15 (codes "2") ∷ []
command_arguments word.Run = []
command_arguments word.Prove =
    number_option (codes "states") 1 8 (codes "2")
    ∷ number_option (codes "bound") 0 15 (codes "2")
    ∷ number_option (codes "budget") 1 1000000 (codes "20000") ∷ []
command_arguments word.Recheck = []
command_arguments word.Gen = number_positional (codes "n") 1 5 ∷ []
command_arguments word.Circuit = number_option (codes "bound") 0 15 (codes "2") ∷ []
command_arguments word.Automaton = []
command_arguments word.Accepts = []

-- the simple command of `clap` that reads the words of a command
abbrev pub command : CommandWord → App
command w = command_with (word_text w) (command_arguments w)

-- the command that a word names
abbrev pub command_word : Text → Option CommandWord
command_word text = if bytes_eq text (codes "synth") then Some word.Synth
    else (if bytes_eq text (codes "check") then Some word.Check
    else (if bytes_eq text (codes "run") then Some word.Run
    else (if bytes_eq text (codes "prove") then Some word.Prove
    else (if bytes_eq text (codes "recheck") then Some word.Recheck
    else (if bytes_eq text (codes "gen") then Some word.Gen
    else (if bytes_eq text (codes "circuit") then Some word.Circuit
    else (if bytes_eq text (codes "automaton") then Some word.Automaton
    else (if bytes_eq text (codes "accepts") then Some word.Accepts else None))))))))

-- where a command looks its bound up, the word that it is given names one
abbrev pub has_bound : CommandWord → (Text → Option Text) → Bool
has_bound word.Synth given = is_some (option_and_then bound_named (given (codes "bound")))
has_bound word.Check given = true
has_bound word.Run given = true
has_bound word.Prove given = true
has_bound word.Recheck given = true
has_bound word.Gen given = true
has_bound word.Circuit given = true
has_bound word.Automaton given = true
has_bound word.Accepts given = true

-- the first word is a command, `clap` takes the words for it, and the bound of `synth` is named
abbrev pub are_taken : List Text → Bool
are_taken [] = false
are_taken (first ∷ rest) =
    option_map_or (λ w. takes_words (command w) (first ∷ rest) && has_bound w (given_word (command w) (first ∷ rest)))
    (command_word first) false

-- an argument is given the word for this number, which lies in its range
abbrev pub IsGivenWithin : ℕ → ℕ → Option Text → ℕ → Type 0
IsGivenWithin least most given n = (option_and_then written_number given ≡ Some n) × (least ≤ n) × (n ≤ most)

-- an argument is given the word for this bound
abbrev pub IsGivenBound : Option Text → SynthBound → Type 0
IsGivenBound given bound = option_and_then bound_named given ≡ Some bound

pub record AreSynthSizes (given : Text → Option Text) (sizes : SynthSizes) : Type 0 where
  pub states : IsGivenWithin 1 8 (given (codes "states")) sizes.states
  pub bound : IsGivenBound (given (codes "bound")) sizes.bound
  pub env_states : IsGivenWithin 1 8 (given (codes "env-states")) sizes.env_states
  pub env_bound : IsGivenWithin 0 15 (given (codes "env-bound")) sizes.env_bound
  pub depth : IsGivenWithin 1 3 (given (codes "depth")) sizes.depth
  pub rounds : IsGivenWithin 0 64 (given (codes "rounds")) sizes.rounds
  pub budget : IsGivenWithin 1 1000000 (given (codes "budget")) sizes.budget

pub record AreProveSizes (given : Text → Option Text) (sizes : ProveSizes) : Type 0 where
  pub states : IsGivenWithin 1 8 (given (codes "states")) sizes.states
  pub bound : IsGivenWithin 0 15 (given (codes "bound")) sizes.bound
  pub budget : IsGivenWithin 1 1000000 (given (codes "budget")) sizes.budget

-- the command that is asked for
abbrev pub task_word : Task → CommandWord
task_word (task.Synth sizes) = word.Synth
task_word (task.Check bound) = word.Check
task_word task.Run = word.Run
task_word (task.Prove sizes) = word.Prove
task_word task.Recheck = word.Recheck
task_word (task.Gen n) = word.Gen
task_word (task.Circuit bound) = word.Circuit
task_word task.Automaton = word.Automaton
task_word task.Accepts = word.Accepts

-- its numbers are those that its arguments have
abbrev pub AreItsNumbers : (Text → Option Text) → Task → Type 0
AreItsNumbers given (task.Synth sizes) = AreSynthSizes given sizes
AreItsNumbers given (task.Check bound) = IsGivenWithin 0 15 (given (codes "bound")) bound
AreItsNumbers given task.Run = Unit {0}
AreItsNumbers given (task.Prove sizes) = AreProveSizes given sizes
AreItsNumbers given task.Recheck = Unit {0}
AreItsNumbers given (task.Gen n) = IsGivenWithin 1 5 (given (codes "n")) n
AreItsNumbers given (task.Circuit bound) = IsGivenWithin 0 15 (given (codes "bound")) bound
AreItsNumbers given task.Automaton = Unit {0}
AreItsNumbers given task.Accepts = Unit {0}

-- The words ask for this: the first names its command, `clap` takes them for that command, and its numbers are those of the words
-- that `clap` gives the command's arguments.
abbrev pub ParsesTo : List Text → Task → Type 0
ParsesTo [] task = ⊥
ParsesTo (first ∷ rest) task =
    (command_word first ≡ Some (task_word task)) × (takes_words (command (task_word task)) (first ∷ rest) ≡ true)
    × AreItsNumbers (given_word (command (task_word task)) (first ∷ rest)) task
