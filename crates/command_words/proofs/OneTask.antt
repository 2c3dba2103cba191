-- Words ask for at most one thing.
use Rattle.std.proofs.Common.{◌≡◌, ℕ, true, false, List, [], ◌∷◌, Option, Some, sym, ◌∙◌, refl, ap, subst, codes}
use Rattle.std.specs.Option.{option_map_or}
use Rattle.clap.specs.Words.{Text}
use Rattle.command_words.specs.Arguments.{given_word, takes_words}
use Rattle.std.proofs.lemmas.Bool.{and_from}
use Rattle.std.specs.Prelude.{◌&&◌, is_some}
use Rattle.command_words.specs.declared.synth_bound.SynthBound.{SynthBound}
use Rattle.command_words.specs.Commands.{AreItsNumbers, ParsesTo, IsGivenBound, IsGivenWithin, are_taken, has_bound, task_word, command, command_word}
use Rattle.command_words.specs.declared.command_word.CommandWord.{CommandWord}
use Rattle.command_words.specs.declared.task.Task.{Task}
use Rattle.command_words.specs.declared.task.Task.TheVariants as task

one_number : (least most : ℕ) (given : Option Text) (m n : ℕ) → IsGivenWithin least most given m → IsGivenWithin least most given n → m ≡ n
one_number least most given m n h k = let same : Some m ≡ Some n = sym h.0 ∙ k.0 in cc

one_bound : (given : Option Text) (m n : SynthBound) → IsGivenBound given m → IsGivenBound given n → m ≡ n
one_bound given m n h k = let same : Some m ≡ Some n = sym h ∙ k in cc

-- the same command with the same numbers
same_task : (given : Text → Option Text) (a b : Task) → task_word a ≡ task_word b → AreItsNumbers given a → AreItsNumbers given b → a ≡ b
same_task given (task.Synth sizes) (task.Synth sizes') same h k =
    λ i. task.Synth (record {
      states = one_number 1 8 (given (codes "states")) _ _ h.states k.states i;
      bound = one_bound (given (codes "bound")) _ _ h.bound k.bound i;
      env_states = one_number 1 8 (given (codes "env-states")) _ _ h.env_states k.env_states i;
      env_bound = one_number 0 15 (given (codes "env-bound")) _ _ h.env_bound k.env_bound i;
      depth = one_number 1 3 (given (codes "depth")) _ _ h.depth k.depth i;
      rounds = one_number 0 64 (given (codes "rounds")) _ _ h.rounds k.rounds i;
      budget = one_number 1 1000000 (given (codes "budget")) _ _ h.budget k.budget i;
    })
same_task given (task.Check bound) (task.Check bound') same h k = λ i. task.Check (one_number 0 15 (given (codes "bound")) _ _ h k i)
same_task given task.Run task.Run same h k = refl
same_task given (task.Prove sizes) (task.Prove sizes') same h k =
    λ i. task.Prove (record {
      states = one_number 1 8 (given (codes "states")) _ _ h.states k.states i;
      bound = one_number 0 15 (given (codes "bound")) _ _ h.bound k.bound i;
      budget = one_number 1 1000000 (given (codes "budget")) _ _ h.budget k.budget i;
    })
same_task given task.Recheck task.Recheck same h k = refl
same_task given (task.Gen n) (task.Gen n') same h k = λ i. task.Gen (one_number 1 5 (given (codes "n")) _ _ h k i)
same_task given (task.Circuit bound) (task.Circuit bound') same h k = λ i. task.Circuit (one_number 0 15 (given (codes "bound")) _ _ h k i)
same_task given task.Automaton task.Automaton same h k = refl
same_task given task.Accepts task.Accepts same h k = refl
same_task given _ _ same h k = cc

some_same : (v w : CommandWord) (o : Option CommandWord) → o ≡ Some v → o ≡ Some w → v ≡ w
some_same v w o h k = let same : Some v ≡ Some w = sym h ∙ k in cc

pub one_task : (words : List Text) (a b : Task) → ParsesTo words a → ParsesTo words b → a ≡ b
one_task [] a b h k = absurd h
one_task (first ∷ rest) a b h k =
    let same = some_same (task_word a) (task_word b) (command_word first) h.0 k.0 in
    same_task (given_word (command (task_word a)) (first ∷ rest)) a b same h.2
    (subst (λ (w : CommandWord). AreItsNumbers (given_word (command w) (first ∷ rest)) b) (sym same) k.2)

-- the bound of what is asked for is named
bound_is_named : (given : Text → Option Text) (task : Task) → AreItsNumbers given task → has_bound (task_word task) given ≡ true
bound_is_named given (task.Synth sizes) h = ap is_some h.bound
bound_is_named given (task.Check bound) h = refl
bound_is_named given task.Run h = refl
bound_is_named given (task.Prove sizes) h = refl
bound_is_named given task.Recheck h = refl
bound_is_named given (task.Gen n) h = refl
bound_is_named given (task.Circuit bound) h = refl
bound_is_named given task.Automaton h = refl
bound_is_named given task.Accepts h = refl

-- words that ask for something are taken
pub asking_is_taken : (words : List Text) (task : Task) → ParsesTo words task → are_taken words ≡ true
asking_is_taken [] task h = absurd h
asking_is_taken (first ∷ rest) task h =
    let w = task_word task in
    ap (λ o. option_map_or (λ w. takes_words (command w) (first ∷ rest) && has_bound w (given_word (command w) (first ∷ rest))) o false)
    h.0
    ∙ and_from (takes_words (command w) (first ∷ rest)) (has_bound w (given_word (command w) (first ∷ rest))) h.1
    (bound_is_named (given_word (command w) (first ∷ rest)) task h.2)
