use Rattle.std.proofs.Common.{◌≡◌, ◌∙◌, sym, ◌<◌, ◌^◌, ℕ, true, refl, arith, codes, Some}
use Rattle.std.specs.Prelude.{slice_get}
use Rattle.clap.specs.Walk.{Text}
use Rattle.clap.specs.Simple.{is_ready}
use Rattle.clap.specs.declared.parser.matches.ArgMatches.{ArgMatches}
use Rattle.command_words.specs.Arguments.{number_option}
use Rattle.command_words.specs.internal.Matches.{ParsedBy, matched_number, matched_word}
use Rattle.command_words.specs.Commands.{IsGivenWithin, command_arguments, command, word_text}
use Rattle.command_words.specs.declared.command_word.CommandWord.{CommandWord}
use Rattle.command_words.specs.declared.command_word.CommandWord.TheVariants as word
use Rattle.command_words.proofs.ArgumentPlaces.{is_own, only_at}
use Rattle.command_words.proofs.NumbersInRange.{option_in, positional_in}
use Rattle.command_words.proofs.reading.task_by.Goals as goal

is_ready_command : (w : CommandWord) → is_ready (command w).top ≡ true
is_ready_command word.Synth = refl
is_ready_command word.Check = refl
is_ready_command word.Run = refl
is_ready_command word.Prove = refl
is_ready_command word.Recheck = refl
is_ready_command word.Gen = refl
is_ready_command word.Circuit = refl
is_ready_command word.Automaton = refl
is_ready_command word.Accepts = refl

-- the option at a place of a command's arguments
given : (w : CommandWord) (m : ArgMatches) → ParsedBy (command w) m
    → (k : ℕ) (id : Text) (low high : ℕ) (default : Text) → slice_get (command_arguments w) k ≡ Some (number_option id low high default)
    → is_own id ≡ true → only_at id (command_arguments w) k ≡ true → high < 2 ^ 32
    → (x : ℕ) → ((n : ℕ) → matched_number m id ≡ Some n → n < 2 ^ 32 → x ≡ n) → IsGivenWithin low high (matched_word m id) x
given w = option_in (word_text w) (command_arguments w) (is_ready_command w)

pub returns-in_ok-bound-in-Synth-clause-numbers : goal.returns-in_ok-bound-in-Synth-clause-numbers
returns-in_ok-bound-in-Synth-clause-numbers c =
    let m = c.args.matches.now in
    let p : ParsedBy (command word.Synth) m = rw c.in-Synth.is at c.requires in
    record {
      states = given word.Synth m p 0 (codes "states") 1 8 (codes "2") refl refl refl (omega arith) c.number.result c.number.ensures;
      bound = sym c.in_ok-bound-in-Synth.ensures;
      env_states = given word.Synth m p 2 (codes "env-states") 1 8 (codes "2") refl refl refl (omega arith) c.number-in-Synth.result
          c.number-in-Synth.ensures;
      env_bound = given word.Synth m p 3 (codes "env-bound") 0 15 (codes "2") refl refl refl (omega arith) c.number-in-Synth-2.result
          c.number-in-Synth-2.ensures;
      depth = given word.Synth m p 4 (codes "depth") 1 3 (codes "2") refl refl refl (omega arith) c.number-in-Synth-3.result
          c.number-in-Synth-3.ensures;
      rounds = given word.Synth m p 5 (codes "rounds") 0 64 (codes "8") refl refl refl (omega arith) c.number-in-Synth-4.result
          c.number-in-Synth-4.ensures;
      budget = given word.Synth m p 6 (codes "budget") 1 1000000 (codes "20000") refl refl refl (omega arith) c.from.result
          (λ n is small. c.from.ensures ∙ c.number-in-Synth-5.ensures n is small);
    }

pub returns-in-Check-clause-numbers : goal.returns-in-Check-clause-numbers
returns-in-Check-clause-numbers c =
    let m = c.args.matches.now in
    let p : ParsedBy (command word.Check) m = rw c.in-Check.is at c.requires in
    given word.Check m p 0 (codes "bound") 0 15 (codes "2") refl refl refl (omega arith) c.number-in-Check.result
    c.number-in-Check.ensures

pub returns-in-Prove-clause-numbers : goal.returns-in-Prove-clause-numbers
returns-in-Prove-clause-numbers c =
    let m = c.args.matches.now in
    let p : ParsedBy (command word.Prove) m = rw c.in-Prove.is at c.requires in
    record {
      states = given word.Prove m p 0 (codes "states") 1 8 (codes "2") refl refl refl (omega arith) c.number-in-Prove.result
          c.number-in-Prove.ensures;
      bound = given word.Prove m p 1 (codes "bound") 0 15 (codes "2") refl refl refl (omega arith) c.number-in-Prove-2.result
          c.number-in-Prove-2.ensures;
      budget = given word.Prove m p 2 (codes "budget") 1 1000000 (codes "20000") refl refl refl (omega arith) c.from-in-Prove.result
          (λ n is small. c.from-in-Prove.ensures ∙ c.number-in-Prove-3.ensures n is small);
    }

pub returns-in-Gen-clause-numbers : goal.returns-in-Gen-clause-numbers
returns-in-Gen-clause-numbers c =
    let m = c.args.matches.now in
    let p : ParsedBy (command word.Gen) m = rw c.in-Gen.is at c.requires in
    positional_in (codes "gen") (command_arguments word.Gen) refl refl m p 0 (codes "n") 1 5 refl refl refl (omega arith)
    c.number-in-Gen.result c.number-in-Gen.ensures

pub returns-in-Circuit-clause-numbers : goal.returns-in-Circuit-clause-numbers
returns-in-Circuit-clause-numbers c =
    let m = c.args.matches.now in
    let p : ParsedBy (command word.Circuit) m = rw c.in-Circuit.is at c.requires in
    given word.Circuit m p 0 (codes "bound") 0 15 (codes "2") refl refl refl (omega arith) c.number-in-Circuit.result
    c.number-in-Circuit.ensures
