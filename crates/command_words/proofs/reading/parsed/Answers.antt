use Rattle.std.proofs.Common.{◌≡◌, ◌∙◌, ap, ap₂, refl, map, string_bytes, inl, inr, true}
use Rattle.clap.specs.Words.{app_of, is_simple_and_free}
use Rattle.clap.specs.Simple.{matches_of}
use Rattle.clap.proofs.WalkLemmas.{both}
use Rattle.command_words.specs.Arguments.{command_with}
use Rattle.command_words.specs.Commands.{command}
use Rattle.command_words.specs.declared.command_word.CommandWord.{CommandWord}
use Rattle.command_words.specs.declared.command_word.CommandWord.TheVariants as word
use Rattle.command_words.proofs.NumbersRead.{word_of_rows}
use Rattle.command_words.proofs.TakenWords.{refused_where, taken_where}
use Rattle.command_words.proofs.reading.parsed.Goals as goal

-- each command is simple
is_simple_command : (w : CommandWord) → is_simple_and_free (command w) ≡ true
is_simple_command word.Synth = refl
is_simple_command word.Check = refl
is_simple_command word.Run = refl
is_simple_command word.Prove = refl
is_simple_command word.Recheck = refl
is_simple_command word.Gen = refl
is_simple_command word.Circuit = refl
is_simple_command word.Automaton = refl
is_simple_command word.Accepts = refl

pub returns-in-Ok-clause-taken : goal.returns-in-Ok-clause-taken
returns-in-Ok-clause-taken c =
    let is : app_of c.in_ok-command.command ≡ command c.args.word = c.in_ok-command.ensures ∙ ap₂ command_with c.text.ensures
    c.arguments.ensures in
    taken_where _ _ (map string_bytes c.args.words.now) is
    (c.in-Ok.ensures.kinds (ap is_simple_and_free is ∙ is_simple_command c.args.word))

pub returns-in-Ok-clause-given : goal.returns-in-Ok-clause-given
returns-in-Ok-clause-given c =
    let is : app_of c.in_ok-command.command ≡ command c.args.word = c.in_ok-command.ensures ∙ ap₂ command_with c.text.ensures
    c.arguments.ensures in
    let words = map string_bytes c.args.words.now in
    let simple = (both _ _ (ap is_simple_and_free is ∙ is_simple_command c.args.word)).0 in
    word_of_rows (command c.args.word) words c.in-Ok.matches ((c.in-Ok.ensures.matches simple).0 ∙ ap (λ a. matches_of a words) is)

pub returns-in-Ok-clause-from : goal.returns-in-Ok-clause-from
returns-in-Ok-clause-from c =
    (c.in_ok-command.command, c.in_ok-command.ensures ∙ ap₂ command_with c.text.ensures c.arguments.ensures, c.in-Ok.ensures.parsed)

pub returns-in-Err-clause-refused : goal.returns-in-Err-clause-refused
returns-in-Err-clause-refused c = λ usage.
    let is : app_of c.in_ok-command.command ≡ command c.args.word = c.in_ok-command.ensures ∙ ap₂ command_with c.text.ensures
    c.arguments.ensures in
    elim (c.in-Err.ensures.kinds (ap is_simple_and_free is ∙ is_simple_command c.args.word)) [
      | inl memory ↦ absurd (c.refusal.ensures usage (c.kind.ensures ∙ memory))
      | inr among ↦ refused_where _ _ (map string_bytes c.args.words.now) _ is among
    ]
