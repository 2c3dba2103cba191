-- Words that are taken, and words that are refused.
use Rattle.std.proofs.Common.{◌≡◌, ◌∙◌, true, false, sym, ap, arith, List, [], ◌∷◌}
use Rattle.std.proofs.lemmas.Bool.{ne_eqb}
use Rattle.clap.specs.Walk.{Text, is_empty}
use Rattle.clap.specs.Kinds.{IsAmong, Kinds}
use Rattle.clap.specs.Faults.{fault_of}
use Rattle.clap.specs.declared.error.kind.ErrorKind.{ErrorKind}
use Rattle.clap.specs.Simple.{App}
use Rattle.command_words.specs.Arguments.{takes_words}

-- a command takes the words where no step of a parse fails, and refuses them where one does
pub taken_where : (a app : App) (words : List Text) → a ≡ app → fault_of a words ≡ [] → takes_words app words ≡ true
unfolding takes_words
taken_where a app words is none = ap (λ (x : App). is_empty (fault_of x words)) (sym is) ∙ ap is_empty none

pub refused_where : (a app : App) (words : List Text) (k : ErrorKind) → a ≡ app → IsAmong k (fault_of a words)
    → takes_words app words ≡ false
unfolding takes_words
refused_where a app words k is among = ap (λ (x : App). is_empty (fault_of x words)) (sym is) ∙ some_kind (fault_of a words) among
  where
    some_kind : (kinds : Kinds) → IsAmong k kinds → is_empty kinds ≡ false
    some_kind [] among = absurd among
    some_kind (x ∷ xs) among = ne_eqb _ _ (λ e. omega (arith, e))
