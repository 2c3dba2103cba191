-- Words that are written out, and what the commands make of them.
use Rattle.std.proofs.Common.{◌≡◌, refl, true, false, codes, List, [], ◌∷◌, Some, None}
use Rattle.clap.specs.Walk.{Text}
use Rattle.clap.proofs.OnLiterals.{clap_on_literals}
use Rattle.command_words.specs.Arguments.{given_word, takes_words}
use Rattle.command_words.specs.Commands.{command}
use Rattle.command_words.specs.declared.command_word.CommandWord.TheVariants.{Synth, Check, Gen}
use Rattle.command_words.specs.declared.synth_bound.SynthBound.TheVariants.{Number}
use Rattle.command_words.specs.Bounds.{bound_named}

abbrev states_one : List Text
states_one = codes "synth" ∷ codes "--states" ∷ codes "1" ∷ []

takes_states_one : takes_words (command Synth) states_one ≡ true
unfolding clap_on_literals takes_words
takes_states_one = refl

one_state : given_word (command Synth) states_one (codes "states") ≡ Some (codes "1")
unfolding clap_on_literals given_word
one_state = refl

default_bound : given_word (command Synth) states_one (codes "bound") ≡ Some (codes "2")
unfolding clap_on_literals given_word
default_bound = refl

nine_states : takes_words (command Synth) (codes "synth" ∷ codes "--states" ∷ codes "9" ∷ []) ≡ false
unfolding clap_on_literals takes_words
nine_states = refl

asks_for_help : takes_words (command Synth) (codes "synth" ∷ codes "--help" ∷ []) ≡ false
unfolding clap_on_literals takes_words
asks_for_help = refl

minus_zero : given_word (command Check) (codes "check" ∷ codes "--bound=-0" ∷ []) (codes "bound") ≡ Some (codes "0")
unfolding clap_on_literals given_word
minus_zero = refl

fifteen : bound_named (codes "15") ≡ Some (Number 15)
fifteen = refl

no_zero_before : bound_named (codes "02") ≡ None
no_zero_before = refl

gen_zero_three : given_word (command Gen) (codes "gen" ∷ codes "--" ∷ codes "03" ∷ []) (codes "n") ≡ Some (codes "03")
unfolding clap_on_literals given_word
gen_zero_three = refl

gen_alone : takes_words (command Gen) (codes "gen" ∷ []) ≡ false
unfolding clap_on_literals takes_words
gen_alone = refl
