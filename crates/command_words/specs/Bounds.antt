-- The bounds of `synth`, and the words that name them.
use Rattle.std.specs.Prelude.{◌≡◌, List, [], ◌∷◌, Option, Some, Result, Ok, codes, if◌then◌else◌, position, option_map}
use Rattle.std.specs.Prelude.{MatchOption, IsErr}
use Rattle.std.specs.Str.{bytes_eq}
use Rattle.clap.specs.Words.{Text}
use Rattle.command_words.specs.declared.synth_bound.SynthBound.{SynthBound}
use Rattle.command_words.specs.declared.synth_bound.SynthBound.TheVariants.{Number, Full}

-- the numbers that may be named, each at the place that it counts
abbrev pub number_words : List Text
number_words =
    codes "0" ∷ codes "1" ∷ codes "2" ∷ codes "3" ∷ codes "4" ∷ codes "5" ∷ codes "6" ∷ codes "7" ∷ codes "8" ∷ codes "9" ∷ codes "10"
    ∷ codes "11" ∷ codes "12" ∷ codes "13" ∷ codes "14" ∷ codes "15" ∷ []

-- the bound that a word names: the full one, or a number
abbrev pub bound_named : Text → Option SynthBound
bound_named word =
    if bytes_eq word (codes "full") then Some Full else option_map Number (position (λ name. bytes_eq name word) number_words)

-- what is named is read, and where nothing is named the word is refused
abbrev pub IsNamed : {X E : Type 0} → Option X → Result X E → Type 0
IsNamed named r = MatchOption named (IsErr r) (λ x. r ≡ Ok x)
