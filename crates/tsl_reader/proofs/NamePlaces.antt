-- The first name of a text that is such, and its token.
use Rattle.std.proofs.Common.{◌≡◌, ℕ, ◌<◌, Bool, true, false, not, List, [], ◌∷◌, length, refl, ap, ◌∙◌, arith}
use Rattle.std.specs.Prelude.{Some, None, position, slice_get}
use Rattle.std.specs.List.{list_all, list_any}
use Rattle.std.specs.Option.{is_some}
use Rattle.std.proofs.lemmas.Bool.Decides.{nat_tests}
use Rattle.std.proofs.lemmas.Grind.{common_steps}
use Rattle.std.proofs.lemmas.Iterator.Adapters.{position_from-zero}
use Rattle.std.proofs.lemmas.List.{length-map}
use Rattle.base_library.proofs.Options.{none_is}
use Rattle.base_library.proofs.Places.{slice_get_some}
use Rattle.tsl_text.specs.declared.Token.{Token}
use Rattle.tsl_text.specs.Lexeme.{token_text}
use Rattle.spec_syntax.specs.Syntax.{Terminal, Declaration}
use Rattle.name_resolution.specs.Occurrences.{Occurrence}
use Rattle.name_resolution.specs.WellDeclared.{names_in}
use Rattle.name_resolution.proofs.NameTests.{any_from}
use Rattle.tsl_reader.specs.Spells.{Derives, name_tokens}
use Rattle.tsl_reader.proofs.UsePlaces.{texts_of_names}

-- what passes nowhere has no place
none_any : {X : Type 0} (p : X → Bool) (xs : List X) → list_all (λ x. not (p x)) xs ≡ true → list_any p xs ≡ false
none_any p [] h = refl
none_any p (x ∷ xs) h = grind (arith, common_steps, none_any p xs)

pub none_there : {X : Type 0} (p : X → Bool) (xs : List X) → list_all (λ x. not (p x)) xs ≡ true → position p xs ≡ None
none_there p xs h = none_is (position p xs) (ap is_some (position_from-zero p xs) ∙ any_from p 0 xs ∙ none_any p xs h)

-- a place that is told is one of the list
placed : {X : Type 0} (p : X → Bool) (xs : List X) (at : ℕ) → position p xs ≡ Some at → at < length xs
placed p xs at h = grind (arith, common_steps, nat_tests)

-- there are as many names as tokens of names
pub as_many_names : (text : List ℕ) (tokens : List Token) (own : List Terminal) (ds : List Declaration) → Derives text tokens own ds →
    length (names_in ds) ≡ length (name_tokens text tokens)
as_many_names text tokens own ds d =
    omega (
      arith,
      ap length (texts_of_names text tokens own ds d),
      length-map (names_in ds) (λ o. o.text),
      length-map (name_tokens text tokens) (token_text text),
    )

-- the name at a place that is told has its token
pub token_at : (is_such : Occurrence → Bool) (text : List ℕ) (tokens : List Token) (own : List Terminal) (ds : List Declaration) →
    Derives text tokens own ds → (at : ℕ) → position is_such (names_in ds) ≡ Some at →
    (token : Token) × (slice_get (name_tokens text tokens) at ≡ Some token)
token_at is_such text tokens own ds d at h =
    slice_get_some (name_tokens text tokens) at (omega (arith, placed is_such (names_in ds) at h, as_many_names text tokens own ds d))
