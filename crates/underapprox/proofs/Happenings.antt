-- Letters of what happens are read as it happens.
use Rattle.std.proofs.Common.{◌≡◌, ◌∙◌, ℕ, false, ◌++◌, Option, Some, None, slice_get, option_map, refl, sym, ap}
use Rattle.std.specs.Prelude.{⊤}
use Rattle.std.specs.Option.{option_map_or}
use Rattle.std.proofs.lemmas.List.{map-append}
use Rattle.std.proofs.lemmas.Option.{slice_get-map}
use Rattle.base_library.proofs.Each.{each_at}
use Rattle.tsl_terms.specs.FormulaTree.{Atom, FormulaTree}
use Rattle.tsl_terms.specs.Atoms.{atoms}
use Rattle.tsl_meaning.specs.Lasso.{meets}
use Rattle.ltl_formula.specs.Cubes.{has_bit}
use Rattle.ltl_formula.specs.LetterLoop.{letter_at, bit_holds, holds}
use Rattle.letter_space.specs.SpaceTree.{SpaceTree, IsSpace}
use Rattle.letter_space.specs.Bits.{bit_of_atom}
use Rattle.letter_space.specs.Letters.{atom_holds_of}
use Rattle.letter_space.proofs.LetterBits.{atom_is_read}
use Rattle.underapprox.specs.LetterForm.{letter_form}
use Rattle.underapprox.specs.WholeUpdates.{Happening, HappeningLoop, letter_of_happening, letter_loop, IsHappening, AreHappenings}
use Rattle.underapprox.specs.WholeUpdates.{happening_lasso}
use Rattle.underapprox.proofs.Agreement.{read_from_bit, each_trivially, form_holds}

module _ (space : SpaceTree) (is_space : IsSpace space) (loop : HappeningLoop) (are : AreHappenings space loop) where
  letter_there : (i : ℕ) →
      letter_at (letter_loop space loop) i ≡ option_map (letter_of_happening space) (slice_get (loop.stem ++ loop.cycle) i)
  letter_there i =
      ap (λ letters. slice_get letters i) (sym (map-append (letter_of_happening space) loop.stem loop.cycle))
      ∙ slice_get-map (letter_of_happening space) (loop.stem ++ loop.cycle) i

  bit_there : (b : Option ℕ) (i : ℕ) → option_map_or (λ n. bit_holds (letter_loop space loop) n i) b false
      ≡ option_map_or (λ n. option_map_or (has_bit n) (option_map (letter_of_happening space)
      (slice_get (loop.stem ++ loop.cycle) i)) false)
      b false
  bit_there None i = refl
  bit_there (Some n) i = ap (λ letter. option_map_or (has_bit n) letter false) (letter_there i)

  read_there : (a : Atom) (o : Option Happening) → ((h : Happening) → o ≡ Some h → IsHappening space h) →
      option_map_or (λ n. option_map_or (has_bit n) (option_map (letter_of_happening space) o) false) (bit_of_atom space a) false
      ≡ option_map_or (λ h. atom_holds_of space h.valuation h.picks a) o false
  read_there a None each = nowhere (bit_of_atom space a)
    where
      nowhere : (b : Option ℕ) → option_map_or (λ _. false) b false ≡ false
      nowhere None = refl
      nowhere (Some n) = refl
  read_there a (Some h) each =
      let is = each h refl in
      atom_is_read space is_space h.valuation is.valuation h.picks is.picks a

  pub happenings_are_read : (f : FormulaTree) (i : ℕ) →
      holds (letter_loop space loop) (letter_form space f) i ≡ meets (happening_lasso space loop) f i
  happenings_are_read f i =
      form_holds space (letter_loop space loop) (happening_lasso space loop).holds (λ _. ⊤) (λ _ _. tt) (λ _. ⊤)
      (λ a _ j _. read_from_bit (letter_loop space loop) (bit_of_atom space a) j ∙ bit_there (bit_of_atom space a) j
      ∙ read_there a (slice_get (loop.stem ++ loop.cycle) j) (λ h there.
      each_at (IsHappening space) (loop.stem ++ loop.cycle) j h are there))
      f (each_trivially (atoms f)) i tt
