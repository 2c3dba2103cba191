-- The names of definitions, one after another.
use Rattle.std.proofs.Common.{◌≡◌, ℕ, suc, ◌+◌, ◌<◌, Bool, true, false, cond, List, [], ◌∷◌, ◌++◌, length, get_or, map, take, drop}
use Rattle.std.proofs.Common.{Option, Some, None, refl, ap, sym, ◌∙◌}
use Rattle.std.specs.Prelude.{option_map, if◌then◌else◌}
use Rattle.std.specs.Option.{is_some}
use Rattle.std.specs.List.{position_from}
use Rattle.std.specs.Str.{bytes_eq}
use Rattle.std.proofs.lemmas.List.{drop_more, take-append-drop, map-append}
use Rattle.std.proofs.lemmas.Iterator.Adapters.{position_from-zero}
use Rattle.tsl_terms.specs.Name.{Name, number_of, texts}
use Rattle.definition_expansion.specs.declared.definitions.ReadDefinition.{ReadDefinition}
use Rattle.spec_syntax.specs.Syntax.{Definition}
use Rattle.definition_expansion.specs.DefinitionView.{definition_of, named_in, AreHeads, IsDefinedTwice}
use Rattle.definition_expansion.proofs.FoundByNumber.{further_on}

found_before : (x : List ℕ) (ds : List Definition) (k : ℕ) → position_from (bytes_eq x) 0 (map (λ d. d.name) ds) ≡ Some k →
    is_some (named_in ds x) ≡ true
found_before x [] k h = cc
found_before x (d ∷ ds) k h =
    by (bytes_eq x d.name) (position_from (bytes_eq x) 0 (map (λ e. e.name) ds)) refl (found_before x ds)
    (sym (ap (λ o. cond (bytes_eq x d.name) (Some 0) o) (further_on (bytes_eq x) 0 (map (λ e. e.name) ds))) ∙ h)
  where
    by : (b : Bool) (found : Option ℕ) → position_from (bytes_eq x) 0 (map (λ e. e.name) ds) ≡ found →
        ((j : ℕ) → position_from (bytes_eq x) 0 (map (λ e. e.name) ds) ≡ Some j → is_some (named_in ds x) ≡ true) →
        cond b (Some 0) (option_map suc found) ≡ Some k → is_some (if b then Some d else named_in ds x) ≡ true
    by true found e later g = refl
    by false None e later g = cc
    by false (Some j) e later g = later j e

-- the next one has the name of an earlier one
pub found_again : (names : List Name) (ds : List ReadDefinition) (i k : ℕ) (d : ReadDefinition) → i < length ds →
    AreHeads names (take i ds) → number_of names (get_or ds i d).name.now ≡ Some k → IsDefinedTwice (map definition_of ds)
found_again names ds i k d within are there = record {
  front = map definition_of (take i ds);
  again = definition_of (get_or ds i d);
  rest = map definition_of (drop (i + 1) ds);
  split = ap (map definition_of) (sym (take-append-drop i ds) ∙ ap (λ rs. take i ds ++ rs) (drop_more ds i d within))
      ∙ map-append definition_of (take i ds) (get_or ds i d ∷ drop (i + 1) ds);
  earlier =
      found_before (get_or ds i d).name.now (map definition_of (take i ds)) k
      (ap (position_from (bytes_eq (get_or ds i d).name.now) 0) (sym are)
      ∙ sym (position_from-zero (bytes_eq (get_or ds i d).name.now) (texts names)) ∙ there);
}
