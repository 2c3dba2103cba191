-- What stands at the places of names, and what words mean by it.
use Rattle.std.proofs.Common.{◌≡◌, ◌∙◌, ℕ, ◌<◌, ◌≤◌, ◌==◌, Bool, true, false, cond, List, [], ◌∷◌, length, map}
use Rattle.std.proofs.Common.{Option, Some, None, refl, sym, ap, subst}
use Rattle.std.specs.Prelude.{slice_get, option_map, option_and_then, IsSome}
use Rattle.std.proofs.lemmas.Bool.{eqb-true}
use Rattle.std.proofs.lemmas.Option.{slice_get-map, slice_get_within}
use Rattle.tsl_terms.specs.Value.{beside}
use Rattle.table_syntax.specs.declared.words.Operation.{Operation as WordOperation}
use Rattle.table_syntax.specs.declared.words.Test.{Test as WordTest}
use Rattle.table_syntax.specs.declared.words.Given.{Given}
use Rattle.table_syntax.specs.declared.words.Given.TheVariants.{Operation, Test}
use Rattle.tsl_meaning.specs.Interpretation.{Interpretation, are_values, entry_of, entry_at}
use Rattle.word_interp.specs.Operations.{operation_of, test_of, entries_of, table_given, value_given}
use Rattle.word_interp.specs.Meaning.{WordsMeaning}
use Rattle.word_interp.specs.internal.Applied.{applied, given_at}
use Rattle.word_interp.proofs.Tabled.{at_words, has_value}

-- ---- the meaning of symbols and cells

-- what a list of options has at a place
looked_up : {X Y : Type 0} (f : X → Y) (g : Y → Option ℕ) (found : Option X) → option_and_then g (option_map f found)
    ≡ option_and_then (λ x. g (f x)) found
looked_up f g None = refl
looked_up f g (Some x) = refl

module _ (domain : ℕ) (given : List (Option Given)) (initial : List ℕ) where
  abbrev interpretation : Interpretation
  interpretation = record { domain = domain; tables = map (table_given domain) given; initial = initial }

  -- a symbol's entry, by what stands at its place
  entry_mapped : (id : ℕ) (arguments : List ℕ) → entry_at interpretation id arguments
      ≡ option_and_then (λ g. entry_of domain arguments (table_given domain g)) (slice_get given id)
  entry_mapped id arguments =
      ap (option_and_then (entry_of domain arguments)) (slice_get-map (table_given domain) given id)
      ∙ looked_up (table_given domain) (entry_of domain arguments) (slice_get given id)

  -- something stands at the place of a symbol that has an entry
  pub symbol_within : (id : ℕ) (arguments : List ℕ) → IsSome (entry_at interpretation id arguments) → id < length given
  symbol_within id arguments had =
      by (slice_get given id) refl (rw (entry_mapped id arguments) at had) where
        by : (found : Option (Option Given)) → slice_get given id ≡ found →
            IsSome (option_and_then (λ g. entry_of domain arguments (table_given domain g)) found) → id < length given
        by None is h = cc
        by (Some g) is h = slice_get_within given id g is

-- the value of a cell, where each has what a function gives for it
pub beside_mapped : (f : ℕ → ℕ) (s : ℕ) (cells : List ℕ) → IsSome (beside s cells (map f cells)) → beside s cells (map f cells) ≡ Some (f s)
beside_mapped f s [] h = cc
beside_mapped f s (r ∷ rs) h = by (r == s) refl (beside_mapped f s rs) h where
  by : (b : Bool) → (r == s) ≡ b → (IsSome (beside s rs (map f rs)) → beside s rs (map f rs) ≡ Some (f s)) →
      IsSome (cond b (Some (f r)) (beside s rs (map f rs))) → cond (r == s) (Some (f r)) (beside s rs (map f rs)) ≡ Some (f s)
  by true e further k =
      ap (λ b. cond b (Some (f r)) (beside s rs (map f rs))) e ∙ ap (λ n. Some (f n)) (eqb-true r s e)
  by false e further k = ap (λ b. cond b (Some (f r)) (beside s rs (map f rs))) e ∙ further k

-- ---- words by their parts

module _ (domain : ℕ) (cells : List ℕ) (given : List (Option Given)) (equality : Option ℕ) where
  abbrev meaning : WordsMeaning
  meaning = record {
    cells = cells;
    equality = equality;
    interpretation = record {
      domain = domain;
      tables = map (table_given domain) given;
      initial = map (λ s. value_given domain (given_at given s)) cells;
    };
  }

  -- something stands at the place of a symbol that has an entry
  pub had_place : (w : WordsMeaning) → meaning ≡ w → (id : ℕ) (arguments : List ℕ) → IsSome (entry_at w.interpretation id arguments) →
      id < length given
  had_place w is id arguments had =
      symbol_within domain given meaning.interpretation.initial id arguments
      (subst (λ (m : WordsMeaning). IsSome (entry_at m.interpretation id arguments)) (sym is) had)

  -- the value of a cell at first
  pub initial_is : (w : WordsMeaning) → meaning ≡ w → (cell : ℕ) → IsSome (beside cell w.cells w.interpretation.initial) →
      (g : Option Given) → g ≡ given_at given cell → (v : ℕ) → v ≡ value_given domain g →
      beside cell w.cells w.interpretation.initial ≡ Some v
  initial_is w is cell had g here v value =
      ap (λ (m : WordsMeaning). beside cell m.cells m.interpretation.initial) (sym is)
      ∙ beside_mapped (λ s. value_given domain (given_at given s)) cell cells
      (subst (λ (m : WordsMeaning). IsSome (beside cell m.cells m.interpretation.initial)) (sym is) had)
      ∙ ap (λ n. Some n) (ap (value_given domain) (sym here) ∙ sym value)

-- ---- the entry of what is given

module _ (domain : ℕ) (two : 2 ≤ domain) (arguments : List ℕ) (all : are_values domain arguments ≡ true) (g : Given)
    (had : IsSome (entry_of domain arguments (table_given domain (Some g)))) where
  -- an operation's
  pub by_operation : (o : WordOperation) → g ≡ Operation o →
      (entry_of domain arguments (table_given domain (Some g)) ≡ applied (operation_of domain o) arguments)
      × IsSome (applied (operation_of domain o) arguments)
  by_operation o is =
      let own : IsSome (entry_of domain arguments (entries_of domain (operation_of domain o))) =
      subst (λ (h : Given). IsSome (entry_of domain arguments (table_given domain (Some h)))) is had in (
        ap (λ h. entry_of domain arguments (table_given domain (Some h))) is ∙ at_words domain two (operation_of domain o) arguments own all,
        has_value domain two (operation_of domain o) arguments own all,
      )

  -- a test's
  pub by_test : (t : WordTest) → g ≡ Test t →
      (entry_of domain arguments (table_given domain (Some g)) ≡ applied (test_of t) arguments) × IsSome (applied (test_of t) arguments)
  by_test t is =
      let own : IsSome (entry_of domain arguments (entries_of domain (test_of t))) =
      subst (λ (h : Given). IsSome (entry_of domain arguments (table_given domain (Some h)))) is had in (
        ap (λ h. entry_of domain arguments (table_given domain (Some h))) is ∙ at_words domain two (test_of t) arguments own all,
        has_value domain two (test_of t) arguments own all,
      )
