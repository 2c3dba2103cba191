-- The needed names.
use Rattle.std.proofs.Common.{◌≡◌, ◌↔◌, ℕ, zero, suc, ◌<◌, ◌==◌, Bool, true, false, not, ◌&&◌, List, [], ◌∷◌}
use Rattle.std.proofs.Common.{length, Some, None, refl, sym, ap, ◌∙◌, eq-eqb, arith, codes}
use Rattle.std.specs.Prelude.{slice_get, filter, All, IsTrue}
use Rattle.std.specs.List.{list_all}
use Rattle.std.specs.Option.{option_map_or}
use Rattle.std.specs.Str.{bytes_eq}
use Rattle.std.proofs.lemmas.Bool.{and_parts, eqb-true}
use Rattle.std.proofs.lemmas.Option.{none-some, same_Some}
use Rattle.std.proofs.lemmas.List.Elements.{All-from_recursion, recursion_from_All}
use Rattle.base_library.proofs.Booleans.{same_tests}
use Rattle.base_library.proofs.Each.{each_filtered, each_joined, each_weaker}
use Rattle.base_library.proofs.Passes.{filter_has, each_from_list_all, within_from_test}
use Rattle.base_library.proofs.Places.{slice_get_grown}
use Rattle.base_library.proofs.Numbers.{numbers_below, numbers_at}
use Rattle.base_library.specs.Numbers.{numbers_from}
use Rattle.base_library.specs.Options.{passes}
use Rattle.tsl_terms.specs.declared.names.NameKind.TheVariants.{Signal, Function, Predicate}
use Rattle.tsl_terms.specs.Name.{Name, is_name, same_kind}
use Rattle.tsl_terms.specs.Equality.{is_equality, names_equality}
use Rattle.table_syntax.specs.Syntax.{has_table}
use Rattle.entry_names.specs.Needed.{is_symbol_number, needed}

pub needed_within : (names : List Name) (cells : List ℕ) → All (λ s. s < length names) cells →
    All (λ id. id < length names) (needed names cells)
needed_within names cells h =
    All-from_recursion (λ id. id < length names) (needed names cells)
    (each_joined (λ id. id < length names) (filter (is_symbol_number names) (numbers_from 0 (length names))) cells
    (each_filtered (λ id. id < length names) (is_symbol_number names) (numbers_from 0 (length names))
    (numbers_below 0 (length names) (length names) (omega arith)))
    (recursion_from_All (λ s. s < length names) cells h))

-- a function, or a predicate other than equality, is a name
pub symbol_within : (names : List Name) (id : ℕ) → is_symbol_number names id ≡ true → id < length names
symbol_within names id e = by names id (and_parts (passes (λ n. has_table n.kind) (slice_get names id)) (not (is_equality names id)) e).0 where
  by : (xs : List Name) (k : ℕ) → passes (λ n. has_table n.kind) (slice_get xs k) ≡ true → k < length xs
  by [] k e = cc
  by (x ∷ xs) zero e = omega arith
  by (x ∷ xs) (suc k) e = let rest : k < length xs = by xs k e in omega (arith, rest)

-- and is needed
pub symbol_needed : (names : List Name) (cells : List ℕ) (id : ℕ) → is_symbol_number names id ≡ true →
    (place : ℕ) × (slice_get (needed names cells) place ≡ Some id)
symbol_needed names cells id symbol =
    let place = filter_has (is_symbol_number names) (numbers_from 0 (length names)) id id
    (numbers_at 0 (length names) id (symbol_within names id symbol) ∙ ap (λ n. Some n) (omega arith)) symbol in
    (place.0, slice_get_grown (filter (is_symbol_number names) (numbers_from 0 (length names))) cells place.0 id place.1)

-- a name with a table that is not equality is such a one
pub symbol_is : (names : List Name) (id : ℕ) (name : Name) → slice_get names id ≡ Some name → has_table name.kind ≡ true →
    is_equality names id ≡ false → is_symbol_number names id ≡ true
symbol_is names id name there kind other i = (ap (passes (λ n. has_table n.kind)) there ∙ kind) i && not (other i)

-- the cells are names
pub cells_within : (names : List Name) (cells : List ℕ) → IsTrue (list_all (λ s. is_name names s Signal 0) cells) →
    All (λ s. s < length names) cells
cells_within names cells h =
    All-from_recursion (λ s. s < length names) cells
    (each_weaker (λ s. is_name names s Signal 0 ≡ true) (λ s. s < length names)
    (λ s. within_from_test names s (λ n. same_kind n.kind Signal && (n.arity == 0))) cells
    (each_from_list_all (λ s. is_name names s Signal 0) cells h))

-- a function is not equality
pub no_function : (names : List Name) (id : ℕ) (name : Name) → slice_get names id ≡ Some name → name.kind ≡ Function →
    is_equality names id ≡ false
no_function names id name there kind =
    ap (λ o. option_map_or names_equality o false) there
    ∙ ap (λ k. bytes_eq (codes "eq") name.text && (same_kind k Predicate && (name.arity == 2))) kind
    ∙ sym (by (bytes_eq (codes "eq") name.text))
  where
    by : (b : Bool) → false ≡ (b && false)
    by true = refl
    by false = refl

-- ---- equality by its number

pub equality_known : (names : List Name) (number id : ℕ) → ((n : ℕ) → (Some number ≡ Some n) ↔ IsTrue (is_equality names n)) →
    (number == id) ≡ is_equality names id
equality_known names number id h =
    same_tests (number == id) (is_equality names id) (λ e. (h id).0 (ap (λ n. Some n) (eqb-true number id e)))
    (λ e. eq-eqb number id (same_Some number id ((h id).1 e)))

pub no_equality : (names : List Name) (id : ℕ) → ((n : ℕ) → (None ≡ Some n) ↔ IsTrue (is_equality names n)) → false ≡ is_equality names id
no_equality names id h = same_tests false (is_equality names id) (λ e. cc) (λ e. absurd (none-some id ((h id).1 e)))
