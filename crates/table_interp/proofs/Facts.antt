-- What entries without a cause of refusal say of each needed name, and that they give an interpretation.
use Rattle.std.proofs.Common.{◌≡◌, ◌∙◌, ℕ, ◌<◌, ◌≤◌, ◌==◌, ◌^◌, true, false, not, ◌&&◌, cond, List, [], ◌∷◌}
use Rattle.std.proofs.Common.{length, map, Option, Some, None, refl, sym, ap, subst, arith}
use Rattle.std.specs.Prelude.{option_map, option_and_then, slice_get, is_some, filter, nat_lt, All, IsTrue}
use Rattle.std.specs.Option.{option_map_or}
use Rattle.std.specs.List.{find, list_all, AllByRecursion}
use Rattle.std.proofs.lemmas.Bool.{and_parts, ltb-true, eqb-true}
use Rattle.std.proofs.lemmas.Option.{none-some, same_Some, slice_get-map, slice_get_within}
use Rattle.std.proofs.lemmas.List.{length-map}
use Rattle.std.proofs.Math.Nat.{pow-zero}
use Rattle.std.proofs.lemmas.Bool.{not-false}
use Rattle.std.proofs.lemmas.List.Elements.{All-from_recursion, recursion_from_All}
use Rattle.base_library.proofs.Finds.{each_fails}
use Rattle.base_library.proofs.Gathered.{length-all_there}
use Rattle.base_library.proofs.Numbers.{numbers_at}
use Rattle.base_library.proofs.Places.{slice_get_some}
use Rattle.base_library.proofs.Options.{none_is, some_mapped}
use Rattle.table_interp.proofs.Growing.{gathered_are, gathered_each}
use Rattle.base_library.specs.Numbers.{numbers_from}
use Rattle.base_library.specs.Options.{all_there, passes}
use Rattle.base_library.proofs.Each.{each_right, each_at, each_weaker, each_both, each_unmapped}
use Rattle.base_library.proofs.Passes.{each_from_list_all}
use Rattle.tsl_terms.specs.declared.names.NameKind.{NameKind}
use Rattle.tsl_terms.specs.declared.names.NameKind.TheVariants.{Signal, Function, Predicate}
use Rattle.tsl_terms.specs.Name.{Name, is_name, same_kind}
use Rattle.tsl_terms.specs.Equality.{is_equality}
use Rattle.tsl_meaning.specs.Interpretation.{Interpretation, IsInterpretation, IsTable}
use Rattle.table_interp.specs.declared.TheConstants.{MOST_VALUES}
use Rattle.table_syntax.specs.Syntax.{Entry, TablesSyntax, has_table}
use Rattle.entry_names.specs.Needed.{is_symbol_number, needed}
use Rattle.entry_names.specs.Entries.{subject_of, has_no_entry}
use Rattle.entry_names.proofs.NeededNames.{needed_within, symbol_needed, symbol_is, no_function}
use Rattle.entry_names.proofs.Locate.{found_entry}
use Rattle.table_interp.specs.Tables.{subjects_of, numbers_for, size_of, has_other_length, limit_of, too_large, table_of, IsInRange, Gives}
use Rattle.table_interp.specs.internal.Located.{HasSmallTable, HasOneSmall}

-- ---- what is known of a needed name

-- it has an entry, with as many numbers as it needs, each small enough
pub record IsGiven (names : List Name) (given : TablesSyntax) (id : ℕ) : Type 0 where
  pub numbers : List ℕ
  pub is : numbers_for names given.entries id ≡ Some numbers
  pub name : Name
  pub there : slice_get names id ≡ Some name
  pub many : length numbers ≡ given.domain ^ name.arity
  pub small : AllByRecursion (λ v. v < limit_of given.domain name.kind) numbers

pub below_each : (limit : ℕ) (xs : List ℕ) → find (λ v. not (nat_lt v limit)) xs ≡ None → AllByRecursion (λ v. v < limit) xs
below_each limit xs h =
    each_weaker (λ v. not (nat_lt v limit) ≡ false) (λ v. v < limit) (λ v e. ltb-true v limit (not-false (nat_lt v limit) e)) xs
    (each_fails (λ v. not (nat_lt v limit)) xs h)

is_given : (names : List Name) (given : TablesSyntax) (id : ℕ) → id < length names → has_no_entry names (subjects_of given) id ≡ false →
    has_other_length names given id ≡ false → is_some (too_large names given id) ≡ false → IsGiven names given id
is_given names given id within entry length_is small =
    named (slice_get names id) refl where
      found : (ns : List ℕ) × (numbers_for names given.entries id ≡ Some ns)
      found =
          let e = found_entry names id subject_of given.entries entry in
          (e.0.numbers, ap (option_map (λ (d : Entry). d.numbers)) e.1)

      named : (o : Option Name) → slice_get names id ≡ o → IsGiven names given id
      named None e = let there = slice_get_some names id within in absurd (none-some there.0 (sym e ∙ there.1))
      named (Some n) e = record {
        numbers = found.0;
        is = found.1;
        name = n;
        there = e;
        many = eqb-true (length found.0) (given.domain ^ n.arity) (not-false _ sized);
        small = below_each (limit_of given.domain n.kind) found.0 (none_is _ limited);
      } where
        sized : not (length found.0 == (given.domain ^ n.arity)) ≡ false
        sized =
            sym (ap (passes (λ ns. passes (λ size. not (length ns == size)) (size_of names given.domain id))) found.1
            ∙ ap (λ o. passes (λ size. not (length found.0 == size)) (option_map (λ (m : Name). given.domain ^ m.arity) o)) e) ∙ length_is

        limited : is_some (find (λ v. not (nat_lt v (limit_of given.domain n.kind))) found.0) ≡ false
        limited =
            sym (ap is_some (ap (option_and_then (λ (m : Name). option_and_then (find (λ v. not (nat_lt v (limit_of given.domain m.kind))))
            (numbers_for names given.entries id))) e
            ∙ ap (option_and_then (find (λ v. not (nat_lt v (limit_of given.domain n.kind))))) found.1)) ∙ small

kind_signal : (a b : NameKind) → same_kind a b ≡ true → a ≡ b
kind_signal Signal Signal e = refl
kind_signal Function Function e = refl
kind_signal Predicate Predicate e = refl
kind_signal a b e = cc

signal_kind : (names : List Name) (s : ℕ) (n : Name) → slice_get names s ≡ Some n → is_name names s Signal 0 ≡ true →
    (n.kind ≡ Signal) × (n.arity ≡ 0)
signal_kind names s n there is =
    let test = sym (ap (λ o. option_map_or (λ m. same_kind m.kind Signal && (m.arity == 0)) o false) there) ∙ is in
    let parts = and_parts (same_kind n.kind Signal) (n.arity == 0) test in
    (kind_signal n.kind Signal parts.0, eqb-true n.arity 0 parts.1)

pub paired : (f : ℕ → Option (List ℕ)) (cells initial : List ℕ) → all_there (map f cells) ≡ Some (map (λ v. v ∷ []) initial) →
    length cells ≡ length initial
paired f cells initial h = sym (length-map cells f) ∙ sym (length-all_there (map f cells) (map (λ v. v ∷ []) initial) h)
    ∙ length-map initial (λ v. v ∷ [])

module _ (names : List Name) (cells : List ℕ) (given : TablesSyntax) (within : All (λ s. s < length names) cells)
    (h : IsInRange names cells given) where
  each_given : AllByRecursion (IsGiven names given) (needed names cells)
  each_given =
      by (needed names cells) (recursion_from_All (λ id. id < length names) (needed names cells) (needed_within names cells within))
      (each_fails (has_no_entry names (subjects_of given)) (needed names cells) h.so_far.so_far.so_far.whole)
      (each_fails (has_other_length names given) (needed names cells) h.so_far.counted)
      (each_fails (λ id. is_some (too_large names given id)) (needed names cells) h.in_range)
    where
      by : (ids : List ℕ) → AllByRecursion (λ id. id < length names) ids →
          AllByRecursion (λ id. has_no_entry names (subjects_of given) id ≡ false) ids →
          AllByRecursion (λ id. has_other_length names given id ≡ false) ids →
          AllByRecursion (λ id. is_some (too_large names given id) ≡ false) ids → AllByRecursion (IsGiven names given) ids
      by [] a b c d = tt
      by (id ∷ ids) a b c d = (is_given names given id a.0 b.0 c.0 d.0, by ids a.1 b.1 c.1 d.1)

  pub cells_given : AllByRecursion (IsGiven names given) cells
  cells_given = each_right (IsGiven names given) (filter (is_symbol_number names) (numbers_from 0 (length names))) cells each_given

  pub symbol_given : (id : ℕ) → is_symbol_number names id ≡ true → IsGiven names given id
  symbol_given id symbol =
      let place = symbol_needed names cells id symbol in
      each_at (IsGiven names given) (needed names cells) place.0 id each_given place.1

  -- a function or a predicate has a table of small numbers
  pub small_table : given.domain ≤ MOST_VALUES → (id : ℕ) → HasSmallTable names given.entries id
  small_table few id symbol =
      let g = symbol_given id symbol in
      rw g.is (All-from_recursion (λ n. n < 2 ^ 32) g.numbers (each_weaker (λ v. v < limit_of given.domain g.name.kind) (λ v. v < 2 ^ 32)
      (λ v less. omega (arith, limit_small g.name.kind, less)) g.numbers g.small))
    where
      limit_small : (kind : NameKind) → limit_of given.domain kind ≤ 256
      limit_small Signal = few
      limit_small Function = few
      limit_small Predicate = omega arith

  -- a cell has one number, a value
  pub cells_one : given.domain ≤ MOST_VALUES → IsTrue (list_all (λ s. is_name names s Signal 0) cells) →
      All (HasOneSmall names given.entries) cells
  cells_one few are =
      All-from_recursion (HasOneSmall names given.entries) cells
      (each_both (IsGiven names given) (λ s. is_name names s Signal 0 ≡ true) (HasOneSmall names given.entries) one cells cells_given
      (each_from_list_all (λ s. is_name names s Signal 0) cells are)) where
        single : (ns : List ℕ) → length ns ≡ 1 → (n : ℕ) × (ns ≡ n ∷ [])
        single [] e = cc
        single (n ∷ []) e = (n, refl)
        single (n ∷ m ∷ ns) e = absurd (omega (arith, e))

        one : (s : ℕ) → IsGiven names given s → is_name names s Signal 0 ≡ true → HasOneSmall names given.entries s
        one s g is =
            let kind = signal_kind names s g.name g.there is in
            let size : length g.numbers ≡ 1 = g.many ∙ ap (λ n. given.domain ^ n) kind.1 ∙ pow-zero given.domain in
            let alone = single g.numbers size in
            let below : AllByRecursion (λ v. v < given.domain) (alone.0 ∷ []) =
            subst (λ (ns : List ℕ). AllByRecursion (λ v. v < given.domain) ns) alone.1
            (subst (λ (k : NameKind). AllByRecursion (λ v. v < limit_of given.domain k) g.numbers) kind.0 g.small) in
            record { number = alone.0; is = g.is ∙ ap (λ ns. Some ns) alone.1; small = omega (arith, few, below.0) }

  -- ---- the interpretation

  module _ (interpretation : Interpretation) (gives : Gives names cells given interpretation) where
    table_at : (id : ℕ) (g : IsGiven names given id) → id < length names → is_symbol_number names id ≡ true →
        slice_get interpretation.tables id ≡ Some g.numbers
    table_at id g inside symbol =
        let table : table_of names given.entries id ≡ Some g.numbers =
        ap (λ b. cond b (numbers_for names given.entries id) (Some [])) symbol ∙ g.is in
        let found = some_mapped (λ t. Some t) (slice_get interpretation.tables id) (Some g.numbers)
        (sym (slice_get-map (λ t. Some t) interpretation.tables id)
        ∙ ap (λ ts. slice_get ts id)
        (sym (gathered_are (map (table_of names given.entries) (numbers_from 0 (length names))) interpretation.tables gives.tables))
        ∙ slice_get-map (table_of names given.entries) (numbers_from 0 (length names)) id
        ∙ ap (option_map (table_of names given.entries)) (numbers_at 0 (length names) id inside ∙ ap (λ n. Some n) (omega arith))
        ∙ ap (λ t. Some t) table) in
        found.1 ∙ found.2

    is_table : (id : ℕ) (name : Name) (limit : ℕ) → slice_get names id ≡ Some name → has_table name.kind ≡ true →
        is_equality names id ≡ false → limit_of given.domain name.kind ≡ limit →
        (table : List ℕ) × (slice_get interpretation.tables id ≡ Some table) × IsTable interpretation.domain name.arity limit table
    is_table id name limit there kind other is =
        let symbol = symbol_is names id name there kind other in
        let g : IsGiven names given id = symbol_given id symbol in
        let same : g.name ≡ name = same_Some g.name name (sym g.there ∙ there) in
        let size : length g.numbers ≡ interpretation.domain ^ name.arity =
        g.many ∙ ap (λ (n : Name). given.domain ^ n.arity) same ∙ ap (λ d. d ^ name.arity) (sym gives.domain) in
        let small : AllByRecursion (λ v. v < limit) g.numbers =
        subst (λ l. AllByRecursion (λ v. v < l) g.numbers) (ap (λ (n : Name). limit_of given.domain n.kind) same ∙ is) g.small in (
          g.numbers,
          table_at id g (slice_get_within names id name there) symbol,
          (size, All-from_recursion (λ v. v < limit) g.numbers small),
        )

    pub interprets : 1 ≤ given.domain → given.domain ≤ MOST_VALUES → IsTrue (list_all (λ s. is_name names s Signal 0) cells) →
        IsInterpretation names cells interpretation
    interprets some few are = record {
      domain = omega (arith, some, gives.domain);
      functions = λ f name there kind. is_table f name interpretation.domain there (ap has_table kind)
          (no_function names f name there kind) (ap (limit_of given.domain) kind ∙ sym gives.domain);
      predicates = λ p name there kind other. is_table p name 2 there (ap has_table kind) other (ap (limit_of given.domain) kind);
      initial = (
        sym (paired (numbers_for names given.entries) cells interpretation.initial gives.initial),
        All-from_recursion (λ v. v < interpretation.domain) interpretation.initial
            (each_weaker (λ v. AllByRecursion (λ w. w < interpretation.domain) (v ∷ [])) (λ v. v < interpretation.domain) (λ v h. h.0)
            interpretation.initial (each_unmapped (AllByRecursion (λ v. v < interpretation.domain)) (λ v. v ∷ []) interpretation.initial
            (gathered_each (numbers_for names given.entries) (λ s. IsGiven names given s × IsTrue (is_name names s Signal 0)) _
            (λ s ns known e. below s ns known.0 known.1 e) cells (map (λ v. v ∷ []) interpretation.initial) gives.initial
            (each_both _ _ _ (λ s g is. (g, is)) cells cells_given (each_from_list_all (λ s. is_name names s Signal 0) cells are))))),
      );
    } where
      below : (s : ℕ) (ns : List ℕ) → IsGiven names given s → is_name names s Signal 0 ≡ true →
          numbers_for names given.entries s ≡ Some ns → AllByRecursion (λ v. v < interpretation.domain) ns
      below s ns g is e =
          let limit = ap (limit_of given.domain) (signal_kind names s g.name g.there is).0 ∙ sym gives.domain in
          subst (λ l. AllByRecursion (λ v. v < l) ns) limit
          (subst (AllByRecursion (λ v. v < limit_of given.domain g.name.kind)) (same_Some g.numbers ns (sym g.is ∙ e)) g.small)
