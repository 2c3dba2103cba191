-- The columns of a text as entries for cells: what their places and faults say of the inputs.
use Rattle.std.proofs.Common.{◌≡◌, ◌∙◌, ℕ, ◌<◌, ◌==◌, Bool, true, false, not, ◌&&◌, List, [], ◌∷◌, length, map, Option, Some, None}
use Rattle.std.proofs.Common.{refl, sym, ap, subst, IsTrue}
use Rattle.std.specs.Prelude.{slice_get, option_map, is_some, IsSomeAnd}
use Rattle.std.specs.Option.{option_map_or}
use Rattle.std.specs.List.{find, list_all, AllByRecursion}
use Rattle.std.proofs.lemmas.Bool.{and_parts}
use Rattle.std.proofs.lemmas.Option.{slice_get-map}
use Rattle.std.proofs.lemmas.List.Elements.{All-from_recursion, recursion_from_All}
use Rattle.base_library.specs.Numbers.{is_among}
use Rattle.base_library.specs.Options.{passes}
use Rattle.base_library.proofs.Each.{each_both}
use Rattle.base_library.proofs.Finds.{each_fails}
use Rattle.base_library.proofs.Lists.{map_map}
use Rattle.base_library.proofs.Options.{some_mapped, none_mapped}
use Rattle.base_library.proofs.Numbers.{among_place}
use Rattle.base_library.proofs.Passes.{passes_at, list_any-map}
use Rattle.tsl_terms.specs.declared.names.NameKind.TheVariants.{Signal}
use Rattle.tsl_terms.specs.Name.{Name, is_name, same_kind}
use Rattle.table_syntax.specs.Syntax.{TextToken, InputsSyntax}
use Rattle.entry_names.specs.declared.locating.EntryFault.{EntryFault}
use Rattle.entry_names.specs.declared.locating.EntryFault.TheVariants as entry
use Rattle.entry_names.specs.Needed.{number_for, is_for, IsFirstRepeat, HasNoRepeat}
use Rattle.entry_names.specs.Entries.{Subject, column_subject_of, is_needed_as, is_known, numbers_of, has_no_entry}
use Rattle.entry_names.specs.Entries.{AreLocated, HasEntryFault}
use Rattle.entry_names.specs.Entries.{AreKnown as AreKnownEntries, AreOnce as AreOnceEntries, AreWhole as AreWholeEntries}
use Rattle.entry_names.proofs.NeededNames.{cells_within}
use Rattle.entry_names.proofs.Locate.{found_view, slot_is, has_place}
use Rattle.table_interp.specs.Inputs.{is_input_name, has_no_column, AreKnown, AreOnce, AreWhole, HasRowCause}
use Rattle.table_interp.specs.internal.Ordered.{columns_of, HavePlaces, AreOrdered}
use Rattle.table_interp.specs.internal.Texts.{column_error}

pub numbers_are : (names : List Name) (given : InputsSyntax) → numbers_of names (columns_of given) ≡ map (number_for names) given.names
numbers_are names given = map_map (λ (e : Subject). number_for names e.name) column_subject_of given.names

module _ (names : List Name) (inputs : List ℕ) (are : IsTrue (list_all (λ s. is_name names s Signal 0) inputs)) (given : InputsSyntax) where
  -- what is among the inputs is a signal
  needed_as : (n : ℕ) → is_needed_as names inputs Signal n ≡ is_among inputs n
  needed_as n = by (is_among inputs n) refl where
    signal : (o : Option Name) → option_map_or (λ m. same_kind m.kind Signal && (m.arity == 0)) o false ≡ true →
        passes (λ m. same_kind m.kind Signal) o ≡ true
    signal None e = e
    signal (Some m) e = (and_parts (same_kind m.kind Signal) (m.arity == 0) e).0

    never : (b : Bool) → (b && false) ≡ false
    never true = refl
    never false = refl

    by : (b : Bool) → is_among inputs n ≡ b → (passes (λ m. same_kind m.kind Signal) (slice_get names n) && b) ≡ b
    by true e =
        let place = among_place inputs n e in
        ap (λ b. b && true) (signal (slice_get names n) (passes_at (λ s. is_name names s Signal 0) inputs place.0 n are place.1))
    by false e = never (passes (λ m. same_kind m.kind Signal) (slice_get names n))

  known_as : (x : TextToken) → is_known names inputs (column_subject_of x) ≡ is_input_name names inputs x
  known_as x = by (number_for names x) where
    by : (o : Option ℕ) → passes (is_needed_as names inputs Signal) o ≡ passes (is_among inputs) o
    by None = refl
    by (Some n) = needed_as n

  found_known : find (λ e. not (is_known names inputs e)) (columns_of given)
      ≡ option_map column_subject_of (find (λ x. not (is_input_name names inputs x)) given.names)
  found_known =
      found_view column_subject_of (λ e. not (is_known names inputs e)) given.names
      ∙ (λ i. option_map column_subject_of (find (λ x. not (known_as x i)) given.names))

  no_column : (id : ℕ) → has_no_entry names (columns_of given) id ≡ has_no_column names given id
  no_column id = ap not (list_any-map column_subject_of (λ (e : Subject). is_for names id e.name) given.names)

  known_columns : AreKnownEntries names inputs (columns_of given) → AreKnown names inputs given
  known_columns h = none_mapped column_subject_of _ (sym found_known ∙ h)

  once_columns : AreOnceEntries names inputs (columns_of given) → AreOnce names inputs given
  once_columns h = record {
    known = known_columns h.known;
    once = subst (λ (ns : List (Option ℕ)). HasNoRepeat ns) (numbers_are names given) h.once;
  }

  pub whole_columns : AreWholeEntries names inputs (columns_of given) → AreWhole names inputs given
  whole_columns h = record {
    so_far = once_columns h.so_far;
    whole = sym (λ i. find (λ id. no_column id i) inputs) ∙ h.whole;
  }

  -- a fault of the entries is a cause
  pub column_cause : (domain : ℕ) (fault : EntryFault) → HasEntryFault names inputs (columns_of given) fault →
      HasRowCause names inputs given domain (column_error fault)
  column_cause domain (entry.Unknown s f) h =
      let column = some_mapped column_subject_of (find (λ x. not (is_input_name names inputs x)) given.names) h.entry
      (sym found_known ∙ h.first) in
      record {
        column = column.0;
        first = column.1;
        starts = h.starts ∙ ap (λ (e : Subject). e.name.token.start) (sym column.2);
        ends = h.ends ∙ ap (λ (e : Subject). e.name.token.end) (sym column.2);
      }
  column_cause domain (entry.Twice s f) h =
      let column = some_mapped column_subject_of (slice_get given.names h.at) h.entry
      (sym (slice_get-map column_subject_of given.names h.at) ∙ h.there) in
      record {
        known = known_columns h.known;
        at = h.at;
        first = subst (λ (ns : List (Option ℕ)). IsFirstRepeat ns h.at) (numbers_are names given) h.first;
        column = column.0;
        there = column.1;
        starts = h.starts ∙ ap (λ (e : Subject). e.name.token.start) (sym column.2);
        ends = h.ends ∙ ap (λ (e : Subject). e.name.token.end) (sym column.2);
      }
  column_cause domain (entry.Missing id) h = record {
    so_far = once_columns h.so_far;
    first = sym (λ i. find (λ s. no_column s i) inputs) ∙ h.first;
  }
  column_cause domain entry.NoMemory h = tt

  -- each input's column has a place
  pub have_places : (places : List (Option ℕ)) → AreLocated names (columns_of given) places → AreWhole names inputs given →
      HavePlaces places inputs
  have_places places l h =
      All-from_recursion (λ s. IsSomeAnd (slice_get places s) (λ slot. is_some slot ≡ true)) inputs
      (each_both (λ s. s < length names) (λ s. has_no_column names given s ≡ false)
      (λ s. IsSomeAnd (slice_get places s) (λ slot. is_some slot ≡ true))
      (λ s inside e. has_place names s (columns_of given) places l inside (no_column s ∙ e)) inputs
      (recursion_from_All (λ s. s < length names) inputs (cells_within names inputs are))
      (each_fails (has_no_column names given) inputs h.whole))

-- the column of each input stands at its place
pub order_stands : {names : List Name} {columns : List Subject} {places : List (Option ℕ)} (l : AreLocated names columns places)
    (order inputs : List ℕ) → AllByRecursion (λ s. s < length names) inputs → AreOrdered places inputs order →
    map (slice_get l.numbers) order ≡ map (λ s. Some s) inputs
order_stands l [] [] within e = refl
order_stands l [] (s ∷ inputs) within e = absurd cc
order_stands l (p ∷ order) [] within e = absurd cc
order_stands {places = places} l (p ∷ order) (s ∷ inputs) within e =
    let first : slice_get places s ≡ Some (Some p) = cc in
    let others : map (λ (q : ℕ). Some (Some q)) order ≡ map (slice_get places) inputs = cc in
    λ i. slot_is l s (Some p) within.0 first i ∷ order_stands l order inputs within.1 others i
