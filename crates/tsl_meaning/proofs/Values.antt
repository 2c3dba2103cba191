-- The values of terms and the truths of probes are there, under an interpretation of the names.
use Rattle.std.proofs.Common.{◌≡◌, ◌∙◌, ℕ, suc, ◌+◌, ◌*◌, ◌^◌, ◌<◌, ◌≤◌, ◌==◌, Bool, true, false, ◌&&◌, List, [], ◌∷◌, length, Option, Some}
use Rattle.std.proofs.Common.{None, slice_get, refl, sym, ap, arith, subst, cond, codes}
use Rattle.std.specs.Prelude.{option_map, option_and_then, fold, nat_lt}
use Rattle.std.specs.Option.{option_map_or}
use Rattle.std.specs.Str.{bytes_eq}
use Rattle.std.proofs.lemmas.Bool.{and_parts, and_from, lt-ltb, ltb-true, eqb-true, eq-eqb, cond-true, false≢true}
use Rattle.std.proofs.lemmas.List.Elements.{All-get_or}
use Rattle.std.proofs.lemmas.Option.{get_or_from_slice_get}
use Rattle.std.proofs.Math.Nat.{pow-zero, pow-succ', mul-le-mul_right, mul_assoc, add-mul}
use Rattle.base_library.proofs.Places.{slice_get_some}
use Rattle.tsl_terms.specs.declared.names.NameKind.{NameKind}
use Rattle.tsl_terms.specs.declared.names.NameKind.TheVariants.{Signal, Function, Predicate}
use Rattle.tsl_terms.specs.Name.{Name, is_name, same_kind}
use Rattle.tsl_terms.specs.Equality.{names_equality, is_equality}
use Rattle.tsl_terms.specs.TermTree.{TermTree, signal, apply, TermTrees, no_terms, more_terms, ProbeTree, count_of_terms}
use Rattle.tsl_terms.specs.Value.{value, values, truth}
use Rattle.program_tree.specs.ProgramTree.{ProgramTree}
use Rattle.base_library.specs.Numbers.{is_among}
use Rattle.tsl_terms.specs.OnlyThese.{reads_only, read_only}
use Rattle.tsl_meaning.specs.OverNames.{term_is_over, terms_are_over, probe_is_over}
use Rattle.tsl_meaning.specs.Interpretation.{Interpretation, IsInterpretation, IsTable, entry_of, entry_at, are_values, place_of_arguments}
use Rattle.tsl_meaning.specs.Interpretation.{same_two, meanings_in}

-- a value that is there, and is one of so many
pub record HasValue (domain : ℕ) (found : Option ℕ) : Type 0 where
  pub value : ℕ
  pub is : found ≡ Some value
  pub below : value < domain

-- the name that a number is of
record IsNameOf (names : List Name) (id : ℕ) (kind : NameKind) (arity : ℕ) : Type 0 where
  name : Name
  there : slice_get names id ≡ Some name
  kind_is : name.kind ≡ kind
  arity_is : name.arity ≡ arity

same_kind_is : (a b : NameKind) → same_kind a b ≡ true → a ≡ b
same_kind_is Signal Signal same = refl
same_kind_is Function Function same = refl
same_kind_is Predicate Predicate same = refl
same_kind_is Signal Function same = absurd (false≢true same)
same_kind_is Signal Predicate same = absurd (false≢true same)
same_kind_is Function Signal same = absurd (false≢true same)
same_kind_is Function Predicate same = absurd (false≢true same)
same_kind_is Predicate Signal same = absurd (false≢true same)
same_kind_is Predicate Function same = absurd (false≢true same)

name_of : (names : List Name) (id : ℕ) (kind : NameKind) (arity : ℕ) → is_name names id kind arity ≡ true → IsNameOf names id kind arity
name_of names id kind arity is = by (slice_get names id) refl is
  where
    by : (found : Option Name) → slice_get names id ≡ found →
        option_map_or (λ n. same_kind n.kind kind && (n.arity == arity)) found false ≡ true → IsNameOf names id kind arity
    by None there test = absurd (false≢true test)
    by (Some n) there test =
        let parts = and_parts (same_kind n.kind kind) (n.arity == arity) test in
        record { name = n; there = there; kind_is = same_kind_is n.kind kind parts.0; arity_is = eqb-true n.arity arity parts.1 }

-- the place of arguments that are values is one of the table's
pub place_below : (domain n : ℕ) (vs : List ℕ) → are_values domain vs ≡ true →
    fold (λ m v. m * domain + v) n vs < (n + 1) * domain ^ length vs
place_below domain n [] all = subst (λ k. n < (n + 1) * k) (sym (pow-zero domain)) (omega arith)
place_below domain n (v ∷ vs) all =
    let parts = and_parts (nat_lt v domain) (are_values domain vs) all in
    let below : v < domain = ltb-true v domain parts.0 in
    let rest = place_below domain (n * domain + v) vs parts.1 in
    let more : (n * domain + v + 1) * domain ^ length vs ≤ ((n + 1) * domain) * domain ^ length vs =
    mul-le-mul_right (domain ^ length vs) (wider below) in
    let whole : ((n + 1) * domain) * domain ^ length vs ≡ (n + 1) * domain ^ suc (length vs) = mul_assoc (n + 1) domain (domain ^ length vs)
    ∙ ap (λ k. (n + 1) * k) (sym (pow-succ' domain (length vs))) in
    omega (arith, rest, more, whole)
  where
    wider : v < domain → n * domain + v + 1 ≤ (n + 1) * domain
    wider below = let e : (n + 1) * domain ≡ n * domain + domain = add-mul n 1 domain ∙ omega arith in omega (arith, below, e)

-- two arguments are the same or not
two_there : (arguments : List ℕ) → length arguments ≡ 2 → (b : Bool) × (same_two arguments ≡ Some b)
two_there [] count = absurd (omega (arith, count))
two_there (a ∷ []) count = absurd (omega (arith, count))
two_there (a ∷ b ∷ []) count = (a == b, refl)
two_there (a ∷ b ∷ c ∷ more) count = absurd (omega (arith, count))

equality_takes_two : (name : Name) → names_equality name ≡ true → name.arity ≡ 2
equality_takes_two name is =
    let parts = and_parts (bytes_eq (codes "eq") name.text) (same_kind name.kind Predicate && (name.arity == 2)) is in
    eqb-true name.arity 2 (and_parts (same_kind name.kind Predicate) (name.arity == 2) parts.1).1

module _ (names : List Name) (program : ProgramTree) (interpretation : Interpretation)
    (is : IsInterpretation names program.cells interpretation) where
  -- an entry of a table that is for so many arguments
  entry_there : (id limit : ℕ) (table arguments : List ℕ) (arity : ℕ) → slice_get interpretation.tables id ≡ Some table →
      IsTable interpretation.domain arity limit table →
      length arguments ≡ arity → are_values interpretation.domain arguments ≡ true → HasValue limit (entry_at interpretation id arguments)
  entry_there id limit table arguments arity there fits count all =
      let size : length table ≡ interpretation.domain ^ length arguments = fits.0 ∙ ap (λ n. interpretation.domain ^ n) (sym count) in
      let place : ℕ = place_of_arguments interpretation.domain arguments in
      let within : place < length table = omega (arith, place_below interpretation.domain 0 arguments all, size) in
      let entry = slice_get_some table place within in
      record {
        value = entry.0;
        is =
            ap (option_and_then (entry_of interpretation.domain arguments)) there
            ∙ cond-true (length table == (interpretation.domain ^ length arguments)) _ None (eq-eqb _ _ size)
            ∙ cond-true (are_values interpretation.domain arguments) (slice_get table place) (Some 0) all
            ∙ entry.1;
        below = subst (λ n. n < limit) (get_or_from_slice_get table place entry.0 0 entry.1)
            (All-get_or (λ n. n < limit) table place 0 within fits.1);
      }

  abbrev entry_truth : ℕ → List ℕ → Option Bool
  entry_truth p arguments = option_map (λ n. n == 1) (entry_at interpretation p arguments)

  -- a predicate has a truth of as many values as it takes
  holds_there : (p : ℕ) (arguments : List ℕ) (name : Name) → slice_get names p ≡ Some name → name.kind ≡ Predicate →
      length arguments ≡ name.arity → are_values interpretation.domain arguments ≡ true →
      (b : Bool) × ((meanings_in names program interpretation).predicate p arguments ≡ Some b)
  holds_there p arguments name there kind count all = by (is_equality names p) refl
    where
      by : (equal : Bool) → is_equality names p ≡ equal →
          (b : Bool) × ((meanings_in names program interpretation).predicate p arguments ≡ Some b)
      by true equal =
          let same = two_there arguments (count ∙ equality_takes_two name (sym (ap (λ o. option_map_or names_equality o false) there) ∙ equal)) in
          (same.0, ap (λ e. cond e (same_two arguments) (entry_truth p arguments)) equal ∙ same.1)
      by false other =
          let table = is.predicates p name there kind other in
          let entry = entry_there p 2 table.0 arguments name.arity table.1 table.2 count all in (
            entry.value == 1,
            ap (λ e. cond e (same_two arguments) (entry_truth p arguments)) other ∙ ap (option_map (λ n. n == 1)) entry.is,
          )

  module _ (readable : List ℕ) (at : ℕ → Option ℕ) (known : (s : ℕ) → is_among readable s ≡ true →
      HasValue interpretation.domain (at s)) where
    -- the values of arguments, as many as there are
    pub record HaveValues (ts : TermTrees) : Type 0 where
      pub members : List ℕ
      pub are : values (meanings_in names program interpretation) at ts ≡ Some members
      pub count : length members ≡ count_of_terms ts
      pub below : are_values interpretation.domain members ≡ true

    mutual
      -- a term over the names that reads what is known has a value
      pub value_there : (t : TermTree) → term_is_over names t ≡ true → reads_only readable t ≡ true →
          HasValue interpretation.domain (value (meanings_in names program interpretation) at t)
      value_there (signal s) over reads = known s reads
      value_there (apply f arguments) over reads =
          let parts = and_parts (is_name names f Function (count_of_terms arguments)) (terms_are_over names arguments) over in
          let vs = values_there arguments parts.1 reads in
          let name = name_of names f Function (count_of_terms arguments) parts.0 in
          let table = is.functions f name.name name.there name.kind_is in
          let entry =
          entry_there f interpretation.domain table.0 vs.members name.name.arity table.1 table.2 (vs.count ∙ sym name.arity_is)
          vs.below in
          record { value = entry.value; is = ap (option_and_then (entry_at interpretation f)) vs.are ∙ entry.is; below = entry.below }

      pub values_there : (ts : TermTrees) → terms_are_over names ts ≡ true → read_only readable ts ≡ true → HaveValues ts
      values_there no_terms over reads = record { members = []; are = refl; count = refl; below = refl }
      values_there (more_terms t ts) over reads =
          let overs = and_parts (term_is_over names t) (terms_are_over names ts) over in
          let read = and_parts (reads_only readable t) (read_only readable ts) reads in
          let v = value_there t overs.0 read.0 in
          let vs = values_there ts overs.1 read.1 in
          record {
            members = v.value ∷ vs.members;
            are = rw (v.is, vs.are) refl;
            count = omega (arith, vs.count);
            below = and_from (nat_lt v.value interpretation.domain) (are_values interpretation.domain vs.members)
                (lt-ltb v.value interpretation.domain v.below) vs.below;
          }

    -- a probe over the names that reads what is known has a truth
    pub truth_there : (p : ProbeTree) → probe_is_over names p ≡ true → read_only readable p.arguments ≡ true →
        (b : Bool) × (truth (meanings_in names program interpretation) at p ≡ Some b)
    truth_there p over reads =
        let parts = and_parts (is_name names p.predicate Predicate (count_of_terms p.arguments)) (terms_are_over names p.arguments) over in
        let vs = values_there p.arguments parts.1 reads in
        let name = name_of names p.predicate Predicate (count_of_terms p.arguments) parts.0 in
        let found = holds_there p.predicate vs.members name.name name.there name.kind_is (vs.count ∙ sym name.arity_is) vs.below in
        (found.0, ap (option_and_then ((meanings_in names program interpretation).predicate p.predicate)) vs.are ∙ found.1)
