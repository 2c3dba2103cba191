-- Where no definition of a text reaches itself, there are ranks that fall along its uses.
use Rattle.std.proofs.Common.{◌≡◌, ℕ, zero, suc, ◌<◌, true, false, List, [], ◌∷◌, length, map, refl, ap, sym, ◌∙◌, subst, arith}
use Rattle.std.specs.Prelude.{◌&&◌, Option, Some, None, slice_get, position}
use Rattle.std.specs.List.{AllByRecursion}
use Rattle.std.specs.Option.{is_some, option_map_or}
use Rattle.std.proofs.lemmas.List.{length-map}
use Rattle.std.proofs.lemmas.Option.{none-some, same_Some}
use Rattle.base_library.proofs.Each.{each_from_places}
use Rattle.base_library.proofs.Options.{some_is}
use Rattle.tsl_terms.specs.Name.{AreDistinct}
use Rattle.tsl_terms.proofs.FirstUses.{first_uses_distinct}
use Rattle.spec_syntax.specs.Syntax.{FormulaSyntax, Definition, Declaration, the_section, the_definition}
use Rattle.definition_expansion.specs.DefinitionView.{named_in}
use Rattle.definition_expansion.specs.UseLevels.{At, uses_at}
use Rattle.definition_expansion.specs.Reaching.{Reaches, Among, first, later, Using}
use Rattle.definition_expansion.specs.Uses.{stands_in, uses_of}
use Rattle.definition_expansion.proofs.NamedLemmas.{AreApart, named_at, named_by_number, name_at_place}
use Rattle.definition_expansion.proofs.UseGraphs.{mapped_at}
use Rattle.name_resolution.specs.Heads.{head_of, definitions_in, heads_in}
use Rattle.name_resolution.specs.Faults.{is_redefined}
use Rattle.name_resolution.specs.WellDeclared.{heads_of, names_in, NoneOnCycle, UsesAreBelow, RanksFall}
use Rattle.name_resolution.proofs.Acyclic.{Ranking, ranks_fall}
use Rattle.name_resolution.proofs.WholeText.{heads_stand}

-- ---- definitions by their places

heads_at : (ds : List Declaration) (i : ℕ) (d : Definition) → slice_get (definitions_in ds) i ≡ Some d →
    slice_get (heads_in ds) i ≡ Some (head_of d)
heads_at [] i d at = absurd (none-some d at)
heads_at (the_section s ∷ ds) i d at = heads_at ds i d at
heads_at (the_definition e ∷ ds) zero d at = ap (λ f. Some (head_of f)) (same_Some e d at)
heads_at (the_definition e ∷ ds) (suc i) d at = heads_at ds i d at

-- where no name is redefined, no name is defined twice
pub definitions_apart : (ds : List Declaration) → position (λ o. is_redefined o.role) (names_in ds) ≡ None → AreApart (definitions_in ds)
definitions_apart ds once i j d e at_i at_j same =
    let distinct : AreDistinct (heads_in ds) = subst AreDistinct (heads_stand ds (heads_of ds) once) (first_uses_distinct (heads_in ds)) in
    distinct i j (head_of d) (head_of e) (heads_at ds i d at_i) (heads_at ds j e at_j) same

abbrev names_of : List Definition → List (List ℕ)
names_of ds = map (λ d. d.name) ds

name_among : (ds : List Definition) (i : ℕ) (d : Definition) → slice_get ds i ≡ Some d → Among d.name (names_of ds)
name_among [] i d at = absurd (none-some d at)
name_among (e ∷ ds) zero d at = subst (λ (f : Definition). Among f.name (names_of (e ∷ ds))) (same_Some e d at) first
name_among (e ∷ ds) (suc i) d at = later (name_among ds i d at)

-- the definition of a name that is among theirs
record Stands (ds : List Definition) (x : List ℕ) : Type 0 where
  place : ℕ
  definition : Definition
  there : slice_get ds place ≡ Some definition
  name_is : definition.name ≡ x

stands_at : (ds : List Definition) (x : List ℕ) → Among x (names_of ds) → Stands ds x
stands_at [] x k = elim k [ ]
stands_at (e ∷ ds) x first = record { place = 0; definition = e; there = refl; name_is = refl }
stands_at (e ∷ ds) x (later k) =
    let s = stands_at ds x k in
    record { place = suc s.place; definition = s.definition; there = s.there; name_is = s.name_is }

defined_among : (ds : List Definition) (x : List ℕ) → is_some (named_in ds x) ≡ true → Among x (names_of ds)
defined_among ds x h =
    let d = some_is (named_in ds x) h in
    let at = named_at ds x d.0 d.1 in
    subst (λ y. Among y (names_of ds)) at.2 (name_among ds at.0 d.0 at.1)

-- ---- ranks

module _ (ds : List Declaration) (once : position (λ o. is_redefined o.role) (names_in ds) ≡ None) (acyclic : NoneOnCycle (definitions_in ds)) where
  abbrev all : List Definition
  all = definitions_in ds

  abbrev named : List ℕ → Option Definition
  named = named_in all

  none_reaches : (x : List ℕ) → Among x (names_of all) → Reaches (Using (uses_of named)) x x → ⊥
  none_reaches x k h =
      let s = stands_at all x k in
      acyclic s.place s.definition s.there (subst (λ y. Reaches (Using (uses_of named)) y y) (sym s.name_is) h)

  ranking : Ranking (uses_of named) (names_of all)
  ranking = ranks_fall (uses_of named) (names_of all) none_reaches

  uses_one : (i : ℕ) (d : Definition) → slice_get all i ≡ Some d → (k : ℕ) (u : At) → slice_get (uses_at 0 d.body) k ≡ Some u →
      is_some (named u.name) ≡ true → uses_of named d.name u.name ≡ true
  uses_one i d at k u there defined =
      let found : named d.name ≡ Some d = named_by_number all i d (definitions_apart ds once) at in
      let stands : stands_in d.body u.name ≡ true =
      name_at_place (map (λ v. v.name) (uses_at 0 d.body)) k u.name (mapped_at (λ v. v.name) (uses_at 0 d.body) k u there) in
      (λ m. option_map_or (λ g. stands_in g.body u.name) (found m) false && defined m) ∙ ap (λ b. b && true) stands

  -- a definition uses those of a lower rank
  uses_below : (i : ℕ) (d : Definition) → slice_get all i ≡ Some d → UsesAreBelow named ranking.rank (ranking.rank d.name) d.body
  uses_below i d at =
      each_from_places (λ u. is_some (named u.name) ≡ true → ranking.rank u.name < ranking.rank d.name) (uses_at 0 d.body) (λ k u there defined.
      ranking.falls d.name u.name (name_among all i d at) (defined_among all u.name defined) (uses_one i d at k u there defined))

  -- each is below their number
  any_below : (a : FormulaSyntax) → UsesAreBelow named ranking.rank (length all) a
  any_below a =
      each_from_places (λ u. is_some (named u.name) ≡ true → ranking.rank u.name < length all) (uses_at 0 a) (λ k u there defined.
      omega (arith, ranking.below u.name (defined_among all u.name defined), length-map all (λ d. d.name)))

  fall : (es : List Declaration) →
      ((i : ℕ) (d : Definition) → slice_get (definitions_in es) i ≡ Some d → UsesAreBelow named ranking.rank (ranking.rank d.name) d.body) →
      AllByRecursion (RanksFall named ranking.rank (length all)) es
  fall [] h = tt
  fall (the_section s ∷ es) h = (each_from_places _ s.formulas (λ i f at. any_below f), fall es h)
  fall (the_definition d ∷ es) h = (h 0 d refl, fall es (λ i e at. h (suc i) e at))

  pub ranks_are : (rank : List ℕ → ℕ) × AllByRecursion (RanksFall named rank (length all)) ds
  ranks_are = (ranking.rank, fall ds uses_below)
