-- Definitions that have an order reach not themselves, and each has its place among the names of the text.
use Rattle.std.proofs.Common.{◌≡◌, ℕ, zero, suc, ◌<◌, Bool, true, false, List, [], ◌∷◌, ◌++◌, refl, ap, sym, ◌∙◌, subst, arith}
use Rattle.std.specs.Prelude.{◌&&◌, Option, Some, None, position, slice_get, IsTrue, if◌then◌else◌}
use Rattle.std.specs.List.{list_any, AllByRecursion}
use Rattle.std.specs.Option.{is_some}
use Rattle.std.specs.Str.{bytes_eq}
use Rattle.std.proofs.lemmas.Bool.{and_parts, or_left, or_right}
use Rattle.std.proofs.lemmas.Iterator.Adapters.{position_from-zero}
use Rattle.std.proofs.lemmas.List.Folds.{list_any-append}
use Rattle.std.proofs.lemmas.Option.{none-some, same_Some}
use Rattle.base_library.proofs.Bytes.{bytes_same}
use Rattle.base_library.proofs.Numbers.{among_place}
use Rattle.base_library.proofs.Each.{each_left, each_right}
use Rattle.base_library.proofs.Options.{some_is}
use Rattle.tsl_terms.specs.Name.{Name}
use Rattle.tsl_terms.specs.Clashes.{with_use}
use Rattle.spec_syntax.specs.Syntax.{Definition, Declaration, the_section, the_definition}
use Rattle.definition_expansion.specs.DefinitionView.{named_in}
use Rattle.definition_expansion.specs.Reaching.{Reaches, one, more, Using}
use Rattle.definition_expansion.specs.Uses.{uses_of, IsOrder}
use Rattle.definition_expansion.proofs.NamedLemmas.{AreApart, named_at}
use Rattle.name_resolution.specs.declared.occurrence.Role.TheVariants.{Head, Redefined}
use Rattle.name_resolution.specs.Heads.{head_of, is_name, definitions_in}
use Rattle.name_resolution.specs.Occurrences.{Occurrence, section_occurrences, head_name}
use Rattle.name_resolution.specs.Occurrences.{definition_occurrences, occurrences_behind, occurrences}
use Rattle.name_resolution.specs.Faults.{is_redefined, is_head, is_head_of}
use Rattle.name_resolution.specs.WellDeclared.{NoneOnCycle, names_in}
use Rattle.name_resolution.proofs.WholeText.{nowhere, Stands}
use Rattle.name_resolution.proofs.NameTests.{any_from}
use Rattle.name_resolution.proofs.Ranked.{definitions_apart}

-- ---- an order

module _ (ds : List Definition) (order : List ℕ) (is_order : IsOrder ds order) where
  abbrev named : List ℕ → Option Definition
  named = named_in ds

  -- a name is that of a definition that stands before a place of the order
  record StandsBefore (p : ℕ) (y : List ℕ) : Type 0 where
    place : ℕ
    index : ℕ
    definition : Definition
    before : place < p
    stands_there : slice_get order place ≡ Some index
    here : slice_get ds index ≡ Some definition
    name_is : definition.name ≡ y

  used_before : (p i : ℕ) (d : Definition) (y : List ℕ) → slice_get order p ≡ Some i → slice_get ds i ≡ Some d →
      IsTrue (uses_of named d.name y) → StandsBefore p y
  used_before p i d y at_p at_i h =
      let f = some_is (named y) (and_parts _ _ h).1 in
      let at = named_at ds y f.0 f.1 in
      let q = is_order.earlier p i at.0 d f.0 at_p at_i at.1 (subst (λ z. IsTrue (uses_of named d.name z)) (sym at.2) h) in
      record { place = q.0; index = at.0; definition = f.0; before = q.1; stands_there = q.2; here = at.1; name_is = at.2 }

  reached_before : (p i : ℕ) (d : Definition) (x y : List ℕ) → d.name ≡ x → slice_get order p ≡ Some i → slice_get ds i ≡ Some d →
      Reaches (Using (uses_of named)) x y → StandsBefore p y
  reached_before p i d x y is at_p at_i (one h) = used_before p i d y at_p at_i (subst (λ z. IsTrue (uses_of named z y)) (sym is) h)
  reached_before p i d x z is at_p at_i (more {y = y} h k) =
      let s = used_before p i d y at_p at_i (subst (λ w. IsTrue (uses_of named w y)) (sym is) h) in
      let t = reached_before s.place s.index s.definition y z s.name_is s.stands_there s.here k in
      record {
        place = t.place;
        index = t.index;
        definition = t.definition;
        before = omega (arith, s.before, t.before);
        stands_there = t.stands_there;
        here = t.here;
        name_is = t.name_is;
      }

  pub none_on_cycle : AreApart ds → NoneOnCycle ds
  none_on_cycle apart i d at h =
      let p = among_place order i (is_order.all i d at) in
      let s = reached_before p.0 i d d.name d.name refl p.1 at h in
      let index : s.index ≡ i = apart s.index i s.definition d s.here at s.name_is in
      let same : s.place ≡ p.0 = is_order.once s.place p.0 i (s.stands_there ∙ ap Some index) p.1 in
      absurd (omega (arith, s.before, same))

-- the definitions of a text that have an order
pub ordered_are_acyclic : (ds : List Declaration) (order : List ℕ) → position (λ o. is_redefined o.role) (names_in ds) ≡ None →
    IsOrder (definitions_in ds) order → NoneOnCycle (definitions_in ds)
ordered_are_acyclic ds order once is_order = none_on_cycle (definitions_in ds) order is_order (definitions_apart ds once)

-- ---- the place of a head

in_front : (p : Occurrence → Bool) (xs ys : List Occurrence) → list_any p xs ≡ true → list_any p (xs ++ ys) ≡ true
in_front p xs ys h = list_any-append p xs ys ∙ or_left (list_any p xs) (list_any p ys) h

in_back : (p : Occurrence → Bool) (xs ys : List Occurrence) → list_any p ys ≡ true → list_any p (xs ++ ys) ≡ true
in_back p xs ys h = list_any-append p xs ys ∙ or_right (list_any p xs) (list_any p ys) h

head_is : (x : List ℕ) (d : Definition) (b : Bool) → x ≡ d.name → is_redefined (if b then Redefined else Head) ≡ false →
    (is_head (if b then Redefined else Head) && bytes_eq x d.name) ≡ true
head_is x d true same h = cc
head_is x d false same h = bytes_same x d.name same

head_stands : (x : List ℕ) (heads before : List Name) (ds : List Declaration) (i : ℕ) (d : Definition) →
    slice_get (definitions_in ds) i ≡ Some d → x ≡ d.name → AllByRecursion Stands (occurrences_behind heads before ds) →
    list_any (is_head_of x) (occurrences_behind heads before ds) ≡ true
head_stands x heads before [] i d at same h = absurd (none-some d at)
head_stands x heads before (the_section s ∷ ds) i d at same h =
    let own = section_occurrences heads s in
    let rest = occurrences_behind heads before ds in
    in_back (is_head_of x) own rest (head_stands x heads before ds i d at same (each_right Stands own rest h))
head_stands x heads before (the_definition e ∷ ds) zero d at same h =
    let own = definition_occurrences heads before e in
    let rest = occurrences_behind heads (with_use before (head_of e)) ds in
    in_front (is_head_of x) own rest
    (or_left (is_head_of x (head_name before e)) _
    (head_is x e (is_name before e.name) (same ∙ ap (λ (f : Definition). f.name) (sym (same_Some e d at))) (each_left Stands own rest h).0))
head_stands x heads before (the_definition e ∷ ds) (suc i) d at same h =
    let own = definition_occurrences heads before e in
    let rest = occurrences_behind heads (with_use before (head_of e)) ds in
    in_back (is_head_of x) own rest
    (head_stands x heads (with_use before (head_of e)) ds i d at same (each_right Stands own rest h))

some_place : (p : Occurrence → Bool) (xs : List Occurrence) → list_any p xs ≡ true → (at : ℕ) × (position p xs ≡ Some at)
some_place p xs h = some_is (position p xs) (ap is_some (position_from-zero p xs) ∙ any_from p 0 xs ∙ h)

-- each definition is defined at some place of the text
pub head_place : (ds : List Declaration) (heads : List Name) → position (λ o. is_redefined o.role) (occurrences heads ds) ≡ None →
    (i : ℕ) (d : Definition) → slice_get (definitions_in ds) i ≡ Some d →
    (at : ℕ) × (position (is_head_of d.name) (occurrences heads ds) ≡ Some at)
head_place ds heads once i d at =
    some_place (is_head_of d.name) (occurrences heads ds)
    (head_stands d.name heads [] ds i d at refl (nowhere (λ o. is_redefined o.role) (occurrences heads ds) once))
