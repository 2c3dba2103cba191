-- The first plain occurrence of a name against the table of plain names.
use Rattle.std.proofs.Common.{◌≡◌, ℕ, ◌+◌, ◌<◌, Bool, true, false, cond, not, List, [], ◌∷◌, ◌++◌, map, length, get_or, drop, refl, ap, sym, ◌∙◌}
use Rattle.std.specs.Prelude.{◌&&◌, Option, Some, None, option_map, position, nat_lt}
use Rattle.std.specs.List.{position_or_len}
use Rattle.std.specs.Option.{option_map_or}
use Rattle.std.specs.Str.{bytes_eq}
use Rattle.std.proofs.lemmas.List.{length-map, drop_more}
use Rattle.tsl_terms.specs.Name.{Name}
use Rattle.tsl_terms.specs.Clashes.{with_uses, first_uses, alike_in_kind, same_arity}
use Rattle.tsl_terms.proofs.FirstUses.{first_of, named_first}
use Rattle.name_resolution.specs.declared.occurrence.ReadOccurrence.{ReadOccurrence}
use Rattle.name_resolution.specs.Occurrences.{Occurrence}
use Rattle.name_resolution.specs.OccurrenceView.{occurrence_of}
use Rattle.name_resolution.specs.Faults.{is_plain, name_of, plain_name, plain_names, first_plain, is_unlike_first, is_unlike_name}
use Rattle.name_resolution.specs.Faults.{kind_fault_as, has_kind_fault, arity_fault_as, has_arity_fault}
use Rattle.name_resolution.proofs.Walks.{uses_joined}

-- a place in a list of images
position_or_len_map : {X Y : Type 0} (f : X → Y) (p : Y → Bool) (xs : List X) →
    position_or_len p (map f xs) ≡ position_or_len (λ x. p (f x)) xs
position_or_len_map f p [] = refl
position_or_len_map f p (x ∷ xs) = ap (λ n. cond (not (p (f x))) (1 + n) 0) (position_or_len_map f p xs)

pub position_map : {X Y : Type 0} (f : X → Y) (p : Y → Bool) (xs : List X) → position p (map f xs) ≡ position (λ x. p (f x)) xs
position_map f p xs =
    λ i. cond (nat_lt (position_or_len_map f p xs i) (length-map xs f i)) (Some (position_or_len_map f p xs i)) None

-- the first plain name with a text is the first plain occurrence
first_plain_is : (all : List Occurrence) (x : List ℕ) → first_of (plain_names all) x ≡ option_map name_of (first_plain all x)
first_plain_is [] x = refl
first_plain_is (o ∷ all) x = by (is_plain o.role) (bytes_eq x o.text) (first_plain_is all x) where
  by : (plain is : Bool) → first_of (plain_names all) x ≡ option_map name_of (first_plain all x) →
      first_of (cond plain (name_of o ∷ []) [] ++ plain_names all) x ≡ option_map name_of (cond (plain && bytes_eq x o.text) (Some o) (first_plain all x))
  by false is h = h
  by true is h = same (bytes_eq x o.text) h where
    same : (is : Bool) → first_of (plain_names all) x ≡ option_map name_of (first_plain all x) →
        cond is (Some (name_of o)) (first_of (plain_names all) x) ≡ option_map name_of (cond is (Some o) (first_plain all x))
    same true h = refl
    same false h = h

unlike_mapped : (test : Name → Bool) (found : Option Occurrence) →
    option_map_or test (option_map name_of found) false ≡ option_map_or (λ o. test (name_of o)) found false
unlike_mapped test None = refl
unlike_mapped test (Some o) = refl

-- by the table of plain names it is told whether a name is like its first plain occurrence
pub unlike_is : (alike : Name → Name → Bool) (firsts : List Name) (all : List Occurrence) (o : Occurrence) →
    firsts ≡ first_uses (plain_names all) → is_unlike_name alike firsts o ≡ is_unlike_first alike all o
unlike_is alike firsts all o table =
    ap (λ names. is_unlike_name alike names o) table
    ∙ ap (λ found. option_map_or (λ n. not (alike n (name_of o))) found false) (named_first (plain_names all) o.text ∙ first_plain_is all o.text)
    ∙ unlike_mapped (λ n. not (alike n (name_of o))) (first_plain all o.text)

pub kind_faults : (firsts : List Name) (os : List ReadOccurrence) → firsts ≡ first_uses (plain_names (map occurrence_of os)) →
    position (λ o. kind_fault_as o.role (occurrence_of o) (is_unlike_name alike_in_kind firsts (occurrence_of o))) os
    ≡ position (has_kind_fault (map occurrence_of os)) (map occurrence_of os)
kind_faults firsts os table =
    (λ i. position (λ (o : ReadOccurrence). kind_fault_as o.role (occurrence_of o)
    (unlike_is alike_in_kind firsts (map occurrence_of os) (occurrence_of o) table i)) os)
    ∙ sym (position_map occurrence_of (has_kind_fault (map occurrence_of os)) os)

pub arity_faults : (heads firsts : List Name) (os : List ReadOccurrence) → firsts ≡ first_uses (plain_names (map occurrence_of os)) →
    position (λ o. arity_fault_as o.role (occurrence_of o) (is_unlike_name same_arity heads (occurrence_of o))
    (is_unlike_name same_arity firsts (occurrence_of o))) os
    ≡ position (has_arity_fault heads (map occurrence_of os)) (map occurrence_of os)
arity_faults heads firsts os table =
    (λ i. position (λ (o : ReadOccurrence). arity_fault_as o.role (occurrence_of o) (is_unlike_name same_arity heads (occurrence_of o))
    (unlike_is same_arity firsts (map occurrence_of os) (occurrence_of o) table i)) os)
    ∙ sym (position_map occurrence_of (has_arity_fault heads (map occurrence_of os)) os)

pub plain_more : (old new whole : List Name) (os : List ReadOccurrence) (i : ℕ) (d : ReadOccurrence) → i < length os →
    new ≡ with_uses old (plain_name (occurrence_of (get_or os i d))) →
    with_uses old (plain_names (map occurrence_of (drop i os))) ≡ whole →
    with_uses new (plain_names (map occurrence_of (drop (i + 1) os))) ≡ whole
plain_more old new whole os i d within added so_far =
    ap (λ ns. with_uses ns (plain_names (map occurrence_of (drop (i + 1) os)))) added
    ∙ sym (uses_joined old (plain_name (occurrence_of (get_or os i d))) (plain_names (map occurrence_of (drop (i + 1) os))))
    ∙ ap (λ xs. with_uses old (plain_names (map occurrence_of xs))) (sym (drop_more os i d within))
    ∙ so_far
