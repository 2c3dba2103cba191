-- The names of a text that are wrong where they stand, by the rules of this project's profile.
use Rattle.std.specs.Prelude.{ℕ, ◌+◌, Bool, true, false, not, ◌&&◌, List, [], ◌∷◌, flat_map, Option, Some, None, slice_get, nat_lt, option_and_then}
use Rattle.std.specs.Prelude.{if◌then◌else◌}
use Rattle.std.specs.List.{find}
use Rattle.std.specs.Option.{option_map_or}
use Rattle.std.specs.Str.{bytes_eq}
use Rattle.tsl_terms.specs.declared.names.NameKind.TheVariants.{Signal}
use Rattle.tsl_terms.specs.Name.{Name, number_of, same_kind}
use Rattle.tsl_terms.specs.Clashes.{alike_in_kind, same_arity}
use Rattle.name_resolution.specs.declared.occurrence.Role.{Role}
use Rattle.name_resolution.specs.declared.occurrence.Role.TheVariants.{Plain, Parameter, Head, Redefined, Used, Misused}
use Rattle.name_resolution.specs.declared.faults.TheConstants.{DEEPEST}
use Rattle.name_resolution.specs.Occurrences.{Occurrence}

abbrev pub is_plain : Role → Bool
is_plain Plain = true
is_plain _ = false

abbrev pub is_used : Role → Bool
is_used Used = true
is_used _ = false

-- a name in a head that may not stand there
abbrev pub is_redefined : Role → Bool
is_redefined Redefined = true
is_redefined _ = false

abbrev pub is_head : Role → Bool
is_head Head = true
is_head _ = false

-- where a name is defined
abbrev pub is_head_of : List ℕ → Occurrence → Bool
is_head_of x o = is_head o.role && bytes_eq x o.text

-- an occurrence, as the name that it would be
abbrev pub name_of : Occurrence → Name
name_of o = record { text = o.text; kind = o.kind; arity = o.arity }

-- the plain names, in order
abbrev pub plain_name : Occurrence → List Name
plain_name o = if is_plain o.role then name_of o ∷ [] else []

abbrev pub plain_names : List Occurrence → List Name
plain_names all = flat_map plain_name all

-- the first plain occurrence of a name
abbrev pub first_plain : List Occurrence → List ℕ → Option Occurrence
first_plain all x = find (λ o. is_plain o.role && bytes_eq x o.text) all

-- whether a name is not like the first plain occurrence of its text
abbrev pub is_unlike_first : (Name → Name → Bool) → List Occurrence → Occurrence → Bool
is_unlike_first alike all o = option_map_or (λ first. not (alike (name_of first) (name_of o))) (first_plain all o.text) false

-- the name with this text
abbrev pub name_with : List Name → List ℕ → Option Name
name_with names x = option_and_then (slice_get names) (number_of names x)

-- whether there is a name with its text that is not like it
abbrev pub is_unlike_name : (Name → Name → Bool) → List Name → Occurrence → Bool
is_unlike_name alike names o = option_map_or (λ n. not (alike n (name_of o))) (name_with names o.text) false

abbrev pub kind_fault_as : Role → Occurrence → Bool → Bool
kind_fault_as Misused o is_unlike = true
kind_fault_as Parameter o is_unlike = not (same_kind o.kind Signal)
kind_fault_as Plain o is_unlike = is_unlike
kind_fault_as _ o is_unlike = false

-- A defined name that is no use, a parameter that is no signal, or a plain name of another kind than where it stands first.
abbrev pub has_kind_fault : List Occurrence → Occurrence → Bool
has_kind_fault all o = kind_fault_as o.role o (is_unlike_first alike_in_kind all o)

abbrev pub arity_fault_as : Role → Occurrence → Bool → Bool → Bool
arity_fault_as Used o passes_others is_unlike = passes_others
arity_fault_as Plain o passes_others is_unlike = not (same_kind o.kind Signal) && is_unlike
arity_fault_as _ o passes_others is_unlike = false

-- A use with another number of names than its definition has parameters, or a plain function or predicate with another
-- number of arguments than where it stands first.
abbrev pub has_arity_fault : List Name → List Occurrence → Occurrence → Bool
has_arity_fault heads all o = arity_fault_as o.role o (is_unlike_name same_arity heads o) (is_unlike_first same_arity all o)

-- the deepest level
abbrev pub deepest_level : ℕ
deepest_level = DEEPEST

-- how many levels what stands in the place of a use of this name needs, where it is defined
abbrev pub levels_for : List Name → List ℕ → List ℕ → Option ℕ
levels_for heads levels x = option_and_then (slice_get levels) (number_of heads x)

-- whether so many levels below this one pass the deepest one
abbrev pub passes_deepest : ℕ → Option ℕ → Bool
passes_deepest level None = false
passes_deepest level (Some n) = nat_lt deepest_level (level + n)

-- a use in a section such that what stands in its place passes the deepest level
abbrev pub is_deep_use : List Name → List ℕ → Occurrence → Bool
is_deep_use heads levels o = is_used o.role && (o.in_section && passes_deepest o.level (levels_for heads levels o.text))
