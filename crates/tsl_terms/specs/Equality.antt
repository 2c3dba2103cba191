-- The predicate that is equality: the one named `eq` that takes two arguments.
use Rattle.std.specs.Prelude.{ℕ, Bool, false, ◌&&◌, ◌==◌, List, codes, Option, slice_get, position}
use Rattle.std.specs.Option.{option_map_or}
use Rattle.std.specs.Str.{bytes_eq}
use Rattle.tsl_terms.specs.declared.names.NameKind.TheVariants.{Predicate}
use Rattle.tsl_terms.specs.Name.{Name, same_kind}

-- whether a name is that of equality
abbrev pub names_equality : Name → Bool
names_equality n = bytes_eq (codes "eq") n.text && (same_kind n.kind Predicate && (n.arity == 2))

-- whether the name with a number is
abbrev pub is_equality : List Name → ℕ → Bool
is_equality names id = option_map_or names_equality (slice_get names id) false

-- the number of equality among names, where it stands among them
abbrev pub equality_in : List Name → Option ℕ
equality_in names = position names_equality names
