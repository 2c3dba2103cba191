-- Names: a list of them in order of first appearance, so that a name's number is its place.
use Rattle.std.specs.Prelude.{◌≡◌, ℕ, Bool, true, false, ◌&&◌, ◌==◌, List, map, codes, Option, Some, slice_get, position}
use Rattle.std.specs.Option.{option_map_or}
use Rattle.std.specs.Str.{bytes_eq}
use Rattle.tsl_terms.specs.declared.names.NameKind.{NameKind}
use Rattle.tsl_terms.specs.declared.names.NameKind.TheVariants.{Signal, Function, Predicate}

-- a name: its bytes, what it stands for, and how many arguments it takes (a signal none)
pub record Name : Type 0 where
  pub text : List ℕ
  pub kind : NameKind
  pub arity : ℕ

abbrev pub same_kind : NameKind → NameKind → Bool
same_kind Signal Signal = true
same_kind Function Function = true
same_kind Predicate Predicate = true
same_kind _ _ = false

-- the names' texts, in order
abbrev pub texts : List Name → List (List ℕ)
texts names = map (λ n. n.text) names

-- the number of the name with this text
abbrev pub number_of : List Name → List ℕ → Option ℕ
number_of names text = position (bytes_eq text) (texts names)

-- whether the number is that of a name of this kind that takes so many arguments
abbrev pub is_name : List Name → ℕ → NameKind → ℕ → Bool
is_name names id kind arity = option_map_or (λ n. same_kind n.kind kind && (n.arity == arity)) (slice_get names id) false

-- the predicate that a bare name tests: the truth of a Boolean signal
abbrev pub question : List ℕ
question = codes "?"

-- no text stands twice
abbrev pub AreDistinct : List Name → Type 0
AreDistinct names = (i j : ℕ) (m n : Name) → slice_get names i ≡ Some m → slice_get names j ≡ Some n → m.text ≡ n.text → i ≡ j
