-- Uses of names, each as the name that it would be, and the first use that is not like the first use of its name.
use Rattle.std.specs.Prelude.{◌≡◌, ℕ, ◌<◌, ◌==◌, Bool, false, List, [], ◌∷◌, ◌++◌, Option, Some, None, slice_get}
use Rattle.tsl_terms.specs.declared.clash.NameUse.{NameUse}
use Rattle.tsl_terms.specs.declared.clash.Quality.{Quality}
use Rattle.tsl_terms.specs.declared.clash.Quality.TheVariants.{Kind, Arity}
use Rattle.tsl_terms.specs.Name.{Name, number_of, same_kind}

-- a use, without where its bytes lie in memory
abbrev pub name_use : NameUse → Name
name_use usage = record { text = usage.text.now; kind = usage.kind; arity = usage.arity }

-- the names, and at their end this one where they have none of its text
abbrev pub added_unless_found : List Name → Name → Option ℕ → List Name
added_unless_found names usage (Some number) = names
added_unless_found names usage None = names ++ usage ∷ []

abbrev pub with_use : List Name → Name → List Name
with_use names usage = added_unless_found names usage (number_of names usage.text)

abbrev pub with_uses : List Name → List Name → List Name
with_uses names [] = names
with_uses names (usage ∷ uses) = with_uses (with_use names usage) uses

-- the names of uses in the order of their first uses, each as it is used first
abbrev pub first_uses : List Name → List Name
first_uses uses = with_uses [] uses

-- in what two uses of one name may be alike

abbrev pub alike_in_kind : Name → Name → Bool
alike_in_kind m n = same_kind m.kind n.kind

abbrev pub same_arity : Name → Name → Bool
same_arity m n = m.arity == n.arity

abbrev pub alike_in : Quality → Name → Name → Bool
alike_in Kind = alike_in_kind
alike_in Arity = same_arity

-- no use stands at a smaller place that has the same text
abbrev pub IsFirstUse : List Name → ℕ → Type 0
IsFirstUse uses at = (i : ℕ) (m n : Name) → i < at → slice_get uses i ≡ Some m → slice_get uses at ≡ Some n → m.text ≡ n.text → ⊥

-- the use at this place is not like the first use of its name
pub record IsClash (alike : Name → Name → Bool) (uses : List Name) (at : ℕ) : Type 0 where
  pub first_at : ℕ
  pub first : Name
  pub usage : Name
  pub first_there : slice_get uses first_at ≡ Some first
  pub use_there : slice_get uses at ≡ Some usage
  pub same_name : first.text ≡ usage.text
  pub is_first : IsFirstUse uses first_at
  pub differs : alike first usage ≡ false

-- the first such use
pub record IsFirstClash (alike : Name → Name → Bool) (uses : List Name) (at : ℕ) : Type 0 where
  pub clash : IsClash alike uses at
  pub none_before : (i : ℕ) → i < at → IsClash alike uses i → ⊥

abbrev pub HasNoClash : (Name → Name → Bool) → List Name → Type 0
HasNoClash alike uses = (at : ℕ) → IsClash alike uses at → ⊥
