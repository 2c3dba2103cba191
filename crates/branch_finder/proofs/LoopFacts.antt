-- What loops keep that look for the first of something: that none of those gone through is it.
use Rattle.std.proofs.Common.{◌≡◌, ◌∙◌, ℕ, ◌+◌, ◌<◌, ◌⊎◌, inl, inr, Bool, true, false, List, Option, Some, None, IfNone, slice_get, sym}
use Rattle.std.proofs.Common.{ap, subst, arith}
use Rattle.std.proofs.lemmas.Bool.{false≢true}
use Rattle.base_library.proofs.Places.{slice_get_one}

pub false_is_not_true : (b : Bool) → b ≡ false → b ≡ true → ⊥
false_is_not_true b fails holds = false≢true (sym fails ∙ holds)

pub before_or_here : (m n : ℕ) → m < n + 1 → (m < n) ⊎ (m ≡ n)
before_or_here m n below = grind (arith, below)

-- one number more
pub none_more : (P : ℕ → Type 0) (n : ℕ) → ((m : ℕ) → m < n → P m → ⊥) → (P n → ⊥) → (m : ℕ) → m < n + 1 → P m → ⊥
none_more P n before here m below holds = elim (before_or_here m n below) [
  | inl earlier ↦ before m earlier holds
  | inr same ↦ here (subst P same holds)
]

-- one member more
pub passed_by : (xs : List ℕ) (n : ℕ) (P : ℕ → Type 0) (x : ℕ) → slice_get xs n ≡ Some x →
    ((k y : ℕ) → k < n → slice_get xs k ≡ Some y → P y → ⊥) → (P x → ⊥) → (k y : ℕ) → k < n + 1 → slice_get xs k ≡ Some y → P y → ⊥
passed_by xs n P x at before here k y below there holds = elim (before_or_here k n below) [
  | inl earlier ↦ before k y earlier there holds
  | inr same ↦ here (subst P (sym (slice_get_one xs n x y at (sym (ap (slice_get xs) same) ∙ there))) holds)
]

pub all_more : (P : ℕ → Type 0) (n : ℕ) → ((m : ℕ) → m < n → P m) → P n → (m : ℕ) → m < n + 1 → P m
all_more P n before here m below = elim (before_or_here m n below) [
  | inl earlier ↦ before m earlier
  | inr same ↦ subst P (sym same) here
]

-- one member more of which something holds
pub each_more : (P : ℕ → Type 0) (xs : List ℕ) (n x : ℕ) → slice_get xs n ≡ Some x →
    ((k y : ℕ) → k < n → slice_get xs k ≡ Some y → P y) → P x → (k y : ℕ) → k < n + 1 → slice_get xs k ≡ Some y → P y
each_more P xs n x at before here k y below there = elim (before_or_here k n below) [
  | inl earlier ↦ before k y earlier there
  | inr same ↦ subst P (slice_get_one xs n x y at (sym (ap (slice_get xs) same) ∙ there)) here
]

-- what follows where nothing is found
pub none_leads : {X : Type 0} (o : Option X) (P Q : Type 0) → (P → Q) → IfNone o P → IfNone o Q
none_leads None P Q leads holds = leads holds
none_leads (Some x) P Q leads holds = tt
