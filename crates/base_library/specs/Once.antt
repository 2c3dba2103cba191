-- Lists whose members stand once.
use Rattle.std.specs.Prelude.{◌≡◌, ℕ, List, Some, slice_get}

-- no member stands twice
abbrev pub StandOnce : {A : Type 0} → List A → Type 0
StandOnce {A = A} xs = (i j : ℕ) (x : A) → slice_get xs i ≡ Some x → slice_get xs j ≡ Some x → i ≡ j
