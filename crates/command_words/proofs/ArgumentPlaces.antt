-- The argument of a command at a place, and that no other one has its name.
use Rattle.std.proofs.Common.{◌≡◌, ◌∙◌, ◌<◌, ◌&&◌, ℕ, Bool, true, not, zero, suc, refl, sym, ap, arith, List, [], ◌∷◌, map}
use Rattle.std.proofs.Common.{length, Option, Some, true≢false, codes}
use Rattle.std.specs.Prelude.{slice_get, unwrap_or}
use Rattle.std.specs.List.{list_all, slice_index_or}
use Rattle.std.specs.Str.{bytes_eq}
use Rattle.std.proofs.lemmas.Slice.Eq.{bytes_eq-Decides}
use Rattle.clap.specs.Walk.{Rule, Text, rule_of}
use Rattle.clap.specs.declared.builder.arg.Arg.{Arg}
use Rattle.clap.proofs.SimpleLemmas.{is_false}
use Rattle.clap.proofs.WalkLemmas.{both}

pub rule_at : (xs : List Arg) (k : ℕ) (r : Rule) → slice_get (map rule_of xs) k ≡ Some r
    → (d : Arg) × (k < length xs) × (rule_of (slice_index_or xs k d) ≡ r)
rule_at [] k r e = cc
rule_at (x ∷ xs) zero r e = (x, omega arith, ap (λ (o : Option Rule). unwrap_or o (rule_of x)) e)
rule_at (x ∷ xs) (suc k) r e = let rest = rule_at xs k r e in (rest.0, omega arith, rest.2)

-- no argument but the one at place k has the name
abbrev pub only_at : Text → List Rule → ℕ → Bool
only_at id [] k = true
only_at id (r ∷ rs) zero = list_all (λ s. not (bytes_eq s.id id)) rs
only_at id (r ∷ rs) (suc k) = not (bytes_eq r.id id) && only_at id rs k

none_is : (xs : List Arg) (id : Text) (j : ℕ) (e : Arg) → list_all (λ s. not (bytes_eq s.id id)) (map rule_of xs) ≡ true
    → j < length xs → bytes_eq (slice_index_or xs j e).id.now id ≡ true → ⊥
none_is [] id j e all lt same = omega arith
none_is (x ∷ xs) id zero e all lt same = let no = is_false _ (both _ _ all).0 in absurd (true≢false (sym same ∙ no))
none_is (x ∷ xs) id (suc j) e all lt same = none_is xs id j e (both _ _ all).1 (omega arith) same

pub only_one : (xs : List Arg) (id : Text) (k j : ℕ) (e : Arg) → only_at id (map rule_of xs) k ≡ true → j < length xs
    → bytes_eq (slice_index_or xs j e).id.now id ≡ true → j ≡ k
only_one [] id k j e only lt same = absurd (omega arith)
only_one (x ∷ xs) id zero zero e only lt same = refl
only_one (x ∷ xs) id zero (suc j) e only lt same = absurd (none_is xs id j e only (omega arith) same)
only_one (x ∷ xs) id (suc k) zero e only lt same = let no = is_false _ (both _ _ only).0 in absurd (true≢false (sym same ∙ no))
only_one (x ∷ xs) id (suc k) (suc j) e only lt same = ap suc (only_one xs id k j e (both _ _ only).1 (omega arith) same)

-- the name is none that building gives, and not empty
abbrev pub is_own : Text → Bool
is_own id = not (bytes_eq id []) && (not (bytes_eq id (codes "help")) && not (bytes_eq id (codes "version")))

pub is_not : (id other : Text) → not (bytes_eq id other) ≡ true → id ≡ other → ⊥
is_not id other differs same =
    let yes : bytes_eq id other ≡ true = (bytes_eq-Decides id other).1 same in
    true≢false (sym yes ∙ is_false _ differs)
