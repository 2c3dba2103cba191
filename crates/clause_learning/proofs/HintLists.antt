-- Lists of hints, with one more and in the opposite order.
use Rattle.std.proofs.Common.{ℕ, ◌+◌, ◌<◌, ◌≤◌, List, [], ◌∷◌, ◌++◌, sym, subst, arith, All}
use Rattle.std.specs.Prelude.{reverse}
use Rattle.std.specs.List.{AllByRecursion}
use Rattle.std.proofs.lemmas.List.{reverse-append}
use Rattle.std.proofs.lemmas.List.Elements.{All-push, All-nil, recursion_from_All}
use Rattle.clause_learning.specs.Hints.{AreHints}

-- what holds of each member holds of each member in the opposite order
all_reverse : {X : Type 0} (P : X → Type 0) (xs : List X) → AllByRecursion P xs → All P (reverse xs)
all_reverse P [] all = All-nil P
all_reverse P (x ∷ xs) all =
    subst (All P) (sym (reverse-append (x ∷ []) xs)) (All-push P (reverse xs) x (all_reverse P xs all.1) all.0)

pub hints_reversed : (last : ℕ) (hints : List ℕ) → AreHints last hints → AreHints last (reverse hints)
hints_reversed last hints all =
    all_reverse (λ hint. (1 ≤ hint) × (hint ≤ last)) hints (recursion_from_All (λ hint. (1 ≤ hint) × (hint ≤ last)) hints all)

pub hints_push : (last : ℕ) (hints : List ℕ) (clause : ℕ) → AreHints last hints → clause < last → AreHints last (hints ++ (clause + 1) ∷ [])
hints_push last hints clause all below = All-push (λ hint. (1 ≤ hint) × (hint ≤ last)) hints (clause + 1) all (omega arith, omega arith)
