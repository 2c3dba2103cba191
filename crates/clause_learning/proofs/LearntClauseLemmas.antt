-- What is learnt is a clause over the variables of the trail, without a literal and its negation.
use Rattle.std.proofs.Common.{◌≡◌, ℕ, ◌<◌, true, false, List, [], ◌∷◌, refl, sym, ap, ◌∙◌, arith}
use Rattle.std.specs.List.{AllByRecursion}
use Rattle.std.proofs.lemmas.Bool.{or_left, or_right, false_from_ne_true}
use Rattle.std.proofs.lemmas.List.Elements.{All-from_recursion}
use Rattle.clause_core.specs.Literals.{Lit, negation, same, has}
use Rattle.clause_core.specs.Clauses.{IsIncreasing, in_order, IsOver, has_pair}
use Rattle.clause_core.proofs.Sets.{one_increasing, IsIncreasing-in_order, has-in_order, same_from, negation-negation, negation_differs, any_has}
use Rattle.sat_trail.specs.declared.entries.Entry.{Entry}
use Rattle.sat_trail.specs.Entries.{literals_of}
use Rattle.sat_trail.specs.States.{TrailState, IsSound}
use Rattle.sat_trail.proofs.Places.{has_entry, one_entry}
use Rattle.sat_trail.proofs.Soundness.{apart_from}
use Rattle.clause_learning.specs.LearntClauses.{IsLearntClause}

-- the literals of a clause in order are the clause
pub copied : (copy clause literals : List Lit) → copy ≡ in_order literals → literals ≡ clause → IsIncreasing clause → copy ≡ clause
copied copy clause literals is reads up = is ∙ (ap in_order reads
    ∙ one_increasing (in_order clause) clause (IsIncreasing-in_order clause) up (has-in_order clause))

all_from_has : (P : Lit → Type 0) (xs : List Lit) → ((l : Lit) → has xs l ≡ true → P l) → AllByRecursion P xs
all_from_has P [] h = tt
all_from_has P (x ∷ xs) h = (
  h x (or_left (same x x) (has xs x) (same_from x x refl)),
  all_from_has P xs (λ l k. h l (or_right (same x l) (has xs l) k)),
)

module _ (t : TrailState) (sound : IsSound t) (clause : List Lit) (hints : List ℕ) (back : ℕ) (learnt_clause : IsLearntClause t clause hints back) where
  pub learnt_clause_over : IsOver t.variables clause
  learnt_clause_over = All-from_recursion (λ (l : Lit). l.index < t.variables) clause
      (all_from_has (λ (l : Lit). l.index < t.variables) clause (λ l h. (let r = has_entry t.entries (negation l) (learnt_clause.is_false l h) in
      let below = (sound.stand r.0 r.1 r.2).over in
      omega (arith, ap (λ (x : Lit). x.index) r.3))))

  pub learnt_clause_no_pair : has_pair clause ≡ false
  learnt_clause_no_pair = false_from_ne_true (has_pair clause) (λ h. (let r = any_has (λ l. has clause (negation l)) clause h in
      let a = has_entry t.entries (negation r.0) (learnt_clause.is_false r.0 r.1) in
      let b = has_entry t.entries r.0 (ap (has (literals_of t.entries)) (sym (negation-negation r.0))
      ∙ learnt_clause.is_false (negation r.0) r.2) in
      let one = one_entry t.entries (apart_from t.variables t.clauses t.entries sound.stand) a.0 b.0 a.1 b.1 a.2 b.2
      (ap (λ (l : Lit). l.index) a.3 ∙ ap (λ (l : Lit). l.index) (sym b.3)) in
      negation_differs r.0 (sym a.3 ∙ (ap (λ (e : Entry). e.literal) one.1 ∙ b.3))))
