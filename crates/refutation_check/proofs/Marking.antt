-- The table of what is true, and what is taken back.
use Rattle.std.proofs.Common.{◌≡◌, ℕ, ◌*◌, ◌<◌, Bool, true, false, List, [], ◌∷◌, ◌++◌, map, length, get_or, set, reverse, sym}
use Rattle.std.proofs.Common.{ap, ◌∙◌, arith, inl, inr}
use Rattle.std.proofs.lemmas.Bool.{true≢false, false≢true, or_cases, cases_Bool, cases_eq}
use Rattle.std.proofs.lemmas.List.{length-set, get_or-set_same, get_or-set_other, map-append, append_assoc, reverse-append}
use Rattle.std.proofs.lemmas.List.Elements.{All-tail}
use Rattle.clause_core.specs.Literals.{Lit, negation, same, has, code_of}
use Rattle.clause_core.specs.Clauses.{IsOver}
use Rattle.clause_core.proofs.Sets.{same_is, code_within}
use Rattle.refutation_check.specs.internal.Marks.{IsTruthTable}

-- the table says of no other literal that it is true
pub record IsAtMost (variables : ℕ) (truths : List Bool) (literals : List Lit) : Type 0 where
  pub all : length truths ≡ 2 * variables
  pub over : IsOver variables literals
  pub each : (l : Lit) → l.index < variables → get_or truths (code_of l) false ≡ true → has literals l ≡ true

pub at_most : (variables : ℕ) (truths : List Bool) (literals : List Lit) → IsTruthTable variables truths literals →
    IsAtMost variables truths literals
at_most variables truths literals t = record { all = t.all; over = t.over; each = λ l below h. sym (t.each l below) ∙ h }

-- the first literal is taken back
pub taken_back : (variables : ℕ) (truths : List Bool) (l : Lit) (ls : List Lit) → IsAtMost variables truths (l ∷ ls) →
    IsAtMost variables (set truths (code_of l) false) ls
taken_back variables truths l ls t = record {
  all = length-set truths (code_of l) false ∙ t.all;
  over = All-tail (λ m. m.index < variables) l ls t.over;
  each = λ m below h. elim (cases_eq (code_of m) (code_of l)) [
    | inl e ↦ absurd (true≢false (sym h
        ∙ (ap (λ k. get_or (set truths (code_of l) false) k false) e
        ∙ get_or-set_same truths (code_of l) false false (let w : code_of l < length truths =
        omega (arith, t.all, code_within variables l (t.over 0 l (omega arith))) in w))))
    | inr n ↦ (let kept : get_or truths (code_of m) false ≡ true = sym (get_or-set_other truths (code_of l) (code_of m) false false n)
        ∙ h in
        elim (or_cases (same l m) (has ls m) (t.each m below kept)) [
          | inl e ↦ absurd (n (sym (ap code_of (same_is l m e))))
          | inr h ↦ h
        ])
  ];
}

-- nothing is true
pub all_taken_back : (variables : ℕ) (truths : List Bool) → IsAtMost variables truths [] → IsTruthTable variables truths []
all_taken_back variables truths t = record {
  all = t.all;
  over = t.over;
  each = λ l below. elim (cases_Bool (get_or truths (code_of l) false)) [
    | inl e ↦ absurd (false≢true (t.each l below e))
    | inr e ↦ e
  ];
}

-- a list, its last member taken off, turned round
pub reverse_push : (xs ys : List Lit) (l : Lit) → xs ≡ ys ++ l ∷ [] → reverse xs ≡ l ∷ reverse ys
reverse_push xs ys l e = ap reverse e ∙ reverse-append ys (l ∷ [])

-- one more literal of the clause is made false
pub falsified_more : (rest before : List Lit) (last : Lit) (trues : List Lit) → rest ≡ before ++ last ∷ [] →
    map negation before ++ negation last ∷ trues ≡ map negation rest ++ trues
falsified_more rest before last trues e =
    sym (ap (λ xs. map negation xs ++ trues) e
    ∙ (ap (λ xs. xs ++ trues) (map-append negation before (last ∷ [])) ∙ append_assoc (map negation before) (negation last ∷ []) trues))
