-- Clauses with a literal and its negation change nothing.
use Rattle.std.proofs.Common.{◌≡◌, ℕ, suc, ◌+◌, ◌≤◌, Bool, true, false, not, cond, List, [], ◌∷◌, ◌++◌, length, All, refl, sym, ap, subst, arith, ◌∙◌}
use Rattle.std.specs.Prelude.{Some, None, position}
use Rattle.std.specs.List.{position_or_len}
use Rattle.std.proofs.Math.Dec.{ltb}
use Rattle.std.proofs.lemmas.Option.{none-some}
use Rattle.std.proofs.lemmas.List.{append_assoc}
use Rattle.std.proofs.lemmas.Bool.{lt-ltb, ltb-true, and_parts, and_from, false_from_ne_true, false≢true}
use Rattle.std.proofs.lemmas.List.Elements.{All-nil, All-cons}
use Rattle.base_library.proofs.Passes.{filter_within}
use Rattle.clause_core.specs.Literals.{Lit, negation}
use Rattle.clause_core.specs.Clauses.{AreUnsatisfiable, has_pair, is_true, meets, meets_all}
use Rattle.clause_core.proofs.Sets.{HasPair, pair_from, any_from_has}
use Rattle.solve_tool.specs.Outcome.{proper_clauses}

-- each assignment meets a clause with a literal and its negation
met_anyway : (assignment : ℕ → Bool) (clause : List Lit) → has_pair clause ≡ true → meets assignment clause ≡ true
met_anyway assignment clause h = by_truth (is_true assignment pair.literal) refl
  where
    pair : HasPair clause
    pair = pair_from clause h

    other : (l : Lit) → is_true assignment l ≡ false → is_true assignment (negation l) ≡ true
    other l e = by_sign l.positive (assignment l.index) e
      where
        by_sign : (p b : Bool) → cond p b (not b) ≡ false → cond (not p) b (not b) ≡ true
        by_sign true true e = absurd cc
        by_sign true false e = refl
        by_sign false true e = refl
        by_sign false false e = absurd cc

    by_truth : (b : Bool) → is_true assignment pair.literal ≡ b → meets assignment clause ≡ true
    by_truth true e = any_from_has (is_true assignment) clause pair.literal pair.one e
    by_truth false e = any_from_has (is_true assignment) clause (negation pair.literal) pair.other (other pair.literal e)

pub meets_rest : (assignment : ℕ → Bool) (clauses : List (List Lit)) → meets_all assignment (proper_clauses clauses) ≡ true →
    meets_all assignment clauses ≡ true
meets_rest assignment [] h = refl
meets_rest assignment (c ∷ cs) h = by_pair (has_pair c) refl (λ rest. meets_rest assignment cs rest) h
  where
    by_pair : (b : Bool) → has_pair c ≡ b → (meets_all assignment (proper_clauses cs) ≡ true → meets_all assignment cs ≡ true) →
        meets_all assignment (cond (not b) (c ∷ proper_clauses cs) (proper_clauses cs)) ≡ true → meets_all assignment (c ∷ cs) ≡ true
    by_pair true e later k = and_from (meets assignment c) (meets_all assignment cs) (met_anyway assignment c e) (later k)
    by_pair false e later k =
        let parts = and_parts (meets assignment c) (meets_all assignment (proper_clauses cs)) k in
        and_from (meets assignment c) (meets_all assignment cs) parts.0 (later parts.1)

meets_proper : (assignment : ℕ → Bool) (clauses : List (List Lit)) → meets_all assignment clauses ≡ true →
    meets_all assignment (proper_clauses clauses) ≡ true
meets_proper assignment [] h = refl
meets_proper assignment (c ∷ cs) h =
    let parts = and_parts (meets assignment c) (meets_all assignment cs) h in
    by_pair (has_pair c) parts.0 (meets_proper assignment cs parts.1)
  where
    by_pair : (b : Bool) → meets assignment c ≡ true → meets_all assignment (proper_clauses cs) ≡ true →
        meets_all assignment (cond (not b) (c ∷ proper_clauses cs) (proper_clauses cs)) ≡ true
    by_pair true here rest = rest
    by_pair false here rest = and_from (meets assignment c) (meets_all assignment (proper_clauses cs)) here rest

pub unmet_rest : (clauses : List (List Lit)) → AreUnsatisfiable (proper_clauses clauses) → AreUnsatisfiable clauses
unmet_rest clauses unmet assignment =
    false_from_ne_true (meets_all assignment clauses)
    (λ met. false≢true (sym (unmet assignment) ∙ meets_proper assignment clauses met))

pub are_proper : (clauses : List (List Lit)) → All (λ clause. has_pair clause ≡ false) (proper_clauses clauses)
are_proper [] = All-nil (λ (clause : List Lit). has_pair clause ≡ false)
are_proper (c ∷ cs) = by_pair (has_pair c) refl (are_proper cs)
  where
    by_pair : (b : Bool) → has_pair c ≡ b → All (λ clause. has_pair clause ≡ false) (proper_clauses cs) →
        All (λ clause. has_pair clause ≡ false) (cond (not b) (c ∷ proper_clauses cs) (proper_clauses cs))
    by_pair true e rest = rest
    by_pair false e rest = All-cons (λ (clause : List Lit). has_pair clause ≡ false) c (proper_clauses cs) e rest

pub few_proper : (clauses : List (List Lit)) → length (proper_clauses clauses) ≤ length clauses
few_proper clauses = filter_within (λ clause. not (has_pair clause)) clauses

-- a clause that has a pair is left out
pub left_out : (kept rest : List (List Lit)) (clause : List Lit) → has_pair clause ≡ true →
    kept ++ proper_clauses rest ≡ kept ++ proper_clauses (clause ∷ rest)
left_out kept rest clause e = ap (λ b. kept ++ cond (not b) (clause ∷ proper_clauses rest) (proper_clauses rest)) (sym e)

-- one that has none is kept
pub kept_more : (kept rest : List (List Lit)) (clause : List Lit) → has_pair clause ≡ false →
    kept ++ clause ∷ [] ++ proper_clauses rest ≡ kept ++ proper_clauses (clause ∷ rest)
kept_more kept rest clause e = append_assoc kept (clause ∷ []) (proper_clauses rest)
    ∙ ap (λ b. kept ++ cond (not b) (clause ∷ proper_clauses rest) (proper_clauses rest)) (sym e)

-- where no clause has a pair, all are proper
pub all_proper : (clauses : List (List Lit)) → position has_pair clauses ≡ None → proper_clauses clauses ≡ clauses
all_proper [] none = refl
all_proper (c ∷ cs) none = by_pair (has_pair c) (all_proper cs) none
  where
    n : ℕ
    n = position_or_len has_pair cs

    later : (b : Bool) → ltb n (length cs) ≡ b → cond (ltb (suc n) (suc (length cs))) (Some (suc n)) None ≡ None → cond b (Some n) None ≡ None
    later true e k =
        let within : ltb (suc n) (suc (length cs)) ≡ true = lt-ltb (suc n) (suc (length cs)) (omega (arith, ltb-true n (length cs) e)) in
        absurd (none-some (suc n) (sym k ∙ ap (λ b. cond b (Some (suc n)) None) within))
    later false e k = refl

    by_pair : (b : Bool) → (position has_pair cs ≡ None → proper_clauses cs ≡ cs) →
        (let place = cond (not b) (1 + position_or_len has_pair cs) 0 in cond (ltb place (suc (length cs))) (Some place) None ≡ None) →
        cond (not b) (c ∷ proper_clauses cs) (proper_clauses cs) ≡ c ∷ cs
    by_pair true further k =
        let within : ltb 0 (suc (length cs)) ≡ true = lt-ltb 0 (suc (length cs)) (omega (arith)) in
        absurd (none-some 0 (sym k ∙ ap (λ b. cond b (Some 0) None) within))
    by_pair false further k = ap (λ rest. c ∷ rest) (further (later (ltb n (length cs)) refl
        (subst (λ m. cond (ltb m (suc (length cs))) (Some m) None ≡ None) (omega (arith)) k)))
