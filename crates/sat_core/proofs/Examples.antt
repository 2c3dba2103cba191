-- Small cases of the definitions, accepted and refused.
use Rattle.std.proofs.Common.{◌≡◌, ℕ, zero, suc, ◌+◌, ◌^◌, ◌<◌, ◌≤◌, inl, inr, Bool, true, false, List, [], ◌∷◌, length, Some}
use Rattle.std.proofs.Common.{slice_get, pos, refl, sym, ap, subst, arith, lit<}
use Rattle.std.proofs.lemmas.Bool.{false≢true, or_cases, or_left}
use Rattle.std.proofs.lemmas.Option.{none-some, same_Some}
use Rattle.std.proofs.lemmas.List.Elements.{All-from_recursion, recursion_from_All}
use Rattle.clause_core.specs.Literals.{Lit, literal_of, negation, same, has}
use Rattle.clause_core.specs.Propagation.{IsQuiet, IsLearnt, IsNotFound, IsTrace, HasReversePropagation}
use Rattle.clause_core.specs.Propagation.Reaches.{done, turn}
use Rattle.clause_core.proofs.Sets.{IsIncreasing-in_order}
use Rattle.clause_core.proofs.Semantics.{reached_within, none_false_within}
use Rattle.sat_trail.proofs.TrailSteps.{IsOpen, open_two, open_true, quiet_from}
use Rattle.refutation_check.specs.declared.steps.Step.{Step}
use Rattle.sat_core.proofs.LogNumbers.{is_numbered}
use Rattle.clause_learning.specs.LearntClauses.{learnt_step}
use Rattle.sat_core.specs.Answers.{AreSatisfying, AreRefuting, IsWholeTrace}
use Rattle.sat_core.proofs.Counting.{word, not_within}
use Rattle.sat_core.proofs.Searching.{quiet_reaches}

abbrev a : Lit
a = literal_of (pos 1)

abbrev b : Lit
b = literal_of (pos 2)

-- the clauses 1 2 and 1 -2
abbrev pair : List (List Lit)
pair = (a ∷ b ∷ []) ∷ (negation b ∷ a ∷ []) ∷ []

-- the clauses 1 2, 1 -2, -1 2 and -1 -2
abbrev square : List (List Lit)
square = (a ∷ b ∷ []) ∷ (negation b ∷ a ∷ []) ∷ (negation a ∷ b ∷ []) ∷ (negation b ∷ negation a ∷ []) ∷ []

-- ---- assignments

satisfying : AreSatisfying 2 pair (true ∷ false ∷ [])
satisfying = record { one_each = refl; all_met = refl }

not_satisfying : AreSatisfying 2 pair (false ∷ true ∷ []) → ⊥
not_satisfying h = false≢true h.all_met

one_truth_missing : AreSatisfying 2 pair (true ∷ []) → ⊥
one_truth_missing h = let e = h.one_each in omega arith

-- ---- logs

-- 1 by the clauses 1 and 2, then the empty clause by 5, 3 and 4
abbrev log : List Step
log = learnt_step 5 (a ∷ []) (1 ∷ 2 ∷ []) ∷ learnt_step 6 [] (5 ∷ 3 ∷ 4 ∷ []) ∷ []

refuting : AreRefuting 2 square log
refuting = record {
  accepted = refl;
  few_hints = All-from_recursion (λ (s : Step). length s.hints + 1 < 2 ^ 32) log (lit< tt, (lit< tt, tt));
  numbered = (
    is_numbered (learnt_step 5 (a ∷ []) (1 ∷ 2 ∷ [])) 4 refl (All-from_recursion (λ hint. (1 ≤ hint) × (hint ≤ 4)) (1 ∷ 2 ∷ [])
        ((omega arith, omega arith), ((omega arith, omega arith), tt))),
    (
      is_numbered (learnt_step 6 [] (5 ∷ 3 ∷ 4 ∷ [])) 5 refl (All-from_recursion (λ hint. (1 ≤ hint) × (hint ≤ 5)) (5 ∷ 3 ∷ 4 ∷ [])
          ((omega arith, omega arith), ((omega arith, omega arith), ((omega arith, omega arith), tt)))),
      tt,
    ),
  );
}

-- a hint after the one that ends them names a clause too
hint_zero : AreRefuting 2 square (learnt_step 5 (a ∷ []) (1 ∷ 2 ∷ 0 ∷ []) ∷ learnt_step 6 [] (5 ∷ 3 ∷ 4 ∷ []) ∷ []) → ⊥
hint_zero h = let n = (recursion_from_All (λ hint. (1 ≤ hint) × (hint < 5))
    (1 ∷ 2 ∷ 0 ∷ []) h.numbered.0.hints_earlier).1.1.0.0 in omega arith

-- the numbers of steps follow one another
number_left_out : AreRefuting 2 square (learnt_step 5 (a ∷ []) (1 ∷ 2 ∷ []) ∷ learnt_step 7 [] (5 ∷ 3 ∷ 4 ∷ []) ∷ []) → ⊥
number_left_out h = let n = h.numbered.1.0.number_is in omega arith

-- the last step without the clause in conflict
no_conflict : AreRefuting 2 square (learnt_step 5 (a ∷ []) (1 ∷ 2 ∷ []) ∷ learnt_step 6 [] (5 ∷ 3 ∷ []) ∷ []) → ⊥
no_conflict h = none-some _ (sym h.accepted)

no_empty_clause : AreRefuting 2 square (learnt_step 5 (a ∷ []) (1 ∷ 2 ∷ []) ∷ []) → ⊥
no_empty_clause h = none-some _ (sym h.accepted)

-- ---- traces

-- behind 1 2 and 1 -2 nothing is found as long as nothing is true
quiet_first : IsQuiet pair []
quiet_first = quiet_from [] pair each
  where
    each : (k : ℕ) (c : List Lit) → slice_get pair k ≡ Some c → IsOpen [] c
    each zero c at = subst (IsOpen []) (same_Some (a ∷ b ∷ []) c at) (open_two [] (a ∷ b ∷ []) (lit< tt))
    each (suc zero) c at = subst (IsOpen []) (same_Some (negation b ∷ a ∷ []) c at) (open_two [] (negation b ∷ a ∷ []) (lit< tt))
    each (suc (suc k)) c at = absurd (none-some c at)

-- with the clause 1 behind them, 1 is true, and that is all
quiet_last : IsQuiet ((a ∷ b ∷ []) ∷ (negation b ∷ a ∷ []) ∷ (a ∷ []) ∷ []) (a ∷ [])
quiet_last = quiet_from (a ∷ []) ((a ∷ b ∷ []) ∷ (negation b ∷ a ∷ []) ∷ (a ∷ []) ∷ []) each
  where
    each : (k : ℕ) (c : List Lit) → slice_get ((a ∷ b ∷ []) ∷ (negation b ∷ a ∷ []) ∷ (a ∷ []) ∷ []) k ≡ Some c → IsOpen (a ∷ []) c
    each zero c at = subst (IsOpen (a ∷ [])) (same_Some (a ∷ b ∷ []) c at) (open_two (a ∷ []) (a ∷ b ∷ []) (lit< tt))
    each (suc zero) c at = subst (IsOpen (a ∷ [])) (same_Some (negation b ∷ a ∷ []) c at)
        (open_two (a ∷ []) (negation b ∷ a ∷ []) (lit< tt))
    each (suc (suc zero)) c at = subst (IsOpen (a ∷ [])) (same_Some (a ∷ []) c at) (open_true (a ∷ []) (a ∷ []) a refl refl)
    each (suc (suc (suc k))) c at = absurd (none-some c at)

-- 1 follows from 1 2 and 1 -2: with 1 false, 1 2 makes 2 true, and 1 -2 is false
found : HasReversePropagation pair (a ∷ [])
found = (
  b ∷ negation a ∷ [],
  turn {clause = a ∷ b ∷ []} {l = b} (0, lit< tt, refl)
      (record { others_false = refl; unassigned = refl }) done,
  (negation b ∷ a ∷ [], (1, lit< tt, refl), refl),
)

not_found : IsNotFound pair (a ∷ []) a
not_found trues reaches =
    let within = reached_within pair [] trues [] reaches (λ m h. h) quiet_first in
    (none_false_within pair trues [] within quiet_first, unseen (has trues a) (within a))
  where
    unseen : (seen : Bool) → (seen ≡ true → false ≡ true) → seen ≡ false
    unseen true h = absurd (false≢true (h refl))
    unseen false h = refl

learnt : IsLearnt 2 pair (a ∷ [])
learnt = record {
  not_empty = λ h. (let e = ap length h in omega arith);
  over = All-from_recursion (λ (l : Lit). l.index < 2) (a ∷ []) (lit< tt, tt);
  no_pair = refl;
  found = found;
  adds = (a, (0, lit< tt, refl), not_found);
}

trace : IsWholeTrace 2 pair 1 ((a ∷ []) ∷ [])
trace = record {
  whole_budget = refl;
  learnt = (learnt, quiet_reaches ((a ∷ b ∷ []) ∷ (negation b ∷ a ∷ []) ∷ (a ∷ []) ∷ []) (a ∷ []) quiet_last);
  few = lit< tt;
}

-- a copy of a clause is no trace
copy : IsTrace 2 pair ((a ∷ b ∷ []) ∷ []) → ⊥
copy t = not_within 2 pair (a ∷ b ∷ []) (a ∷ b ∷ []) (0, lit< tt, refl) (IsIncreasing-in_order (a ∷ b ∷ [])) (λ m h. h) t.0

-- nor is a clause with one more literal than a known one
longer : IsTrace 2 ((a ∷ []) ∷ []) ((a ∷ b ∷ []) ∷ []) → ⊥
longer t = not_within 2 ((a ∷ []) ∷ []) (a ∷ []) (a ∷ b ∷ []) (0, lit< tt, refl) (tt, tt) (λ m h. first m h) t.0
  where
    first : (m : Lit) → has (a ∷ []) m ≡ true → has (a ∷ b ∷ []) m ≡ true
    first m h = elim (or_cases (same a m) false h) [ inl e ↦ or_left (same a m) (has (b ∷ []) m) e | inr f ↦ absurd (false≢true f) ]

-- the empty clause is not learnt
empty : IsTrace 2 pair ([] ∷ []) → ⊥
empty t = t.0.not_empty refl

-- 1 refutes the square by propagation, so a search does not end with it
refuted : IsTrace 2 square ((a ∷ []) ∷ []) → ⊥
refuted t = t.1 (
  b ∷ a ∷ [],
  turn {clause = a ∷ []} {l = a} (4, lit< tt, refl) (record { others_false = refl; unassigned = refl })
      (turn {clause = negation a ∷ b ∷ []} {l = b} (2, lit< tt, refl) (record { others_false = refl; unassigned = refl }) done),
  (negation b ∷ negation a ∷ [], (3, lit< tt, refl), refl),
)

-- ---- words of signs

-- 1 -2: the sign 1 of the first variable counts three, the sign 2 of the second two
word_of_signs : word 2 (negation b ∷ a ∷ []) ≡ 5
word_of_signs = refl

no_signs : word 2 [] ≡ 0
no_signs = refl
