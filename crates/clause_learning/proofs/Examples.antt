-- Small cases of the definitions, accepted and refused.
use Rattle.std.proofs.Common.{◌≡◌, ℕ, zero, suc, ◌<◌, inl, inr, Bool, true, false, List, [], ◌∷◌, length, Some, None}
use Rattle.std.proofs.Common.{get_or, All, pos, negsuc, refl, sym, ap, ◌∙◌, subst, arith, lit<}
use Rattle.std.specs.Prelude.{nat_lt, map}
use Rattle.std.proofs.lemmas.Bool.{false≢true}
use Rattle.std.proofs.lemmas.Option.{same_Some}
use Rattle.std.proofs.lemmas.List.Elements.{All-from_recursion}
use Rattle.clause_core.specs.Literals.{Lit, literal_of, negation, has}
use Rattle.sat_trail.specs.declared.entries.Entry.{Entry}
use Rattle.sat_trail.specs.Entries.{entry_with}
use Rattle.clause_learning.specs.declared.seen.Seen.{Seen}
use Rattle.clause_learning.specs.ConflictAnalysis.{count_at, is_of_clause, AreSeen, must_go, IsReplaced}

abbrev a : Lit
a = literal_of (pos 1)

abbrev b : Lit
b = literal_of (pos 2)

-- ---- the analysis

-- 1 at level 0 by the clause 0, 2 decided, -3 by the clause 1
abbrev entries : List Entry
entries = entry_with a 0 (Some 0) ∷ entry_with b 1 None ∷ entry_with (literal_of (negsuc 2)) 1 (Some 1) ∷ []

-- the entries at the first two places are seen
abbrev first_two : ℕ → Bool
first_two place = nat_lt place 2

one_of_the_level : count_at 1 first_two entries ≡ 1
one_of_the_level = refl

-- the clause -1 3 has the entries at the places 0 and 2
of_the_clause : map (is_of_clause entries (negation a ∷ literal_of (pos 3) ∷ [])) (0 ∷ 1 ∷ 2 ∷ 3 ∷ []) ≡ true ∷ false ∷ true ∷ false ∷ []
of_the_clause = refl

-- a variable that is not set has no entry
of_no_entry : map (is_of_clause entries (literal_of (pos 4) ∷ [])) (0 ∷ 1 ∷ 2 ∷ []) ≡ false ∷ false ∷ false ∷ []
of_no_entry = refl

-- seen at the places 0 and 2: one is of level 1
are_seen : (m : Seen) → m.flags.items ≡ true ∷ false ∷ true ∷ [] → m.lowest ≡ 0 → m.waiting ≡ 1 → m.looked.items ≡ 2 ∷ [] →
    AreSeen (record { variables = 3; clauses = []; entries = entries; level = 1; broken = false }) m
are_seen m flags lowest waiting looked = record {
  one_each = ap length flags;
  within = λ place h. among place (sym (ap (λ (fs : List Bool). get_or fs place false) flags) ∙ h);
  above = λ place h. omega (arith, lowest);
  counted = waiting ∙ sym (ap (λ (fs : List Bool). count_at 1 (λ place. get_or fs place false) entries) flags);
  looked = subst (All (λ variable. variable < 3)) (sym looked) (All-from_recursion (λ variable. variable < 3) (2 ∷ []) (lit< tt, tt));
}
  where
    among : (place : ℕ) → get_or (true ∷ false ∷ true ∷ []) place false ≡ true → place < 3
    among zero h = lit< tt
    among (suc zero) h = lit< tt
    among (suc (suc zero)) h = lit< tt
    among (suc (suc (suc place))) h = absurd (false≢true h)

-- an entry at level 0 gives way to its reason, or to a clause of its literal alone, and to no clause of another literal
to_reason : IsReplaced ((a ∷ b ∷ []) ∷ (a ∷ []) ∷ (b ∷ []) ∷ []) 1 1 (entry_with a 0 (Some 0)) 0
to_reason = record { forces = inl refl; why = inl refl }

to_alone : IsReplaced ((a ∷ b ∷ []) ∷ (a ∷ []) ∷ (b ∷ []) ∷ []) 1 1 (entry_with a 0 (Some 0)) 1
to_alone = record { forces = inr refl; why = inl refl }

to_other : IsReplaced ((a ∷ b ∷ []) ∷ (a ∷ []) ∷ (b ∷ []) ∷ []) 1 1 (entry_with a 0 (Some 0)) 2 → ⊥
to_other r = elim r.forces [
  | inl some ↦ (let e = same_Some 0 2 some in omega arith)
  | inr alone ↦ (let e = ap (λ (ls : List Lit). has ls a) (same_Some (b ∷ []) (a ∷ []) alone) in false≢true e)
]

-- the reason of an entry at the present level takes its place where another one is seen there
crowded : must_go 1 2 1 ≡ true
crowded = refl

alone : must_go 1 1 1 ≡ false
alone = refl

lower : must_go 2 2 1 ≡ false
lower = refl
