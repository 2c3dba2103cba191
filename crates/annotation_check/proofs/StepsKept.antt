-- Steps that are kept for pairs.
use Rattle.std.proofs.Common.{◌≡◌, ◌∙◌, ℕ, zero, suc, ◌+◌, ◌*◌, ◌<◌, List, length, replicate, get_or, set, Option, None, Some, Vec, refl, sym, ap, subst}
use Rattle.std.proofs.Common.{inl, inr, ◌⊎◌}
use Rattle.std.specs.Prelude.{Result, IfOk, Err, Ok}
use Rattle.std.specs.declared.alloc.Global.{Global}
use Rattle.std.proofs.Math.ListN.{length-set}
use Rattle.std.proofs.lemmas.Bool.{cases_eq}
use Rattle.std.proofs.lemmas.List.{length-replicate, get_or-set_same, get_or-set_other}
use Rattle.std.proofs.lemmas.Nat.{same_from_place}
use Rattle.std.proofs.lemmas.Option.{none-some, same_Some}
use Rattle.cobuchi_automata.specs.Automata.{EdgeTree}
use Rattle.machines.specs.Moves.{MoveTree}
use Rattle.annotation_check.specs.declared.growing.Rise.{Rise}
use Rattle.annotation_check.specs.declared.stepping.Step.{Step}
use Rattle.annotation_check.specs.internal.Listings.{IsMoveListing}
use Rattle.annotation_check.specs.internal.Pairs.{PairsTree}
use Rattle.annotation_check.specs.internal.Steps.{AreSteps}
use Rattle.annotation_check.specs.internal.Growth.{pair_place, IsOfPair, HasSteps, AreKept}

-- the steps by a listing are those of the moves
pub steps_made : (moves : List MoveTree) (edges : List EdgeTree) (letters next : List ℕ) → IsMoveListing moves letters next → {some : List EdgeTree} →
    some ≡ edges → {E : Type 0} (made : Result (Vec Step Global) E) →
    IfOk made (λ steps. (listed : List MoveTree) → IsMoveListing listed letters next → AreSteps listed some steps.items) →
    IfOk made (λ steps. AreSteps moves edges steps.items)
steps_made moves edges letters next listing same (Err e) is = is
steps_made moves edges letters next listing same (Ok steps) is = subst (λ es. AreSteps moves es steps.items) same (is moves listing)

-- nothing is kept at first
pub none_kept : (p : PairsTree) (pairs : ℕ) (of_pairs : List (Option (Vec Step Global))) → of_pairs ≡ replicate pairs None →
    pairs ≡ p.machine_states * p.automaton_states → AreKept p of_pairs
none_kept p pairs of_pairs none many = record {
  size = ap length none ∙ length-replicate pairs None ∙ many;
  steps = λ s q within kept is. absurd (none-some kept
      (sym (ap (λ ks. get_or ks (s * p.automaton_states + q) None) none ∙ nothing pairs (s * p.automaton_states + q)) ∙ is));
}
  where
    nothing : (n k : ℕ) → get_or {A = Option (Vec Step Global)} (replicate n None) k None ≡ None
    nothing zero k = refl
    nothing (suc n) zero = refl
    nothing (suc n) (suc k) = nothing n k

module _ (p : PairsTree) (of_pairs : List (Option (Vec Step Global))) (kept : AreKept p of_pairs) (r : Rise) (of_pair : IsOfPair p r)
    (within : pair_place p.automaton_states r < length of_pairs) where
  -- the steps of one pair more, or none
  pub kept_more : (steps : Vec Step Global) (new : List (Option (Vec Step Global))) → HasSteps p r.machine_state r.automaton_state steps.items →
      (new ≡ set of_pairs (pair_place p.automaton_states r) (Some steps)) ⊎ (new ≡ of_pairs) → AreKept p new
  kept_more steps new has (inr same) = subst (AreKept p) (sym same) kept
  kept_more steps new has (inl more) = subst (AreKept p) (sym more) (record {
    size = length-set of_pairs (pair_place p.automaton_states r) (Some steps) ∙ kept.size;
    steps = λ s q column there is. elim (cases_eq (s * p.automaton_states + q) (pair_place p.automaton_states r)) [
      | inl same ↦
          let parts = same_from_place s q r.machine_state r.automaton_state p.automaton_states column of_pair.automaton_state same in
          let found : Some steps ≡ Some there =
          sym (ap (λ k. get_or (set of_pairs (pair_place p.automaton_states r) (Some steps)) k None) same
          ∙ get_or-set_same of_pairs (pair_place p.automaton_states r) (Some steps) None within) ∙ is in
          subst (λ (v : Vec Step Global). HasSteps p s q v.items) (same_Some steps there found)
          (subst (λ k. HasSteps p k q steps.items) (sym parts.0) (subst (λ k. HasSteps p r.machine_state k steps.items) (sym parts.1) has))
      | inr other ↦
          kept.steps s q column there (sym (get_or-set_other of_pairs (pair_place p.automaton_states r) (s * p.automaton_states + q) (Some steps)
          None other) ∙ is)
    ];
  })
