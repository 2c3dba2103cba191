-- What a look at a clause finds.
use Rattle.std.proofs.Common.{◌≡◌, ℕ, ◌+◌, ◌<◌, true, false, List, length, Option, Some, None, slice_get, get_or, sym, ap, ◌∙◌, subst}
use Rattle.std.proofs.Common.{arith, inl, inr, MatchOption, Contains}
use Rattle.std.proofs.lemmas.Option.{slice_get-get_or, get_or_from_slice_get}
use Rattle.std.proofs.lemmas.Bool.{true≢false, cases_lt, cases_Bool}
use Rattle.base_library.proofs.Places.{contains_at, slice_get_one}
use Rattle.clause_core.specs.Literals.{Lit, negation, same, has}
use Rattle.clause_core.specs.Clauses.{IsIncreasing}
use Rattle.clause_core.proofs.Sets.{same_is, same_from, Contains_from_has, has_from_Contains}
use Rattle.sat_trail.specs.Entries.{literals_of, entry_with, MayStand}
use Rattle.sat_trail.specs.States.{TrailState, IsSound, IsFalseAt}
use Rattle.sat_trail.specs.internal.Watching.{AreOthersFalse, CanForce, IsUnitBy, IsOpenBy, IsFirstFree, AreFalseBefore, IsFree}
use Rattle.sat_trail.specs.internal.Watching.{AreFalseBetween}
use Rattle.sat_trail.proofs.Soundness.{over_literal}
use Rattle.sat_trail.proofs.TrailSteps.{none_not_false, one_not_false, forced_may_stand}

-- ---- the parts of a look

pub force_over : (t : TrailState) → IsSound t → (number : ℕ) (l : Lit) → CanForce t number l → l.index < t.variables
force_over t sound number l forced = over_literal t sound number forced.clause l forced.named forced.member

pub force_stands : (t : TrailState) → IsSound t → (number : ℕ) (l : Lit) (level : ℕ) → CanForce t number l →
    has (literals_of t.entries) (negation l) ≡ false → has (literals_of t.entries) l ≡ false → level ≡ t.level →
    MayStand t.variables t.clauses t.entries (entry_with l level (Some number))
force_stands t sound number l level forced free unset is = subst
    (λ n. MayStand t.variables t.clauses t.entries (entry_with l n (Some number))) (sym is)
    (forced_may_stand t sound number forced.clause l forced.named (record {
      others_false = one_not_false (literals_of t.entries) forced.clause l forced.increasing forced.member free forced.others;
      unassigned = unset;
    }))

pub force_fails : (t : TrailState) (number : ℕ) (l : Lit) → CanForce t number l → has (literals_of t.entries) (negation l) ≡ true →
    IsFalseAt t number
force_fails t number l forced is_false = record {
  clause = forced.clause;
  named = forced.named;
  is_false = none_not_false (literals_of t.entries) forced.clause (λ m member. elim (cases_Bool (same m l)) [
    | inl e ↦ ap (λ (z : Lit). has (literals_of t.entries) (negation z)) (same_is m l e) ∙ is_false
    | inr n ↦ forced.others m member (λ e. true≢false (sym (same_from m l e) ∙ n))
  ]);
}

pub free_found : (trues literals : List Lit) (except : Lit) (start : ℕ) (o : Option ℕ) →
    AreFalseBetween trues literals except start (length literals) →
    MatchOption o (AreFalseBetween trues literals except 0 start) (IsFree trues literals except) →
    MatchOption o (AreOthersFalse trues literals except) (IsFree trues literals except)
free_found trues literals except start (Some position) high free = free
free_found trues literals except start None high low = λ m h n. at (Contains_from_has literals m h) n
  where
    at : {m : Lit} → Contains literals m → (m ≡ except → ⊥) → has trues (negation m) ≡ true
    at {m} (k, below, is) n =
        let there : slice_get literals k ≡ Some m = slice_get-get_or literals k m below ∙ ap Some is in
        elim (cases_lt k start) [
          | inl h ↦ low k m (omega arith) h there n
          | inr h ↦ high k m h below there n
        ]

-- ---- what a clause is

-- the literal at a position is one of them
pub member_at : (ls : List Lit) (k : ℕ) (l : Lit) → slice_get ls k ≡ Some l → has ls l ≡ true
member_at ls k l there = has_from_Contains ls l (contains_at ls k l there)

pub conflict_found : {t : TrailState} {number : ℕ} {literals : List Lit} → slice_get t.clauses number ≡ Some literals →
    AreFalseBefore (literals_of t.entries) literals (length literals) → IsFalseAt t number
conflict_found {t} {number} {literals} named all = record {
  clause = literals;
  named = named;
  is_false = none_not_false (literals_of t.entries) literals (λ m h. at (Contains_from_has literals m h));
}
  where
    at : {m : Lit} → Contains literals m → has (literals_of t.entries) (negation m) ≡ true
    at {m} (k, below, is) = all k m below (slice_get-get_or literals k m below ∙ ap Some is)

module _ {trues literals : List Lit} {place : ℕ} {first : Lit} (f : IsFirstFree trues literals place)
    (read : first ≡ get_or literals place first) where
  first_is : f.literal ≡ first
  first_is = sym (read ∙ get_or_from_slice_get literals place f.literal first f.there)

  first_in : has literals first ≡ true
  first_in = member_at literals place first (f.there ∙ ap Some first_is)

  first_not_false : has trues (negation first) ≡ false
  first_not_false = ap (λ (l : Lit). has trues (negation l)) (sym first_is) ∙ f.not_false

pub unit_found : {t : TrailState} {number place : ℕ} {literals : List Lit} {first : Lit} → slice_get t.clauses number ≡ Some literals →
    IsIncreasing literals → (f : IsFirstFree (literals_of t.entries) literals place) → first ≡ get_or literals place first →
    AreFalseBetween (literals_of t.entries) literals first (place + 1) (length literals) → IsUnitBy t number first
unit_found {t} {number} {place} {literals} {first} named increasing f read behind = record {
  force = record {
    clause = literals;
    named = named;
    increasing = increasing;
    member = first_in f read;
    others = free_found (literals_of t.entries) literals first (place + 1) None behind (λ k l _ below at n. elim (cases_lt k place) [
      | inl h ↦ f.before k l h at
      | inr h ↦ (let e : k ≡ place = omega (arith, h, below) in
          absurd (n (slice_get_one literals place l f.literal (ap (slice_get literals) (sym e) ∙ at) f.there ∙ first_is f read)))
    ]);
  };
  free = first_not_false f read;
}

pub open_found : {t : TrailState} {number place position : ℕ} {literals : List Lit} {first second : Lit} →
    slice_get t.clauses number ≡ Some literals → (f : IsFirstFree (literals_of t.entries) literals place) → first ≡ get_or literals place first →
    IsFree (literals_of t.entries) literals first position → second ≡ get_or literals position second → IsOpenBy t number first second
open_found {t} {number} {place} {position} {literals} {first} {second} named f read g read' =
    let second_is : g.literal ≡ second = sym (read' ∙ get_or_from_slice_get literals position g.literal second g.there) in record {
      watch = record {
        clause = literals;
        named = named;
        member = first_in f read;
        other = member_at literals position second (g.there ∙ ap Some second_is);
        apart = λ e. g.apart (second_is ∙ e);
      };
      first_free = first_not_false f read;
      second_free = ap (λ (l : Lit). has (literals_of t.entries) (negation l)) (sym second_is) ∙ g.not_false;
    }
