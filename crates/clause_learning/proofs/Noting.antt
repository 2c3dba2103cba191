-- Clauses of one literal show the clause of another one, and are added one after another.
use Rattle.std.proofs.Common.{◌≡◌, ℕ, suc, ◌+◌, ◌-◌, ◌*◌, ◌<◌, ◌≤◌, Bool, true, false, not, cond, ◌||◌, List, [], ◌∷◌, ◌++◌}
use Rattle.std.proofs.Common.{map, length, take, Option, Some, None, slice_get, sym, ap, ◌∙◌, subst, refl, arith, eqb, inl, inr}
use Rattle.std.specs.Prelude.{option_map}
use Rattle.std.specs.List.{list_any, AllByRecursion, IsDistinct}
use Rattle.std.proofs.lemmas.Bool.{true≢false, false≢true, or_cases, or_left, or_right, cases_Bool, false_from_ne_true, ne_eqb, eqb-true}
use Rattle.std.proofs.lemmas.Option.{same_Some, slice_get_within}
use Rattle.std.proofs.lemmas.List.{append_assoc, length_push, length-map}
use Rattle.std.proofs.lemmas.List.Elements.{All-push, All-contains, All-from_recursion, recursion_from_All}
use Rattle.std.proofs.lemmas.Map.Steps.{length-le_from_distinct_below}
use Rattle.base_library.proofs.Places.{contains_at, slice_get_some, slice_get_one}
use Rattle.clause_core.specs.Literals.{Lit, negation, same, has, code_of}
use Rattle.clause_core.specs.Clauses.{IsIncreasing, IsOver}
use Rattle.clause_core.proofs.Sets.{AllByRecursion-has, same_is, same_from, negation-negation, IsIncreasing-apart, code_one, code_within}
use Rattle.sat_trail.specs.declared.entries.Entry.{Entry}
use Rattle.sat_trail.specs.Entries.{literals_of, IsForced}
use Rattle.sat_trail.specs.States.{TrailState, IsSound}
use Rattle.sat_trail.proofs.TrailSteps.{none_not_false, not_false_has}
use Rattle.refutation_check.specs.Checking.{numbered_from, clause_named, effect_of_open, effect_of_named, led_to, refused_hint}
use Rattle.refutation_check.specs.Checking.HintEffect.{makes, shows_nothing}
use Rattle.clause_learning.specs.declared.proof_log.ProofLog.{ProofLog}
use Rattle.clause_learning.specs.declared.units.Units.{Units}
use Rattle.clause_learning.specs.Units.{AreUnits, AddsHint, ShowAlone, HaveNoted, MayHaveNoted}
use Rattle.clause_learning.specs.Units.HaveNoted.{more}
use Rattle.clause_learning.specs.ClauseDatabases.{numbers_of}
use Rattle.clause_learning.specs.Learning.{CanNote}
use Rattle.clause_learning.proofs.Hints.{named_one}
use Rattle.clause_learning.proofs.Stages.{forced_by}

-- hints for the literals of a clause that has this one, in their order: each other one has a clause of its opposite alone
pub data AreHintsFor (clauses : List (List Lit)) (literal : Lit) : List Lit → List ℕ → Type 0 where
  none : AreHintsFor clauses literal [] []
  itself : {others : List Lit} {hints : List ℕ} → AreHintsFor clauses literal others hints →
      AreHintsFor clauses literal (literal ∷ others) hints
  another : {other : Lit} {others : List Lit} {hint : ℕ} {hints : List ℕ} → (other ≡ literal → ⊥) → 1 ≤ hint →
      slice_get clauses (hint - 1) ≡ Some (negation other ∷ []) → AreHintsFor clauses literal others hints →
      AreHintsFor clauses literal (other ∷ others) (hint ∷ hints)

module _ (clauses : List (List Lit)) (literal : Lit) where
  -- one more literal was looked at
  pub hints_more : (all others : List Lit) (other : Lit) (hints longer : List ℕ) →
      ((later : List ℕ) → AreHintsFor clauses literal (other ∷ others) later → AreHintsFor clauses literal all (hints ++ later)) →
      AddsHint clauses literal other hints longer → (later : List ℕ) → AreHintsFor clauses literal others later →
      AreHintsFor clauses literal all (longer ++ later)
  hints_more all others other hints longer before adds later rest = elim adds [
    | inl (is, kept) ↦ subst (λ (hs : List ℕ). AreHintsFor clauses literal all (hs ++ later)) (sym kept)
        (before later (subst (λ (l : Lit). AreHintsFor clauses literal (l ∷ others) later) (sym is) (itself rest)))
    | inr (n, (hint, positive, named, is)) ↦ subst (AreHintsFor clauses literal all)
        (sym (ap (λ (hs : List ℕ). hs ++ later) is ∙ append_assoc hints (hint ∷ []) later))
        (before (hint ∷ later) (another n positive named rest))
  ]

  -- with these true, the hints for the literals yet to come make the opposites of the others true, and then the clause is false
  lead : (clause : List Lit) (number : ℕ) → slice_get clauses number ≡ Some clause → (rest : List Lit) (hints : List ℕ) →
      AreHintsFor clauses literal rest hints → IsIncreasing rest → (trues : List Lit) (position : ℕ) →
      ((m : Lit) → has rest m ≡ true → (m ≡ literal → ⊥) → has trues (negation m) ≡ false) →
      ((m : Lit) → has clause m ≡ true → has rest m ≡ false → has trues (negation m) ≡ true) → has trues (negation literal) ≡ true →
      refused_hint (numbered_from 1 clauses) trues position (hints ++ (number + 1) ∷ []) ≡ None
  lead clause number named rest hints none up trues position open' passed opposite =
      ap (λ (o : Option (List Lit)). led_to position later (effect_of_named trues o)) (named_one clauses number ∙ named)
      ∙ ap (λ (ls : List Lit). led_to position later (effect_of_open trues ls)) (none_not_false trues clause (λ m h. passed m h refl))
    where
      later : Lit → Option ℕ
      later l = refused_hint (numbered_from 1 clauses) (l ∷ trues) (suc position) []
  lead clause number named rest hints (itself {others = others} known) up trues position open' passed opposite =
      lead clause number named others hints known up.1 trues position (λ m h. open' m (or_right (same literal m) (has others m) h))
      (λ m h out. elim (cases_Bool (same literal m)) [
        | inl s ↦ ap (λ (l : Lit). has trues (negation l)) (sym (same_is literal m s)) ∙ opposite
        | inr n ↦ passed m h (ap (λ b. b || has others m) n ∙ out)
      ]) opposite
  lead clause number named rest hints (another {other = other} {others = others} {hint = hint} {hints = after} n positive at known) up trues
      position open' passed opposite =
      ap (λ (o : Option (List Lit)). led_to position later (effect_of_named trues o))
      (sym (ap (clause_named (numbered_from 1 clauses)) (let e : (hint - 1) + 1 ≡ hint = omega (arith, positive) in e))
      ∙ (named_one clauses (hint - 1) ∙ at))
      ∙ by_test (has trues (negation (negation other))) (lead clause number named others after known up.1 (negation other ∷ trues)
      (suc position)
      (λ m h k. ap (λ b. b || has trues (negation m)) (differ m h) ∙ open' m (or_right (same other m) (has others m) h) k)
      (λ m h out. elim (cases_Bool (same other m)) [
        | inl s ↦ or_left (same (negation other) (negation m)) (has trues (negation m))
            (same_from (negation other) (negation m) (ap negation (same_is other m s)))
        | inr k ↦ or_right (same (negation other) (negation m)) (has trues (negation m)) (passed m h (ap (λ b. b || has others m) k ∙ out))
      ]) (or_right (same (negation other) (negation literal)) (has trues (negation literal)) opposite))
    where
      later : Lit → Option ℕ
      later l = refused_hint (numbered_from 1 clauses) (l ∷ trues) (suc position) (after ++ (number + 1) ∷ [])

      differ : (m : Lit) → has others m ≡ true → same (negation other) (negation m) ≡ false
      differ m h = false_from_ne_true (same (negation other) (negation m)) (λ s. IsIncreasing-apart other others up
          (ap (has others) (sym (negation-negation other) ∙ (ap negation (same_is (negation other) (negation m) s) ∙ negation-negation m)) ∙ h))

      by_test : (b : Bool) → later (negation other) ≡ None →
          led_to position later (effect_of_open trues (cond (not b) (negation other ∷ []) [])) ≡ None
      by_test true h = refl
      by_test false h =
          ap (λ (b : Bool). led_to position later (cond b shows_nothing (makes (negation other))))
          (open' other (or_left (same other other) (has others other) (same_from other other refl)) n) ∙ h

  -- ---- how many hints there are

  hints_few : (rest : List Lit) (hints : List ℕ) → AreHintsFor clauses literal rest hints → length hints ≤ length rest
  hints_few rest hints none = omega arith
  hints_few rest hints (itself {others = others} known) = omega (arith, hints_few others hints known)
  hints_few rest hints (another {others = others} {hints = after} n positive at known) = omega (arith, hints_few others after known)

  hints_fewer : (rest : List Lit) (hints : List ℕ) → AreHintsFor clauses literal rest hints → has rest literal ≡ true →
      length hints + 1 ≤ length rest
  hints_fewer rest hints none h = absurd (false≢true h)
  hints_fewer rest hints (itself {others = others} known) h = omega (arith, hints_few others hints known)
  hints_fewer rest hints (another {other = other} {others = others} {hints = after} n positive at known) h =
      elim (or_cases (same other literal) (has others literal) h) [
        | inl s ↦ absurd (n (same_is other literal s))
        | inr t ↦ omega (arith, hints_fewer others after known t)
      ]

  hints_named : (rest : List Lit) (hints : List ℕ) → AreHintsFor clauses literal rest hints →
      AllByRecursion (λ hint. (1 ≤ hint) × (hint ≤ length clauses)) hints
  hints_named rest hints none = tt
  hints_named rest hints (itself {others = others} known) = hints_named others hints known
  hints_named rest hints (another {other = other} {others = others} {hint = hint} {hints = after} n positive at known) = (
    (positive, (let r = slice_get_within clauses (hint - 1) (negation other ∷ []) at in omega (arith, r))),
    hints_named others after known,
  )

-- ---- a clause has at most two literals of each variable

codes_apart : (l : Lit) (ls : List Lit) → (has ls l ≡ true → ⊥) → AllByRecursion (λ n. eqb (code_of l) n ≡ false) (map code_of ls)
codes_apart l [] n = tt
codes_apart l (m ∷ ms) n = (
  ne_eqb (code_of l) (code_of m) (λ e. n (or_left (same m l) (has ms l) (same_from m l (sym (code_one l m e))))),
  codes_apart l ms (λ h. n (or_right (same m l) (has ms l) h)),
)

codes_distinct : (ls : List Lit) → IsIncreasing ls → IsDistinct eqb (map code_of ls)
unfolding IsDistinct
codes_distinct [] up = tt
codes_distinct (l ∷ ls) up = (codes_apart l ls (IsIncreasing-apart l ls up), codes_distinct ls up.1)

codes_below : (variables : ℕ) (ls : List Lit) → AllByRecursion (λ l. l.index < variables) ls → (q : ℕ) →
    list_any (eqb q) (map code_of ls) ≡ true → q < 2 * variables
codes_below variables [] over q h = absurd (false≢true h)
codes_below variables (l ∷ ls) over q h = elim (or_cases (eqb q (code_of l)) (list_any (eqb q) (map code_of ls)) h) [
  | inl e ↦ omega (arith, eqb-true q (code_of l) e, code_within variables l over.0)
  | inr t ↦ codes_below variables ls over.1 q t
]

pub few_literals : (variables : ℕ) (clause : List Lit) → IsIncreasing clause → IsOver variables clause → length clause ≤ 2 * variables
few_literals variables clause up over =
    let few = length-le_from_distinct_below (map code_of clause) (2 * variables) (codes_distinct clause up)
    (codes_below variables clause (recursion_from_All (λ (l : Lit). l.index < variables) clause over)) in
    omega (arith, few, length-map clause code_of)

-- ---- hints for the other literals of a clause, and last the clause itself

pub show_alone : (t : TrailState) → IsSound t → (number : ℕ) (clause : List Lit) (literal : Lit) (hints : List ℕ) →
    slice_get t.clauses number ≡ Some clause → IsIncreasing clause → has clause literal ≡ true →
    AreHintsFor t.clauses literal clause hints → ShowAlone t literal (hints ++ (number + 1) ∷ [])
show_alone t sound number clause literal hints named up member known =
    let within = slice_get_within t.clauses number clause named in
    let over : IsOver t.variables clause = All-contains (IsOver t.variables) t.clauses clause sound.over
    (contains_at t.clauses number clause named) in
    record {
      over = AllByRecursion-has (λ (l : Lit). l.index < t.variables) clause literal
          (recursion_from_All (λ (l : Lit). l.index < t.variables) clause over) member;
      shown = lead t.clauses literal clause number named clause hints known up (negation literal ∷ []) 1
          (λ m h n. ap (λ b. b || false) (false_from_ne_true (same (negation literal) (negation m)) (λ s. n (sym (negation-negation m)
          ∙ (ap negation (sym (same_is (negation literal) (negation m) s)) ∙ negation-negation literal)))))
          (λ m h out. absurd (true≢false (sym h ∙ out)))
          (or_left (same (negation literal) (negation literal)) false (same_from (negation literal) (negation literal) refl));
      few_hints = omega (
        arith,
        length_push hints (number + 1),
        hints_fewer t.clauses literal clause hints known member,
        few_literals t.variables clause up over,
        sound.few_variables,
      );
      named = All-push (λ hint. (1 ≤ hint) × (hint ≤ length t.clauses)) hints (number + 1)
          (All-from_recursion (λ hint. (1 ≤ hint) × (hint ≤ length t.clauses)) hints (hints_named t.clauses literal clause hints known))
          (omega arith, omega (arith, within));
    }

-- ---- the entry that is looked at

module _ (t : TrailState) (sound : IsSound t) (place : ℕ) (within : place < length t.entries) (l : Lit)
    (at : option_map (λ e. e.literal) (slice_get t.entries place) ≡ Some l) where
  entry_there : (e : Entry) × (slice_get t.entries place ≡ Some e) × (e.literal ≡ l)
  entry_there =
      let r = slice_get_some t.entries place within in
      (r.0, r.1, same_Some r.0.literal l (ap (option_map (λ (e : Entry). e.literal)) (sym r.1) ∙ at))

  pub entry_over : l.index < t.variables
  entry_over =
      let r = entry_there in
      omega (arith, (sound.stand place r.0 r.1).over, ap (λ (m : Lit). m.index) r.2)

  module _ (reason : ℕ) (from : option_map (λ e. e.reason) (slice_get t.entries place) ≡ Some (Some reason)) where
    entry_forced : IsForced t.clauses (take place t.entries) reason l
    entry_forced =
        let r = entry_there in
        let is : r.0.reason ≡ Some reason = same_Some r.0.reason (Some reason)
        (ap (option_map (λ (e : Entry). e.reason)) (sym r.1) ∙ from) in
        subst (IsForced t.clauses (take place t.entries) reason) r.2 (forced_by t sound place r.0 reason r.1 is)

    pub reason_given : reason < length t.clauses
    reason_given = slice_get_within t.clauses reason entry_forced.clause entry_forced.named

    pub reason_has : (clause : List Lit) → slice_get t.clauses reason ≡ Some clause → has clause l ≡ true
    reason_has clause named =
        ap (λ (ls : List Lit). has ls l) (slice_get_one t.clauses reason clause entry_forced.clause named entry_forced.named)
        ∙ (not_false_has (literals_of (take place t.entries)) entry_forced.clause l
        (ap (λ (ls : List Lit). has ls l) entry_forced.others_false ∙ or_left (same l l) false (same_from l l refl))).0

-- ---- clauses are added one after another

-- some were added, and the others that may be added can be
pub record IsNoting (old : TrailState) (proof_log : ProofLog) (units : Units) (new : TrailState) (after : ProofLog) (later : Units) : Type 0 where
  pub count : ℕ
  pub noted : HaveNoted count old proof_log new after
  pub counted : later.added ≡ units.added + count
  pub most : later.most ≡ units.most
  pub ready : CanNote new after later
  pub open ready use *

module _ (old : TrailState) (proof_log : ProofLog) (units : Units) (middle : TrailState) (between : ProofLog) (now : Units) (new : TrailState)
    (after : ProofLog) (later : Units) (may : MayHaveNoted middle between now new after later) where
  pub noting_more : IsNoting old proof_log units middle between now → AreUnits new later → later.most ≡ now.most → later.added ≤ later.most →
      IsNoting old proof_log units new after later
  noting_more is table most room = elim may [
    | inl (same_trail, same_proof_log, same_count) ↦ record {
      count = is.count;
      noted = subst (λ (t : TrailState). HaveNoted is.count old proof_log t after) (sym same_trail)
          (subst (HaveNoted is.count old proof_log middle) (sym same_proof_log) is.noted);
      counted = same_count ∙ is.counted;
      most = most ∙ is.most;
      ready = record {
        usable = ap (λ (t : TrailState). t.broken) same_trail ∙ is.usable;
        sound = subst IsSound (sym same_trail) is.sound;
        start = ap (λ (t : TrailState). t.level) same_trail ∙ is.start;
        table = table;
        added = room;
        few = omega (arith, is.few, ap (λ (t : TrailState). length t.clauses) same_trail, most, same_count);
        next = omega (arith, is.next, ap (λ (j : ProofLog). j.next) same_proof_log, most, same_count);
        numbers = ap (λ (j : ProofLog). length (numbers_of j.database)) same_proof_log
            ∙ (is.numbers ∙ sym (ap (λ (t : TrailState). length t.clauses) same_trail));
      };
    }
    | inr (has_noted, one_more) ↦ (let longer : length new.clauses ≡ length middle.clauses + 1 =
        ap (λ (t : TrailState). length t.clauses) has_noted.trail_is ∙ length_push middle.clauses (has_noted.literal ∷ []) in
        let numbers : length (numbers_of after.database) ≡ length new.clauses = ap length has_noted.numbers_are
        ∙ (length_push (numbers_of between.database) between.next ∙ (ap (λ (n : ℕ). n + 1) is.numbers ∙ sym longer)) in
        record {
          count = is.count + 1;
          noted = more is.noted has_noted;
          counted = omega (arith, one_more, is.counted);
          most = most ∙ is.most;
          ready = record {
            usable = ap (λ (t : TrailState). t.broken) has_noted.trail_is ∙ is.usable;
            sound = has_noted.sound;
            start = ap (λ (t : TrailState). t.level) has_noted.trail_is ∙ is.start;
            table = table;
            added = room;
            few = omega (arith, is.few, longer, most, one_more, room);
            next = omega (arith, is.next, has_noted.next_is, most, one_more, room);
            numbers = numbers;
          };
        })
  ]
