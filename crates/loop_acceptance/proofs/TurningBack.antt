-- The inner search from a node: what it has met leads to what it has met, and is what the node turns to.
use Rattle.std.proofs.Common.{◌≡◌, ◌∙◌, ℕ, ◌+◌, ◌≤◌, inl, inr, true, false, List, length, Option, Some, slice_get, sym, ap, subst}
use Rattle.std.proofs.Common.{arith}
use Rattle.std.proofs.lemmas.Bool.{cases_lt}
use Rattle.std.proofs.lemmas.Option.{same_Some, slice_get_within}
use Rattle.base_library.proofs.Places.{slice_get_some}
use Rattle.loop_acceptance.specs.declared.product.Step.{Step}
use Rattle.loop_acceptance.specs.declared.marks.Mark.{Mark}
use Rattle.loop_acceptance.specs.declared.marks.Mark.TheVariants.{Red}
use Rattle.loop_acceptance.specs.internal.Graph.{StepsTo}
use Rattle.loop_acceptance.specs.internal.Search.{Is, HasReddened, StepsBy, TurnsTo, LeadsToNoNew, NoneLeadToNew, AreClosed}
use Rattle.loop_acceptance.proofs.ChosenSteps.{leads_by, by_leads, by_rejects}
use Rattle.loop_acceptance.proofs.GoingOn.{red_stays, finished_was, seen_stays, goes_for_more, goes_further}
use Rattle.loop_acceptance.proofs.Walks.{reach_step, reach_itself, reach_both}

module _ (step : ℕ → ℕ → Option Step) where
  pub closed_stays : (P : ℕ → Type 0) (m0 m1 : List Mark) (r0 r1 : List ℕ) (n : ℕ) → HasReddened P m0 r0 m1 r1 → n ≤ length r0 →
      AreClosed step m0 r0 n → AreClosed step m1 r1 n
  closed_stays P m0 m1 r0 r1 n on within closed i p less at q leads =
      let before = slice_get_some r0 i (omega (arith, less, within)) in
      let same = same_Some before.0 p (sym (on.stay i before.0 before.1) ∙ at) in
      red_stays P m0 r0 m1 r1 on q (closed i p less (before.1 ∙ ap Some same) q leads)

  -- the steps of one red node more are taken
  pub closed_more : (P : ℕ → Type 0) (m0 m1 : List Mark) (r0 r1 : List ℕ) (n next : ℕ) → HasReddened P m0 r0 m1 r1 →
      AreClosed step m0 r0 n →
      slice_get r0 n ≡ Some next → ((q : ℕ) → StepsBy step false next q → Is m1 Red q) → AreClosed step m1 r1 (n + 1)
  closed_more P m0 m1 r0 r1 n next on closed here met i p less at q leads = elim (cases_lt i n) [
    | inl before ↦
        let w = slice_get_within r0 n next here in
        closed_stays P m0 m1 r0 r1 n on (omega (arith, w)) closed i p before at q leads
    | inr last ↦
        let e : i ≡ n = omega (arith, last, less) in
        let same : p ≡ next = same_Some p next (sym at ∙ ap (slice_get r1) e ∙ on.stay n next here) in
        met q (leads_by step next q (subst (λ x. StepsTo step x q) same leads))
  ]

  pub turns_first : (s q : ℕ) → StepsBy step true s q → TurnsTo step s q
  turns_first s q by = (q, by_rejects step s q by, reach_itself step q)

  pub turns_on : (s p q : ℕ) → TurnsTo step s p → StepsBy step false p q → TurnsTo step s q
  turns_on s p q turns by = (
    turns.0,
    turns.1,
    reach_both step turns.0 p q turns.2 (reach_step step p q (by_leads step p q by)),
  )

  pub first_on : (s : ℕ) (m0 m1 : List Mark) (r0 r1 : List ℕ) → HasReddened (StepsBy step true s) m0 r0 m1 r1 →
      HasReddened (TurnsTo step s) m0 r0 m1 r1
  first_on s m0 m1 r0 r1 on = goes_for_more (StepsBy step true s) (TurnsTo step s) (turns_first s) m0 r0 m1 r1 on

  pub next_on : (s p : ℕ) (m0 m1 m2 : List Mark) (r0 r1 r2 : List ℕ) → TurnsTo step s p → HasReddened (TurnsTo step s) m0 r0 m1 r1 →
      HasReddened (StepsBy step false p) m1 r1 m2 r2 → HasReddened (TurnsTo step s) m0 r0 m2 r2
  next_on s p m0 m1 m2 r0 r1 r2 turns before on =
      goes_further (TurnsTo step s) m0 m1 m2 r0 r1 r2 before
      (goes_for_more (StepsBy step false p) (TurnsTo step s) (λ q by. turns_on s p q turns by) m1 r1 m2 r2 on)

  -- a red node of those that were met is one that the node turns to, and its steps lead to seen nodes
  pub met_turns : (s : ℕ) (m0 m1 : List Mark) (r0 r1 : List ℕ) (place p : ℕ) → HasReddened (TurnsTo step s) m0 r0 m1 r1 →
      length r0 ≤ place →
      slice_get r1 place ≡ Some p → TurnsTo step s p
  met_turns s m0 m1 r0 r1 place p on new at = elim (on.reached place p at) [
    | inl before ↦ let w = slice_get_within r0 place p before in absurd (omega (arith, w, new))
    | inr turns ↦ turns
  ]

  pub met_seen : (s : ℕ) (m0 m1 : List Mark) (r0 r1 : List ℕ) (place p : ℕ) → HasReddened (TurnsTo step s) m0 r0 m1 r1 →
      NoneLeadToNew step m0 →
      slice_get r1 place ≡ Some p → LeadsToNoNew step m1 p
  met_seen s m0 m1 r0 r1 place p on seen at k st is =
      seen_stays (TurnsTo step s) m0 r0 m1 r1 on st.to
      (seen p (finished_was (TurnsTo step s) m0 r0 m1 r1 on p (inr (on.are_red.marked place p at))) k st is)
