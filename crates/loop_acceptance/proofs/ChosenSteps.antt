-- Steps that are asked for.
use Rattle.std.proofs.Common.{◌≡◌, ◌∙◌, ℕ, Bool, true, false, not, ◌&&◌, cond, Option, None, Some, refl, sym, ap}
use Rattle.std.proofs.lemmas.Option.{none-some, same_Some}
use Rattle.loop_acceptance.specs.declared.product.Step.{Step}
use Rattle.loop_acceptance.specs.internal.Graph.{StepsTo, Rejects}
use Rattle.loop_acceptance.specs.internal.Search.{asked_for, StepsBy}

pub chosen_is : (rejecting_alone : Bool) (o : Option Step) (s : Step) → asked_for rejecting_alone o ≡ Some s → o ≡ Some s
chosen_is rejecting_alone None s is = absurd (none-some s is)
chosen_is rejecting_alone (Some x) s is = by (rejecting_alone && not x.rejecting) is
  where
    by : (b : Bool) → cond b None (Some x) ≡ Some s → Some x ≡ Some s
    by true is = absurd (none-some s is)
    by false is = is

chosen_any : (o : Option Step) → asked_for false o ≡ o
chosen_any None = refl
chosen_any (Some x) = refl

chosen_rejects : (o : Option Step) (s : Step) → asked_for true o ≡ Some s → s.rejecting ≡ true
chosen_rejects None s is = absurd (none-some s is)
chosen_rejects (Some x) s is = by x.rejecting refl is
  where
    by : (b : Bool) → x.rejecting ≡ b → cond (not b) None (Some x) ≡ Some s → s.rejecting ≡ true
    by true marked is = ap (λ (y : Step). y.rejecting) (sym (same_Some x s is)) ∙ marked
    by false marked is = absurd (none-some s is)

module _ (step : ℕ → ℕ → Option Step) (p q : ℕ) where
  pub leads_by : StepsTo step p q → StepsBy step false p q
  leads_by leads = (leads.0, leads.1, chosen_any (step p leads.0) ∙ leads.2, leads.3)

  pub by_leads : StepsBy step false p q → StepsTo step p q
  by_leads by = (by.0, by.1, sym (chosen_any (step p by.0)) ∙ by.2, by.3)

  pub rejects_by : Rejects step p q → StepsBy step true p q
  rejects_by rejects = (
    rejects.0,
    rejects.1,
    ap (asked_for true) rejects.2 ∙ ap (λ b. cond (not b) None (Some rejects.1)) rejects.4,
    rejects.3,
  )

  pub by_rejects : StepsBy step true p q → Rejects step p q
  by_rejects by = (
    by.0,
    by.1,
    chosen_is true (step p by.0) by.1 by.2,
    by.3,
    chosen_rejects (step p by.0) by.1 by.2,
  )
