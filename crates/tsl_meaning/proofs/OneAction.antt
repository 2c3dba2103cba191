-- A program with one node and one state does the same in each step, so the updates that it names hold always.
use Rattle.std.proofs.Common.{◌≡◌, ℕ, zero, suc, ◌+◌, ◌-◌, ◌<◌, Bool, List, [], ◌∷◌, Option, Some, None, ap, ◌∙◌, arith}
use Rattle.std.proofs.lemmas.Option.{option_and_then_some}
use Rattle.loop_shape.specs.LoopShape.{LoopShape, IsPosition}
use Rattle.loop_shape.proofs.Steps.{list_all-positions}
use Rattle.tsl_terms.specs.declared.operator.UnaryOperator.TheVariants.{Globally}
use Rattle.tsl_terms.specs.TermTree.{TermTree, ProbeTree}
use Rattle.tsl_terms.specs.FormulaTree.{update, atom, unary}
use Rattle.tsl_terms.specs.Value.{Meanings, beside}
use Rattle.tsl_terms.proofs.SameLemmas.{same_tree_itself}
use Rattle.program_tree.specs.NodeTree.{assign}
use Rattle.program_tree.specs.ProgramTree.{ProgramTree, controlled}
use Rattle.program_tree.specs.Walk.{Action, walk}
use Rattle.tsl_meaning.specs.Interpretation.{InputRows}
use Rattle.tsl_meaning.specs.Run.{Configuration, Closed, HasStep, configuration_at, assigned_at}
use Rattle.tsl_meaning.specs.Lasso.{Meets, meets, closed_run}

module _ {V : Type 0} (meanings : Meanings V) (program : ProgramTree) (rows : InputRows V) where
  -- a step that another one follows is there
  pub step_before : (t : ℕ) (c : Configuration V) → configuration_at meanings program rows (suc t) ≡ Some c →
      HasStep meanings program rows t
  step_before t c h = option_and_then_some _ _ _ h (λ now is_now acts.
      option_and_then_some _ _ _ acts (λ action does follows.
      record { now = now; is_now = is_now; action = action; does = does }))

  -- so is each step before one that is there
  pub steps_before : (n t : ℕ) (c : Configuration V) → configuration_at meanings program rows (suc n + t) ≡ Some c →
      HasStep meanings program rows t
  steps_before zero t c h =
      let e : suc t ≡ suc zero + t = omega arith in
      step_before t c (ap (configuration_at meanings program rows) e ∙ h)
  steps_before (suc n) t c h =
      let e : suc (suc n + t) ≡ suc (suc n) + t = omega arith in
      let last : HasStep meanings program rows (suc n + t) =
      step_before (suc n + t) c (ap (configuration_at meanings program rows) e ∙ h) in
      steps_before n t last.now last.is_now

  pub steps_below : (limit t : ℕ) (c : Configuration V) → t < limit → configuration_at meanings program rows limit ≡ Some c →
      HasStep meanings program rows t
  steps_below limit t c below h =
      let e : suc (limit - suc t) + t ≡ limit = omega arith in
      steps_before (limit - suc t) t c (ap (configuration_at meanings program rows) e ∙ h)

  -- the one thing that a program with one node does
  walk_of_one : (ts : List TermTree) (truths : ProbeTree → Option Bool) (state : ℕ) (action : Action) →
      program.nodes ≡ assign ts 0 ∷ [] → program.states ≡ 0 ∷ [] → walk program truths state ≡ Some action → action.updates ≡ ts
  walk_of_one ts truths zero action nodes states h =
      let done : Action = record { updates = ts; go = 0 } in
      let e : Some done ≡ Some action = rw (nodes, states) at h in
      let same : action ≡ done = cc in
      ap (λ (a : Action). a.updates) same
  walk_of_one ts truths (suc state) action nodes states h =
      let e : None ≡ Some action = rw (nodes, states) at h in
      cc

  -- the term that the one node assigns to a signal is assigned to it at each position
  assigned_of_one : (shape : LoopShape) (ts : List TermTree) (s : ℕ) (t : TermTree) →
      program.nodes ≡ assign ts 0 ∷ [] → program.states ≡ 0 ∷ [] →
      Closed meanings program rows shape → beside s (controlled program) ts ≡ Some t →
      (j : ℕ) → IsPosition shape j → assigned_at meanings program rows j s ≡ Some t
  assigned_of_one shape ts s t nodes states closed stands j position =
      let step = steps_below (shape.start + shape.length) j closed.seam position.within closed.at_end in
      rw (step.is_now, step.does, walk_of_one ts _ step.now.state step.action nodes states step.does) stands

  -- so its update holds always
  pub one_action_meets : (shape : LoopShape) (ts : List TermTree) (s : ℕ) (t : TermTree) →
      program.nodes ≡ assign ts 0 ∷ [] → program.states ≡ 0 ∷ [] →
      Closed meanings program rows shape → beside s (controlled program) ts ≡ Some t →
      Meets (closed_run meanings program rows shape) (unary Globally (atom (update s t))) 0
  one_action_meets shape ts s t nodes states closed stands =
      list_all-positions shape (meets (closed_run meanings program rows shape) (atom (update s t))) (suc (shape.start + shape.length)) 0
      (record { goes_on = closed.goes_on; within = omega (arith, closed.goes_on) })
      (λ j position. rw (assigned_of_one shape ts s t nodes states closed stands j position) (same_tree_itself t))
