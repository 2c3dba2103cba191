-- A run of a program that is written down means what the program's closed run means.
use Rattle.std.proofs.Common.{◌≡◌, ◌∙◌, ℕ, ◌+◌, ◌<◌, ◌++◌, Bool, false, List, [], ◌∷◌, refl, sym, ap, subst, arith}
use Rattle.std.specs.Prelude.{option_and_then, IsSome}
use Rattle.std.specs.Option.{option_or, option_map_or}
use Rattle.std.specs.List.{AllByRecursion}
use Rattle.base_library.proofs.Each.{each_from_places}
use Rattle.base_library.proofs.Places.{slice_get_some}
use Rattle.loop_shape.specs.LoopShape.{IsPosition}
use Rattle.tsl_terms.specs.TermTree.{TermTree, ProbeTree}
use Rattle.tsl_terms.specs.SameTree.{same_tree}
use Rattle.tsl_terms.specs.FormulaTree.{Atom, test, update, FormulaTree}
use Rattle.tsl_terms.specs.Value.{Meanings, truth, beside}
use Rattle.program_tree.specs.ProgramTree.{ProgramTree, controlled}
use Rattle.tsl_meaning.specs.Interpretation.{InputRows}
use Rattle.tsl_meaning.specs.Run.{signal_value, action_in, truth_at}
use Rattle.tsl_meaning.specs.Lasso.{meets, holds_at, closed_run, IsDecided}
use Rattle.tsl_meaning.specs.RunTree.{PositionTree, RunTree}
use Rattle.tsl_meaning.specs.RunLasso.{shape_of, value_at, atom_holds, run_lasso, HasTruths}
use Rattle.tsl_meaning.specs.RunOf.{configuration_of, IsStepOf, IsRunOf}
use Rattle.tsl_meaning.proofs.Agree.{meets_agrees}

module _ {S : Type 0} (meanings : Meanings S) (program : ProgramTree) (rows : InputRows S) (run : RunTree S)
    (is : IsRunOf meanings program rows run) where
  same_values : (t : ℕ) (p : PositionTree S) → IsStepOf meanings program rows t p → (s : ℕ) →
      signal_value program rows (configuration_of p) s ≡ value_at run p s
  same_values t p step s =
      ap (λ row. option_or (option_and_then (beside s program.inputs) row) (beside s program.cells p.cells)) step.reads
      ∙ (λ k. option_or (beside s (sym is.inputs k) p.row) (beside s (sym is.cells k) p.cells))

  -- the truth of a probe at a step
  same_truth : (t : ℕ) (p : PositionTree S) → IsStepOf meanings program rows t p → (probe : ProbeTree) →
      truth_at meanings program rows t probe ≡ truth meanings (value_at run p) probe
  same_truth t p step probe =
      ap (option_and_then (λ c. truth meanings (signal_value program rows c) probe)) step.is_now
      ∙ ap (λ at. truth meanings at probe) (λ k s. same_values t p step s k)

  same_atom : (t : ℕ) (p : PositionTree S) → IsStepOf meanings program rows t p → (a : Atom) →
      atom_holds meanings run p a ≡ holds_at meanings program rows t a
  same_atom t p step (test probe) = ap (λ o. option_map_or (λ (b : Bool). b) o false) (sym (same_truth t p step probe))
  same_atom t p step (update s tree) = sym (
      ap (λ o. option_map_or (λ (u : TermTree). same_tree u tree) o false) (
      ap (option_and_then (λ c. option_and_then (λ action. beside s (controlled program) action.updates)
      (action_in meanings program rows c))) step.is_now
      ∙ ap (option_and_then (λ action. beside s (controlled program) action.updates)) step.does
      ∙ (λ k. beside s (sym is.cells k ++ sym is.outputs k) (sym step.assigns k))
      ))

  same_holds : (i : ℕ) → IsPosition (shape_of run) i → (a : Atom) →
      (run_lasso meanings run).holds i a ≡ holds_at meanings program rows i a
  same_holds i at a =
      let p = slice_get_some run.positions i (omega (arith, is.count, at.within)) in
      ap (λ o. option_map_or (λ q. atom_holds meanings run q a) o false) p.1 ∙ same_atom i p.0 (is.positions i p.0 p.1) a

  pub run_means : (formula : FormulaTree) (i : ℕ) → i < run.start + run.length →
      meets (run_lasso meanings run) formula i ≡ meets (closed_run meanings program rows (shape_of run)) formula i
  run_means formula i below =
      meets_agrees (shape_of run) (run_lasso meanings run).holds (holds_at meanings program rows) same_holds formula i
      (record { goes_on = is.closes.goes_on; within = below })

  -- what is decided at each step is judged in the run
  atom_judged : (a : Atom) → ((t : ℕ) → IsDecided meanings program rows t a) → HasTruths meanings run a
  atom_judged (test probe) decided = each_from_places (λ p. IsSome (truth meanings (value_at run p) probe)) run.positions (λ i p at.
      let holds = decided i in
      subst IsSome (sym (sym (same_truth i p (is.positions i p at) probe) ∙ holds.1)) refl)
  atom_judged (update s tree) decided = tt

  pub decided_judged : (members : List Atom) → ((t : ℕ) → AllByRecursion (IsDecided meanings program rows t) members) →
      AllByRecursion (HasTruths meanings run) members
  decided_judged [] decided = tt
  decided_judged (a ∷ members) decided =
      (atom_judged a (λ t. (decided t).0), decided_judged members (λ t. (decided t).1))
