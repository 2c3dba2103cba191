-- The positions of a run, one by one.
use Rattle.std.proofs.Common.{◌≡◌, ◌∙◌, ℕ, ◌+◌, ◌≤◌, inl, inr, List, [], ◌∷◌, ◌++◌, length, map, take, drop, Some, slice_get, refl, sym, ap}
use Rattle.std.proofs.Common.{subst, arith}
use Rattle.std.proofs.lemmas.List.{map-append, length-append, length-map, length-drop}
use Rattle.base_library.proofs.Places.{slice_get_push}
use Rattle.tsl_terms.specs.declared.term.Term.{Term}
use Rattle.tsl_terms.specs.TermTree.{term_tree}
use Rattle.tsl_terms.specs.Value.{Meanings}
use Rattle.program_tree.specs.declared.program.Program.{Program}
use Rattle.program_tree.specs.ProgramTree.{ProgramTree}
use Rattle.program_tree.specs.ProgramView.{program_tree}
use Rattle.tsl_meaning.specs.Interpretation.{InputRows}
use Rattle.tsl_meaning.specs.declared.run.Position.{Position}
use Rattle.tsl_meaning.specs.Run.{Closed, configuration_at, action_in}
use Rattle.tsl_meaning.specs.RunTree.{PositionTree, position_tree}
use Rattle.tsl_meaning.specs.RunOf.{IsStepOf}
use Rattle.tsl_meaning.specs.LoopFits.{PositionsFit}
use Rattle.table_runner.specs.declared.standing.Standing.{Standing}
use Rattle.table_runner.specs.Running.{CanRun}
use Rattle.table_runner.specs.Standings.{shown, StandsAt}
use Rattle.table_runner.specs.internal.Returns.{IsFirstStart}
use Rattle.table_runner.proofs.Stepping.{row_long, acts_at}

-- what is recorded where a run stands
abbrev pub record_of : {V S : Type 0} → (V → S) → ℕ → Standing V → List Term → PositionTree S
record_of seen inputs standing us = record {
  place = standing.place;
  state = standing.state;
  row = take inputs (map seen standing.leaves.values);
  cells = drop inputs (map seen standing.leaves.values);
  updates = map term_tree us;
}

-- one more position that keeps what those before it keep
pub one_more_fits : {V : Type 0} (inputs cells slots : ℕ) (xs ys : List (Position V)) (p : Position V) → ys ≡ xs ++ p ∷ [] →
    PositionsFit inputs cells slots xs → (length p.row ≡ inputs) × (length p.cells ≡ cells) × (length p.updates ≡ slots) →
    PositionsFit inputs cells slots ys
one_more_fits inputs cells slots xs ys p same fit here i q at = elim (slice_get_push xs p i q (sym (ap (λ zs. slice_get zs i) same) ∙ at)) [
  | inl before ↦ fit i q before.1
  | inr last ↦ subst (λ (r : Position _). (length r.row ≡ inputs) × (length r.cells ≡ cells) × (length r.updates ≡ slots)) last.1 here
]

pub fits_by : {V : Type 0} (inputs cells slots inputs' cells' slots' : ℕ) (positions : List (Position V)) → inputs ≡ inputs' →
    cells ≡ cells' →
    slots ≡ slots' → PositionsFit inputs cells slots positions → PositionsFit inputs' cells' slots' positions
fits_by inputs cells slots inputs' cells' slots' positions first second third fit i p at =
    let fits = fit i p at in
    (fits.0 ∙ first, fits.1 ∙ second, fits.2 ∙ third)

module _ {V S : Type 0} (seen : V → S) (meanings : Meanings S) (program : ProgramTree) (rows : InputRows S) where
  pub recorded : (t : ℕ) (standing : Standing V) (us : List Term) (go : ℕ) → StandsAt seen meanings program rows t standing →
      action_in meanings program rows (shown seen (length program.inputs) standing)
      ≡ Some (record { updates = map term_tree us; go = go }) →
      (p : Position V) → position_tree seen p ≡ record_of seen (length program.inputs) standing us →
      IsStepOf meanings program rows t (position_tree seen p)
  recorded t standing us go stands does p is = subst (λ q. IsStepOf meanings program rows t q) (sym is) (record {
    is_now = stands.is_now;
    reads = stands.row;
    action = record { updates = map term_tree us; go = go };
    does = does;
    assigns = refl;
  })

  pub one_more_step : (xs ys : List (Position V)) (p : Position V) (n : ℕ) → length xs ≡ n → ys ≡ xs ++ p ∷ [] →
      ((t : ℕ) (q : PositionTree S) → slice_get (map (position_tree seen) xs) t ≡ Some q → IsStepOf meanings program rows t q) →
      IsStepOf meanings program rows n (position_tree seen p) →
      (t : ℕ) (q : PositionTree S) → slice_get (map (position_tree seen) ys) t ≡ Some q → IsStepOf meanings program rows t q
  one_more_step xs ys p n long same steps here t q at =
      let grown = ap (map (position_tree seen)) same ∙ map-append (position_tree seen) xs (p ∷ []) in
      elim (slice_get_push (map (position_tree seen) xs) (position_tree seen p) t q (sym (ap (λ zs. slice_get zs t) grown) ∙ at)) [
        | inl before ↦ steps t q before.1
        | inr last ↦
            let e : n ≡ t = omega (arith, last.0, long, length-map xs (position_tree seen)) in
            subst (λ m. IsStepOf meanings program rows m q) e (subst (λ r. IsStepOf meanings program rows n r) last.1 here)
      ]

  -- the run closes where a configuration comes again
  pub closes : CanRun meanings program rows → (start n : ℕ) → 1 ≤ n → IsFirstStart (configuration_at meanings program rows) n start →
      Closed meanings program rows (record { start = start; length = n })
  closes can start n goes_on first = record {
    goes_on = goes_on;
    seam = (can.goes_on start).now;
    at_start = (can.goes_on start).is_now;
    at_end = first.same ∙ (can.goes_on start).is_now;
  }

-- and has a value for each input and each cell, and a term for each cell and output
pub position_fits : {V S : Type 0} (seen : V → S) (meanings : Meanings S) (program : Program) (rows : InputRows S) →
    CanRun meanings (program_tree program) rows → (t : ℕ) (standing : Standing V) (us : List Term) (go : ℕ) →
    StandsAt seen meanings (program_tree program) rows t standing →
    action_in meanings (program_tree program) rows (shown seen (length program.inputs) standing)
    ≡ Some (record { updates = map term_tree us; go = go }) →
    (p : Position V) → position_tree seen p ≡ record_of seen (length program.inputs) standing us →
    (length p.row ≡ length program.inputs) × (length p.cells ≡ length program.cells)
    × (length p.updates ≡ length program.cells + length program.outputs)
position_fits seen meanings program rows can t standing us go stands does p is =
    let row = ap (λ (q : PositionTree _). length q.row) is in
    let cells = ap (λ (q : PositionTree _). length q.cells) is in
    let updates = ap (λ (q : PositionTree _). length q.updates) is in
    let long = row_long seen meanings (program_tree program) rows can t standing stands in
    let at = acts_at (program_tree program) _ standing.state (record { updates = map term_tree us; go = go }) does in
    let fits = program.assignments_fit at.0 go (map term_tree us) at.1 in
    let signals = ap length stands.signals in (
      omega (arith, row, long, length-map p.row seen),
      omega (
        arith,
        cells,
        length-map p.cells seen,
        length-drop (length program.inputs) (map seen standing.leaves.values),
        length-map standing.leaves.values seen,
        standing.leaves.paired,
        signals,
        length-append program.inputs program.cells,
      ),
      omega (arith, updates, length-map p.updates term_tree, length-map us term_tree, fits.0),
    )
