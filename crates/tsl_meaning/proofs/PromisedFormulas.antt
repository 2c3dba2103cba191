-- The formulas of a promise speak of the program: the whole formula reads its inputs and cells and updates its cells
-- and outputs, and so does the formula of each window.
use Rattle.std.proofs.Common.{◌≡◌, ◌∙◌, ℕ, ◌==◌, Bool, true, ◌&&◌, List, ◌++◌, map, refl, ap}
use Rattle.std.specs.Prelude.{nat_le, nat_lt}
use Rattle.std.specs.List.{list_all, AllByRecursion}
use Rattle.std.proofs.lemmas.Bool.{and_parts, and_from, or_left}
use Rattle.std.proofs.lemmas.List.Folds.{list_all-append, list_all-map, list_any-append}
use Rattle.base_library.proofs.Passes.{list_all_weaker, list_all_from_places, each_from_list_all}
use Rattle.base_library.proofs.Each.{each_both}
use Rattle.tsl_terms.specs.Name.{Name}
use Rattle.tsl_terms.specs.FormulaTree.{Atom, test, update}
use Rattle.tsl_terms.specs.Atoms.{atoms}
use Rattle.tsl_terms.specs.OnlyThese.{read_only, atom_reads_only, atom_updates_only}
use Rattle.tsl_terms.specs.SpecTree.{SpecTree, whole_formula}
use Rattle.tsl_terms.specs.WellFormed.{SpecFits, atom_fits}
use Rattle.tsl_terms.specs.Signals.{inputs_of, cells_of, outputs_of}
use Rattle.tsl_terms.specs.WindowTree.{WindowTree, ListedTree, window_formula_of, window_probes}
use Rattle.tsl_terms.proofs.SignalFacts.{whole_reads, whole_updates}
use Rattle.tsl_terms.proofs.WholeAtoms.{whole_is_made_of}
use Rattle.tsl_terms.proofs.WindowAtoms.{window_formula_atoms}
use Rattle.program_tree.specs.ProgramTree.{ProgramTree, controlled}
use Rattle.base_library.specs.Numbers.{is_among}
use Rattle.program_tree.specs.Fits.{window_is_shaped, window_reads_only, window_fits, longest, rises}
use Rattle.tsl_meaning.specs.OverNames.{probe_is_over, listed_is_over, window_is_over, atom_is_over, IsProgramOver, IsFormulaOver}
use Rattle.tsl_meaning.proofs.Naming.{atom_over}
use Rattle.tsl_meaning.proofs.MoreNames.{atom_still}

-- the whole formula of a specification
module _ (spec : SpecTree) (fits : SpecFits spec) where
  atoms_over : list_all (atom_is_over spec.names) (atoms (whole_formula spec)) ≡ true
  atoms_over =
      list_all_weaker (atom_fits spec.names) (atom_is_over spec.names) (atom_over spec.names) (atoms (whole_formula spec))
      (and_parts (list_all (atom_fits spec.names) (atoms (whole_formula spec))) _
      (whole_is_made_of (atom_fits spec.names) spec fits.formulas)).0

  -- over any names that its atoms are over
  over_any : (names : List Name) (program : ProgramTree) → list_all (atom_is_over names) (atoms (whole_formula spec)) ≡ true →
      program.inputs ≡ inputs_of spec → program.cells ≡ cells_of spec → program.outputs ≡ outputs_of spec →
      IsFormulaOver names program (whole_formula spec)
  over_any names program over inputs cells outputs = record {
    names_fit = over;
    reads =
        (λ i. list_all (atom_reads_only (inputs i ++ cells i)) (atoms (whole_formula spec)))
        ∙ whole_reads spec fits.formulas;
    updates =
        (λ i. list_all (atom_updates_only (cells i ++ outputs i)) (atoms (whole_formula spec)))
        ∙ whole_updates spec fits.formulas;
  }

  pub whole_speaks : (program : ProgramTree) → program.inputs ≡ inputs_of spec → program.cells ≡ cells_of spec →
      program.outputs ≡ outputs_of spec → IsFormulaOver spec.names program (whole_formula spec)
  whole_speaks program inputs cells outputs = over_any spec.names program atoms_over inputs cells outputs

  pub whole_still_speaks : (more : List Name) (program : ProgramTree) → program.inputs ≡ inputs_of spec →
      program.cells ≡ cells_of spec → program.outputs ≡ outputs_of spec →
      IsFormulaOver (spec.names ++ more) program (whole_formula spec)
  whole_still_speaks more program inputs cells outputs =
      over_any (spec.names ++ more) program
      (list_all_weaker (atom_is_over spec.names) (atom_is_over (spec.names ++ more)) (atom_still spec.names more)
      (atoms (whole_formula spec)) atoms_over) inputs cells outputs

-- what the probes and the updates of a window pass, all atoms of its formula pass
window_passes : (p : Atom → Bool) (w : WindowTree) → list_all (λ q. p (test q)) (window_probes w) ≡ true →
    list_all (λ u. p (update u.signal u.term)) w.updates ≡ true →
    list_all p (atoms (window_formula_of w)) ≡ true
window_passes p w probes updates =
    ap (list_all p) (window_formula_atoms w)
    ∙ list_all-append p (map (λ (u : ListedTree). update u.signal u.term) w.updates) (map test (window_probes w))
    ∙ and_from _ _ (list_all-map p (λ (u : ListedTree). update u.signal u.term) w.updates ∙ updates)
    (list_all-map p test (window_probes w) ∙ probes)

window_speaks : (names : List Name) (program : ProgramTree) (w : WindowTree) → window_is_over names w ≡ true →
    window_fits (program.inputs ++ program.cells) program.cells w ≡ true →
    IsFormulaOver names program (window_formula_of w)
window_speaks names program w over fits =
    let readable : List ℕ = program.inputs ++ program.cells in
    let named = and_parts (list_all (probe_is_over names) (window_probes w)) (list_all (listed_is_over names) w.updates) over in
    let parts = and_parts (window_is_shaped program.cells w) (window_reads_only readable w) fits in
    let reads = and_parts (list_all (λ p. read_only readable p.arguments) (window_probes w)) _ parts.1 in
    let of_cells = list_all (λ u. nat_lt u.offset w.length && is_among program.cells u.signal) w.updates && rises program.cells w.updates in
    let short = nat_le w.length longest && nat_le w.left_at w.length in
    let listed = and_parts short of_cells (and_parts (short && of_cells) _ parts.0).0 in
    let cells = (and_parts (list_all (λ u. nat_lt u.offset w.length && is_among program.cells u.signal) w.updates) _ listed.1).0 in
    record {
      names_fit = window_passes (atom_is_over names) w named.0 named.1;
      reads = window_passes (atom_reads_only readable) w reads.0 reads.1;
      updates = window_passes (atom_updates_only (controlled program)) w
          (list_all_from_places (λ q. atom_updates_only (controlled program) (test q)) (window_probes w) (λ i q at. refl))
          (list_all_weaker (λ u. nat_lt u.offset w.length && is_among program.cells u.signal)
          (λ u. is_among (controlled program) u.signal) cell_is_controlled w.updates cells);
    }
  where
    cell_is_controlled : (u : ListedTree) → (nat_lt u.offset w.length && is_among program.cells u.signal) ≡ true →
        is_among (controlled program) u.signal ≡ true
    cell_is_controlled u passes =
        list_any-append (λ r. r == u.signal) program.cells program.outputs
        ∙ or_left (is_among program.cells u.signal) (is_among program.outputs u.signal)
        (and_parts (nat_lt u.offset w.length) (is_among program.cells u.signal) passes).1

pub windows_speak : (names : List Name) (program : ProgramTree) → IsProgramOver names program →
    AllByRecursion (λ w. IsFormulaOver names program (window_formula_of w)) program.windows
windows_speak names program over =
    each_both (λ w. window_is_over names w ≡ true) (λ w. window_fits (program.inputs ++ program.cells) program.cells w ≡ true)
    (λ w. IsFormulaOver names program (window_formula_of w))
    (window_speaks names program) program.windows
    (each_from_list_all (window_is_over names) program.windows over.windows)
    (each_from_list_all (window_fits (program.inputs ++ program.cells) program.cells) program.windows over.is_program.windows_fit)
