-- The signals and the bits of a specification, as the program of a controller wants them.
use Rattle.std.proofs.Common.{◌≡◌, ◌∙◌, ℕ, true, List, ◌++◌, length, map, sym, ap, subst}
use Rattle.std.proofs.lemmas.Bool.{and_parts}
use Rattle.base_library.specs.Numbers.{is_among, IsDistinct}
use Rattle.tsl_terms.specs.TermTree.{ProbeTree}
use Rattle.tsl_terms.specs.OnlyThese.{reads_only, read_only, atom_reads_only}
use Rattle.tsl_terms.specs.SpecTree.{SpecTree, whole_formula}
use Rattle.tsl_terms.specs.Signals.{formula_reads, formula_updates, is_cell, inputs_of, cells_of, outputs_of, choices_of}
use Rattle.tsl_terms.specs.Predicates.{predicates_of}
use Rattle.tsl_terms.specs.Laws.{FormulasFit}
use Rattle.tsl_terms.proofs.SignalFacts.{distinct_signals, read_is_input_or_cell, whole_reads}
use Rattle.letter_space.specs.SpaceTree.{ControlledTree, SpaceTree}
use Rattle.letter_space.specs.SpecSpace.{spec_space}
use Rattle.control_flow_model.specs.Flow.{SpaceReadsOnly}
use Rattle.program_check.proofs.ProgramNames.{cell_named}
use Rattle.program_check.proofs.SpaceTerms.{signals_of, predicates_pass, controlled_pass}

module _ (spec : SpecTree) (inputs cells outputs : List ℕ) (are_inputs : inputs ≡ inputs_of spec) (are_cells : cells ≡ cells_of spec)
    (are_outputs : outputs ≡ outputs_of spec) where
  pub are_distinct : IsDistinct ((inputs ++ cells) ++ outputs)
  are_distinct = subst IsDistinct (λ i. (sym are_inputs i ++ sym are_cells i) ++ sym are_outputs i) (distinct_signals spec)

  pub are_controlled : (space : SpaceTree) → space ≡ spec_space spec →
      map (λ (c : ControlledTree). c.signal) space.controlled ≡ cells ++ outputs
  are_controlled space is =
      ap (λ (s : SpaceTree). map (λ (c : ControlledTree). c.signal) s.controlled) is
      ∙ signals_of (choices_of spec) (length (predicates_of spec)) (cells_of spec ++ outputs_of spec)
      ∙ (λ i. sym are_cells i ++ sym are_outputs i)

  pub are_read : FormulasFit spec → (space : SpaceTree) → space ≡ spec_space spec → SpaceReadsOnly (inputs ++ cells) space
  are_read fit space is =
      subst (λ s. SpaceReadsOnly (inputs ++ cells) s) (sym is)
      (subst (λ readable. SpaceReadsOnly readable (spec_space spec)) (λ i. sym are_inputs i ++ sym are_cells i) here)
    where
      of_cell : (s : ℕ) → is_cell spec s ≡ true → is_among (inputs_of spec ++ cells_of spec) s ≡ true
      of_cell s cell =
          read_is_input_or_cell spec s (cell_named spec fit s cell)
          (and_parts (formula_updates s (whole_formula spec)) (formula_reads s (whole_formula spec)) cell).1

      here : SpaceReadsOnly (inputs_of spec ++ cells_of spec) (spec_space spec)
      here = record {
        tests =
            predicates_pass spec (atom_reads_only (inputs_of spec ++ cells_of spec)) (whole_reads spec fit)
            (λ (p : ProbeTree). read_only (inputs_of spec ++ cells_of spec) p.arguments) (λ p reads. reads)
            (reads_only (inputs_of spec ++ cells_of spec)) (λ s t reads. reads) of_cell;
        choices =
            controlled_pass spec (atom_reads_only (inputs_of spec ++ cells_of spec)) (whole_reads spec fit)
            (λ (p : ProbeTree). read_only (inputs_of spec ++ cells_of spec) p.arguments) (λ p reads. reads)
            (reads_only (inputs_of spec ++ cells_of spec)) (λ s t reads. reads) of_cell (length (predicates_of spec))
            (cells_of spec ++ outputs_of spec);
      }
