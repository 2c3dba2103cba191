use Rattle.std.proofs.Common.{◌≡◌, ◌∙◌, length, map, get_or, List, sym, ap, subst, add-one, arith}
use Rattle.std.proofs.lemmas.Option.{slice_get-get_or}
use Rattle.tsl_terms.specs.declared.term.Probe.{Probe}
use Rattle.tsl_terms.specs.TermTree.{probe_tree}
use Rattle.letter_space.specs.SpaceView.{space_tree}
use Rattle.branch_finder.specs.internal.Values.{probe_value, value_in, value_along, AreValues}
use Rattle.branch_finder.proofs.ValueLemmas.{next_values, row_by_cells, values_more}
use Rattle.branch_finder.proofs.values.values_along.Goals as goal

pub loop-step-preserved : goal.loop-step-preserved
loop-step-preserved c =
    let space = space_tree c.args.space.now in
    let cells = c.args.cells.now in
    let path = c.args.path.now in
    let step = c.loop-step.step in
    let values = c.as_slice.result.now in
    let is : values ≡ map (value_along space cells path step) cells = c.as_slice.ensures.value ∙ c.loop-step.invariant.cells in
    record {
      cells = c.in_ok-values-2.ensures
          ∙ next_values space cells path values step (get_or path step 0) is (slice_get-get_or path step 0 c.loop-step-test.true)
          ∙ ap (λ n. map (value_along space cells path n) cells) (sym (add-one step));
      along = values_more space cells path step c.loop-step.along.items c.add_values.new.values.items _
          c.loop-step.invariant.along c.in_ok-add_values.ensures
          (ap (λ (ps : List Probe). map (probe_value (value_in cells values step)) (map probe_tree ps)) c.as_slice-predicates.ensures
          ∙ row_by_cells space cells path values step is);
    }

pub returns : goal.returns
returns c =
    let space = space_tree c.args.space.now in
    let cells = c.args.cells.now in
    let path = c.args.path.now in
    let step = c.loop-step.step in
    let values = c.as_slice-2.result.now in
    let end : step ≡ length path = omega (arith, c.loop-step-test.false, c.loop-step.auto.step-end) in
    let is : values ≡ map (value_along space cells path (length path)) cells
    = c.as_slice-2.ensures.value ∙ c.loop-step.invariant.cells ∙ ap (λ n. map (value_along space cells path n) cells) end in
    subst (λ n. AreValues space cells path n c.add_values-2.new.values.items) (add-one (length path))
    (values_more space cells path (length path) c.loop-step.along.items c.add_values-2.new.values.items _
    (subst (λ n. AreValues space cells path n c.loop-step.along.items) end c.loop-step.invariant.along) c.in_ok-add_values-2.ensures
    (ap (λ (ps : List Probe). map (probe_value (value_in cells values (length path))) (map probe_tree ps)) c.as_slice-predicates.ensures
    ∙ row_by_cells space cells path values (length path) is))
