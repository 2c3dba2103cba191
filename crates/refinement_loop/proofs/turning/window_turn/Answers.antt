use Rattle.std.proofs.Common.{◌∙◌, ◌≤◌, ℕ, List, Option, sym, subst}
use Rattle.base_library.specs.Numbers.{IsDistinct}
use Rattle.tsl_terms.specs.Signals.{cells_of}
use Rattle.tsl_terms.specs.SpecView.{spec_tree}
use Rattle.tsl_terms.specs.Equality.{equality_in}
use Rattle.letter_space.specs.SpaceView.{space_tree}
use Rattle.machines.specs.MachineView.{environment_tree}
use Rattle.branch_finder.specs.declared.limits.TheConstants.{MOST_BRANCHES}
use Rattle.branch_finder.specs.Finding.{AreControlled, HasNoSpuriousWindow, branch_count}
use Rattle.refinement_loop.proofs.SpecSignals.{cells_distinct, cells_controlled}
use Rattle.refinement_loop.proofs.turning.window_turn.Goals as goal

pub find_window-requires-clause-controlled : goal.find_window-requires-clause-controlled
find_window-requires-clause-controlled c =
    let lists = c.in_ok-lists.ensures in
    subst (AreControlled (space_tree c.args.space.now)) (sym c.as_slice-cells.ensures)
    (cells_controlled (spec_tree c.args.spec.now) _ _ _ lists.inputs lists.cells lists.outputs (space_tree c.args.space.now)
    c.requires.space)

pub find_window-requires-clause-distinct : goal.find_window-requires-clause-distinct
find_window-requires-clause-distinct c =
    let lists = c.in_ok-lists.ensures in
    subst IsDistinct (sym c.as_slice-cells.ensures)
    (cells_distinct (spec_tree c.args.spec.now) _ _ _ lists.inputs lists.cells lists.outputs)

pub returns-in-Ok-None-clause-turn : goal.returns-in-Ok-None-clause-turn
returns-in-Ok-None-clause-turn c =
    let spec = spec_tree c.args.spec.now in
    let depth = c.args.search.now.depth in
    let e = environment_tree c.args.environment in
    let equality = equality_in spec.names in
    let cells = c.as_slice-cells.ensures ∙ c.in_ok-lists.ensures.cells in (
      c.requires.goes_on.none,
      (
        c.requires.goes_on.fewer,
        record {
          counterstrategy = c.requires.counterstrategy;
          few_branches = subst (λ s. branch_count s depth ≤ MOST_BRANCHES) c.requires.space c.in-Ok-None.ensures.few;
          no_window = subst (λ s. HasNoSpuriousWindow s e (cells_of spec) equality depth) c.requires.space
              (subst (λ (ns : List ℕ). HasNoSpuriousWindow (space_tree c.args.space.now) e ns equality depth) cells
              (subst (λ (o : Option ℕ). HasNoSpuriousWindow (space_tree c.args.space.now) e c.as_slice-cells.result.now o depth) c.equality_of-equality.ensures.number
              (rw c.in-Ok-None.field-0-is at c.in-Ok-None.ensures.none)));
        },
      ),
    )
