use Rattle.std.proofs.Common.{◌≡◌, ◌∙◌, ◌*◌, ◌<◌, ℕ, List, length, map, sym, ap, subst, arith}
use Rattle.ltl_formula.specs.LtlTree.{ltl_tree}
use Rattle.cobuchi_automata.specs.Automata.{StateTree, EdgeTree}
use Rattle.cobuchi_automata.specs.Edges.{edge_trees}
use Rattle.letter_space.specs.SpaceView.{space_tree}
use Rattle.machines.specs.MachineView.{controller_tree}
use Rattle.machines.specs.Moves.{MoveTree, controller_moves}
use Rattle.machines.proofs.ControllerTables.{is_controller}
use Rattle.full_bound.specs.Failing.{StayWithin, HasAnnotationWithin}
use Rattle.full_bound.specs.LoopView.{letter_loop}
use Rattle.full_bound.specs.internal.Pairs.{pair_steps}
use Rattle.full_bound.specs.internal.PairTable.{listed_step}
use Rattle.full_bound.specs.internal.Search.{steps_from}
use Rattle.full_bound.proofs.AnnotatedOrFailing.{not_both}
use Rattle.full_bound.proofs.ControllersFail.{stay_within}
use Rattle.full_bound.proofs.FoundLoops.{steps_stay, found_fails, none_annotated}
use Rattle.full_bound.proofs.NeverBack.{if_some, if_none}
use Rattle.full_bound.proofs.failing.failing_loop.Goals.{After-deref}
use Rattle.full_bound.proofs.failing.failing_loop.Goals as goal

module _ (c : After-deref) where
  abbrev states : List StateTree
  states = c.requires.automaton.0

  abbrev edges : List EdgeTree
  edges = edge_trees c.args.automaton.now.edges

  abbrev moves : ℕ → List MoveTree
  moves = controller_moves (space_tree c.args.space.now) (controller_tree c.args.controller.now)

  some_state : 0 < c.args.controller.now.states
  some_state = let some = c.args.controller.now.has_state in omega (arith, some)

  stay : StayWithin c.args.controller.now.states moves
  stay = stay_within (space_tree c.args.space.now) c.args.space.now.is_space (controller_tree c.args.controller.now)
      (is_controller c.args.controller.now) c.requires.fits

  size : length c.deref.result.now ≡ c.args.controller.now.states * length states
  size = ap length c.deref.ensures.value ∙ c.in_ok-table.ensures.pairs ∙ ap (λ n. c.args.controller.now.states * n)
      (sym c.requires.automaton.1)

  steps_are : (p : ℕ) → steps_from c.deref.result.now p ≡ map (listed_step (length states)) (pair_steps (length states) moves edges p)
  steps_are p =
      ap (λ table. steps_from table p) c.deref.ensures.value ∙ c.in_ok-table.ensures.steps p
      ∙ ap (λ n. map (listed_step n) (pair_steps n moves edges p)) (sym c.requires.automaton.1)

pub turn_in-requires-clause-stay : goal.turn_in-requires-clause-stay
turn_in-requires-clause-stay c =
    steps_stay (ltl_tree c.args.formula.now) (states c) (edges c) c.requires.automaton.2 c.args.controller.now.states (some_state c)
    (moves c)
    (stay c) c.deref.result.now (size c) (steps_are c)

pub returns-in_default-clause-annotated : goal.returns-in_default-clause-annotated
returns-in_default-clause-annotated c =
    let before = (goal.at.returns-in_default-clause-annotated c).After-deref in
    subst (λ n. HasAnnotationWithin (edges before) (moves before) (c.args.controller.now.states * n)) c.requires.automaton.1
    (none_annotated (ltl_tree c.args.formula.now) (states before) (edges before) c.requires.automaton.2 c.args.controller.now.states
    (some_state before) (moves before) (stay before) c.deref.result.now (size before) (steps_are before)
    (if_none _ _ c.in_default.is c.in_ok-turn.ensures.none))

pub returns-clause-failing : goal.returns-clause-failing
returns-clause-failing c =
    let before = (goal.at.returns-clause-failing c).After-deref in
    found_fails (ltl_tree c.args.formula.now) (states before) (edges before) c.requires.automaton.2 c.args.controller.now.states
    (some_state before) (moves before) (stay before) c.deref.result.now (size before) (steps_are before) c.in-Some.turn.stem.items
    c.in-Some.turn.turn.items c.in_ok-loop_of.field-0.letters c.in_ok-loop_of.field-0.back
    (if_some _ _ _ c.in-Some.is c.in_ok-turn.ensures.some) c.in_ok-loop_of.ensures.back c.in_ok-loop_of.ensures.letters

pub returns-clause-not_annotated : goal.returns-clause-not_annotated
returns-clause-not_annotated c =
    not_both (ltl_tree c.args.formula.now) c.requires.automaton.0 (edge_trees c.args.automaton.now.edges) c.requires.automaton.2
    (controller_moves (space_tree c.args.space.now) (controller_tree c.args.controller.now))
    (c.args.controller.now.states * c.args.automaton.now.states) (letter_loop c.in_ok-loop_of.field-0, returns-clause-failing c)
