-- The moves of a controller that fits a space stay within its states, so it fails or has an annotation.
use Rattle.std.proofs.Common.{ℕ, suc, ◌+◌, ◌*◌, ◌<◌, ◌≤◌, ◌^◌, ◌⊎◌, List, [], ◌∷◌, length, take, drop, Contains, sym, subst, arith}
use Rattle.std.specs.List.{AllByRecursion}
use Rattle.std.proofs.lemmas.List.{take-append-drop, length-take}
use Rattle.base_library.proofs.Each.{each_contained, each_left, each_right}
use Rattle.ltl_formula.specs.LtlTree.{LtlTree}
use Rattle.cobuchi_automata.specs.Automata.{StateTree, EdgeTree, IsAutomaton}
use Rattle.letter_space.specs.SpaceTree.{SpaceTree, IsSpace}
use Rattle.letter_space.specs.Letters.{valuation_count, ArePicks}
use Rattle.letter_space.proofs.LetterBits.{letter_is_word}
use Rattle.machines.specs.MachineTree.{EntryTree, ControllerTree, IsController}
use Rattle.machines.specs.Moves.{MoveTree, FitsSpace, entries_of, moves_from, controller_moves}
use Rattle.annotation_check.proofs.MovesStay.{controller_moves_are}
use Rattle.full_bound.specs.Failing.{StayWithin, Fails, HasAnnotationWithin}
use Rattle.full_bound.proofs.AnnotatedOrFailing.{annotated_or_failing}

module _ (space : SpaceTree) (is_space : IsSpace space) where
  -- the letters of entries that stand at valuations
  words : (v : ℕ) (es : List EntryTree) → v + length es ≤ valuation_count space →
      AllByRecursion (λ e. ArePicks space.controlled e.choices) es →
      AllByRecursion (λ (m : MoveTree). m.letter < 2 ^ 64) (moves_from space v es)
  words v [] room each = tt
  words v (e ∷ es) room each = (
    letter_is_word space is_space v (omega (arith, room)) e.choices each.0,
    words (suc v) es (omega (arith, room)) each.1,
  )

  module _ (c : ControllerTree) (is : IsController c) (fits : FitsSpace space c) where
    pub letters_are_words : (s : ℕ) (m : MoveTree) → Contains (controller_moves space c s) m → m.letter < 2 ^ 64
    letters_are_words s m stands =
        let later = each_right (λ (e : EntryTree). ArePicks space.controlled e.choices) (take (s * c.valuations) c.entries)
        (drop (s * c.valuations) c.entries)
        (subst (AllByRecursion (λ e. ArePicks space.controlled e.choices)) (sym (take-append-drop (s * c.valuations) c.entries))
        fits.choices) in
        let first = each_left (λ (e : EntryTree). ArePicks space.controlled e.choices) (entries_of c s)
        (drop c.valuations (drop (s * c.valuations) c.entries))
        (subst (AllByRecursion (λ e. ArePicks space.controlled e.choices))
        (sym (take-append-drop c.valuations (drop (s * c.valuations) c.entries)))
        later) in
        let many = fits.valuations in
        let short = length-take c.valuations (drop (s * c.valuations) c.entries) in
        each_contained (λ (m : MoveTree). m.letter < 2 ^ 64) (controller_moves space c s) m
        (words 0 (entries_of c s) (omega (arith, many, short)) first) stands

    pub stay_within : StayWithin c.states (controller_moves space c)
    stay_within s m below stands = ((controller_moves_are space c is).stay s m stands, letters_are_words s m stands)

pub controllers_fail : (f : LtlTree) (states : List StateTree) (edges : List EdgeTree) → IsAutomaton f states edges →
    (space : SpaceTree) → IsSpace space → (controller : ControllerTree) → IsController controller → FitsSpace space controller →
    Fails f (controller_moves space controller)
    ⊎ HasAnnotationWithin edges (controller_moves space controller) (controller.states * length states)
controllers_fail f states edges automaton space is_space controller is fits =
    annotated_or_failing f states edges automaton controller.states (let some = is.has_state in omega (arith, some))
    (controller_moves space controller) (stay_within space is_space controller is fits)
