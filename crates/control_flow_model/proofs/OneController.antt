-- A program has one controller over a space.
use Rattle.std.proofs.Common.{◌≡◌, ◌∙◌, ℕ, zero, suc, ◌+◌, ◌*◌, ◌/◌, ◌%◌, ◌<◌, cond, List, [], ◌∷◌, length, get_or, Some, None, slice_get}
use Rattle.std.proofs.Common.{refl, sym, ap, subst, arith}
use Rattle.std.proofs.lemmas.Bool.{lt-ltb}
use Rattle.std.proofs.lemmas.List.{ext_get_or}
use Rattle.std.proofs.lemmas.Option.{none-some, get_or_from_slice_get}
use Rattle.std.proofs.Math.Nat.{div-lt_iff_lt-mul}
use Rattle.base_library.proofs.Options.{one_value}
use Rattle.tsl_terms.specs.TermTree.{TermTree}
use Rattle.program_tree.specs.ProgramTree.{ProgramTree}
use Rattle.program_tree.specs.Walk.{Action}
use Rattle.letter_space.specs.SpaceTree.{ControlledTree, SpaceTree, IsSpace}
use Rattle.base_library.specs.Once.{StandOnce}
use Rattle.machines.specs.MachineTree.{EntryTree, ControllerTree}
use Rattle.control_flow_model.specs.ControllerOf.{terms_picked, IsEntryOf, IsControllerOf}
use Rattle.control_flow_model.proofs.PickedTerms.{picked_parts}

-- terms are picked in one way
pub one_pick : (cs : List ControlledTree) → ((i : ℕ) (c : ControlledTree) → slice_get cs i ≡ Some c → StandOnce c.choices) →
    (p q : List ℕ) (ts us : List TermTree) → ts ≡ us → terms_picked cs p ≡ Some ts → terms_picked cs q ≡ Some us → p ≡ q
one_pick [] once [] [] ts us same left right = refl
one_pick [] once [] (k ∷ q) ts us same left right = absurd (none-some us right)
one_pick [] once (j ∷ p) q ts us same left right = absurd (none-some ts left)
one_pick (c ∷ cs) once [] q ts us same left right = absurd (none-some ts left)
one_pick (c ∷ cs) once (j ∷ p) [] ts us same left right = absurd (none-some us right)
one_pick (c ∷ cs) once (j ∷ p) (k ∷ q) ts us same left right =
    let first = picked_parts c cs j p ts left in
    let second = picked_parts c cs k q us right in
    let all : first.first ∷ first.others ≡ second.first ∷ second.others = first.all ∙ same ∙ sym second.all in
    let head : first.first ≡ second.first = cc in
    let tail : first.others ≡ second.others = cc in
    let here : j ≡ k = once 0 c refl j k second.first (first.is_first ∙ ap Some head) second.is_first in
    let rest = one_pick cs (λ i d at. once (suc i) d at) p q first.others second.others tail first.are_others second.are_others in
    λ i. here i ∷ rest i

pub one_controller : (space : SpaceTree) (program : ProgramTree) (c d : ControllerTree) → IsSpace space →
    IsControllerOf space program c → IsControllerOf space program d → c ≡ d
one_controller space program c d is_space left right =
    let states : c.states ≡ d.states = left.states ∙ sym right.states in
    let valuations : c.valuations ≡ d.valuations = left.fits.valuations ∙ sym right.fits.valuations in
    let count : length c.entries ≡ length d.entries =
    left.table.has_entries ∙ (λ i. states i * valuations i) ∙ sym right.table.has_entries in
    let entries : c.entries ≡ d.entries =
    ext_get_or (record { choices = []; next = 0 }) c.entries d.entries count (λ k below. same k below) in
    λ i. record { states = states i; valuations = valuations i; entries = entries i }
  where
    valuations : c.valuations ≡ d.valuations
    valuations = left.fits.valuations ∙ sym right.fits.valuations

    -- the entry at a place is that of its state and valuation
    entry_here : (m : ControllerTree) (is : IsControllerOf space program m) (k : ℕ) → k < m.states * m.valuations →
        (e : EntryTree) × (slice_get m.entries k ≡ Some e) × IsEntryOf space program (k / m.valuations) (k % m.valuations) e
    entry_here m is k below =
        let some : 0 < m.valuations = by m.valuations below in
        let state : k / m.valuations < m.states = (div-lt_iff_lt-mul some).1 below in
        let valuation : k % m.valuations < m.valuations = omega (arith, some) in
        let found = is.entries (k / m.valuations) (k % m.valuations) state valuation in
        let place : (k / m.valuations) * m.valuations + k % m.valuations ≡ k = omega (arith, some) in (
          found.0,
          sym (ap (λ b. cond b (slice_get m.entries ((k / m.valuations) * m.valuations + k % m.valuations)) None)
              (lt-ltb (k % m.valuations) m.valuations valuation) ∙ ap (slice_get m.entries) place) ∙ found.1,
          found.2,
        )
      where
        by : (v : ℕ) → k < m.states * v → 0 < v
        by zero less = absurd (omega arith)
        by (suc v) less = omega arith

    same : (k : ℕ) → k < length c.entries → get_or c.entries k (record { choices = []; next = 0 }) ≡ get_or d.entries k
        (record { choices = []; next = 0 })
    same k below =
        let first = entry_here c left k (subst (λ n. k < n) left.table.has_entries below) in
        let states : c.states ≡ d.states = left.states ∙ sym right.states in
        let total : length c.entries ≡ d.states * d.valuations = left.table.has_entries ∙ (λ i. states i * valuations i) in
        let second = entry_here d right k (subst (λ n. k < n) total below) in
        let is : IsEntryOf space program (k / d.valuations) (k % d.valuations) first.0 =
        subst (λ v. IsEntryOf space program (k / v) (k % v) first.0) valuations first.2 in
        let action : is.action ≡ second.2.action = one_value _ is.action second.2.action is.walks second.2.walks in
        let choices = one_pick space.controlled is_space.choices_once first.0.choices second.0.choices is.action.updates
        second.2.action.updates (ap (λ (a : Action). a.updates) action) is.assigns second.2.assigns in
        let next = is.goes ∙ ap (λ (a : Action). a.go) action ∙ sym second.2.goes in
        get_or_from_slice_get c.entries k first.0 _ first.1 ∙ (λ i. record { choices = choices i; next = next i })
        ∙ sym (get_or_from_slice_get d.entries k second.0 _ second.1)
