use Rattle.std.proofs.Common.{◌≡◌, ◌∙◌, ◌+◌, ◌*◌, ◌%◌, ◌^◌, ◌<◌, ◌≤◌, ℕ, List, length, map, slice_get, sym, ap, subst, arith}
use Rattle.std.proofs.Math.Nat.{mod-eq_of_lt}
use Rattle.std.proofs.Math.Pow.{pow_mono}
use Rattle.std.proofs.lemmas.List.{length-map}
use Rattle.letter_space.specs.SpaceView.{space_tree}
use Rattle.machines.specs.MachineView.{controller_tree}
use Rattle.machines.proofs.ControllerTables.{is_controller}
use Rattle.circuits.specs.declared.gate.Gate.{Gate}
use Rattle.circuits.specs.GateView.{gate_tree}
use Rattle.circuits.specs.Circuits.{IsCircuit}
use Rattle.controller_circuits.specs.OfController.{IsCircuitOf}
use Rattle.controller_circuits.specs.internal.Gates.{GatesTree, gates_tree, variables_so_far}
use Rattle.controller_circuits.specs.internal.Tables.{AreOfWords}
use Rattle.controller_circuits.proofs.WholeCircuits.{few_made, few_then, whole}
use Rattle.controller_circuits.proofs.making.circuit_of.Goals as goal
use Rattle.controller_circuits.proofs.making.circuit_of.Goals.{After-from_vec-3, After-update_count, After-deref-2}

inputs_are : (c : After-update_count) → c.len-inputs.result ≡ length (space_tree c.args.space.now).predicates
inputs_are c = c.len-inputs.ensures ∙ sym (length-map c.args.space.now.predicates _)

few_updates : (c : After-update_count) → c.update_count.result ≤ 64
few_updates c = omega (arith, c.update_count.ensures, c.args.space.now.is_space.few_bits)

few_before : (c : After-update_count) → c.new-gates.result.before ≤ 16
few_before c =
    let before : c.new-gates.result.before ≡ c.len-inputs.result + c.digits_for-digits.result = ap
    (λ (g : GatesTree). g.before) c.new-gates.ensures in
    omega (arith, before, inputs_are c, c.args.space.now.is_space.few_predicates, c.digits_for-digits.ensures.few)

no_gates : (c : After-update_count) → length (map gate_tree c.new-gates.result.made.keys) ≡ 0
no_gates c = ap (λ (g : GatesTree). length g.gates) c.new-gates.ensures

pub literals_of_words-requires-clause-few : goal.literals_of_words-requires-clause-few
literals_of_words-requires-clause-few c =
    few_then (gates_tree c.new-gates.result) c.update_count.result (few_before c) (few_updates c) (omega (arith, no_gates c))

pub literals_of_words-requires-2-clause-few : goal.literals_of_words-requires-2-clause-few
literals_of_words-requires-2-clause-few c =
    let at = (goal.at.literals_of_words-requires-2-clause-few c).After-update_count in
    let before : c.literals_of_words.new.gates.before ≡ c.new-gates.result.before = c.in_ok-outputs.ensures.becomes.before in
    few_then (gates_tree c.literals_of_words.new.gates) c.digits_for-digits.result (omega (arith, before, few_before at))
    (omega (arith, c.digits_for-digits.ensures.few))
    (omega (
      arith,
      c.in_ok-outputs.ensures.few,
      no_gates at,
      few_made c.new-gates.result.before c.update_count.result
          (few_before at) (few_updates at),
    ))

places_are : (c : After-update_count) → 1 * 2 ^ (c.len-inputs.result + c.digits_for-digits.result) % 4294967296
    ≡ 2 ^ (c.len-inputs.result + c.digits_for-digits.result)
places_are c =
    let few : c.len-inputs.result + c.digits_for-digits.result ≤ 16 =
    omega (arith, inputs_are c, c.args.space.now.is_space.few_predicates, c.digits_for-digits.ensures.few) in
    let power : 2 ^ (c.len-inputs.result + c.digits_for-digits.result) ≤ 2 ^ 16 = pow_mono few in
    let one : 1 * 2 ^ (c.len-inputs.result + c.digits_for-digits.result) ≡ 2 ^
    (c.len-inputs.result + c.digits_for-digits.result) = omega arith in
    mod-eq_of_lt (omega (arith, power, one)) ∙ one

made : (c : After-from_vec-3) → IsCircuitOf (space_tree c.args.space.now) (controller_tree c.args.controller.now)
    (record {
      inputs = c.len-inputs.result;
      latches = c.from_vec.result;
      outputs = c.from_vec-2.result;
      gates = map gate_tree
          c.from_vec-3.result;
    })
    × IsCircuit (record {
      inputs = c.len-inputs.result;
      latches = c.from_vec.result;
      outputs = c.from_vec-2.result;
      gates = map
          gate_tree c.from_vec-3.result;
    })
made c =
    let at = (goal.at.invariant_of-result c).After-update_count in
    let space = space_tree c.args.space.now in
    let m = controller_tree c.args.controller.now in
    let start = gates_tree c.new-gates.result in
    let mid = gates_tree c.literals_of_words.new.gates in
    let last = gates_tree c.literals_of_words-2.new.gates in
    let places = 1 * 2 ^ (c.len-inputs.result + c.digits_for-digits.result) % 4294967296 in
    let before : start.before ≡ c.len-inputs.result + c.digits_for-digits.result = ap (λ (g : GatesTree). g.before) c.new-gates.ensures in
    let outputs_made = subst (λ (ls : List ℕ). AreOfWords start mid c.deref.result.now c.len-inputs.result c.update_count.result ls)
    (sym c.from_vec-2.ensures) c.in_ok-outputs.ensures in
    let latches_made = subst (λ (ls : List ℕ). AreOfWords mid last c.deref-2.result.now 0 c.digits_for-digits.result ls)
    (sym c.from_vec.ensures) c.in_ok-latches.ensures in
    let few_first = few_made start.before c.update_count.result (few_before at) (few_updates at) in
    let mid_before : mid.before ≡ start.before = outputs_made.becomes.before in
    let few_second = few_made mid.before c.digits_for-digits.result (omega (arith, mid_before, few_before at))
    (omega (arith, c.digits_for-digits.ensures.few)) in
    let last_before : last.before ≡ mid.before = latches_made.becomes.before in
    let few : variables_so_far last < 2 ^ 31 =
    omega (arith, few_first, few_second, latches_made.few, outputs_made.few, no_gates at, few_before at, mid_before, last_before) in
    let few_outputs : length c.from_vec-2.result < 2 ^ 32 = omega (arith, outputs_made.counted, few_updates at) in
    let gates : map gate_tree c.literals_of_words-2.new.gates.made.keys ≡ map gate_tree c.from_vec-3.result =
    sym (ap (λ (gs : List Gate). map gate_tree gs)
    (c.from_vec-3.ensures ∙ c.in_ok-to_vec.ensures.items_if_clones_equal (λ x y e. e) ∙ c.as_slice.ensures.keys)) in
    whole space m (is_controller c.args.controller.now) c.requires.fits c.len-inputs.result c.update_count.result
    c.digits_for-digits.result
    places (inputs_are at) c.update_count.ensures c.digits_for-digits.ensures.digits
    (places_are at) c.deref.result.now c.deref-2.result.now
    (ap length c.deref.ensures.value ∙ c.in_ok-letters.ensures.count)
    (λ i e below there. ap (λ ls. slice_get ls i) c.deref.ensures.value ∙ c.in_ok-letters.ensures.letters i e below there)
    (ap length c.deref-2.ensures.value ∙ c.in_ok-next.ensures.count)
    (λ i e below there. ap (λ ls. slice_get ls i) c.deref-2.ensures.value ∙ c.in_ok-next.ensures.next i e below there)
    start mid last before c.from_vec-2.result c.from_vec.result outputs_made latches_made (map gate_tree c.from_vec-3.result) gates
    c.literals_of_words-2.new.gates.are_gates few few_outputs

pub returns : goal.returns
returns c = (made (goal.at.returns c).After-from_vec-3).0

pub invariant_of-result : goal.invariant_of-result
invariant_of-result c = record { is_circuit = (made c).1 }
