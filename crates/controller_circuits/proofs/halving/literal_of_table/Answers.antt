use Rattle.std.proofs.Common.{◌≡◌, ◌∙◌, ◌+◌, ◌*◌, ◌<◌, ◌/◌, ◌∷◌, [], ℕ, List, length, sym, ap, subst, arith}
use Rattle.std.proofs.lemmas.List.{get_or_default}
use Rattle.circuits.specs.Circuits.{AreLiterals}
use Rattle.controller_circuits.specs.internal.Gates.{gates_tree, variables_so_far}
use Rattle.controller_circuits.specs.internal.Tables.{AreTested, AreChosen}
use Rattle.controller_circuits.proofs.TableLemmas.{none_tested, one_more_tested, all_tested, one_literal}
use Rattle.controller_circuits.proofs.halving.literal_of_table.Goals as goal

pub loop-level-init : goal.loop-level-init
loop-level-init c = none_tested (gates_tree c.args.gates.now) c.args.table.items c.requires.count c.requires.literals

pub halved-requires-clause-test : goal.halved-requires-clause-test
halved-requires-clause-test c =
    let before : c.loop-level.gates.before ≡ c.args.gates.now.before = c.loop-level.invariant.becomes.before in
    omega arith

pub halved-requires-clause-literals : goal.halved-requires-clause-literals
halved-requires-clause-literals c =
    subst (λ (ls : List ℕ). AreLiterals (variables_so_far (gates_tree c.loop-level.gates)) ls) (sym c.deref.ensures.value)
    c.loop-level.invariant.are_literals

pub halved-requires-clause-few : goal.halved-requires-clause-few
halved-requires-clause-few c =
    let before : c.loop-level.gates.before ≡ c.args.gates.now.before = c.loop-level.invariant.becomes.before in
    let size : length c.deref.result.now ≡ length c.loop-level.literals.items = ap length c.deref.ensures.value in
    omega (arith, c.requires.few, c.loop-level.invariant.few)

pub loop-level-preserved : goal.loop-level-preserved
loop-level-preserved c =
    one_more_tested (gates_tree c.args.gates.now) (gates_tree c.loop-level.gates) (gates_tree c.halved.new.gates) c.args.table.items
    c.loop-level.literals.items c.in_ok-literals.literals.items c.loop-level.level c.loop-level-test.true c.loop-level.invariant
    (subst (λ (ls : List ℕ). AreChosen (gates_tree c.loop-level.gates) (gates_tree c.halved.new.gates)
    (2 * (c.loop-level.level + 1)) ls c.in_ok-literals.literals.items)
    c.deref.ensures.value c.in_ok-literals.ensures.chosen)
    (c.in_ok-literals.ensures.count ∙ ap (λ (ls : List ℕ). length ls / 2) c.deref.ensures.value)

pub index-requires : goal.index-requires
index-requires c =
    let all : c.loop-level.level ≡ c.args.gates.now.before = omega arith in
    let one = ap length (one_literal (gates_tree c.args.gates.now) (gates_tree c.loop-level.gates) c.args.table.items
    c.loop-level.literals.items c.loop-level.level all c.loop-level.invariant) in
    omega (arith, one)

pub returns : goal.returns
returns c =
    let all : c.loop-level.level ≡ c.args.gates.now.before = omega arith in
    let done = all_tested (gates_tree c.args.gates.now) (gates_tree c.loop-level.gates) c.args.table.items
    c.loop-level.literals.items c.loop-level.level all c.loop-level.invariant in
    let there : 0 < length c.loop-level.literals.items =
    (let one = ap length (one_literal (gates_tree c.args.gates.now) (gates_tree c.loop-level.gates) c.args.table.items
    c.loop-level.literals.items c.loop-level.level all c.loop-level.invariant) in omega (arith, one)) in
    let read = c.index.ensures ∙ get_or_default c.loop-level.literals.items 0 c.index.result.now 0 there in
    record {
      tested = subst (λ (l : ℕ). AreTested (gates_tree c.args.gates.now) (gates_tree c.loop-level.gates) c.args.table.items
          c.args.gates.now.before (l ∷ [])) (sym read) done;
    }
