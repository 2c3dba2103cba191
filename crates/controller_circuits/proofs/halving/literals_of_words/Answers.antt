use Rattle.std.proofs.Common.{◌+◌, ◌-◌, ℕ, List, sym, subst, arith}
use Rattle.circuits.specs.Circuits.{AreLiterals}
use Rattle.controller_circuits.specs.internal.Gates.{gates_tree, variables_so_far}
use Rattle.controller_circuits.proofs.TableLemmas.{bits_are_literals, words_so_far}
use Rattle.controller_circuits.proofs.halving.literals_of_words.Goals as goal

pub literal_of_table-requires-clause-literals : goal.literal_of_table-requires-clause-literals
literal_of_table-requires-clause-literals c =
    subst (λ (ls : List ℕ). AreLiterals (variables_so_far (gates_tree c.loop-bit.gates)) ls) (sym c.in_ok-table.ensures)
    (bits_are_literals (variables_so_far (gates_tree c.loop-bit.gates)) c.args.words.now c.loop-bit.bit)

pub loop-bit-preserved : goal.loop-bit-preserved
loop-bit-preserved c =
    words_so_far (gates_tree c.args.gates.now) (gates_tree c.loop-bit.gates) (gates_tree c.literal_of_table.new.gates) c.args.words.now
    c.args.first (c.loop-bit.bit - c.args.first) c.loop-bit.bit (c.loop-bit.bit + 1 - c.args.first) c.loop-bit.literals.items
    c.in_ok-table.table.items c.push.new.self.items c.in_ok-literal_of_table.field-0 (omega arith) (omega arith) c.in_ok-table.ensures
    c.in_ok-push.ensures.items c.requires.places c.loop-bit.invariant c.in_ok-literal_of_table.ensures.tested
