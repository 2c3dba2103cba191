use Rattle.std.proofs.Common.{◌≡◌, ℕ, ◌+◌, ◌*◌, length, map}
use Rattle.reader_combinators.specs.Readers.{iterate, push, members}
use Rattle.tsl_terms.specs.declared.operator.ManyOperator.{ManyOperator}
use Rattle.tsl_terms.specs.declared.operator.ManyOperator.TheVariants.{Conjunction, Disjunction}
use Rattle.spec_syntax.specs.Reading.{lower, further, operand_with}
use Rattle.spec_syntax.specs.SyntaxView.{terminals_view, formula_syntax}
use Rattle.spec_syntax.proofs.formulas.+read.Given as goal

-- each function calls those after it in this list at its number of levels, and those before it at a smaller one

abbrev pub decreases-form_with : goal.decreases-form_with
decreases-form_with l = l.levels_left * 16 + 14

abbrev pub decreases-formula_after : goal.decreases-formula_after
decreases-formula_after l = l.levels_left * 16 + 13

abbrev pub decreases-right_after : goal.decreases-right_after
decreases-right_after l = l.levels_left * 16 + 12

abbrev pub decreases-arrow_after : goal.decreases-arrow_after
decreases-arrow_after l = l.levels_left * 16 + 11

-- those of `||` call those of `&&`
abbrev above_and : ManyOperator → ℕ
above_and Conjunction = 0
above_and Disjunction = 3

abbrev pub decreases-chain_after : goal.decreases-chain_after
decreases-chain_after l = l.levels_left * 16 + 7 + above_and l.op

abbrev pub decreases-operands : goal.decreases-operands
decreases-operands l = l.levels_left * 16 + 6 + above_and l.op

abbrev pub decreases-operand_with : goal.decreases-operand_with
decreases-operand_with l = l.levels_left * 16 + 5 + above_and l.op

abbrev pub decreases-prefix_with : goal.decreases-prefix_with
decreases-prefix_with l = l.levels_left * 16 + 4

abbrev pub decreases-atom_with : goal.decreases-atom_with
decreases-atom_with l = l.levels_left * 16 + 3

abbrev pub decreases-bracketed_formula : goal.decreases-bracketed_formula
decreases-bracketed_formula l = l.levels_left * 16 + 2

abbrev pub decreases-form_below : goal.decreases-form_below
decreases-form_below l = l.levels_left * 16 + 1

-- the operands so far, and then those of the terminals that are left
abbrev pub invariant-operands-loop-rest : goal.invariant-operands-loop-rest
invariant-operands-loop-rest l =
    iterate (push (further l.op (operand_with l.op (lower l.levels_left)))) (map formula_syntax l.operands.items)
    (terminals_view l.left.terminals.now)
    ≡ members (further l.op (operand_with l.op (lower l.levels_left))) (terminals_view l.fn.xs)

abbrev pub decreases-operands-loop-rest : goal.decreases-operands-loop-rest
decreases-operands-loop-rest l = length l.left.terminals.now
