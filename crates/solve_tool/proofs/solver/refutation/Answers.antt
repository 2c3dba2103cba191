use Rattle.std.proofs.Common.{◌<◌, ◌++◌, ◌∙◌, ap, length, arith}
use Rattle.refutation_text.specs.Written.{refutation_text}
use Rattle.solve_tool.proofs.Solutions.{refuting_spelled}
use Rattle.solve_tool.proofs.solver.refutation.Goals as goal

pub returns : goal.returns
returns c =
    let cnf = c.args.cnf.now in
    let steps = c.args.log.now.steps in
    let short : length steps < 200000000000000000 = omega (arith, c.step_count.ensures.value, c.step_count.ensures.few) in
    refuting_spelled cnf.variables cnf.clauses steps c.put_refutation.new.out.items c.requires.few_variables c.requires.few_clauses short
    c.requires.refuting c.in_ok-put_refutation.ensures.clauses c.in_ok-put_refutation.ensures.steps
    (c.in_ok-put_refutation.ensures.text ∙ ap (λ ws. ws ++ refutation_text cnf.variables cnf.clauses steps) c.in_ok-text.ensures.items)
