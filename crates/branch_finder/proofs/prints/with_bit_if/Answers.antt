use Rattle.std.proofs.Common.{◌∙◌, ◌||◌, ◌&&◌, ◌==◌, bit_or, sym, ap}
use Rattle.std.proofs.Math.Bool.{or-false}
use Rattle.ltl_formula.specs.Cubes.{has_bit}
use Rattle.branch_finder.proofs.PrintLemmas.{half_bit, with_bit_has}
use Rattle.branch_finder.proofs.prints.with_bit_if.Goals as goal

pub returns-then-belongs : goal.returns-then-belongs
returns-then-belongs c b =
    ap (λ n. has_bit b (bit_or c.args.bits n)) (half_bit c.args.bit c.requires.within) ∙ with_bit_has c.args.bits c.args.bit b
    ∙ ap (λ is. has_bit b c.args.bits || (is && (b == c.args.bit))) (sym c.if-belongs.true)

pub returns : goal.returns
returns c b =
    sym (or-false (has_bit b c.args.bits)) ∙ ap (λ is. has_bit b c.args.bits || (is && (b == c.args.bit))) (sym c.if-belongs.false)
