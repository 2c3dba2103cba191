use Rattle.std.proofs.Common.{◌≡◌, ◌∙◌, bit_and, sym, subst}
use Rattle.std.specs.Prelude.{◌↔◌}
use Rattle.ltl_formula.specs.Cubes.{has_bit}
use Rattle.branch_finder.proofs.PrintLemmas.{half_bit, bit_is_set, bit_is_clear}
use Rattle.branch_finder.proofs.prints.bit_wanted.Goals as goal

pub returns-then-wanted : goal.returns-then-wanted
returns-then-wanted c truths =
    let tells = subst (λ mask. (bit_and truths mask ≡ mask) ↔ (has_bit c.args.bit truths ≡ c.args.wanted))
    (sym (half_bit c.args.bit c.requires.within)) in
    let one = bit_is_set c.args.bit truths in
    tells (λ same. one.0 same ∙ sym c.if-wanted.true, λ has. one.1 (has ∙ c.if-wanted.true))

pub returns : goal.returns
returns c truths =
    let tells = subst (λ mask. (bit_and truths mask ≡ 0) ↔ (has_bit c.args.bit truths ≡ c.args.wanted))
    (sym (half_bit c.args.bit c.requires.within)) in
    let none = bit_is_clear c.args.bit truths in
    tells (λ same. none.0 same ∙ sym c.if-wanted.false, λ has. none.1 (has ∙ c.if-wanted.false))
