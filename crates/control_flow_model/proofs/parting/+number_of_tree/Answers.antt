use Rattle.std.proofs.Common.{◌≡◌, ◌∙◌, suc, ◌+◌, ◌-◌, ◌*◌, ◌%◌, ◌^◌, ◌<◌, ap, arith}
use Rattle.std.proofs.Math.Nat.{mod-eq_of_lt}
use Rattle.std.proofs.Math.Pow.{pow-lt}
use Rattle.machines.specs.MachineView.{controller_tree}
use Rattle.control_flow_model.specs.internal.Parts.{part_keys}
use Rattle.control_flow_model.proofs.OkAnswers.{ok_from, ok_has, value_has}
use Rattle.control_flow_model.proofs.PartLemmas.{decided_fork}
use Rattle.control_flow_model.proofs.parting.+number_of_tree.Goals as goal

pub returns : goal.returns
returns t c =
    let counts : c.args.count ≡ suc (c.args.count - 1) = omega (arith, c.if-count-eq0.false) in
    let next : c.args.bit + 1 ≡ suc c.args.bit = omega arith in
    let few : c.args.bit < 32 = omega (arith, c.requires.few) in
    let more : c.args.valuation + 1 * 2 ^ c.args.bit % 4294967296 ≡ c.args.valuation + 2 ^ c.args.bit =
    ap (λ n. c.args.valuation + n) (mod-eq_of_lt (omega (arith, pow-lt few)) ∙ omega arith) in
    ok_from c.number_of_fork.result _ (λ n is.
    decided_fork (controller_tree c.args.controller.now) c.args.state c.args.count (c.args.count - 1) c.args.bit (c.args.bit + 1)
    c.args.valuation (c.args.valuation + 1 * 2 ^ c.args.bit % 4294967296) (part_keys c.args.parts.now.keys)
    (part_keys c.number_of_tree.new.parts.keys)
    (part_keys c.number_of_tree-2.new.parts.keys) (part_keys c.number_of_fork.new.parts.keys) c.in_ok-then_part.then_part
    c.in_ok-else_part.else_part n counts next more c.in_ok-then_part.ensures c.in_ok-else_part.ensures
    (λ same. value_has c.number_of_fork.result _ n is (c.number_of_fork.ensures.same same))
    (λ differ. ok_has c.number_of_fork.result _ n is (c.number_of_fork.ensures.kept differ))
    (λ differ. value_has c.number_of_fork.result _ n is (c.number_of_fork.ensures.there differ)))
