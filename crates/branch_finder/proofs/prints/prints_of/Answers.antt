use Rattle.std.proofs.Common.{◌∙◌, length, slice_get, get_or, sym, ap, arith}
use Rattle.std.proofs.lemmas.Option.{slice_get-get_or}
use Rattle.machines.specs.MachineView.{environment_tree}
use Rattle.branch_finder.proofs.PrintLemmas.{one_print_more, all_prints}
use Rattle.branch_finder.proofs.prints.prints_of.Goals as goal

pub loop-truths-preserved : goal.loop-truths-preserved
loop-truths-preserved c =
    let truths = c.as_slice-truths-items.result.now in
    let index = c.loop-truths.truths-index in
    one_print_more (environment_tree c.args.environment.now) c.args.mask index (get_or truths index 0) c.loop-truths.prints.items
    c.add_once.new.found.items
    (ap (λ ts. slice_get ts index) (sym c.as_slice-truths-items.ensures) ∙ slice_get-get_or truths index 0 c.loop-truths-test.true)
    c.in_ok-add_once.ensures c.loop-truths.invariant

pub returns : goal.returns
returns c =
    all_prints (environment_tree c.args.environment.now) c.args.mask c.loop-truths.truths-index c.loop-truths.prints.items
    (omega (arith, ap length c.as_slice-truths-items.ensures, c.loop-truths-test.false)) c.loop-truths.invariant
