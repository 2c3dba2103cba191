use Rattle.std.proofs.Common.{◌∙◌, slice_get, get_or, length, sym, ap, arith, refl}
use Rattle.std.proofs.lemmas.Bool.{false≢true}
use Rattle.std.proofs.lemmas.Option.{slice_get-get_or}
use Rattle.machines.specs.MachineView.{environment_tree}
use Rattle.branch_finder.proofs.LoopFacts.{false_is_not_true}
use Rattle.branch_finder.proofs.MoveLemmas.{not_kept_more}
use Rattle.branch_finder.proofs.moving.is_some_with.Goals as goal

pub returns-then-belongs : goal.returns-then-belongs
returns-then-belongs c =
    let truths = c.as_slice-truths-items.result.now in
    let state = c.loop-state.state in
    let is = c.belongs.ensures.0 c.if-belongs.true in (
      λ _. (
        state,
        record {
          below = omega (
            arith,
            c.loop-state-test.true,
            ap length c.as_slice-truths-items.ensures,
            c.args.environment.now.has_truths,
          );
          set = is.0;
          truth = record {
            truths = get_or truths state 0;
            at = ap (λ ts. slice_get ts state) (sym c.as_slice-truths-items.ensures)
                ∙ slice_get-get_or truths state 0 c.loop-state-test.true;
            is = is.1;
          };
        },
      ),
      λ _. refl,
    )

pub loop-state-preserved : goal.loop-state-preserved
loop-state-preserved c =
    let truths = c.as_slice-truths-items.result.now in
    let state = c.loop-state.state in
    not_kept_more (environment_tree c.args.environment.now) c.args.plane.now c.args.wanted.mask c.args.wanted.bits state
    (get_or truths state 0)
    c.belongs.result
    (ap (λ ts. slice_get ts state) (sym c.as_slice-truths-items.ensures) ∙ slice_get-get_or truths state 0 c.loop-state-test.true)
    c.belongs.ensures (false_is_not_true c.belongs.result c.if-belongs.false) c.loop-state.invariant

pub returns : goal.returns
returns c = (
  λ never. absurd (false≢true never),
  λ some. absurd (c.loop-state.invariant some.0 (record {
    below = omega (
      arith,
      some.1.below,
      c.loop-state-test.false,
      ap length c.as_slice-truths-items.ensures,
      c.args.environment.now.has_truths,
    );
    set = some.1.set;
    truth = some.1.truth;
  })),
)
