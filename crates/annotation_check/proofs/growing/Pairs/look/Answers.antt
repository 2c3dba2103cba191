use Rattle.std.proofs.Common.{◌∙◌, length, None, refl, sym, subst}
use Rattle.std.proofs.lemmas.Option.{slice_get_read, get_or_from_slice_get}
use Rattle.annotation_check.specs.internal.PairsView.{pairs_tree}
use Rattle.annotation_check.specs.internal.Growth.{pair_place, HasSteps}
use Rattle.annotation_check.proofs.Raising.{place_within}
use Rattle.annotation_check.proofs.StepsKept.{kept_more}
use Rattle.annotation_check.proofs.growing.Pairs.look.Goals as goal

pub follow-requires-clause-are_steps : goal.follow-requires-clause-are_steps
follow-requires-clause-are_steps c =
    let p = pairs_tree c.args.self.now in
    let r = c.args.rise in
    let kept = c.args.kept.now.of_pairs.items in
    let place = pair_place p.automaton_states r in
    subst (HasSteps p r.machine_state r.automaton_state) (sym c.deref.ensures.value)
    (c.requires.kept.steps r.machine_state r.automaton_state c.requires.of_pair.automaton_state c.in-Some.steps
    (get_or_from_slice_get kept place c.index.result.now None
    (slice_get_read kept (length kept) place c.index.result.now refl (place_within p kept r c.requires.kept.size c.requires.of_pair) c.index.ensures)
    ∙ c.in-Some.is))

pub follow-requires-2-clause-are_steps : goal.follow-requires-2-clause-are_steps
follow-requires-2-clause-are_steps c =
    let p = pairs_tree c.args.self.now in
    let r = c.args.rise in
    subst (HasSteps p r.machine_state r.automaton_state) (sym c.deref-2.ensures.value) c.in_ok-steps.ensures

pub returns-clause-kept : goal.returns-clause-kept
returns-clause-kept c =
    let p = pairs_tree c.args.self.now in
    kept_more p c.args.kept.now.of_pairs.items c.requires.kept c.args.rise c.requires.of_pair
    (place_within p c.args.kept.now.of_pairs.items c.args.rise c.requires.kept.size c.requires.of_pair) c.in_ok-steps.steps c.keep.new.self.of_pairs.items
    c.in_ok-steps.ensures c.keep.ensures
