use Rattle.std.proofs.Common.{sym, ◌∙◌}
use Rattle.std.proofs.lemmas.Result.{IfOk-weaker, IfErr-weaker}
use Rattle.base_library.proofs.Results.{handed_on}
use Rattle.program_listing.specs.ListingTree.{surface_tree}
use Rattle.program_listing.specs.internal.LineReading.{left_place, argument_follows, spaced_argument, arguments, surface_in_brackets}
use Rattle.program_listing.proofs.BracketLevels.{one_level, misread_on}
use Rattle.program_listing.proofs.SurfaceTermsRead.{arguments_shrink}
use Rattle.program_listing.proofs.Repeats.{loop_more, loop_end, loop_wrong}
use Rattle.program_listing.proofs.surfaces.+surface.Goals as goal

pub surface_in_brackets-returns-in-Some-clause-ok : goal.surface_in_brackets-returns-in-Some-clause-ok
surface_in_brackets-returns-in-Some-clause-ok t c =
    let more = one_level c.args.levels_left c.in-Some.below (left_place c.args.left) c.in-Some.ensures.some in
    IfOk-weaker c.bracketed.result _ _ (λ read e. more ∙ e) c.bracketed.ensures.ok

pub surface_in_brackets-returns-in-Some-clause-wrong : goal.surface_in_brackets-returns-in-Some-clause-wrong
surface_in_brackets-returns-in-Some-clause-wrong t c =
    let more = one_level c.args.levels_left c.in-Some.below (left_place c.args.left) c.in-Some.ensures.some in
    IfErr-weaker c.bracketed.result _ _ (λ fault h. misread_on _ _ fault (λ none. more ∙ none) h) c.bracketed.ensures.wrong

pub arguments-returns-in_err-argument-clause-wrong : goal.arguments-returns-in_err-argument-clause-wrong
arguments-returns-in_err-argument-clause-wrong t c =
    handed_on _ _ _ c.from_residual.ensures.1
    (misread_on (spaced_argument (surface_in_brackets c.args.levels_left) (left_place c.loop-alloc.rest))
    (arguments (surface_in_brackets c.args.levels_left) (left_place c.args.left)) _
    (λ none. loop_wrong surface_tree argument_follows (spaced_argument (surface_in_brackets c.args.levels_left)) _ c.loop-alloc.found.items
    (left_place c.loop-alloc.rest)
    (sym c.argument_follows.ensures ∙ c.loop-alloc-test.true) none c.loop-alloc.invariant)
    c.in_err-argument.ensures.wrong)

pub arguments-loop-alloc-smaller : goal.arguments-loop-alloc-smaller
arguments-loop-alloc-smaller t c =
    arguments_shrink c.args.levels_left (left_place c.loop-alloc.rest) (surface_tree c.in_ok-argument.argument)
    (left_place c.in_ok-argument.later) c.in_ok-argument.ensures.ok

pub arguments-loop-alloc-preserved : goal.arguments-loop-alloc-preserved
arguments-loop-alloc-preserved t c =
    loop_more surface_tree argument_follows (spaced_argument (surface_in_brackets c.args.levels_left)) _
    (arguments_shrink c.args.levels_left) c.loop-alloc.found.items c.push.new.self.items c.in_ok-argument.argument
    (left_place c.loop-alloc.rest) (left_place c.in_ok-argument.later) c.in_ok-push.ensures.items
    (sym c.argument_follows.ensures ∙ c.loop-alloc-test.true) c.in_ok-argument.ensures.ok c.loop-alloc.invariant

pub arguments-returns-clause-ok : goal.arguments-returns-clause-ok
arguments-returns-clause-ok t c =
    loop_end surface_tree argument_follows (spaced_argument (surface_in_brackets c.args.levels_left)) _ c.loop-alloc.found.items
    (left_place c.loop-alloc.rest) (sym c.argument_follows.ensures ∙ c.loop-alloc-test.false) c.loop-alloc.invariant
