use Rattle.std.proofs.Common.{sym, ◌∙◌}
use Rattle.base_library.proofs.Results.{handed_on}
use Rattle.program_listing.specs.internal.LineReading.{left_place, repeat}
use Rattle.program_listing.proofs.BracketLevels.{misread_on}
use Rattle.program_listing.proofs.Repeats.{loop_more, loop_end, loop_wrong}
use Rattle.program_listing.proofs.repeated.repeated.Goals as goal

pub returns-in_err-part-clause-wrong : goal.returns-in_err-part-clause-wrong
returns-in_err-part-clause-wrong g c =
    handed_on _ _ _ c.from_residual.ensures.1
    (misread_on (g.T.Part.reader (left_place c.loop-alloc.rest)) (repeat g.T.Part.stands g.T.Part.reader (left_place c.args.left)) _
    (λ none. loop_wrong g.T.Part.tree g.T.Part.stands g.T.Part.reader _ c.loop-alloc.found.items (left_place c.loop-alloc.rest)
    (sym c.stands.ensures ∙ c.loop-alloc-test.true) none c.loop-alloc.invariant)
    c.in_err-part.ensures.wrong)

pub loop-alloc-preserved : goal.loop-alloc-preserved
loop-alloc-preserved g c =
    loop_more g.T.Part.tree g.T.Part.stands g.T.Part.reader _ c.requires c.loop-alloc.found.items c.push.new.self.items c.in_ok-part.part
    (left_place c.loop-alloc.rest) (left_place c.in_ok-part.later) c.in_ok-push.ensures.items
    (sym c.stands.ensures ∙ c.loop-alloc-test.true) c.in_ok-part.ensures.ok c.loop-alloc.invariant

pub returns-clause-ok : goal.returns-clause-ok
returns-clause-ok g c =
    loop_end g.T.Part.tree g.T.Part.stands g.T.Part.reader _ c.loop-alloc.found.items (left_place c.loop-alloc.rest)
    (sym c.stands.ensures ∙ c.loop-alloc-test.false) c.loop-alloc.invariant
