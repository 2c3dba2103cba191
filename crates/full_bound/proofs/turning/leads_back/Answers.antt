use Rattle.std.proofs.Common.{◌∙◌, length, Some, sym, ap, arith}
use Rattle.std.proofs.lemmas.Bool.{not-false}
use Rattle.std.proofs.lemmas.Option.{slice_get-get_or}
use Rattle.full_bound.specs.internal.Search.{steps_from}
use Rattle.full_bound.proofs.NeverBack.{not_back}
use Rattle.full_bound.proofs.turning.leads_back.Goals as goal

pub found_from-requires-clause-within : goal.found_from-requires-clause-within
found_from-requires-clause-within c = c.requires.stay c.args.node c.args.step c.requires.stands

pub returns-then-not-index-clause-none : goal.returns-then-not-index-clause-none
returns-then-not-index-clause-none c =
    let searched = c.in_ok-back.ensures.searched in
    let at = slice_get-get_or c.in_ok-back.back.flags.items c.args.node c.index.result.now
    (let size = searched.search.size in let w = c.requires.within in omega (arith, size, w)) in
    not_back (steps_from c.args.table.now) (length c.args.table.now) c.in_ok-back.back.flags.items c.in_ok-back.back.arrivals.items
    c.args.node c.args.step searched c.in_ok-back.ensures.first (at ∙ ap Some (sym c.index.ensures ∙ c.if-not-index.true))

pub returns-clause-some : goal.returns-clause-some
returns-clause-some c =
    let searched = c.in_ok-back.ensures.searched in
    let at = slice_get-get_or c.in_ok-back.back.flags.items c.args.node c.index.result.now
    (let size = searched.search.size in let w = c.requires.within in omega (arith, size, w)) in (
      c.requires.stands,
      not-false c.args.step.rejecting c.if-not-step.false,
      searched,
      at ∙ ap Some (sym c.index.ensures ∙ c.if-not-index.false),
      c.in_ok-back.ensures.first,
    )
