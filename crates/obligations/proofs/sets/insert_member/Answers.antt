use Rattle.std.proofs.Common.{◌∙◌, arith, sym, true≢false}
use Rattle.obligations.proofs.SetLemmas.{when_there, when_absent, lower-le}
use Rattle.obligations.proofs.sets.insert_member.Goals as goal

pub returns-then-is_at : goal.returns-then-is_at
returns-then-is_at c =
    when_there c.args.member _ _ _ _ c.deref.ensures.value c.place_of-place.ensures c.deref-2.ensures.value
    (c.is_at.ensures.0 c.if-is_at.true)

pub insert-requires : goal.insert-requires
insert-requires c =
    let low = lower-le c.args.member c.deref.result.now in omega (arith, low, c.place_of-place.ensures, c.deref.ensures.len)

pub returns : goal.returns
returns c =
    c.in_ok-insert.ensures.items
    ∙ when_absent c.args.member _ _ _ _ c.deref.ensures.value c.place_of-place.ensures c.deref-2.ensures.value
    (λ h. true≢false (sym (c.is_at.ensures.1 h) ∙ c.if-is_at.false))
