use Rattle.std.proofs.Common.{◌∙◌, sym, ap}
use Rattle.obligations.specs.Numbers.{choice_keys}
use Rattle.obligations.specs.internal.Antichains.{is_antichain}
use Rattle.obligations.proofs.Antichains.{told_reduced}
use Rattle.obligations.proofs.reducing.reduced.Goals as goal

pub returns-then-is_antichain : goal.returns-then-is_antichain
returns-then-is_antichain c =
    told_reduced (choice_keys c.args.choices.items)
    (ap (λ l. is_antichain (choice_keys l)) (sym c.as_slice.ensures.value) ∙ sym c.is_antichain.ensures ∙ c.if-is_antichain.true)
