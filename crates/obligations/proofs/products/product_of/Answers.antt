use Rattle.std.proofs.Common.{◌∙◌, sym, ap, arith}
use Rattle.std.specs.List.{list_all}
use Rattle.obligations.specs.Numbers.{choice_keys}
use Rattle.obligations.specs.internal.Rounds.{is_rising}
use Rattle.obligations.proofs.KeepLemmas.{length-keys}
use Rattle.obligations.proofs.UnitProducts.{unit_product}
use Rattle.obligations.proofs.products.product_of.Goals as goal

pub returns-then-are_rising-clause-choices : goal.returns-then-are_rising-clause-choices
returns-then-are_rising-clause-choices c =
    unit_product (choice_keys c.args.left.now) (choice_keys c.args.right.items) (c.is_unit.ensures c.if-is_unit.true)
    (ap (λ l. list_all is_rising (choice_keys l)) (sym c.as_slice.ensures.value) ∙ sym c.are_rising.ensures ∙ c.if-are_rising.true)
    c.requires.right (omega (arith, length-keys c.args.right.items, c.len.ensures, c.if-len-le-MOST_CHOICES.true))
