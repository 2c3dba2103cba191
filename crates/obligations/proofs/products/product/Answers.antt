use Rattle.std.proofs.Common.{◌∙◌, sym, arith}
use Rattle.obligations.specs.Numbers.{choice_keys}
use Rattle.obligations.proofs.ApartJoins.{apart_product}
use Rattle.obligations.proofs.KeepLemmas.{length-keys}
use Rattle.obligations.proofs.products.product.Goals as goal

pub returns-then-have_nothing_in_common-clause-choices : goal.returns-then-have_nothing_in_common-clause-choices
returns-then-have_nothing_in_common-clause-choices c =
    apart_product (choice_keys c.args.left.now) (choice_keys c.args.right.now) (choice_keys c.in_ok-list.list.items) c.requires.left
    c.requires.right (sym c.have_nothing_in_common.ensures ∙ c.if-have_nothing_in_common.true) c.in_ok-list.ensures.choices
    (omega (arith, length-keys c.in_ok-list.list.items, c.in_ok-list.ensures.few))
