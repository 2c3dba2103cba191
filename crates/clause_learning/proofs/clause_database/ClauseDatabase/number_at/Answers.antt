use Rattle.std.proofs.Common.{◌≡◌, ◌-◌, length, Some, slice_get, sym, refl, arith}
use Rattle.std.proofs.lemmas.Option.{slice_get_read}
use Rattle.clause_learning.proofs.DatabaseNumbers.{numbers_long, number_of_formula, number_of_learnt}
use Rattle.clause_learning.proofs.clause_database.ClauseDatabase.number_at.Goals as goal

pub index-requires : goal.index-requires
index-requires c =
    let self = c.args.self.now in
    omega (arith, c.requires, numbers_long self, c.if-place-self.false, self.learnt.ok.0)

pub returns-then-place-self : goal.returns-then-place-self
returns-then-place-self c = sym (number_of_formula c.args.self.now c.args.place c.if-place-self.true)

pub returns-else-place-self : goal.returns-else-place-self
returns-else-place-self c =
    let self = c.args.self.now in
    let one = c.index.result.now in
    let at : slice_get self.learnt.items (c.args.place - self.formula) ≡ Some one = slice_get_read self.learnt.items
    (length self.learnt.items) (c.args.place - self.formula) one refl (omega (arith, c.requires, numbers_long self, c.if-place-self.false))
    c.index.ensures in
    sym (number_of_learnt self c.args.place one (omega (arith, c.if-place-self.false)) at)
