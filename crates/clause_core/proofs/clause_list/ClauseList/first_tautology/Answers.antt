use Rattle.std.proofs.Common.{sym, ◌∙◌}
use Rattle.clause_core.specs.Clauses.{has_pair}
use Rattle.clause_core.proofs.FirstFound.{found_here, found_later}
use Rattle.clause_core.proofs.clause_list.ClauseList.first_tautology.Goals as goal

pub returns-then-have_pair : goal.returns-then-have_pair
returns-then-have_pair c = sym (found_here has_pair c.args.self.now c.loop-place.place c.get.result.now c.get.ensures.value
    c.loop-place.invariant (sym c.have_pair.ensures ∙ c.if-have_pair.true))

pub loop-place-preserved : goal.loop-place-preserved
loop-place-preserved c = found_later has_pair c.args.self.now c.loop-place.place c.get.result.now c.get.ensures.value
    c.loop-place.invariant (sym c.have_pair.ensures ∙ c.if-have_pair.false)
