use Rattle.std.proofs.Common.{sym, ◌∙◌, arith}
use Rattle.std.proofs.lemmas.Bool.{not-true}
use Rattle.clause_core.specs.Literals.{same}
use Rattle.sat_trail.proofs.Moved.{no_more}
use Rattle.sat_trail.proofs.watches.has_no_more.Goals as goal

pub returns : goal.returns
returns c = λ differs is.
    let pair = c.args.pair.now in
    no_more c.args.literals.now pair (omega (arith, c.if-literals-ne3.false)) (sym c.eq.ensures ∙ c.if-eq.false)
    (not-true (same pair.spare pair.second) (sym c.ne.ensures ∙ differs)) is
