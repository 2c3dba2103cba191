use Rattle.std.proofs.Common.{◌≡◌, Some, sym, ap}
use Rattle.std.proofs.lemmas.Result.{IfOk-weaker}
use Rattle.base_library.proofs.Options.{there_mapped}
use Rattle.interp_core.proofs.Besides.{beside-map}
use Rattle.interp_core.proofs.evaluation.copy_of.Goals as goal

pub unwrap-requires : goal.unwrap-requires
unwrap-requires g c =
    let e = beside-map g.A.Algebra.seen c.args.signal c.args.leaves.now.signals c.args.leaves.now.values in
    let had = rw (e, ← c.value_of.ensures) at c.requires.had in
    there_mapped _ _ (there_mapped _ _ had)

pub returns : goal.returns
returns g c =
    let e = beside-map g.A.Algebra.seen c.args.signal c.args.leaves.now.signals c.args.leaves.now.values in
    let found = rw c.unwrap.ensures at c.value_of.ensures in
    rw (e, ← found) (IfOk-weaker c.copy.result (λ v. g.A.Algebra.seen v ≡ g.A.Algebra.seen c.unwrap.result.now)
    (λ v. Some (g.A.Algebra.seen c.unwrap.result.now) ≡ Some (g.A.Algebra.seen v)) (λ v same. ap Some (sym same)) c.copy.ensures)
