use Rattle.std.proofs.Common.{◌≡◌, Some, sym, ap}
use Rattle.std.proofs.lemmas.Result.{IfOk-weaker}
use Rattle.base_library.proofs.Options.{there_mapped}
use Rattle.interp_core.proofs.Rows.{row_seen}
use Rattle.interp_core.proofs.images.+images.Goals as goal

pub image-unwrap-requires : goal.image-unwrap-requires
image-unwrap-requires g t c =
    let e = row_seen g.A.Algebra.seen c.args.rows.now c.in-Leaf.signal c.in-Leaf.step in
    let had = rw (c.in-Leaf.is, e, ← c.value_in.ensures) at c.requires.had in
    there_mapped _ _ (there_mapped _ _ had)

pub image-returns-in-Leaf : goal.image-returns-in-Leaf
image-returns-in-Leaf g t c =
    let e = row_seen g.A.Algebra.seen c.args.rows.now c.in-Leaf.signal c.in-Leaf.step in
    let found = rw c.unwrap.ensures at c.value_in.ensures in
    rw (c.in-Leaf.is, e, ← found) (IfOk-weaker c.copy.result (λ v. g.A.Algebra.seen v ≡ g.A.Algebra.seen c.unwrap.result.now)
    (λ v. Some (g.A.Algebra.seen c.unwrap.result.now) ≡ Some (g.A.Algebra.seen v)) (λ v same. ap Some (sym same)) c.copy.ensures)
