use Rattle.std.proofs.Common.{◌∙◌, ◌+◌, ◌-◌, ◌<◌, [], ◌∷◌, Bool, false, map, take, ap, sym, subst, slice_set, arith}
use Rattle.std.specs.Option.{option_map_or}
use Rattle.std.proofs.lemmas.List.{length-set, take_more_set}
use Rattle.tsl_meaning.proofs.BySignal.{one_of, one_tested}
use Rattle.tsl_meaning.proofs.atom_truths.column_truths.Goals as goal

pub loop-i-preserved : goal.loop-i-preserved
loop-i-preserved g c =
    let within = subst (λ n. c.loop-i.i < n) (sym c.loop-i.invariant.many) c.loop-i-test.true in
    record {
      many = length-set c.loop-i.truths.items c.loop-i.i c.test.result ∙ c.loop-i.invariant.many;
      so_far = one_tested
          (λ v. option_map_or (λ (b : Bool). b) ((g.J.Algebra.meanings c.args.judge.now).predicate c.args.predicate (g.J.Algebra.seen v ∷ []))
          false)
          c.args.column.now c.loop-i.i (take c.loop-i.i c.loop-i.truths.items)
          (take (c.loop-i.i + 1) (slice_set c.loop-i.truths.items c.loop-i.i c.test.result)) c.test.result c.loop-i-test.true
          c.loop-i.invariant.so_far
          (λ v is. sym (ap (λ o. option_map_or (λ (b : Bool). b) o false)
          (sym (ap (λ vs. (g.J.Algebra.meanings c.args.judge.now).predicate c.args.predicate (map g.J.Algebra.seen vs))
          (one_of c.args.column.now c.loop-i.i (c.loop-i.i + 1 - c.loop-i.i) v (omega arith) is)) ∙ c.test.ensures.value)))
          (take_more_set c.loop-i.truths.items c.loop-i.i c.test.result within);
    }
