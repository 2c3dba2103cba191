use Rattle.std.proofs.Common.{◌≡◌, ◌<ℤ◌, ◌+◌, ◌∙◌, ◌∷◌, ◌++◌, [], take, ap, sym, subst}
use Rattle.std.proofs.lemmas.List.{append_assoc, take_more}
use Rattle.base_library.proofs.Lists.{left_at}
use Rattle.clause_core.specs.Literals.{signed_number_of}
use Rattle.clause_core.specs.Clauses.{IsIncreasing}
use Rattle.clause_core.proofs.Sets.{rises_front, below_tested}
use Rattle.clause_core.proofs.clause_list.put_rising_after.Goals as goal

pub loop-literal-preserved : goal.loop-literal-preserved
loop-literal-preserved c =
    let before = c.loop-literal.invariant in
    let last = c.loop-literal.last in
    let next = c.literal-item.result in
    let xs = c.args.literals.now in
    let i = c.loop-literal.literal-index in
    let below : signed_number_of last <ℤ signed_number_of next = below_tested last next (sym c.lt.ensures ∙ c.if-not-lt.false) in
    let more : take (i + 1) xs ≡ take i xs ++ next ∷ [] =
    take_more xs i next c.loop-literal-test.true ∙ ap (λ x. take i xs ++ x ∷ []) (sym c.literal-item.is) in
    record {
      written = c.in_ok-push.ensures.items ∙ ap (λ ls. ls ++ next ∷ []) before.written
          ∙ append_assoc c.args.out.now.items (take i xs) (next ∷ []) ∙ ap (λ ls. c.args.out.now.items ++ ls) (sym more);
      rising = λ up. before.rising (subst (λ ls. IsIncreasing (last ∷ ls)) (sym (left_at xs i next c.loop-literal-test.true c.literal-item.is))
          (rises_front last next _ below up));
    }
