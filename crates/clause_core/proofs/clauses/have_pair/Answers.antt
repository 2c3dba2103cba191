use Rattle.std.proofs.Common.{◌≡◌, ◌<ℤ◌, ◌∙◌, sym, subst, arith}
use Rattle.clause_core.specs.Literals.{Lit, signed_number_of, negation}
use Rattle.clause_core.specs.Clauses.{IsIncreasing}
use Rattle.clause_core.proofs.Sets.{pair_before, pair_after, short_has_no_pair, IsIncreasing-front, below_tested, above_tested}
use Rattle.clause_core.proofs.clauses.have_pair.Goals as goal

pub loop-rest-preserved-then-lt : goal.loop-rest-preserved-then-lt
loop-rest-preserved-then-lt c =
    let first = c.in-Some.first.now in
    let last = c.in-Some-split_last.last.now in
    let negative : c.negated-negative.result ≡ negation first = c.negated-negative.ensures in
    let below : signed_number_of (negation first) <ℤ signed_number_of last =
    subst (λ (l : Lit). signed_number_of l <ℤ signed_number_of last) negative
    (below_tested c.negated-negative.result last (sym c.lt.ensures ∙ c.if-lt.true)) in
    record {
      same = sym (pair_before c.loop-rest.rest.now first c.in-Some.after.now c.in-Some-split_last.before.now last c.in-Some.ensures.cases.0
          c.in-Some-split_last.ensures.cases.0 c.loop-rest.invariant.rises below) ∙ c.loop-rest.invariant.same;
      rises = (IsIncreasing-front c.in-Some-split_last.before.now last
          (subst IsIncreasing c.in-Some-split_last.ensures.cases.0 c.loop-rest.invariant.rises)).0;
    }

pub loop-rest-preserved : goal.loop-rest-preserved
loop-rest-preserved c =
    let first = c.in-Some.first.now in
    let last = c.in-Some-split_last.last.now in
    let negative : c.negated-negative.result ≡ negation first = c.negated-negative.ensures in
    let above : signed_number_of last <ℤ signed_number_of (negation first) =
    subst (λ (l : Lit). signed_number_of last <ℤ signed_number_of l) negative
    (above_tested c.negated-negative.result last (sym c.lt.ensures ∙ c.if-lt.false) (sym c.eq.ensures ∙ c.if-eq.false)) in
    record {
      same = sym (pair_after c.loop-rest.rest.now first c.in-Some.after.now c.in-Some-split_last.before.now last c.in-Some.ensures.cases.0
          c.in-Some-split_last.ensures.cases.0 c.loop-rest.invariant.rises above) ∙ c.loop-rest.invariant.same;
      rises = (subst IsIncreasing c.in-Some.ensures.cases.0 c.loop-rest.invariant.rises).1;
    }

pub returns : goal.returns
returns c = sym (short_has_no_pair c.loop-rest.rest.now (omega (arith, c.loop-rest-test.false))) ∙ c.loop-rest.invariant.same
