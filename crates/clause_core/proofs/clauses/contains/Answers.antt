use Rattle.std.proofs.Common.{◌≡◌, ◌∙◌, ◌∷◌, List, sym, ap, subst}
use Rattle.clause_core.specs.Literals.{Lit}
use Rattle.clause_core.specs.Clauses.{IsIncreasing, is_contained}
use Rattle.clause_core.proofs.Sets.{contained_later, contained_both, contained_never, below_tested, above_tested, same_is}
use Rattle.clause_core.proofs.clauses.contains.Goals as goal

-- what both lists are made of
opened : (w o w' o' : List Lit) → w ≡ w' → o ≡ o' → is_contained w o ≡ is_contained w' o'
opened w o w' o' p q = ap (λ (xs : List Lit). is_contained xs o) p ∙ ap (λ (xs : List Lit). is_contained w' xs) q

pub returns-then-lt : goal.returns-then-lt
returns-then-lt c =
    let up = subst IsIncreasing c.in-Some-split_first.ensures.cases.0 c.loop-first.invariant.large_rises in
    let never = contained_never c.in-Some.first.now c.in-Some.later.now c.in-Some-split_first.found.now c.in-Some-split_first.rest.now up
    (below_tested c.in-Some.first.now c.in-Some-split_first.found.now (sym c.lt.ensures ∙ c.if-lt.true)) in
    sym (sym c.loop-first.invariant.same ∙ (opened c.loop-first.wanted.now c.loop-first.offered.now
    (c.in-Some.first.now ∷ c.in-Some.later.now) (c.in-Some-split_first.found.now ∷ c.in-Some-split_first.rest.now)
    c.in-Some.ensures.cases.0 c.in-Some-split_first.ensures.cases.0 ∙ never))

pub loop-first-preserved-then-eq : goal.loop-first-preserved-then-eq
loop-first-preserved-then-eq c =
    let small = subst IsIncreasing c.in-Some.ensures.cases.0 c.loop-first.invariant.small_rises in
    let large = subst IsIncreasing c.in-Some-split_first.ensures.cases.0 c.loop-first.invariant.large_rises in
    let one : c.in-Some.first.now ≡ c.in-Some-split_first.found.now =
    same_is c.in-Some.first.now c.in-Some-split_first.found.now (sym c.eq.ensures ∙ c.if-eq.true) in
    let both = contained_both c.in-Some.first.now c.in-Some.later.now c.in-Some-split_first.rest.now small in
    let offered : c.loop-first.offered.now ≡ (c.in-Some.first.now ∷ c.in-Some-split_first.rest.now) =
    c.in-Some-split_first.ensures.cases.0 ∙ ap (λ (l : Lit). l ∷ c.in-Some-split_first.rest.now) (sym one) in
    record {
      same = sym both ∙ (sym (opened c.loop-first.wanted.now c.loop-first.offered.now (c.in-Some.first.now ∷ c.in-Some.later.now)
          (c.in-Some.first.now ∷ c.in-Some-split_first.rest.now) c.in-Some.ensures.cases.0 offered) ∙ c.loop-first.invariant.same);
      small_rises = small.1;
      large_rises = large.1;
    }

pub loop-first-preserved : goal.loop-first-preserved
loop-first-preserved c =
    let small = subst IsIncreasing c.in-Some.ensures.cases.0 c.loop-first.invariant.small_rises in
    let large = subst IsIncreasing c.in-Some-split_first.ensures.cases.0 c.loop-first.invariant.large_rises in
    let above = above_tested c.in-Some.first.now c.in-Some-split_first.found.now (sym c.lt.ensures ∙ c.if-lt.false)
    (sym c.eq.ensures ∙ c.if-eq.false) in
    let later = contained_later c.in-Some.first.now c.in-Some.later.now c.in-Some-split_first.found.now c.in-Some-split_first.rest.now small
    above in
    let wanted : is_contained c.loop-first.wanted.now c.in-Some-split_first.rest.now
    ≡ is_contained (c.in-Some.first.now ∷ c.in-Some.later.now) c.in-Some-split_first.rest.now = ap
    (λ (xs : List Lit). is_contained xs c.in-Some-split_first.rest.now) c.in-Some.ensures.cases.0 in
    record {
      same = wanted ∙ (sym later ∙ (sym (opened c.loop-first.wanted.now c.loop-first.offered.now (c.in-Some.first.now ∷ c.in-Some.later.now)
          (c.in-Some-split_first.found.now ∷ c.in-Some-split_first.rest.now) c.in-Some.ensures.cases.0
          c.in-Some-split_first.ensures.cases.0) ∙ c.loop-first.invariant.same));
      small_rises = c.loop-first.invariant.small_rises;
      large_rises = large.1;
    }
