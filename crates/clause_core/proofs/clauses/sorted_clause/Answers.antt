use Rattle.std.proofs.Common.{◌≡◌, length, ap, sym, subst, ◌∙◌, rules}
use Rattle.std.specs.List.{dedup}
use Rattle.smallvec.proofs.SmallVecLemmas.{items-with_items}
use Rattle.clause_core.specs.Literals.{same}
use Rattle.clause_core.specs.Clauses.{IsIncreasing, in_order}
use Rattle.clause_core.proofs.Sets.{sorted_once, IsIncreasing-in_order}
use Rattle.clause_core.proofs.clauses.sorted_clause.Goals as goal

kept_is : (c : goal.After-dedup) → c.dedup.new.self.items ≡ in_order c.args.literals.now
kept_is c =
    let lent = c.as_mut_slice.ensures.value in
    let copied : c.as_mut_slice.result.now ≡ c.args.literals.now = search rules in
    let written = items-with_items c.in_ok-literals.literals c.sort_unstable.new.self (c.sort_unstable.ensures.len ∙ ap length lent) in
    subst (λ xs. c.dedup.new.self.items ≡ in_order xs) copied (sorted_once c.as_mut_slice.result.now c.sort_unstable.new.self
    c.dedup.new.self.items c.sort_unstable.ensures.permutation c.sort_unstable.ensures.sorted
    (c.dedup.ensures.items ∙ ap (dedup same) written))

pub invariant_of-result : goal.invariant_of-result
invariant_of-result c = subst IsIncreasing (sym (kept_is c)) (IsIncreasing-in_order c.args.literals.now)

pub returns : goal.returns
returns c = kept_is c
