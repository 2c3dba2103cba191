use Rattle.std.proofs.Common.{◌≡◌, ◌∙◌, ◌<◌, ◌-◌, take, drop, length, subst, ap, sym}
use Rattle.std.specs.Prelude.{Some, slice_get, slice_index_or}
use Rattle.clause_core.specs.Clauses.{IsIncreasing}
use Rattle.clause_core.specs.internal.Parts.{start_of}
use Rattle.clause_core.proofs.Parts.{clause_at, length_parts}
use Rattle.clause_core.proofs.clause_list.ClauseList.get.Goals as goal
use Rattle.clause_core.proofs.clause_list.ClauseList.get.Goals.{After-deref}

at : (c : After-deref) → (slice_get c.args.self.now c.args.place
    ≡ Some (take (c.bounds-start.result.1 - c.bounds-start.result.0) (drop c.bounds-start.result.0 c.deref.result.now)))
    × IsIncreasing (take (c.bounds-start.result.1 - c.bounds-start.result.0) (drop c.bounds-start.result.0 c.deref.result.now))
at c =
    let ends = c.self.inside.ends.items in
    let literals = c.self.inside.literals.items in
    let place = c.args.place in
    let within : place < length ends = subst (λ n. place < n) (ap length (sym c.self.view_is) ∙ length_parts 0 ends literals) c.requires in
    let start = c.bounds-start.ensures.start ∙ ap (λ es. start_of 0 es place) c.as_slice.ensures.value in
    let end = c.bounds-start.ensures.end ∙ ap (λ es. slice_index_or es place 0) c.as_slice.ensures.value in
    let found = clause_at ends literals place c.bounds-start.result.0 c.bounds-start.result.1 c.self.invariant within start end in
    subst (λ ls. (slice_get c.args.self.now place ≡ Some (take (c.bounds-start.result.1 - c.bounds-start.result.0) (drop c.bounds-start.result.0 ls)))
    × IsIncreasing (take (c.bounds-start.result.1 - c.bounds-start.result.0) (drop c.bounds-start.result.0 ls))) (sym c.deref.ensures.value)
    (sym (ap (λ xss. slice_get xss place) c.self.view_is) ∙ found.0, found.1)

pub returns-clause-value : goal.returns-clause-value
returns-clause-value c = (at (goal.at.returns-clause-value c).After-deref).0

pub returns-clause-increasing : goal.returns-clause-increasing
returns-clause-increasing c = (at (goal.at.returns-clause-increasing c).After-deref).1
