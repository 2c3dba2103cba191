use Rattle.std.proofs.Common.{◌≡◌, ◌∙◌, ◌↔◌, ℕ, IsTrue, sym, subst, rules, codes, None, Some}
use Rattle.tsl_terms.specs.Name.{number_of}
use Rattle.tsl_terms.specs.Equality.{is_equality}
use Rattle.tsl_terms.proofs.EqualityLemmas.{unnamed, named_otherwise, named_so}
use Rattle.tsl_terms.proofs.equality.equality_of.Goals as goal

pub returns-in_err-id-clause-number : goal.returns-in_err-id-clause-number
returns-in_err-id-clause-number c =
    let none : number_of c.args.names.now (codes "eq") ≡ None = search rules in
    let is : c.from_residual.result ≡ None = search rules in
    is ∙ (unnamed c.args.names.now c.count-count.ensures.distinct none).0

pub returns-in_err-id-clause-exact : goal.returns-in_err-id-clause-exact
returns-in_err-id-clause-exact c =
    let none : number_of c.args.names.now (codes "eq") ≡ None = search rules in
    let is : c.from_residual.result ≡ None = search rules in
    subst (λ r. (id : ℕ) → (r ≡ Some id) ↔ IsTrue (is_equality c.args.names.now id)) (sym is)
    (unnamed c.args.names.now c.count-count.ensures.distinct none).1

pub returns-then-compares_two-clause-number : goal.returns-then-compares_two-clause-number
returns-then-compares_two-clause-number c =
    let there : number_of c.args.names.now (codes "eq") ≡ Some c.in_ok-id.id = search rules in
    (named_so c.args.names.now c.count-count.ensures.distinct c.in_ok-id.id there (sym c.compares_two.ensures ∙ c.if-compares_two.true)).0

pub returns-then-compares_two-clause-exact : goal.returns-then-compares_two-clause-exact
returns-then-compares_two-clause-exact c =
    let there : number_of c.args.names.now (codes "eq") ≡ Some c.in_ok-id.id = search rules in
    (named_so c.args.names.now c.count-count.ensures.distinct c.in_ok-id.id there (sym c.compares_two.ensures ∙ c.if-compares_two.true)).1

pub returns-else-compares_two-clause-number : goal.returns-else-compares_two-clause-number
returns-else-compares_two-clause-number c =
    let there : number_of c.args.names.now (codes "eq") ≡ Some c.in_ok-id.id = search rules in
    (named_otherwise c.args.names.now c.count-count.ensures.distinct c.in_ok-id.id there (sym c.compares_two.ensures ∙ c.if-compares_two.false)).0

pub returns-else-compares_two-clause-exact : goal.returns-else-compares_two-clause-exact
returns-else-compares_two-clause-exact c =
    let there : number_of c.args.names.now (codes "eq") ≡ Some c.in_ok-id.id = search rules in
    (named_otherwise c.args.names.now c.count-count.ensures.distinct c.in_ok-id.id there (sym c.compares_two.ensures ∙ c.if-compares_two.false)).1
