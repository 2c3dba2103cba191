use Rattle.std.proofs.Common.{◌≡◌, ◌≤◌, length, ◌∙◌, arith, rules}
use Rattle.tsl_terms.specs.SpecView.{spec_tree}
use Rattle.letter_space.specs.declared.limits.TheConstants.{MOST_PREDICATES}
use Rattle.letter_space.proofs.SpecSpaces.{made_is_space}
use Rattle.letter_space.proofs.spacing.space_of.Goals as goal

pub invariant_of-result : goal.invariant_of-result
invariant_of-result c =
    let count : c.len-2.result ≡ length c.in_ok-predicates.predicates.items = search rules in
    let few : length c.in_ok-predicates.predicates.items ≤ MOST_PREDICATES = search (rules, arith) in
    record {
      is_space =
          rw (c.from_vec.ensures, c.from_vec-2.ensures)
          (made_is_space (spec_tree c.args.spec.now) c.in_ok-predicates.predicates.items c.in_ok-controlled.controlled.items
          c.len-2.result c.deref.result.now c.in_ok-predicates.ensures count (c.deref.ensures.value ∙ c.in_ok-signals.ensures)
          c.in_ok-controlled.ensures.controlled few c.in_ok-controlled.ensures.few);
    }
