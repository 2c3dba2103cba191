use Rattle.tsl_terms.specs.TermTree.{term_tree}
use Rattle.tsl_terms.specs.SameTree.{same_tree}
use Rattle.base_library.proofs.Kept.{with_new-absent, with_new-present}
use Rattle.tsl_terms.proofs.choosing.add_term.Goals as goal

pub returns-in_ok-push : goal.returns-in_ok-push
returns-in_ok-push c =
    with_new-absent term_tree same_tree c.args.terms.now.items _ c.push.new.self.items c.in_ok-copy_term.field-0 c.is_term_among.result
    (rw c.deref.ensures.value at c.is_term_among.ensures) c.if-not-is_term_among.true c.in_ok-push.ensures.items c.in_ok-copy_term.ensures

pub returns-else-not-is_term_among : goal.returns-else-not-is_term_among
returns-else-not-is_term_among c =
    with_new-present term_tree same_tree c.args.terms.now.items _ c.is_term_among.result
    (rw c.deref.ensures.value at c.is_term_among.ensures) c.if-not-is_term_among.false
