use Rattle.tsl_terms.specs.TermTree.{probe_tree}
use Rattle.tsl_terms.specs.SameTree.{same_probe_tree}
use Rattle.base_library.proofs.Kept.{with_new-absent, with_new-present}
use Rattle.tsl_terms.proofs.gathering.add_probe.Goals as goal

pub returns-in_ok-push : goal.returns-in_ok-push
returns-in_ok-push c =
    with_new-absent probe_tree same_probe_tree c.args.probes.now.items _ c.push.new.self.items c.in_ok-copy_probe.field-0
    c.is_probe_among.result
    (rw c.deref.ensures.value at c.is_probe_among.ensures) c.if-not-is_probe_among.true c.in_ok-push.ensures.items
    c.in_ok-copy_probe.ensures

pub returns-else-not-is_probe_among : goal.returns-else-not-is_probe_among
returns-else-not-is_probe_among c =
    with_new-present probe_tree same_probe_tree c.args.probes.now.items _ c.is_probe_among.result
    (rw c.deref.ensures.value at c.is_probe_among.ensures) c.if-not-is_probe_among.false
