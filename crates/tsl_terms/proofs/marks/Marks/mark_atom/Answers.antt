use Rattle.std.proofs.Common.{sym}
use Rattle.tsl_terms.proofs.MarkLemmas.{mark_none}
use Rattle.tsl_terms.proofs.marks.Marks.mark_atom.Goals as goal

pub returns-in-Test-clause-updated : goal.returns-in-Test-clause-updated
returns-in-Test-clause-updated c = rw c.in-Test.is (sym (mark_none c.args.self.now.updated.items))
