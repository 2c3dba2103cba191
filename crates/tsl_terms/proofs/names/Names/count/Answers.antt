use Rattle.std.proofs.Common.{subst}
use Rattle.tsl_terms.specs.Name.{AreDistinct}
use Rattle.tsl_terms.proofs.NameLemmas.{AreDistinct-named}
use Rattle.tsl_terms.proofs.names.Names.count.Goals as goal

pub returns-clause-distinct : goal.returns-clause-distinct
returns-clause-distinct c =
    subst AreDistinct c.self.view_is (AreDistinct-named c.self.inside.meanings.entries c.len.ensures.unique)
