use Rattle.std.proofs.Common.{refl}
use Rattle.clause_learning.proofs.SeenEntries.{seen_begins}
use Rattle.clause_learning.proofs.seen.Seen.begin.Goals as goal

pub returns-clause-seen : goal.returns-clause-seen
returns-clause-seen c = λ t no. seen_begins t c.args.self.now
    (record { flags = c.args.self.now.flags; lowest = 4294967295; waiting = 0; looked = c.clear.new.self }) no refl refl c.clear.ensures.items
