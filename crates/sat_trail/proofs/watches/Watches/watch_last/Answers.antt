use Rattle.std.proofs.Common.{◌≡◌, true, List, sym, subst, ◌∙◌}
use Rattle.std.proofs.lemmas.Option.{slice_get_within, same_Some}
use Rattle.clause_core.specs.Literals.{Lit, has}
use Rattle.sat_trail.proofs.Soundness.{over_named}
use Rattle.sat_trail.proofs.Looks.{member_at}
use Rattle.sat_trail.proofs.watches.Watches.watch_last.Goals as goal

pub clause-requires-clause-given : goal.clause-requires-clause-given
clause-requires-clause-given c = slice_get_within c.args.stack.now.clauses c.args.number c.requires.forced.clause c.requires.forced.named

pub last_other-requires-clause-over : goal.last_other-requires-clause-over
last_other-requires-clause-over c = over_named c.args.stack.now c.requires.ready.sound c.args.number
    c.clause.result.now c.clause.ensures.value

pub watch_both-requires-clause-literals : goal.watch_both-requires-clause-literals
watch_both-requires-clause-literals c =
    let o = c.in-Some.ensures in
    record {
      clause = c.clause.result.now;
      named = c.clause.ensures.value;
      member = subst (λ (ls : List Lit). has ls c.args.literal ≡ true) (same_Some c.requires.forced.clause c.clause.result.now
          (sym c.requires.forced.named ∙ c.clause.ensures.value)) c.requires.forced.member;
      other = member_at c.clause.result.now o.position c.in-Some.other o.there;
      apart = o.apart;
    }
