use Rattle.std.proofs.Common.{sym, inl, inr, refl, ◌∙◌}
use Rattle.std.proofs.lemmas.Bool.{not-true}
use Rattle.sat_trail.specs.Entries.{literals_of}
use Rattle.sat_trail.proofs.Waiting.{read_pair, pair_over, both_free}
use Rattle.sat_trail.proofs.watches.Watches.is_open.Goals as goal

pub is_false-requires : goal.is_false-requires
is_false-requires c = pair_over c.args.number c.requires.sound c.requires.watched
    (read_pair c.args.self.now.pairs.items c.requires.within c.index.ensures (sym c.read.ensures ∙ c.in-Some.is)) (inl refl)

pub is_false-requires-then-not-is_false : goal.is_false-requires-then-not-is_false
is_false-requires-then-not-is_false c = pair_over c.args.number c.requires.sound c.requires.watched
    (read_pair c.args.self.now.pairs.items c.requires.within c.index.ensures (sym c.read.ensures ∙ c.in-Some.is)) (inr refl)

pub returns-then-not-is_false : goal.returns-then-not-is_false
returns-then-not-is_false c = λ h. record {
  pair = c.in-Some.pair;
  at = read_pair c.args.self.now.pairs.items c.requires.within c.index.ensures (sym c.read.ensures ∙ c.in-Some.is);
  not_false = both_free (literals_of c.args.stack.now.entries) c.in-Some.pair (sym c.is_false.ensures ∙ c.if-not-is_false.true)
      (sym c.is_false-then-not-is_false.ensures ∙ not-true c.is_false-then-not-is_false.result h);
}
