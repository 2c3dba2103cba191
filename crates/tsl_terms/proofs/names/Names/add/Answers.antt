use Rattle.std.proofs.Common.{ap, ◌∙◌, map}
use Rattle.tsl_terms.specs.internal.Named.{named}
use Rattle.tsl_terms.proofs.NameLemmas.{name-added}
use Rattle.tsl_terms.proofs.names.Names.add.Goals as goal

pub returns-clause-added : goal.returns-clause-added
returns-clause-added c =
    ap (map named) c.in_ok-insert.ensures.entries
    ∙ name-added c.in_ok-text.text
    (record {
      kind = c.args.kind;
      arity =
          c.args.arity;
    }) c.self.inside.meanings.entries _ _ c.self.view_is c.in_ok-text.ensures.items c.requires.absent
