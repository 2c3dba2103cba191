use Rattle.flow_program.proofs.Held.{written_probe_held}
use Rattle.tsl_terms.specs.TermTree.{probe_tree}
use Rattle.flow_program.proofs.writing.put_branch.Goals as goal

pub put_probe-requires : goal.put_probe-requires
put_probe-requires c = written_probe_held c.args.names.now (probe_tree c.args.test.now) c.requires
