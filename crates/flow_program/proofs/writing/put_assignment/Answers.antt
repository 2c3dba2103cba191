use Rattle.std.proofs.Common.{map}
use Rattle.base_library.proofs.Passes.{list_all_weaker}
use Rattle.tsl_terms.specs.TermTree.{term_tree}
use Rattle.term_text.specs.TermText.{is_held, term_is_held}
use Rattle.program_tree.specs.Writable.{signal_fits, term_is_writable}
use Rattle.flow_program.proofs.Held.{signal_held, written_term_held}
use Rattle.flow_program.proofs.writing.put_assignment.Goals as goal

pub put_updates-requires-clause-signals : goal.put_updates-requires-clause-signals
put_updates-requires-clause-signals c =
    list_all_weaker (signal_fits c.args.names.now) (is_held c.args.names.now) (signal_held c.args.names.now) c.args.controlled.now
    c.requires.signals

pub put_updates-requires-clause-terms : goal.put_updates-requires-clause-terms
put_updates-requires-clause-terms c =
    list_all_weaker (term_is_writable c.args.names.now) (term_is_held c.args.names.now) (written_term_held c.args.names.now)
    (map term_tree c.args.terms.now) c.requires.terms
