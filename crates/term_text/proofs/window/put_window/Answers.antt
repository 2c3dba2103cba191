use Rattle.tsl_terms.specs.WindowTree.{window_tree}
use Rattle.term_text.proofs.Held.{window_parts}
use Rattle.term_text.proofs.window.put_window.Goals as goal

pub put_equated-requires : goal.put_equated-requires
put_equated-requires c = rw c.as_slice-2.ensures ((window_parts c.args.names.now (window_tree c.args.window.now) c.requires).0)
