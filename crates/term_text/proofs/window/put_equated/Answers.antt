use Rattle.base_library.proofs.Passes.{map_passes_within}
use Rattle.tsl_terms.specs.WindowTree.{equated_tree}
use Rattle.term_text.specs.TermText.{probe_is_held}
use Rattle.term_text.proofs.window.put_equated.Goals as goal

pub put_placed-requires : goal.put_placed-requires
put_placed-requires c =
    rw c.equality-item.is (map_passes_within equated_tree
    (λ e. probe_is_held c.args.names.now e.probe) c.args.equalities.now c.loop-equality.equality-index c.equality-item.result c.requires
    c.loop-equality-test.true)
