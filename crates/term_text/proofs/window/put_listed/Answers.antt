use Rattle.base_library.proofs.Passes.{map_passes_within}
use Rattle.tsl_terms.specs.WindowTree.{listed_tree}
use Rattle.term_text.specs.WindowText.{listed_is_held}
use Rattle.term_text.proofs.window.put_listed.Goals as goal

pub put_listed_update-requires : goal.put_listed_update-requires
put_listed_update-requires c =
    rw c.update-item.is (map_passes_within listed_tree
    (listed_is_held c.args.names.now) c.args.updates.now c.loop-update.update-index c.update-item.result c.requires
    c.loop-update-test.true)
