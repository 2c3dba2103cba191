use Rattle.base_library.proofs.Passes.{map_passes_within}
use Rattle.tsl_terms.specs.WindowTree.{window_tree}
use Rattle.program_tree.specs.Writable.{window_is_writable}
use Rattle.flow_program.proofs.Held.{window_held}
use Rattle.flow_program.proofs.writing.put_windows.Goals as goal

pub put_window-requires : goal.put_window-requires
put_window-requires c =
    window_held c.args.names.now (window_tree c.window-item.result)
    (rw c.window-item.is (map_passes_within window_tree
    (window_is_writable c.args.names.now) c.args.windows.now c.loop-window.window-index c.window-item.result c.requires
    c.loop-window-test.true))
