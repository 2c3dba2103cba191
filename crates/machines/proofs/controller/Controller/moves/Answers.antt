use Rattle.std.proofs.Common.{◌∙◌, ◌+◌, ◌++◌, map, drop, ap, arith}
use Rattle.letter_space.specs.SpaceView.{space_tree}
use Rattle.letter_space.specs.Letters.{letter_of}
use Rattle.machines.specs.declared.moves.Move.{Move}
use Rattle.machines.specs.MachineView.{controller_tree, entry_tree, move_tree}
use Rattle.machines.specs.Moves.{moves_from, entries_of}
use Rattle.machines.proofs.MovesListed.{move_listed}
use Rattle.machines.proofs.controller.Controller.moves.Goals as goal

pub loop-valuation-preserved : goal.loop-valuation-preserved
loop-valuation-preserved c =
    let space = space_tree c.args.space.now in
    let entry = c.entry-entry.result.now in
    let v = c.loop-valuation.valuation in
    let entries = entries_of (controller_tree c.args.self.now) c.args.state in
    let move : Move = record { letter = c.letter.result; next = entry.next } in
    let letter = c.letter.ensures ∙ ap (letter_of space v) c.as_slice.ensures in
    ap (λ items. map move_tree items ++ moves_from space (v + 1) (drop (v + 1) entries)) c.in_ok-push.ensures.items
    ∙ move_listed space (controller_tree c.args.self.now) c.args.state move_tree c.loop-valuation.moves.items move v (entry_tree entry)
    (omega arith) c.entry-entry.ensures (λ i. record { letter = letter i; next = entry.next }) c.loop-valuation.invariant
