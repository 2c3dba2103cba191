use Rattle.std.specs.Prelude.{OnOk}
use Rattle.std.proofs.Common.{◌≡◌, ◌+◌, ◌*◌, subst}
use Rattle.bounded_encoding.specs.Frames.{FrameTree}
use Rattle.bounded_encoding.specs.Sides.{SideTree, clauses_of_side}
use Rattle.bounded_encoding.specs.Made.{with_clauses}
use Rattle.bounded_encoding.specs.Refusing.{Refuses}
use Rattle.bounded_encoding.specs.Encoding.{controller_side}
use Rattle.bounded_encoding.specs.internal.Asking.{tree_of}
use Rattle.bounded_encoding.proofs.ServedControllers.{controller_served}
use Rattle.bounded_encoding.proofs.controller_side.add_controller_side.Goals as goal

abbrev with_frame : SideTree → FrameTree → SideTree
with_frame z f = record { frame = f; met = z.met; base = z.base }

pub add_side-requires : goal.add_side-requires
add_side-requires c =
    record { served = controller_served c.args.question.now c.requires.asked c.frame_of.result c.frame_of.ensures }

pub returns-clause-added : goal.returns-clause-added
returns-clause-added c = subst (λ (f : FrameTree). OnOk c.add_side.result (c.add_side.new.out
    ≡ with_clauses c.args.out.now (clauses_of_side (with_frame (controller_side (tree_of c.args.question.now)) f))))
    c.frame_of.ensures c.add_side.ensures.added

pub returns-clause-refused : goal.returns-clause-refused
returns-clause-refused c = subst (λ (f : FrameTree). Refuses c.add_side.result
    (with_clauses c.args.out.now (clauses_of_side (with_frame (controller_side (tree_of c.args.question.now)) f))))
    c.frame_of.ensures c.add_side.ensures.refused
