-- The controller's side is one that is asked.
use Rattle.std.proofs.Common.{◌≡◌, ◌<◌, ◌+◌, ◌*◌, ℕ, sym, ap, subst, arith}
use Rattle.bounded_encoding.specs.Frames.{FrameTree}
use Rattle.bounded_encoding.specs.FrameView.{frame_tree, IsFramed, IsServed}
use Rattle.bounded_encoding.specs.Sides.{IsSide}
use Rattle.bounded_encoding.specs.Variables.{valuations_of, choices_in_all}
use Rattle.bounded_encoding.specs.Encoding.{met_valuations, controller_frame}
use Rattle.bounded_encoding.specs.declared.asking.Question.{Question}
use Rattle.bounded_encoding.specs.declared.frame.Frame.{Frame}
use Rattle.bounded_encoding.specs.internal.Asking.{tree_of, IsCounted}
use Rattle.bounded_encoding.proofs.Over.{is_controller_side}

pub controller_framed : (q : Question) → IsCounted q → (f : Frame) → frame_tree f ≡ controller_frame (tree_of q) → IsFramed (frame_tree f)
controller_framed q h f is = subst IsFramed (sym is) (record {
  has_state = h.posed.has_state;
  few = h.few;
  low_bound = h.low_bound;
  few_bits = omega (arith, h.posed.space.few_bits);
})

pub controller_served : (q : Question) → IsCounted q → (f : Frame) → frame_tree f ≡ controller_frame (tree_of q) →
    IsServed f (met_valuations (tree_of q)) (λ s v. (s * valuations_of (tree_of q) + v) * choices_in_all (tree_of q)) (IsCounted q)
    (λ s v. (s < q.states) × (v < q.valuations))
controller_served q h f is = record {
  framed = controller_framed q h f is;
  side = subst (λ (t : FrameTree). IsSide (record {
    frame = t;
    met = met_valuations (tree_of q);
    base = λ s v. (s * valuations_of (tree_of q) + v) * choices_in_all (tree_of q);
  })) (sym is) (is_controller_side (tree_of q) h.posed);
  asked = h;
  cells = λ s v l m.
      let states = ap (λ (t : FrameTree). t.states) is in
      let rows = ap (λ (t : FrameTree). t.rows) is in
      (omega (arith, states, l), omega (arith, rows, h.valuations, m));
}
