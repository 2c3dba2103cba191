-- The environment's side is one that is asked.
use Rattle.std.proofs.Common.{◌≡◌, ◌<◌, ◌+◌, ◌*◌, ℕ, sym, ap, subst, arith}
use Rattle.bounded_encoding.specs.Frames.{FrameTree}
use Rattle.bounded_encoding.specs.FrameView.{frame_tree, IsFramed, IsServed}
use Rattle.bounded_encoding.specs.Sides.{IsSide}
use Rattle.bounded_encoding.specs.declared.frame.Frame.{Frame}
use Rattle.counterstrategy.specs.DualVariables.{tests_in_all}
use Rattle.counterstrategy.specs.DualEncoding.{met_vectors, environment_frame}
use Rattle.counterstrategy.specs.declared.dual_asking.DualQuestion.{DualQuestion}
use Rattle.counterstrategy.specs.internal.DualAsking.{dual_tree, IsDualCounted}
use Rattle.counterstrategy.proofs.DualOver.{is_environment_side}

pub environment_framed : (q : DualQuestion) → IsDualCounted q → (f : Frame) → frame_tree f ≡ environment_frame (dual_tree q) →
    IsFramed (frame_tree f)
environment_framed q h f is = subst IsFramed (sym is) (record {
  has_state = h.posed.has_state;
  few = h.few;
  low_bound = h.low_bound;
  few_bits = omega (arith, h.posed.space.few_predicates);
})

pub environment_served : (q : DualQuestion) → IsDualCounted q → (f : Frame) → frame_tree f ≡ environment_frame (dual_tree q) →
    IsServed f (met_vectors (dual_tree q)) (λ s u. s * tests_in_all (dual_tree q)) (IsDualCounted q)
    (λ s u. (s < q.states) × (u < q.vectors))
environment_served q h f is = record {
  framed = environment_framed q h f is;
  side = subst (λ (t : FrameTree). IsSide (record {
    frame = t;
    met = met_vectors (dual_tree q);
    base = λ s u. s * tests_in_all (dual_tree q);
  })) (sym is) (is_environment_side (dual_tree q) h.posed);
  asked = h;
  cells = λ s u l m.
      let states = ap (λ (t : FrameTree). t.states) is in
      let rows = ap (λ (t : FrameTree). t.rows) is in
      (omega (arith, states, l), omega (arith, rows, h.vectors, m));
}
