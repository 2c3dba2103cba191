-- Planes that vectors own, and truths that are equal at each position.
use Rattle.std.proofs.Common.{◌≡◌, ◌∙◌, ℕ, Bool, List, ◌++◌, take, length, ap, sym, subst}
use Rattle.std.proofs.Math.Seq.{take-append_seam}
use Rattle.position_planes.specs.Positions.{IsPlaneOf}

-- what a vector holds after its plane was changed
pub written_plane : (n : ℕ) (a : ℕ → Bool) (size : ℕ) (new rest : List ℕ) → size ≡ length new → IsPlaneOf n a new →
    IsPlaneOf n a (take size (new ++ rest))
written_plane n a size new rest is on =
    subst (IsPlaneOf n a) (sym (ap (λ k. take k (new ++ rest)) is ∙ take-append_seam new rest)) on

pub same_truths : (n : ℕ) (a b : ℕ → Bool) (plane : List ℕ) → ((i : ℕ) → a i ≡ b i) → IsPlaneOf n a plane → IsPlaneOf n b plane
same_truths n a b plane same on = record {
  size = on.size;
  truths = λ i within. on.truths i within ∙ same i;
}
