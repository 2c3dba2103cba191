-- Walks over images of steps are images of walks, so turns over the one are turns over the other.
use Rattle.std.proofs.Common.{◌≡◌, ◌∙◌, ℕ, zero, suc, Bool, List, [], ◌∷◌, map, Contains, refl, sym, ap, subst, arith}
use Rattle.std.specs.List.{list_any}
use Rattle.base_library.proofs.Passes.{list_any-map}
use Rattle.full_bound.specs.internal.Graph.{IsWalk, MarkedTurn}

-- what stands in a list of images is an image, and the other way round
pub source_of : {S T : Type 0} (f : S → T) (xs : List S) (t : T) → Contains (map f xs) t → (s : S) × Contains xs s × (f s ≡ t)
source_of f [] t stands = absurd (omega (arith, stands.1))
source_of f (x ∷ xs) t (zero, within, is) = (x, (0, omega arith, refl), is)
source_of f (x ∷ xs) t (suc k, within, is) =
    let r = source_of f xs t (k, omega arith, is) in (r.0, (suc r.1.0, omega (arith, r.1.1), r.1.2), r.2)

image_of : {S T : Type 0} (f : S → T) (xs : List S) (s : S) → Contains xs s → Contains (map f xs) (f s)
image_of f [] s stands = absurd (omega (arith, stands.1))
image_of f (x ∷ xs) s (zero, within, is) = (0, omega arith, ap f is)
image_of f (x ∷ xs) s (suc k, within, is) = let r = image_of f xs s (k, omega arith, is) in (suc r.0, omega (arith, r.1), r.2)

module _ {S T : Type 0} (f : S → T) (steps : ℕ → List S) (to : T → ℕ) (marked : T → Bool) where
  abbrev of_images : ℕ → List T
  of_images p = map f (steps p)

  pub walk_of : (p : ℕ) (ts : List T) (r : ℕ) → IsWalk of_images to marked p ts r
      → (ss : List S) × IsWalk steps (λ s. to (f s)) (λ s. marked (f s)) p ss r × (map f ss ≡ ts)
  walk_of p [] r walk = ([], walk, refl)
  walk_of p (t ∷ ts) r walk =
      let s = source_of f (steps p) t walk.0 in
      let rest = walk_of (to t) ts r walk.1 in (
        s.0 ∷ rest.0,
        (s.1, subst (λ n. IsWalk steps (λ x. to (f x)) (λ x. marked (f x)) n rest.0 r) (ap to (sym s.2)) rest.1),
        λ i. s.2 i ∷ rest.2 i,
      )

  pub image_walk : (p : ℕ) (ss : List S) (r : ℕ) → IsWalk steps (λ s. to (f s)) (λ s. marked (f s)) p ss r
      → IsWalk of_images to marked p (map f ss) r
  image_walk p [] r walk = walk
  image_walk p (s ∷ ss) r walk = (image_of f (steps p) s walk.0, image_walk (to (f s)) ss r walk.1)

  -- a turn over images comes from one, with the same images
  pub turn_over : (t : MarkedTurn of_images to marked) → (u : MarkedTurn steps (λ s. to (f s)) (λ s. marked (f s)))
      × (map f u.stem ≡ t.stem) × (map f u.turn ≡ t.turn)
  turn_over t =
      let stem = walk_of 0 t.stem t.node t.to_node in
      let turn = walk_of t.node t.turn t.node t.back in (
        record {
          node = t.node;
          stem = stem.0;
          turn = turn.0;
          to_node = stem.1;
          back = turn.1;
          passes = sym (list_any-map f marked turn.0) ∙ ap (list_any marked) turn.2 ∙ t.passes;
        },
        stem.2,
        turn.2,
      )

  pub turn_under : MarkedTurn steps (λ s. to (f s)) (λ s. marked (f s)) → MarkedTurn of_images to marked
  turn_under u = record {
    node = u.node;
    stem = map f u.stem;
    turn = map f u.turn;
    to_node = image_walk 0 u.stem u.node u.to_node;
    back = image_walk u.node u.turn u.node u.back;
    passes = list_any-map f marked u.turn ∙ u.passes;
  }
