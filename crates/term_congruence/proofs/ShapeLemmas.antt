-- Sets of shapes in memory against the lists of what they are.
use Rattle.std.proofs.Common.{◌≡◌, ◌∙◌, ℕ, zero, suc, Bool, true, false, ◌&&◌, ◌==◌}
use Rattle.std.proofs.Common.{List, [], ◌∷◌, ◌++◌, length, Some, slice_get, nat_eq}
use Rattle.std.proofs.Common.{refl, sym, ap, subst, arith, if◌then◌else◌, eq-eqb, inl, inr}
use Rattle.std.specs.Prelude.{option_map}
use Rattle.std.specs.List.{list_any, position_or_len}
use Rattle.std.specs.Cmp.Lexicographic.{pointwise}
use Rattle.std.proofs.lemmas.Bool.{eqb-true, false≢true, and_parts, or_parts}
use Rattle.std.proofs.lemmas.List.{map_push, length-map}
use Rattle.std.proofs.lemmas.Option.{none-some, same_Some, slice_get-map}
use Rattle.std.proofs.lemmas.Slice.Eq.{bytes_eq-Decides}
use Rattle.term_congruence.specs.declared.shapes.Shape.{Shape}
use Rattle.term_congruence.specs.internal.Shapes.{ShapeTree, leaf_shape, applied_shape}
use Rattle.term_congruence.specs.internal.ShapeView.{shape_tree, shape_trees}
use Rattle.term_congruence.specs.internal.Closing.{IsPlaced}
use Rattle.term_congruence.specs.internal.Shapes.{KeepsShapes}

-- shapes are the same where their parts are
abbrev pub same_shape : ShapeTree → ShapeTree → Bool
same_shape (leaf_shape s t) (leaf_shape r u) = (s == r) && (t == u)
same_shape (applied_shape f ls) (applied_shape g ms) = (f == g) && pointwise nat_eq ls ms
same_shape (leaf_shape s t) (applied_shape g ms) = false
same_shape (applied_shape f ls) (leaf_shape r u) = false

pub shape_itself : (x : ShapeTree) → same_shape x x ≡ true
shape_itself (leaf_shape s t) = rw (eq-eqb s s refl, eq-eqb t t refl) refl
shape_itself (applied_shape f ls) = rw (eq-eqb f f refl, (bytes_eq-Decides ls ls).1 refl) refl

pub shape_is : (x y : ShapeTree) → same_shape x y ≡ true → x ≡ y
shape_is (leaf_shape s t) (leaf_shape r u) same =
    let parts = and_parts (s == r) (t == u) same in
    let signal : s ≡ r = eqb-true s r parts.0 in
    let step : t ≡ u = eqb-true t u parts.1 in
    λ i. leaf_shape (signal i) (step i)
shape_is (applied_shape f ls) (applied_shape g ms) same =
    let parts = and_parts (f == g) (pointwise nat_eq ls ms) same in
    let function : f ≡ g = eqb-true f g parts.0 in
    let labels : ls ≡ ms = (bytes_eq-Decides ls ms).0 parts.1 in
    λ i. applied_shape (function i) (labels i)
shape_is (leaf_shape s t) (applied_shape g ms) same = absurd (false≢true same)
shape_is (applied_shape f ls) (leaf_shape r u) same = absurd (false≢true same)

pub keeps_itself : (shapes : List ShapeTree) → KeepsShapes shapes shapes
keeps_itself shapes = record { kept = λ i x at. at; different = λ before. before; standing = λ before. before }

pub keeps_on : (first second third : List ShapeTree) → KeepsShapes first second → KeepsShapes second third → KeepsShapes first third
keeps_on first second third one two =
    record {
      kept = λ i x at. two.kept i x (one.kept i x at);
      different = λ before. two.different
          (one.different before);
      standing = λ before. two.standing (one.standing before);
    }

-- what an insertion into a set does, where its test is that of shapes
module _ (eq : Shape → Shape → Bool) (is : (a b : Shape) → eq a b ≡ same_shape (shape_tree a) (shape_tree b)) where
  absent : (v : Shape) (ks : List Shape) → list_any (eq v) ks ≡ false → (i : ℕ) → slice_get (shape_trees ks) i ≡ Some (shape_tree v) → ⊥
  absent v [] none i at = none-some (shape_tree v) at
  absent v (k ∷ ks) none zero at =
      let parts = or_parts (eq v k) (list_any (eq v) ks) none in
      false≢true (sym parts.0 ∙ is v k ∙ ap (same_shape (shape_tree v)) (same_Some (shape_tree k) (shape_tree v) at)
      ∙ shape_itself (shape_tree v))
  absent v (k ∷ ks) none (suc i) at = absent v ks (or_parts (eq v k) (list_any (eq v) ks) none).1 i at

  past_end : (v : Shape) (ks : List Shape) → list_any (eq v) ks ≡ false → position_or_len (eq v) ks ≡ length ks
  past_end v [] none = refl
  past_end v (k ∷ ks) none =
      let parts = or_parts (eq v k) (list_any (eq v) ks) none in
      let rest : position_or_len (eq v) ks ≡ length ks = past_end v ks parts.1 in
      rw parts.0 (omega (arith, rest))

  pub placed : (v : Shape) (ks new : List Shape) (n : ℕ) → new ≡ (if list_any (eq v) ks then ks else ks ++ v ∷ []) →
      n ≡ position_or_len (eq v) ks → ((k : Shape) × (slice_get new n ≡ Some k) × (eq v k ≡ true)) →
      IsPlaced (shape_trees ks) (shape_tree v) (shape_trees new) n
  placed v ks new n grown at (k, there, equal) = by (list_any (eq v) ks) refl grown
    where
      stored : slice_get (shape_trees new) n ≡ Some (shape_tree v)
      stored = slice_get-map shape_tree new n ∙ ap (option_map shape_tree) there
          ∙ ap Some (sym (shape_is (shape_tree v) (shape_tree k) (sym (is v k) ∙ equal)))

      by : (b : Bool) → list_any (eq v) ks ≡ b → new ≡ (if b then ks else ks ++ v ∷ []) →
          IsPlaced (shape_trees ks) (shape_tree v) (shape_trees new) n
      by true among same = inl (ap shape_trees same, subst (λ xs. slice_get (shape_trees xs) n ≡ Some (shape_tree v)) same stored)
      by false among more = inr (
        ap shape_trees more ∙ map_push shape_tree ks v,
        at ∙ past_end v ks among ∙ sym (length-map ks shape_tree),
        absent v ks among,
      )
