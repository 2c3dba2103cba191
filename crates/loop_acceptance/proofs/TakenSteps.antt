-- Where the step of a frame leads to a node that is not new, the frame has a step less left.
use Rattle.std.proofs.Common.{◌≡◌, ◌∙◌, ℕ, zero, suc, ◌+◌, ◌<◌, ◌≤◌, inl, inr, List}
use Rattle.std.proofs.Common.{[], ◌∷◌, set, get_or, Option, Some, slice_get, refl, sym, ap}
use Rattle.std.proofs.Common.{subst, arith}
use Rattle.std.proofs.lemmas.Bool.Decides.{eqb_tells}
use Rattle.std.proofs.lemmas.Option.{none-some, same_Some, slice_get-get_or, slice_get_within}
use Rattle.base_library.proofs.Places.{slice_get_set, slice_get_set_same}
use Rattle.loop_acceptance.specs.declared.product.Step.{Step}
use Rattle.loop_acceptance.specs.declared.marks.Mark.{Mark}
use Rattle.loop_acceptance.specs.declared.marks.Mark.TheVariants.{Open}
use Rattle.loop_acceptance.specs.declared.search.Frame.{Frame}
use Rattle.loop_acceptance.specs.internal.Graph.{WalksTo}
use Rattle.loop_acceptance.specs.internal.Search.{frames_left, nested_left, Is, IsNotNew, HasFound}

module _ (step : ℕ → ℕ → Option Step) (nodes : ℕ) (marks : List Mark) (red : List ℕ) (frames : List Frame)
    (found : HasFound step nodes marks red frames) (i left : ℕ) (f : Frame) (at : slice_get frames i ≡ Some f) (less : f.left ≡ suc left)
    (seen : (s : Step) → step f.node left ≡ Some s → IsNotNew marks s.to) where
  abbrev lower : Frame
  lower = record { node = f.node; left = left }

  there : slice_get (set frames i lower) i ≡ Some lower
  there = slice_get_set_same frames i lower (slice_get_within frames i f at)

  was : (j : ℕ) (h : Frame) → slice_get (set frames i lower) j ≡ Some h → (g : Frame) × (slice_get frames j ≡ Some g) × (g.node ≡ h.node)
  was j h is = elim (eqb_tells j i) [
    | inl same ↦ (
      f,
      ap (slice_get frames) same.1 ∙ at,
      ap (λ x. x.node) (same_Some lower h (sym there ∙ ap (slice_get (set frames i lower)) (sym same.1) ∙ is)),
    )
    | inr other ↦ (h, sym (slice_get_set frames i j lower other.1) ∙ is, refl)
  ]

  pub taken : HasFound step nodes marks red (set frames i lower)
  taken = record {
    size = found.size;
    are_red = found.are_red;
    closed = found.closed;
    seen = found.seen;
    never = found.never;
    in_frame = λ p held.
        let r = found.in_frame p held in
        elim (eqb_tells r.0 i) [
          | inl same ↦ (
            i,
            lower,
            there,
            ap (λ x. x.node) (same_Some f r.1 (sym at ∙ ap (slice_get frames) (sym same.1) ∙ r.2)) ∙ r.3,
          )
          | inr other ↦ (r.0, r.1, slice_get_set frames i r.0 lower other.1 ∙ r.2, r.3)
        ];
    opened = λ j h is. let g = was j h is in subst (Is marks Open) g.2 (found.opened j g.0 g.1);
    once = λ j k a b is_a is_b same.
        let g = was j a is_a in let h = was k b is_b in found.once j k g.0 h.0 g.1 h.1 (g.2 ∙ same ∙ sym h.2);
    reached = λ j h is. let g = was j h is in subst (WalksTo step 0) g.2 (found.reached j g.0 g.1);
    way = λ j k a b le is_a is_b.
        let g = was j a is_a in
        let h = was k b is_b in
        subst (WalksTo step a.node) h.2 (subst (λ n. WalksTo step n h.0.node) g.2 (found.way j k g.0 h.0 le g.1 h.1));
    taken = λ j h is k s le stands. elim (eqb_tells j i) [
      | inl same ↦
          let e : lower ≡ h = same_Some lower h (sym there ∙ ap (slice_get (set frames i lower)) (sym same.1) ∙ is) in
          let of_f : step f.node k ≡ Some s = ap (λ (x : Frame). step x.node k) e ∙ stands in
          let low : left ≤ k = subst (λ (x : Frame). x.left ≤ k) (sym e) le in
          elim (eqb_tells k left) [
            | inl last ↦ seen s (ap (step f.node) (sym last.1) ∙ of_f)
            | inr later ↦ found.taken i f at k s (let other = later.1 in omega (arith, low, less, other)) of_f
          ]
      | inr other ↦ found.taken j h (sym (slice_get_set frames i j lower other.1) ∙ is) k s le stands
    ];
  }

-- what is left of frames
pub one_less : (frames : List Frame) (i left : ℕ) (f : Frame) → slice_get frames i ≡ Some f → f.left ≡ suc left →
    frames_left (set frames i (record { node = f.node; left = left })) + 1 ≡ frames_left frames
one_less [] i left f at less = absurd (none-some f at)
one_less (g ∷ fs) zero left f at less =
    let same : g.left ≡ f.left = ap (λ x. x.left) (same_Some g f at) in omega (arith, same, less)
one_less (g ∷ fs) (suc i) left f at less = let r = one_less fs i left f at less in omega (arith, r)

pub taken_less : (most : ℕ) (marks old_marks : List Mark) (frames old_frames : List Frame) (i left : ℕ) (f : Frame) →
    slice_get frames i ≡ Some f → f.left ≡ suc left → nested_left most marks frames ≤ nested_left most old_marks old_frames →
    nested_left most marks (set frames i (record { node = f.node; left = left })) < nested_left most old_marks old_frames
taken_less most marks old_marks frames old_frames i left f at less before =
    let one = one_less frames i left f at less in omega (arith, one, before)

-- the frame that is read is the one that stands there
pub frame_read : (frames : List Frame) (i : ℕ) (f g : Frame) → slice_get frames i ≡ Some f → g ≡ get_or frames i g → f ≡ g
frame_read frames i f g at read =
    same_Some f g (sym at ∙ slice_get-get_or frames i g (slice_get_within frames i f at) ∙ ap Some (sym read))
