-- The search leaves the last held node, from which no rejecting step leads back; or it has found a turn.
use Rattle.std.proofs.Common.{◌≡◌, ◌∙◌, ℕ, zero, suc, ◌+◌, ◌<◌, ◌≤◌, inl, inr, ◌⊎◌, Bool, true, false, List, [], ◌∷◌, length, take, set}
use Rattle.std.proofs.Common.{Option, Some, slice_get, refl, sym, ap, subst, arith}
use Rattle.std.proofs.lemmas.Bool.Decides.{eqb_tells}
use Rattle.std.proofs.lemmas.Option.{none-some, same_Some, slice_get_within}
use Rattle.std.proofs.lemmas.List.{length-set}
use Rattle.base_library.proofs.Places.{slice_get_set, slice_get_set_same, slice_get-take, slice_get_taken}
use Rattle.loop_acceptance.specs.declared.product.Step.{Step}
use Rattle.loop_acceptance.specs.declared.marks.Mark.{Mark}
use Rattle.loop_acceptance.specs.declared.marks.Mark.TheVariants.{New, Open, Done, Red}
use Rattle.loop_acceptance.specs.declared.search.Frame.{Frame}
use Rattle.loop_acceptance.specs.internal.Graph.{StepsTo, Rejects, WalksTo, TurnFrom}
use Rattle.loop_acceptance.specs.internal.Search.{is_new, is_open, frames_left, nested_left, Is, IsFinished, IsNotNew, HasReddened, TurnsTo}
use Rattle.loop_acceptance.specs.internal.Search.{AreClosed, HasFound, IsNestedSearch}
use Rattle.loop_acceptance.proofs.GoingOn.{two_marks, weight_kept, open_stays, open_was, finished_was, seen_stays}
use Rattle.loop_acceptance.proofs.Walks.{reach_both, reach_stays}

module _ (step : ℕ → ℕ → Option Step) (nodes : ℕ) (old : List Mark) (old_red : List ℕ) (frames : List Frame)
    (search : IsNestedSearch step nodes old old_red frames) (top : ℕ) (f : Frame) (at : slice_get frames top ≡ Some f)
    (last : top + 1 ≡ length frames) where
  found : HasFound step nodes old old_red frames
  found = search.found

  -- an held node that the last one turns to closes a turn
  pub turn_found : (q : ℕ) → TurnsTo step f.node q → Is old Open q → TurnFrom step 0
  turn_found q turns held =
      let r = found.in_frame q held in
      let below : r.0 ≤ top = (let w = slice_get_within frames r.0 r.1 r.2 in omega (arith, w, last)) in
      let way = subst (λ n. WalksTo step n f.node) r.3 (found.way r.0 top r.1 f below r.2 at) in
      record {
        node = f.node;
        next = turns.0;
        reached = found.reached top f at;
        rejects = turns.1;
        back = reach_both step turns.0 q f.node turns.2 way;
      }

  module _ (marks : List Mark) (red : List ℕ) (on : HasReddened (TurnsTo step f.node) old old_red marks red)
      (closed : AreClosed step marks red (length red)) (turned : (q : ℕ) → Rejects step f.node q → Is marks Red q)
      (done : f.left ≡ 0) where
    abbrev after : List Mark
    after = set marks f.node Done

    abbrev P : ℕ → Type 0
    P = TurnsTo step f.node

    open_last : Is marks Open f.node
    open_last = open_stays P old old_red marks red on f.node (found.opened top f at)

    there : Is after Done f.node
    there = slice_get_set_same marks f.node Done (slice_get_within marks f.node Open open_last)

    kept : (a : Mark) (p : ℕ) → is_open a ≡ false → Is marks a p → Is after a p
    kept a p not_open is = elim (eqb_tells p f.node) [
      | inl same ↦ absurd (two_marks is_open (slice_get marks p) Open a (ap (slice_get marks) same.1 ∙ open_last) is refl not_open)
      | inr other ↦ slice_get_set marks f.node p Done other.1 ∙ is
    ]

    red_was : (p : ℕ) → Is after Red p → Is marks Red p
    red_was p is = elim (eqb_tells p f.node) [
      | inl same ↦ absurd (two_marks is_red (slice_get after p) Red Done is (ap (slice_get after) same.1 ∙ there) refl refl)
      | inr other ↦ sym (slice_get_set marks f.node p Done other.1) ∙ is
    ]
      where
        is_red : Mark → Bool
        is_red New = false
        is_red Open = false
        is_red Done = false
        is_red Red = true

    seen_kept : (p : ℕ) → IsNotNew marks p → IsNotNew after p
    seen_kept p (inl held) = elim (eqb_tells p f.node) [
      | inl same ↦ inr (inl (ap (slice_get after) same.1 ∙ there))
      | inr other ↦ inl (slice_get_set marks f.node p Done other.1 ∙ held)
    ]
    seen_kept p (inr (inl is)) = inr (inl (kept Done p refl is))
    seen_kept p (inr (inr is)) = inr (inr (kept Red p refl is))

    seen_then : (p : ℕ) → IsNotNew old p → IsNotNew after p
    seen_then p is = seen_kept p (seen_stays P old old_red marks red on p is)

    -- a node that is finished then is the last one, or was finished before
    was : (p : ℕ) → IsFinished after p → (p ≡ f.node) ⊎ IsFinished old p
    was p finished = elim (eqb_tells p f.node) [
      | inl same ↦ inl same.1
      | inr other ↦ inr (finished_was P old old_red marks red on p (before other.1 finished))
    ]
      where
        before : (p ≡ f.node → ⊥) → IsFinished after p → IsFinished marks p
        before other (inl is) = inl (sym (slice_get_set marks f.node p Done other) ∙ is)
        before other (inr is) = inr (sym (slice_get_set marks f.node p Done other) ∙ is)

    red_step : (p q : ℕ) → Is marks Red p → StepsTo step p q → Is marks Red q
    red_step p q is leads = let r = on.are_red.listed p is in closed r.0 p (slice_get_within red r.0 p r.1) r.1 q leads

    never_last : (q : ℕ) → Rejects step f.node q → WalksTo step q f.node → ⊥
    never_last q rejects back =
        two_marks is_open (slice_get marks f.node) Open Red open_last
        (reach_stays step (Is marks Red) red_step q f.node (turned q rejects) back) refl refl

    -- a frame that is left, and its node
    below : (i : ℕ) (g : Frame) → slice_get (take top frames) i ≡ Some g → (i < top) × (slice_get frames i ≡ Some g)
    below i g is = let r = slice_get-take top frames i g is in (r.0, r.1)

    apart : (i : ℕ) (g : Frame) → i < top → slice_get frames i ≡ Some g → g.node ≡ f.node → ⊥
    apart i g less is same = let e = found.once i top g f is at same in omega (arith, e, less)

    left_behind : HasFound step nodes after red (take top frames)
    left_behind = record {
      size = length-set marks f.node Done ∙ on.size ∙ found.size;
      are_red = record {
        listed = λ p is. on.are_red.listed p (red_was p is);
        marked = λ i p is. kept Red p refl (on.are_red.marked i p is);
      };
      closed = λ i p less is q leads. kept Red q refl (closed i p less is q leads);
      seen = λ p finished k s is. elim (was p finished) [
        | inl same ↦ seen_then s.to (found.taken top f at k s (omega (arith, done)) (ap (λ n. step n k) (sym same) ∙ is))
        | inr before ↦ seen_then s.to (found.seen p before k s is)
      ];
      never = λ p q finished rejects back. elim (was p finished) [
        | inl same ↦ never_last q (subst (λ n. Rejects step n q) same rejects) (subst (WalksTo step q) same back)
        | inr before ↦ found.never p q before rejects back
      ];
      in_frame = λ p held. elim (eqb_tells p f.node) [
        | inl same ↦ absurd (two_marks is_open (slice_get after p) Open Done held (ap (slice_get after) same.1 ∙ there) refl refl)
        | inr other ↦
            let r = found.in_frame p (open_was P old old_red marks red on p (sym (slice_get_set marks f.node p Done other.1) ∙ held)) in
            let w = slice_get_within frames r.0 r.1 r.2 in
            elim (eqb_tells r.0 top) [
              | inl same ↦ absurd (other.1 (sym r.3
                  ∙ ap (λ (x : Frame). x.node) (same_Some r.1 f (sym r.2 ∙ ap (slice_get frames) same.1 ∙ at))))
              | inr away ↦ (
                r.0,
                r.1,
                slice_get_taken top frames r.0 r.1 (let e = away.1 in omega (arith, w, last, e)) r.2,
                r.3,
              )
            ]
      ];
      opened = λ i g is.
          let b = below i g is in
          slice_get_set marks f.node g.node Done (apart i g b.0 b.1)
          ∙ open_stays P old old_red marks red on g.node (found.opened i g b.1);
      once = λ i j g h is_g is_h same. found.once i j g h (below i g is_g).1 (below j h is_h).1 same;
      reached = λ i g is. found.reached i g (below i g is).1;
      way = λ i j g h le is_g is_h. found.way i j g h le (below i g is_g).1 (below j h is_h).1;
      taken = λ i g is k s le stands. seen_then s.to (found.taken i g (below i g is).1 k s le stands);
    }

    pub left : IsNestedSearch step nodes after red (take top frames)
    left = record { first = seen_then 0 search.first; found = left_behind }

    frames_less : (fs : List Frame) (i : ℕ) (g : Frame) → slice_get fs i ≡ Some g → frames_left (take i fs) < frames_left fs
    frames_less [] i g is = absurd (none-some g is)
    frames_less (h ∷ fs) zero g is = omega arith
    frames_less (h ∷ fs) (suc i) g is = let r = frames_less fs i g is in omega (arith, r)

    pub left_less : (most : ℕ) → nested_left most after (take top frames) < nested_left most old frames
    left_less most =
        let w = weight_kept is_new (suc most) marks f.node Open Done open_last refl in
        let v = on.as_new (suc most) in
        let r = frames_less frames top f at in
        omega (arith, w, v, r)
