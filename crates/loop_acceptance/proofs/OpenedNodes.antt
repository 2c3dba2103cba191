-- A node that a search opens.
use Rattle.std.proofs.Common.{◌≡◌, ◌∙◌, ℕ, zero, suc, ◌+◌, ◌-◌, ◌<◌, ◌≤◌, inl, inr, Bool, true, false, cond, List, [], ◌∷◌, ◌++◌}
use Rattle.std.proofs.Common.{length, set, get_or, Option, None, Some, slice_get, refl, sym, ap, subst, arith, length-append, replicate}
use Rattle.std.proofs.lemmas.Bool.{false≢true}
use Rattle.std.proofs.lemmas.Bool.Decides.{eqb_tells}
use Rattle.std.proofs.lemmas.Option.{none-some, slice_get-get_or, slice_get_within}
use Rattle.std.proofs.lemmas.List.{length-set, length-replicate}
use Rattle.base_library.proofs.Places.{slice_get_set, slice_get_set_same, slice_get_push, slice_get_grown, slice_get-behind}
use Rattle.loop_acceptance.specs.declared.product.Step.{Step}
use Rattle.loop_acceptance.specs.declared.marks.Mark.{Mark}
use Rattle.loop_acceptance.specs.declared.marks.Mark.TheVariants.{New, Open, Done, Red}
use Rattle.loop_acceptance.specs.declared.search.Frame.{Frame}
use Rattle.loop_acceptance.specs.internal.Graph.{StepsTo, WalksTo}
use Rattle.loop_acceptance.specs.internal.Search.{is_new, is_open, marks_opened, frames_opened, frames_left, nested_left}
use Rattle.loop_acceptance.specs.internal.Search.{Is, IsFinished, IsNotNew, HasFound, IsNestedSearch}
use Rattle.loop_acceptance.proofs.GoingOn.{two_marks, weight_set}
use Rattle.loop_acceptance.proofs.Walks.{reach_itself, reach_step, reach_both}

new_is : (m : Mark) → is_new m ≡ true → m ≡ New
new_is New is = refl
new_is Open is = absurd (false≢true is)
new_is Done is = absurd (false≢true is)
new_is Red is = absurd (false≢true is)

seen_is : (marks : List Mark) (p : ℕ) (m : Mark) → slice_get marks p ≡ Some m → is_new m ≡ false → IsNotNew marks p
seen_is marks p New at is = absurd (false≢true (sym is))
seen_is marks p Open at is = inl at
seen_is marks p Done at is = inr (inl at)
seen_is marks p Red at is = inr (inr at)

left_more : (frames : List Frame) (f : Frame) → frames_left (frames ++ f ∷ []) ≡ frames_left frames + suc f.left
left_more [] f = omega arith
left_more (g ∷ fs) f = let r = left_more fs f in omega (arith, r)

module _ (step : ℕ → ℕ → Option Step) (nodes : ℕ) (marks : List Mark) (red : List ℕ) (frames : List Frame)
    (found : HasFound step nodes marks red frames) (t places : ℕ) (within : t < nodes)
    (past : (k : ℕ) → places ≤ k → step t k ≡ None) (reached : WalksTo step 0 t)
    (from : (i : ℕ) (f : Frame) → slice_get frames i ≡ Some f → WalksTo step f.node t) where
  abbrev added : Frame
  added = record { node = t; left = places }

  at : slice_get marks t ≡ Some (get_or marks t Open)
  at = slice_get-get_or marks t Open (let size = found.size in omega (arith, size, within))

  module _ (fresh : Is marks New t) where
    abbrev after : List Mark
    after = set marks t Open

    there : Is after Open t
    there = slice_get_set_same marks t Open (slice_get_within marks t New fresh)

    kept : (a : Mark) (p : ℕ) → is_new a ≡ false → Is marks a p → Is after a p
    kept a p old is = elim (eqb_tells p t) [
      | inl same ↦ absurd (two_marks is_new (slice_get marks p) New a (ap (slice_get marks) same.1 ∙ fresh) is refl old)
      | inr other ↦ slice_get_set marks t p Open other.1 ∙ is
    ]

    was : (a : Mark) (p : ℕ) → is_open a ≡ false → Is after a p → Is marks a p
    was a p closed is = elim (eqb_tells p t) [
      | inl same ↦ absurd (two_marks is_open (slice_get after p) Open a (ap (slice_get after) same.1 ∙ there) is refl closed)
      | inr other ↦ sym (slice_get_set marks t p Open other.1) ∙ is
    ]

    seen_kept : (p : ℕ) → IsNotNew marks p → IsNotNew after p
    seen_kept p (inl held) = inl (kept Open p refl held)
    seen_kept p (inr (inl done)) = inr (inl (kept Done p refl done))
    seen_kept p (inr (inr red)) = inr (inr (kept Red p refl red))

    finished_was : (p : ℕ) → IsFinished after p → IsFinished marks p
    finished_was p (inl done) = inl (was Done p refl done)
    finished_was p (inr red) = inr (was Red p refl red)

    grown : HasFound step nodes after red (frames ++ added ∷ [])
    grown = record {
      size = length-set marks t Open ∙ found.size;
      are_red = record {
        listed = λ p is. found.are_red.listed p (was Red p refl is);
        marked = λ i p is. kept Red p refl (found.are_red.marked i p is);
      };
      closed = λ i p less is q leads. kept Red q refl (found.closed i p less is q leads);
      seen = λ p finished k s is. seen_kept s.to (found.seen p (finished_was p finished) k s is);
      never = λ p q finished rejects back. found.never p q (finished_was p finished) rejects back;
      in_frame = λ p held. elim (eqb_tells p t) [
        | inl same ↦ (length frames, added, slice_get-behind frames added [], sym same.1)
        | inr other ↦
            let r = found.in_frame p (sym (slice_get_set marks t p Open other.1) ∙ held) in
            (r.0, r.1, slice_get_grown frames (added ∷ []) r.0 r.1 r.2, r.3)
      ];
      opened = λ i f is. elim (slice_get_push frames added i f is) [
        | inl old ↦ kept Open f.node refl (found.opened i f old.1)
        | inr new ↦ subst (λ (g : Frame). Is after Open g.node) new.1 there
      ];
      once = λ i j f g is_f is_g same. elim (slice_get_push frames added i f is_f) [
        | inl old_f ↦ elim (slice_get_push frames added j g is_g) [
          | inl old_g ↦ found.once i j f g old_f.1 old_g.1 same
          | inr new_g ↦ absurd (two_marks is_new (slice_get marks t) New Open fresh
              (ap (slice_get marks) (ap (λ (x : Frame). x.node) new_g.1 ∙ sym same) ∙ found.opened i f old_f.1) refl refl)
        ]
        | inr new_f ↦ elim (slice_get_push frames added j g is_g) [
          | inl old_g ↦ absurd (two_marks is_new (slice_get marks t) New Open fresh
              (ap (slice_get marks) (ap (λ (x : Frame). x.node) new_f.1 ∙ same) ∙ found.opened j g old_g.1) refl refl)
          | inr new_g ↦ new_f.0 ∙ sym new_g.0
        ]
      ];
      reached = λ i f is. elim (slice_get_push frames added i f is) [
        | inl old ↦ found.reached i f old.1
        | inr new ↦ subst (λ (g : Frame). WalksTo step 0 g.node) new.1 reached
      ];
      way = λ i j f g le is_f is_g. elim (slice_get_push frames added j g is_g) [
        | inl old_g ↦ elim (slice_get_push frames added i f is_f) [
          | inl old_f ↦ found.way i j f g le old_f.1 old_g.1
          | inr new_f ↦
              let w = slice_get_within frames j g old_g.1 in let e = new_f.0 in absurd (omega (arith, w, e, le))
        ]
        | inr new_g ↦ subst (λ (x : Frame). WalksTo step f.node x.node) new_g.1
            (elim (slice_get_push frames added i f is_f) [
              | inl old_f ↦ from i f old_f.1
              | inr new_f ↦ subst (λ (x : Frame). WalksTo step x.node t) new_f.1 (reach_itself step t)
            ])
      ];
      taken = λ i f is k s le stands. elim (slice_get_push frames added i f is) [
        | inl old ↦ seen_kept s.to (found.taken i f old.1 k s le stands)
        | inr new ↦ absurd (none-some s (sym (past k (subst (λ (x : Frame). x.left ≤ k) (sym new.1) le))
            ∙ ap (λ (x : Frame). step x.node k) new.1 ∙ stands))
      ];
    }

  -- what is found where the node is met
  pub record IsOpened (new_marks : List Mark) (new_frames : List Frame) : Type 0 where
    pub finds : HasFound step nodes new_marks red new_frames
    pub there : IsNotNew new_marks t
    pub seen : (p : ℕ) → IsNotNew marks p → IsNotNew new_marks p
    pub stay : (i : ℕ) (f : Frame) → slice_get frames i ≡ Some f → slice_get new_frames i ≡ Some f
    pub long : length frames ≤ length new_frames
    pub left : (most : ℕ) → places ≤ most → nested_left most new_marks new_frames ≤ nested_left most marks frames

  pub opened : IsOpened (marks_opened marks t) (frames_opened marks frames t places)
  opened = by (is_new (get_or marks t Open)) refl
    where
      by : (b : Bool) → is_new (get_or marks t Open) ≡ b →
          IsOpened (cond b (set marks t Open) marks) (cond b (frames ++ added ∷ []) frames)
      by true is =
          let fresh : Is marks New t = at ∙ ap Some (new_is (get_or marks t Open) is) in record {
            finds = grown fresh;
            there = inl (there fresh);
            seen = seen_kept fresh;
            stay = λ i f here. slice_get_grown frames (added ∷ []) i f here;
            long = let l = length-append frames (added ∷ []) in omega (arith, l);
            left = λ most few.
                let less = weight_set is_new (suc most) marks t New Open fresh refl refl in
                let more = left_more frames added in
                omega (arith, less, more, few);
          }
      by false is = record {
        finds = found;
        there = seen_is marks t (get_or marks t Open) at is;
        seen = λ p here. here;
        stay = λ i f here. here;
        long = omega arith;
        left = λ most few. omega arith;
      }

-- ---- where all nodes are new

none_old : (n p : ℕ) (a : Mark) → is_new a ≡ false → slice_get (replicate n New) p ≡ Some a → ⊥
none_old zero p a old is = none-some a is
none_old (suc n) zero a old is = two_marks is_new (Some New) New a refl is refl old
none_old (suc n) (suc p) a old is = none_old n p a old is

none_finished : (n p : ℕ) → IsFinished (replicate n New) p → ⊥
none_finished n p (inl done) = none_old n p Done refl done
none_finished n p (inr red) = none_old n p Red refl red

pub all_new : (step : ℕ → ℕ → Option Step) (nodes : ℕ) → HasFound step nodes (replicate nodes New) [] []
all_new step nodes = record {
  size = length-replicate nodes New;
  are_red = record {
    listed = λ p is. absurd (none_old nodes p Red refl is);
    marked = λ i p is. absurd (none-some p is);
  };
  closed = λ i p less is q leads. absurd (none-some p is);
  seen = λ p finished k s is. absurd (none_finished nodes p finished);
  never = λ p q finished rejects back. none_finished nodes p finished;
  in_frame = λ p held. absurd (none_old nodes p Open refl held);
  opened = λ i f is. absurd (none-some f is);
  once = λ i j f g is_f is_g same. absurd (none-some f is_f);
  reached = λ i f is. absurd (none-some f is);
  way = λ i j f g le is_f is_g. absurd (none-some f is_f);
  taken = λ i f is k s le stands. absurd (none-some f is);
}

-- ---- as a search goes on

-- what a step of the last open node opens, under names of its own for what is found then
pub record IsOpenedAlong (step : ℕ → ℕ → Option Step) (nodes : ℕ) (marks : List Mark) (frames : List Frame) (t most : ℕ)
    (new_marks : List Mark) (new_red : List ℕ) (new_frames : List Frame) : Type 0 where
  pub search : IsNestedSearch step nodes new_marks new_red new_frames
  pub seen : IsNotNew new_marks t
  pub stay : (i : ℕ) (f : Frame) → slice_get frames i ≡ Some f → slice_get new_frames i ≡ Some f
  pub left : nested_left most new_marks new_frames ≤ nested_left most marks frames

pub opened_along : (step : ℕ → ℕ → Option Step) (nodes : ℕ) (marks : List Mark) (red : List ℕ) (frames : List Frame)
    → IsNestedSearch step nodes marks red frames → (top : ℕ) (f : Frame) → top ≡ length frames - 1 → slice_get frames top ≡ Some f
    → (t : ℕ) → StepsTo step f.node t → t < nodes → (places most : ℕ) → ((k : ℕ) → places ≤ k → step t k ≡ None) → places ≤ most
    → (new_marks : List Mark) (new_red : List ℕ) (new_frames : List Frame) → new_marks ≡ marks_opened marks t → new_red ≡ red
    → new_frames ≡ frames_opened marks frames t places → IsOpenedAlong step nodes marks frames t most new_marks new_red new_frames
opened_along step nodes marks red frames search top f last at t leads within places most past few new_marks new_red new_frames
    marks_are red_is frames_are =
    let on = reach_step step f.node t leads in
    let made = opened step nodes marks red frames search.found t places within past
    (reach_both step 0 f.node t (search.found.reached top f at) on)
    (λ i g is. let w = slice_get_within frames i g is in
    reach_both step g.node f.node t (search.found.way i top g f (omega (arith, w, last)) is at) on) in
    subst (λ fs. IsOpenedAlong step nodes marks frames t most new_marks new_red fs) (sym frames_are)
    (subst (λ r. IsOpenedAlong step nodes marks frames t most new_marks r (frames_opened marks frames t places)) (sym red_is)
    (subst (λ ms. IsOpenedAlong step nodes marks frames t most ms red (frames_opened marks frames t places)) (sym marks_are)
    (record {
      search = record { first = made.seen 0 search.first; found = made.finds };
      seen = made.there;
      stay = made.stay;
      left = made.left most few;
    })))

-- the first node of all
pub opened_first : (step : ℕ → ℕ → Option Step) (nodes : ℕ) → 0 < nodes → (places : ℕ) → ((k : ℕ) → places ≤ k → step 0 k ≡ None)
    → (marks : List Mark) (red : List ℕ) (frames : List Frame) → marks ≡ replicate nodes New → red ≡ [] → frames ≡ []
    → (new_marks : List Mark) (new_frames : List Frame) → new_marks ≡ marks_opened marks 0
    → new_frames ≡ frames_opened marks frames 0 places → IsNestedSearch step nodes new_marks red new_frames
opened_first step nodes some places past marks red frames marks_new red_none frames_none new_marks new_frames marks_are frames_are =
    let start : HasFound step nodes marks red frames =
    subst (λ fs. HasFound step nodes marks red fs) (sym frames_none)
    (subst (λ r. HasFound step nodes marks r []) (sym red_none)
    (subst (λ ms. HasFound step nodes ms [] []) (sym marks_new) (all_new step nodes))) in
    let made = opened step nodes marks red frames start 0 places some past (reach_itself step 0)
    (λ i g is. absurd (none-some g (ap (λ fs. slice_get fs i) (sym frames_none) ∙ is))) in
    subst (λ fs. IsNestedSearch step nodes new_marks red fs) (sym frames_are)
    (subst (λ ms. IsNestedSearch step nodes ms red (frames_opened marks frames 0 places)) (sym marks_are)
    (record { first = made.there; found = made.finds }))
