-- What the inner search leaves as it is, what it changes, and that a node that is met makes it go on.
use Rattle.std.proofs.Common.{◌≡◌, ◌∙◌, ℕ, zero, suc, ◌+◌, ◌<◌, inl, inr, Bool, true, false, cond, List, [], ◌∷◌, ◌++◌, length}
use Rattle.std.proofs.Common.{set, get_or, Option, Some, slice_get, refl, sym, ap, subst, arith, length-append}
use Rattle.std.proofs.lemmas.Bool.{false≢true}
use Rattle.std.proofs.lemmas.Bool.Decides.{eqb_tells}
use Rattle.std.proofs.lemmas.Option.{none-some, same_Some, slice_get-get_or, slice_get_within, get_or_from_slice_get}
use Rattle.std.proofs.lemmas.List.{length-set}
use Rattle.base_library.proofs.Places.{slice_get_set, slice_get_set_same, slice_get_push, slice_get_grown, slice_get-behind}
use Rattle.loop_acceptance.specs.declared.marks.Mark.{Mark}
use Rattle.loop_acceptance.specs.declared.marks.Mark.TheVariants.{New, Open, Done, Red}
use Rattle.loop_acceptance.specs.internal.Search.{is_new, is_open, is_done, marks_met, red_met, marks_weight}
use Rattle.loop_acceptance.specs.internal.Search.{Is, IsFinished, IsNotNew, AreRed, HasReddened}

-- a node has one mark
pub two_marks : (test : Mark → Bool) (o : Option Mark) (a b : Mark) → o ≡ Some a → o ≡ Some b → test a ≡ true → test b ≡ false → ⊥
two_marks test o a b at_a at_b ta tb = false≢true (sym tb ∙ ap test (same_Some b a (sym at_b ∙ at_a)) ∙ ta)

pub open_unfinished : (marks : List Mark) (p : ℕ) → Is marks Open p → IsFinished marks p → ⊥
open_unfinished marks p held (inl done) = two_marks is_open (slice_get marks p) Open Done held done refl refl
open_unfinished marks p held (inr red) = two_marks is_open (slice_get marks p) Open Red held red refl refl

-- ---- what marks weigh

pub weight_set : (test : Mark → Bool) (each : ℕ) (marks : List Mark) (p : ℕ) (a b : Mark) → slice_get marks p ≡ Some a → test a ≡ true →
    test b ≡ false → marks_weight test each (set marks p b) + each ≡ marks_weight test each marks
weight_set test each [] p a b at ta tb = absurd (none-some a at)
weight_set test each (m ∷ ms) zero a b at ta tb =
    let same : m ≡ a = same_Some m a at in
    let one : cond {A = ℕ} (test m) each 0 ≡ each = ap (λ t. cond t each 0) (ap test same ∙ ta) in
    let none : cond {A = ℕ} (test b) each 0 ≡ 0 = ap (λ t. cond t each 0) tb in
    omega (arith, one, none)
weight_set test each (m ∷ ms) (suc p) a b at ta tb = let r = weight_set test each ms p a b at ta tb in omega (arith, r)

pub weight_kept : (test : Mark → Bool) (each : ℕ) (marks : List Mark) (p : ℕ) (a b : Mark) → slice_get marks p ≡ Some a →
    test b ≡ test a → marks_weight test each (set marks p b) ≡ marks_weight test each marks
weight_kept test each [] p a b at same = absurd (none-some a at)
weight_kept test each (m ∷ ms) zero a b at same =
    ap (λ t. cond t each 0 + marks_weight test each ms) (same ∙ ap test (sym (same_Some m a at)))
weight_kept test each (m ∷ ms) (suc p) a b at same = ap (λ w. cond (test m) each 0 + w) (weight_kept test each ms p a b at same)

-- ---- going on

module _ (P : ℕ → Type 0) (old : List Mark) (old_red : List ℕ) (marks : List Mark) (red : List ℕ) (g : HasReddened P old old_red marks
    red) where
  pub red_stays : (p : ℕ) → Is old Red p → Is marks Red p
  red_stays p at = elim (g.changes p) [ inl same ↦ same ∙ at | inr changed ↦ changed.1 ]

  pub open_stays : (p : ℕ) → Is old Open p → Is marks Open p
  open_stays p at = elim (g.changes p) [
    | inl same ↦ same ∙ at
    | inr changed ↦ absurd (two_marks is_open (slice_get old p) Open Done at changed.0 refl refl)
  ]

  pub open_was : (p : ℕ) → Is marks Open p → Is old Open p
  open_was p at = elim (g.changes p) [
    | inl same ↦ sym same ∙ at
    | inr changed ↦ absurd (two_marks is_open (slice_get marks p) Open Red at changed.1 refl refl)
  ]

  pub finished_was : (p : ℕ) → IsFinished marks p → IsFinished old p
  finished_was p (inl done) = elim (g.changes p) [ inl same ↦ inl (sym same ∙ done) | inr changed ↦ inl changed.0 ]
  finished_was p (inr red) = elim (g.changes p) [ inl same ↦ inr (sym same ∙ red) | inr changed ↦ inl changed.0 ]

  pub seen_stays : (p : ℕ) → IsNotNew old p → IsNotNew marks p
  seen_stays p (inl held) = inl (open_stays p held)
  seen_stays p (inr (inl done)) = elim (g.changes p) [ inl same ↦ inr (inl (same ∙ done)) | inr changed ↦ inr (inr changed.1) ]
  seen_stays p (inr (inr red)) = inr (inr (red_stays p red))

pub goes_nowhere : (P : ℕ → Type 0) (marks : List Mark) (red : List ℕ) → AreRed marks red → HasReddened P marks red marks red
goes_nowhere P marks red are = record {
  size = refl;
  changes = λ p. inl refl;
  are_red = are;
  stay = λ i p at. at;
  reached = λ i p at. inl at;
  grows = omega arith;
  fewer = omega arith;
  as_new = λ each. refl;
}

pub goes_for_more : (P Q : ℕ → Type 0) → ((p : ℕ) → P p → Q p) → (old : List Mark) (old_red : List ℕ) (marks : List Mark) (red : List ℕ) →
    HasReddened P old old_red marks red → HasReddened Q old old_red marks red
goes_for_more P Q weaker old old_red marks red g = record {
  size = g.size;
  changes = g.changes;
  are_red = g.are_red;
  stay = g.stay;
  reached = λ i p at. elim (g.reached i p at) [ inl before ↦ inl before | inr holds ↦ inr (weaker p holds) ];
  grows = g.grows;
  fewer = g.fewer;
  as_new = g.as_new;
}

pub goes_further : (P : ℕ → Type 0) (m0 m1 m2 : List Mark) (r0 r1 r2 : List ℕ) → HasReddened P m0 r0 m1 r1 → HasReddened P m1 r1 m2 r2 →
    HasReddened P m0 r0 m2 r2
goes_further P m0 m1 m2 r0 r1 r2 f g = record {
  size = g.size ∙ f.size;
  changes = λ p. elim (f.changes p) [
    | inl same ↦ elim (g.changes p) [ inl also ↦ inl (also ∙ same) | inr changed ↦ inr (sym same ∙ changed.0, changed.1) ]
    | inr changed ↦ inr (changed.0, red_stays P m1 r1 m2 r2 g p changed.1)
  ];
  are_red = g.are_red;
  stay = λ i p at. g.stay i p (f.stay i p at);
  reached = λ i p at. elim (g.reached i p at) [ inl before ↦ f.reached i p before | inr holds ↦ inr holds ];
  grows = let x = f.grows in let y = g.grows in omega (arith, x, y);
  fewer = let x = f.fewer in let y = g.fewer in omega (arith, x, y);
  as_new = λ each. g.as_new each ∙ f.as_new each;
}

done_is : (m : Mark) → is_done m ≡ true → m ≡ Done
done_is New is = absurd (false≢true is)
done_is Open is = absurd (false≢true is)
done_is Done is = refl
done_is Red is = absurd (false≢true is)

-- ---- a node is met

module _ (P : ℕ → Type 0) (marks : List Mark) (red : List ℕ) (are : AreRed marks red) (p : ℕ) (holds : P p) where
  module _ (done : Is marks Done p) where
    within : p < length marks
    within = slice_get_within marks p Done done

    there : Is (set marks p Red) Red p
    there = slice_get_set_same marks p Red within

    red_there : (q : ℕ) → Is marks Red q → Is (set marks p Red) Red q
    red_there q at = elim (eqb_tells q p) [
      | inl same ↦ ap (slice_get (set marks p Red)) same.1 ∙ there
      | inr other ↦ slice_get_set marks p q Red other.1 ∙ at
    ]

    reddened : HasReddened P marks red (set marks p Red) (red ++ p ∷ [])
    reddened = record {
      size = length-set marks p Red;
      changes = λ q. elim (eqb_tells q p) [
        | inl same ↦ inr (ap (slice_get marks) same.1 ∙ done, ap (slice_get (set marks p Red)) same.1 ∙ there)
        | inr other ↦ inl (slice_get_set marks p q Red other.1)
      ];
      are_red = record {
        listed = λ q at. elim (eqb_tells q p) [
          | inl same ↦ (length red, slice_get-behind red p [] ∙ ap Some (sym same.1))
          | inr other ↦
              let r = are.listed q (sym (slice_get_set marks p q Red other.1) ∙ at) in (r.0, slice_get_grown red (p ∷ []) r.0 q r.1)
        ];
        marked = λ i q at. elim (slice_get_push red p i q at) [
          | inl before ↦ red_there q (are.marked i q before.1)
          | inr new ↦ ap (slice_get (set marks p Red)) (sym new.1) ∙ there
        ];
      };
      stay = λ i q at. slice_get_grown red (p ∷ []) i q at;
      reached = λ i q at. elim (slice_get_push red p i q at) [
        | inl before ↦ inl before.1
        | inr new ↦ inr (subst P new.1 holds)
      ];
      grows = let long = length-append red (p ∷ []) in omega (arith, long);
      fewer = let long = length-append red (p ∷ []) in let less = weight_set is_done 1 marks p Done Red done refl refl in
          omega (arith, long, less);
      as_new = λ each. weight_kept is_new each marks p Done Red done refl;
    }

  pub met : IsNotNew marks p → HasReddened P marks red (marks_met marks p) (red_met marks red p)
      × (is_open (get_or marks p New) ≡ false → Is (marks_met marks p) Red p)
  met seen = by (is_done (get_or marks p New)) refl
    where
      within_seen : IsNotNew marks p → p < length marks
      within_seen (inl held) = slice_get_within marks p Open held
      within_seen (inr (inl done)) = slice_get_within marks p Done done
      within_seen (inr (inr red)) = slice_get_within marks p Red red

      at : slice_get marks p ≡ Some (get_or marks p New)
      at = slice_get-get_or marks p New (within_seen seen)

      left : is_done (get_or marks p New) ≡ false → is_open (get_or marks p New) ≡ false → IsNotNew marks p → Is marks Red p
      left undone closed (inl held) = absurd (two_marks is_open (slice_get marks p) Open (get_or marks p New) held at refl closed)
      left undone closed (inr (inl done)) = absurd (two_marks is_done (slice_get marks p) Done (get_or marks p New) done at refl undone)
      left undone closed (inr (inr red)) = red

      by : (b : Bool) → is_done (get_or marks p New) ≡ b
          → HasReddened P marks red (cond b (set marks p Red) marks) (cond b (red ++ p ∷ []) red)
          × (is_open (get_or marks p New) ≡ false → Is (cond b (set marks p Red) marks) Red p)
      by true d = (
        reddened (at ∙ ap Some (done_is (get_or marks p New) d)),
        λ closed. there (at ∙ ap Some (done_is (get_or marks p New) d)),
      )
      by false d = (goes_nowhere P marks red are, λ closed. left d closed seen)

  pub met_as : IsNotNew marks p → (new_marks : List Mark) (new_red : List ℕ) → new_marks ≡ marks_met marks p →
      new_red ≡ red_met marks red p →
      HasReddened P marks red new_marks new_red × (is_open (get_or marks p New) ≡ false → Is new_marks Red p)
  met_as seen new_marks new_red marks_are red_are =
      subst (λ ms. HasReddened P marks red ms new_red × (is_open (get_or marks p New) ≡ false → Is ms Red p)) (sym marks_are)
      (subst (λ r. HasReddened P marks red (marks_met marks p) r × (is_open (get_or marks p New) ≡ false → Is (marks_met marks p) Red p))
      (sym red_are) (met seen))

-- a seen node whose mark is the open one
pub open_at : (marks : List Mark) (p : ℕ) → IsNotNew marks p → is_open (get_or marks p New) ≡ true → Is marks Open p
open_at marks p (inl held) is = held
open_at marks p (inr (inl done)) is = absurd (false≢true (ap is_open (sym (get_or_from_slice_get marks p Done New done)) ∙ is))
open_at marks p (inr (inr red)) is = absurd (false≢true (ap is_open (sym (get_or_from_slice_get marks p Red New red)) ∙ is))
