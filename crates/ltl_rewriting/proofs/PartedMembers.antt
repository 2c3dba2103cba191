-- The members of a list, of which those that hold always or sometime stand apart, hold where the list does.
use Rattle.std.proofs.Common.{◌≡◌, ◌∙◌, ℕ, Bool, true, false, ◌&&◌, ◌||◌, List, [], ◌∷◌, ◌++◌, map, sym, ap, subst}
use Rattle.std.proofs.Math.Bool.{and_assoc, and_comm, and-true, or_assoc, or_comm, or-false}
use Rattle.loop_shape.specs.AlongLoop.{until_at, release_at}
use Rattle.ltl_formula.specs.declared.formula.Ltl.{Ltl}
use Rattle.ltl_formula.specs.LtlTree.{LtlTree, LtlTrees, ltl_tree, ltl_formulas_of, top, bottom, conjunction, disjunction, until, release}
use Rattle.ltl_formula.specs.LetterLoop.{LetterLoop, shape_of, holds, holds_all, holds_any}
use Rattle.ltl_rewriting.specs.SameMeaning.{MeansSame}
use Rattle.ltl_rewriting.specs.internal.Members.{all_apart, any_apart}
use Rattle.ltl_rewriting.proofs.MergedTruths.{sometime_merged, always_merged, false_never, true_always}

and_to_front : (a b c : Bool) → ((a && b) && c) ≡ (b && (a && c))
and_to_front a b c = ap (λ d. d && c) (and_comm a b) ∙ and_assoc b a c

and_last_to_front : (a b c : Bool) → (a && (b && c)) ≡ (c && (a && b))
and_last_to_front a b c = sym (and_assoc a b c) ∙ and_comm (a && b) c

or_to_front : (a b c : Bool) → ((a || b) || c) ≡ (b || (a || c))
or_to_front a b c = ap (λ d. d || c) (or_comm a b) ∙ or_assoc b a c

or_last_to_front : (a b c : Bool) → (a || (b || c)) ≡ (c || (a || b))
or_last_to_front a b c = sym (or_assoc a b c) ∙ or_comm (a || b) c

-- lists with one more member
module _ (loop : LetterLoop) where
  pub all_pushed : (fs : List Ltl) (f : Ltl) (i : ℕ) →
      holds_all loop (ltl_formulas_of (map ltl_tree (fs ++ f ∷ []))) i
      ≡ (holds_all loop (ltl_formulas_of (map ltl_tree fs)) i && holds loop (ltl_tree f) i)
  all_pushed [] f i = and-true (holds loop (ltl_tree f) i)
  all_pushed (g ∷ fs) f i =
      ap (λ r. holds loop (ltl_tree g) i && r) (all_pushed fs f i)
      ∙ sym (and_assoc (holds loop (ltl_tree g) i) (holds_all loop (ltl_formulas_of (map ltl_tree fs)) i) (holds loop (ltl_tree f) i))

  pub any_pushed : (fs : List Ltl) (f : Ltl) (i : ℕ) →
      holds_any loop (ltl_formulas_of (map ltl_tree (fs ++ f ∷ []))) i
      ≡ (holds_any loop (ltl_formulas_of (map ltl_tree fs)) i || holds loop (ltl_tree f) i)
  any_pushed [] f i = or-false (holds loop (ltl_tree f) i)
  any_pushed (g ∷ fs) f i =
      ap (λ r. holds loop (ltl_tree g) i || r) (any_pushed fs f i)
      ∙ sym (or_assoc (holds loop (ltl_tree g) i) (holds_any loop (ltl_formulas_of (map ltl_tree fs)) i) (holds loop (ltl_tree f) i))

  -- a member that is put
  pub always_put : (always others : List Ltl) (left : LtlTree) (right : Ltl) (i : ℕ) → left ≡ bottom →
      all_apart loop (map ltl_tree (always ++ right ∷ [])) (map ltl_tree others) i
      ≡ (holds loop (release left (ltl_tree right)) i && all_apart loop (map ltl_tree always) (map ltl_tree others) i)
  always_put always others left right i is =
      (λ k. release_at (shape_of loop) (λ _. false) (λ j. all_pushed always right j k) i
      && holds_all loop (ltl_formulas_of (map ltl_tree others)) i)
      ∙ ap (λ b. b && holds_all loop (ltl_formulas_of (map ltl_tree others)) i)
      (always_merged (shape_of loop) (holds_all loop (ltl_formulas_of (map ltl_tree always))) (holds loop (ltl_tree right)) i)
      ∙ and_to_front (release_at (shape_of loop) (λ _. false) (holds_all loop (ltl_formulas_of (map ltl_tree always))) i)
      (release_at (shape_of loop) (λ _. false) (holds loop (ltl_tree right)) i) (holds_all loop (ltl_formulas_of (map ltl_tree others)) i)
      ∙ ap (λ l. holds loop (release l (ltl_tree right)) i && all_apart loop (map ltl_tree always) (map ltl_tree others) i) (sym is)

  pub all_others_put : (always others : List Ltl) (f : Ltl) (i : ℕ) →
      all_apart loop (map ltl_tree always) (map ltl_tree (others ++ f ∷ [])) i
      ≡ (holds loop (ltl_tree f) i && all_apart loop (map ltl_tree always) (map ltl_tree others) i)
  all_others_put always others f i =
      ap (λ b. release_at (shape_of loop) (λ _. false) (holds_all loop (ltl_formulas_of (map ltl_tree always))) i && b)
      (all_pushed others f i)
      ∙ and_last_to_front (release_at (shape_of loop) (λ _. false) (holds_all loop (ltl_formulas_of (map ltl_tree always))) i)
      (holds_all loop (ltl_formulas_of (map ltl_tree others)) i) (holds loop (ltl_tree f) i)

  pub awaited_put : (awaited others : List Ltl) (left : LtlTree) (right : Ltl) (i : ℕ) → left ≡ top →
      any_apart loop (map ltl_tree (awaited ++ right ∷ [])) (map ltl_tree others) i
      ≡ (holds loop (until left (ltl_tree right)) i || any_apart loop (map ltl_tree awaited) (map ltl_tree others) i)
  awaited_put awaited others left right i is =
      (λ k. until_at (shape_of loop) (λ _. true) (λ j. any_pushed awaited right j k) i
      || holds_any loop (ltl_formulas_of (map ltl_tree others)) i)
      ∙ ap (λ b. b || holds_any loop (ltl_formulas_of (map ltl_tree others)) i)
      (sometime_merged (shape_of loop) (holds_any loop (ltl_formulas_of (map ltl_tree awaited))) (holds loop (ltl_tree right)) i)
      ∙ or_to_front (until_at (shape_of loop) (λ _. true) (holds_any loop (ltl_formulas_of (map ltl_tree awaited))) i)
      (until_at (shape_of loop) (λ _. true) (holds loop (ltl_tree right)) i) (holds_any loop (ltl_formulas_of (map ltl_tree others)) i)
      ∙ ap (λ l. holds loop (until l (ltl_tree right)) i || any_apart loop (map ltl_tree awaited) (map ltl_tree others) i) (sym is)

  pub any_others_put : (awaited others : List Ltl) (f : Ltl) (i : ℕ) →
      any_apart loop (map ltl_tree awaited) (map ltl_tree (others ++ f ∷ [])) i
      ≡ (holds loop (ltl_tree f) i || any_apart loop (map ltl_tree awaited) (map ltl_tree others) i)
  any_others_put awaited others f i =
      ap (λ b. until_at (shape_of loop) (λ _. true) (holds_any loop (ltl_formulas_of (map ltl_tree awaited))) i || b)
      (any_pushed others f i)
      ∙ or_last_to_front (until_at (shape_of loop) (λ _. true) (holds_any loop (ltl_formulas_of (map ltl_tree awaited))) i)
      (holds_any loop (ltl_formulas_of (map ltl_tree others)) i) (holds loop (ltl_tree f) i)

  -- both lists as one formula
  pub all_joined : (always others pushed : List Ltl) (part : Ltl) (made : LtlTree) (i : ℕ) →
      ltl_tree part ≡ release bottom (conjunction (ltl_formulas_of (map ltl_tree always))) → pushed ≡ others ++ part ∷ [] →
      made ≡ conjunction (ltl_formulas_of (map ltl_tree pushed)) →
      holds loop made i ≡ all_apart loop (map ltl_tree always) (map ltl_tree others) i
  all_joined always others pushed part made i is grown made_is =
      ap (λ f. holds loop f i) made_is
      ∙ ap (λ (fs : List Ltl). holds_all loop (ltl_formulas_of (map ltl_tree fs)) i) grown
      ∙ all_pushed others part i
      ∙ ap (λ f. holds_all loop (ltl_formulas_of (map ltl_tree others)) i && holds loop f i) is
      ∙ and_comm (holds_all loop (ltl_formulas_of (map ltl_tree others)) i)
      (holds loop (release bottom (conjunction (ltl_formulas_of (map ltl_tree always)))) i)

  pub all_alone : (always others : List Ltl) (made : LtlTree) (i : ℕ) → always ≡ [] →
      made ≡ conjunction (ltl_formulas_of (map ltl_tree others)) →
      holds loop made i ≡ all_apart loop (map ltl_tree always) (map ltl_tree others) i
  all_alone always others made i none made_is =
      ap (λ f. holds loop f i) made_is
      ∙ ap (λ b. b && holds_all loop (ltl_formulas_of (map ltl_tree others)) i) (sym (true_always (shape_of loop) i))
      ∙ ap (λ (fs : List Ltl). all_apart loop (map ltl_tree fs) (map ltl_tree others) i) (sym none)

  pub any_joined : (awaited others pushed : List Ltl) (part : Ltl) (made : LtlTree) (i : ℕ) →
      ltl_tree part ≡ until top (disjunction (ltl_formulas_of (map ltl_tree awaited))) → pushed ≡ others ++ part ∷ [] →
      made ≡ disjunction (ltl_formulas_of (map ltl_tree pushed)) →
      holds loop made i ≡ any_apart loop (map ltl_tree awaited) (map ltl_tree others) i
  any_joined awaited others pushed part made i is grown made_is =
      ap (λ f. holds loop f i) made_is
      ∙ ap (λ (fs : List Ltl). holds_any loop (ltl_formulas_of (map ltl_tree fs)) i) grown
      ∙ any_pushed others part i
      ∙ ap (λ f. holds_any loop (ltl_formulas_of (map ltl_tree others)) i || holds loop f i) is
      ∙ or_comm (holds_any loop (ltl_formulas_of (map ltl_tree others)) i)
      (holds loop (until top (disjunction (ltl_formulas_of (map ltl_tree awaited)))) i)

  pub any_alone : (awaited others : List Ltl) (made : LtlTree) (i : ℕ) → awaited ≡ [] →
      made ≡ disjunction (ltl_formulas_of (map ltl_tree others)) →
      holds loop made i ≡ any_apart loop (map ltl_tree awaited) (map ltl_tree others) i
  any_alone awaited others made i none made_is =
      ap (λ f. holds loop f i) made_is
      ∙ ap (λ b. b || holds_any loop (ltl_formulas_of (map ltl_tree others)) i) (sym (false_never (shape_of loop) i))
      ∙ ap (λ (fs : List Ltl). any_apart loop (map ltl_tree fs) (map ltl_tree others) i) (sym none)

  -- what the loops over members keep
  pub all_begun : (always others : List Ltl) (whole : LtlTrees) (i : ℕ) → always ≡ [] → others ≡ [] →
      (holds_all loop whole i && all_apart loop (map ltl_tree always) (map ltl_tree others) i) ≡ holds_all loop whole i
  all_begun always others whole i no_always no_others =
      (λ k. holds_all loop whole i && all_apart loop (map ltl_tree (no_always k)) (map ltl_tree (no_others k)) i)
      ∙ ap (λ b. holds_all loop whole i && (b && true)) (true_always (shape_of loop) i) ∙ and-true (holds_all loop whole i)

  pub all_step : (rest : List Ltl) (f : Ltl) (whole before after : Bool) (i : ℕ) →
      (holds_all loop (ltl_formulas_of (map ltl_tree (rest ++ f ∷ []))) i && before) ≡ whole →
      after ≡ (holds loop (ltl_tree f) i && before) → (holds_all loop (ltl_formulas_of (map ltl_tree rest)) i && after) ≡ whole
  all_step rest f whole before after i kept step =
      ap (λ b. holds_all loop (ltl_formulas_of (map ltl_tree rest)) i && b) step
      ∙ sym (and_assoc (holds_all loop (ltl_formulas_of (map ltl_tree rest)) i) (holds loop (ltl_tree f) i) before)
      ∙ ap (λ b. b && before) (sym (all_pushed rest f i)) ∙ kept

  pub any_begun : (awaited others : List Ltl) (whole : LtlTrees) (i : ℕ) → awaited ≡ [] → others ≡ [] →
      (holds_any loop whole i || any_apart loop (map ltl_tree awaited) (map ltl_tree others) i) ≡ holds_any loop whole i
  any_begun awaited others whole i no_awaited no_others =
      (λ k. holds_any loop whole i || any_apart loop (map ltl_tree (no_awaited k)) (map ltl_tree (no_others k)) i)
      ∙ ap (λ b. holds_any loop whole i || (b || false)) (false_never (shape_of loop) i) ∙ or-false (holds_any loop whole i)

  pub any_step : (rest : List Ltl) (f : Ltl) (whole before after : Bool) (i : ℕ) →
      (holds_any loop (ltl_formulas_of (map ltl_tree (rest ++ f ∷ []))) i || before) ≡ whole →
      after ≡ (holds loop (ltl_tree f) i || before) → (holds_any loop (ltl_formulas_of (map ltl_tree rest)) i || after) ≡ whole
  any_step rest f whole before after i kept step =
      ap (λ b. holds_any loop (ltl_formulas_of (map ltl_tree rest)) i || b) step
      ∙ sym (or_assoc (holds_any loop (ltl_formulas_of (map ltl_tree rest)) i) (holds loop (ltl_tree f) i) before)
      ∙ ap (λ b. b || before) (sym (any_pushed rest f i)) ∙ kept

-- at their end
pub all_ended : (fs : List Ltl) (made : LtlTree) (always others : List LtlTree) (whole : LtlTrees) → fs ≡ [] →
    ((loop : LetterLoop) (i : ℕ) →
    (holds_all loop (ltl_formulas_of (map ltl_tree fs)) i && all_apart loop always others i) ≡ holds_all loop whole i) →
    ((loop : LetterLoop) (i : ℕ) → holds loop made i ≡ all_apart loop always others i) → MeansSame made (conjunction whole)
all_ended fs made always others whole none kept is loop i p =
    is loop i
    ∙ subst (λ (gs : List Ltl). (holds_all loop (ltl_formulas_of (map ltl_tree gs)) i && all_apart loop always others i) ≡ holds_all loop whole i)
    none (kept loop i)

pub any_ended : (fs : List Ltl) (made : LtlTree) (awaited others : List LtlTree) (whole : LtlTrees) → fs ≡ [] →
    ((loop : LetterLoop) (i : ℕ) →
    (holds_any loop (ltl_formulas_of (map ltl_tree fs)) i || any_apart loop awaited others i) ≡ holds_any loop whole i) →
    ((loop : LetterLoop) (i : ℕ) → holds loop made i ≡ any_apart loop awaited others i) → MeansSame made (disjunction whole)
any_ended fs made awaited others whole none kept is loop i p =
    is loop i
    ∙ subst (λ (gs : List Ltl). (holds_any loop (ltl_formulas_of (map ltl_tree gs)) i || any_apart loop awaited others i) ≡ holds_any loop whole i)
    none (kept loop i)
