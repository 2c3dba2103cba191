-- A loop that looks for a signal among those that are controlled, and loops that add updates.
use Rattle.std.proofs.Common.{◌≡◌, ◌∙◌, ℕ, suc, ◌+◌, ◌<◌, cond, ◌==◌, List, [], ◌∷◌, length, map, drop, get_or}
use Rattle.std.proofs.Common.{Option, Some, None, slice_get, refl, sym, ap, arith, eq-eqb}
use Rattle.std.proofs.Common.{Bor, IfSome, IfNone, is_some, nat_lt}
use Rattle.std.proofs.lemmas.Bool.{false_from_ne_true, eqb-true, ltb-true, ltb-false}
use Rattle.std.proofs.lemmas.Option.{slice_get_read, slice_get_past}
use Rattle.std.proofs.lemmas.List.{drop_more, drop_all, length-map}
use Rattle.base_library.proofs.Lists.{left_at}
use Rattle.tsl_terms.specs.declared.term.Term.{Term}
use Rattle.tsl_terms.specs.TermTree.{TermTree, term_tree}
use Rattle.letter_space.specs.declared.controlled.Controlled.{Controlled}
use Rattle.letter_space.specs.SpaceTree.{ControlledTree}
use Rattle.letter_space.specs.ControlledView.{controlled_tree}
use Rattle.letter_space.specs.Letters.{term_taken}
use Rattle.letter_space.specs.Vectors.{picks_of}
use Rattle.letter_space.proofs.Places.{slice_get_image}

module _ (xs : List Controlled) (picks : List ℕ) (s : ℕ) where
  abbrev pub taken_from : ℕ → Option TermTree
  taken_from i = term_taken (map controlled_tree (drop i xs)) (drop i picks) s

  taken_split : (i : ℕ) (x : Controlled) → i < length xs → length picks ≡ length xs → x ≡ get_or xs i x →
      taken_from i ≡ cond (x.signal == s) (slice_get (map term_tree x.choices) (get_or picks i 0)) (taken_from (i + 1))
  taken_split i x within sized is =
      (λ k. term_taken (map controlled_tree (left_at xs i x within is k)) (drop_more picks i 0 (omega (arith, within, sized)) k) s)

  pub taken_next : (i : ℕ) (x : Controlled) → i < length xs → length picks ≡ length xs → x ≡ get_or xs i x → (x.signal ≡ s → ⊥) →
      taken_from i ≡ taken_from (i + 1)
  taken_next i x within sized is differs =
      taken_split i x within sized is
      ∙ ap (λ b. cond b (slice_get (map term_tree x.choices) (get_or picks i 0)) (taken_from (i + 1)))
      (false_from_ne_true (x.signal == s) (λ same. differs (eqb-true x.signal s same)))

  pub taken_here : (i pick : ℕ) (x : Controlled) → i < length xs → length picks ≡ length xs → x ≡ get_or xs i x → x.signal ≡ s →
      pick ≡ get_or picks i 0 → taken_from i ≡ slice_get (map term_tree x.choices) pick
  taken_here i pick x within sized is same picked =
      taken_split i x within sized is
      ∙ ap (λ b. cond b (slice_get (map term_tree x.choices) (get_or picks i 0)) (taken_from (i + 1))) (eq-eqb x.signal s same)
      ∙ ap (slice_get (map term_tree x.choices)) (sym picked)

  pub taken_end : (i : ℕ) → length xs ≡ i → taken_from i ≡ None
  taken_end i end =
      ap (λ (ys : List Controlled). term_taken (map controlled_tree ys) (drop i picks) s) (drop_all i xs (omega (arith, end)))

-- how many choices a vector picks
pub picks_counted : (cs : List ControlledTree) (vector : ℕ) → length (picks_of cs vector) ≡ length cs
picks_counted [] vector = refl
picks_counted (c ∷ cs) vector = ap suc (picks_counted cs _)

-- a term that is looked up, where it is the one that is wanted
module _ (xs : List Term) (n : ℕ) (found : Option (Bor Term)) (wanted : Option TermTree) (is : wanted ≡ slice_get (map term_tree xs) n)
    (there : is_some found ≡ nat_lt n (length xs)) where
  pub looked_up : IfSome found (λ x. x.now ≡ get_or xs n x.now) → IfSome found (λ x. wanted ≡ Some (term_tree x.now))
  looked_up same = by found there same
    where
      by : (o : Option (Bor Term)) → is_some o ≡ nat_lt n (length xs) → IfSome o (λ x. x.now ≡ get_or xs n x.now) →
          IfSome o (λ x. wanted ≡ Some (term_tree x.now))
      by None some here = tt
      by (Some x) some here =
          is ∙ slice_get_image term_tree xs n x.now
          (slice_get_read xs (length xs) n x.now refl (ltb-true n (length xs) (sym some)) here)

  pub none_looked_up : IfNone found (wanted ≡ None)
  none_looked_up = by found there
    where
      by : (o : Option (Bor Term)) → is_some o ≡ nat_lt n (length xs) → IfNone o (wanted ≡ None)
      by None none = is ∙ slice_get_past (map term_tree xs) n (omega (arith, ltb-false n (length xs) (sym none), length-map xs term_tree))
      by (Some x) some = tt
