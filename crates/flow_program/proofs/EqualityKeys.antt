-- Keys of equalities, and lists of equalities by pairs.
use Rattle.std.proofs.Common.{◌≡◌, ℕ, ◌+◌, ◌<◌, Bool, true, false, not, cond, ◌&&◌, ◌||◌, ◌==◌, List, [], ◌∷◌, ◌++◌, length, map, get_or}
use Rattle.std.proofs.Common.{take, drop, Ordering, Vec, Global, refl, ap, sym, ◌∙◌, append_assoc, arith}
use Rattle.std.specs.Prelude.{nat_le, nat_lt, bytes_eq}
use Rattle.std.specs.List.{list_all, list_any}
use Rattle.std.specs.BTreeSet.{BTreeSet, contains, Updates}
use Rattle.std.specs.Ordering.{nat_cmp, is_eq}
use Rattle.std.specs.Cmp.Lexicographic.{slice_cmp}
use Rattle.std.proofs.lemmas.Bool.{false≢true}
use Rattle.std.proofs.lemmas.Bool.Decides.{nat_tests}
use Rattle.std.proofs.lemmas.Grind.{common_steps}
use Rattle.std.proofs.lemmas.Cmp.{same_from_slice_cmp, nat_list_eq_equiv}
use Rattle.std.proofs.lemmas.List.{append-nil, map-append, take_more, take-append-drop}
use Rattle.std.proofs.lemmas.List.Folds.{list_all-append, list_any-append}
use Rattle.std.proofs.Math.Bool.{and-true}
use Rattle.program_listing.specs.declared.listing.SpelledPlaced.{SpelledPlaced}
use Rattle.program_listing.specs.Listing.{SurfaceTermTree, bare, applied, SurfaceTermTrees, no_surfaces, more_surfaces, PlacedLine, name_bytes}
use Rattle.program_listing.specs.Listing.{placed_line}
use Rattle.flow_program.specs.Rules.{same_surface, same_surfaces, may_follow, are_in_order}
use Rattle.flow_program.specs.internal.EqualityKeys.{is_pairwise, does_not_fall, are_apart, surface_key, surfaces_key, placed_key}

-- ---- keys are the same exactly where the spellings are

names_told : (m n u v : List ℕ) → ((length m == length n) && bytes_eq (m ++ u) (n ++ v)) ≡ (bytes_eq m n && bytes_eq u v)
names_told [] [] u v = refl
names_told [] (y ∷ n) u v = grind (arith, nat_tests)
names_told (x ∷ m) [] u v = grind (arith, nat_tests)
names_told (x ∷ m) (y ∷ n) u v = grind (arith, nat_tests, names_told m n u v)

module _ (text : List ℕ) where
  mutual
    surface_told : (p q : SurfaceTermTree) (u v : List ℕ)
        → bytes_eq (surface_key text p ++ u) (surface_key text q ++ v) ≡ (same_surface text p q && bytes_eq u v)
    surface_told (bare m) (bare n) u v = names_told (name_bytes text m) (name_bytes text n) u v
    surface_told (bare m) (applied n qs) u v = refl
    surface_told (applied m ps) (bare n) u v = refl
    surface_told (applied m ps) (applied n qs) u v =
        let names = names_told (name_bytes text m) (name_bytes text n) (surfaces_key text ps ++ u) (surfaces_key text qs ++ v) in
        let arguments = surfaces_told ps qs u v in
        grind (arith, common_steps, append_assoc, names, arguments)

    surfaces_told : (ps qs : SurfaceTermTrees) (u v : List ℕ)
        → bytes_eq (surfaces_key text ps ++ u) (surfaces_key text qs ++ v) ≡ (same_surfaces text ps qs && bytes_eq u v)
    surfaces_told no_surfaces no_surfaces u v = refl
    surfaces_told no_surfaces (more_surfaces q qs) u v = refl
    surfaces_told (more_surfaces p ps) no_surfaces u v = refl
    surfaces_told (more_surfaces p ps) (more_surfaces q qs) u v =
        let first = surface_told p q (surfaces_key text ps ++ u) (surfaces_key text qs ++ v) in
        let rest = surfaces_told ps qs u v in
        grind (arith, common_steps, append_assoc, first, rest)

  key_told : (p q : SurfaceTermTree) → bytes_eq (surface_key text p) (surface_key text q) ≡ same_surface text p q
  key_told p q =
      sym (λ i. bytes_eq (append-nil (surface_key text p) i) (append-nil (surface_key text q) i))
      ∙ surface_told p q [] [] ∙ and-true (same_surface text p q)

  pub apart_by_keys : (d e : PlacedLine) → are_apart text d e ≡ not (bytes_eq (placed_key text e) (placed_key text d))
  apart_by_keys d e =
      ap (λ b. not ((d.step == e.step) && b)) (sym (key_told d.test e.test))
      ∙ ap not (nat_list_eq_equiv.symm (placed_key text d) (placed_key text e))

-- ---- tests of pairs

module _ {X : Type 0} where
  all_both : (p r s : X → Bool) → ((x : X) → p x ≡ (r x && s x)) → (xs : List X)
      → list_all p xs ≡ (list_all r xs && list_all s xs)
  all_both p r s both [] = refl
  all_both p r s both (x ∷ xs) = grind (arith, common_steps, both x, all_both p r s both xs)

  pairwise_both : (p r s : X → X → Bool) → ((x y : X) → p x y ≡ (r x y && s x y)) → (xs : List X)
      → is_pairwise p xs ≡ (is_pairwise r xs && is_pairwise s xs)
  pairwise_both p r s both [] = refl
  pairwise_both p r s both (x ∷ xs) = grind (arith, common_steps, all_both (p x) (r x) (s x) (both x) xs, pairwise_both p r s both xs)

  module _ (r : X → X → Bool) where
    -- a test fails of a list where it does of a front
    pub pairwise_front : (xs ys : List X) → is_pairwise r xs ≡ false → is_pairwise r (xs ++ ys) ≡ false
    pairwise_front [] ys h = absurd (false≢true (sym h))
    pairwise_front (x ∷ xs) ys h = grind (arith, common_steps, list_all-append (r x) xs ys, pairwise_front xs ys)

    -- with one more member the test holds where it does of the others and that one
    pub pairwise_push : (xs : List X) (x : X) → is_pairwise r xs ≡ true → is_pairwise r (xs ++ x ∷ []) ≡ list_all (λ y. r y x) xs
    pairwise_push [] x h = refl
    pairwise_push (y ∷ ys) x h = grind (arith, common_steps, list_all-append (r y) ys (x ∷ []), pairwise_push ys x)

-- ---- equalities in order

follows : (i j : ℕ) (s : Bool) → (nat_lt i j || ((i == j) && not s)) ≡ (nat_le i j && not ((i == j) && s))
follows i j s = grind (arith, nat_tests)

in_pairs : (text : List ℕ) (es : List PlacedLine) → are_in_order text es ≡ is_pairwise (may_follow text) es
in_pairs text [] = refl
in_pairs text (e ∷ es) = ap (λ b. list_all (may_follow text e) es && b) (in_pairs text es)

pub in_order : (text : List ℕ) (es : List PlacedLine)
    → are_in_order text es ≡ (is_pairwise does_not_fall es && is_pairwise (are_apart text) es)
in_order text es =
    in_pairs text es
    ∙ pairwise_both (may_follow text) does_not_fall (are_apart text) (λ d e. follows d.step e.step (same_surface text d.test e.test)) es

-- ---- steps, one after another

-- the steps do not fall, and the first of them is not below this one
abbrev pub rise_from : ℕ → List PlacedLine → Bool
rise_from n [] = true
rise_from n (e ∷ es) = nat_le n e.step && rise_from e.step es

all_above : (n m : ℕ) (es : List PlacedLine) → nat_le n m ≡ true → list_all (λ e. nat_le m e.step) es ≡ true
    → list_all (λ e. nat_le n e.step) es ≡ true
all_above n m [] h all = refl
all_above n m (e ∷ es) h all = grind (arith, common_steps, nat_tests, all_above n m es)

rise_in_pairs : (n : ℕ) (es : List PlacedLine)
    → rise_from n es ≡ (list_all (λ e. nat_le n e.step) es && is_pairwise does_not_fall es)
rise_in_pairs n [] = refl
rise_in_pairs n (e ∷ es) = grind (arith, common_steps, rise_in_pairs e.step es, all_above n e.step es)

above_zero : (es : List PlacedLine) → list_all (λ e. nat_le 0 e.step) es ≡ true
above_zero [] = refl
above_zero (e ∷ es) = grind (arith, nat_tests, above_zero es)

pub rises : (es : List PlacedLine) → rise_from 0 es ≡ is_pairwise does_not_fall es
rises es = rise_in_pairs 0 es ∙ ap (λ b. b && is_pairwise does_not_fall es) (above_zero es)

-- ---- a set of keys

-- keys in a set are told apart as lists
pub tied : (xs ys : List ℕ) → is_eq (slice_cmp nat_cmp xs ys) ≡ bytes_eq xs ys
tied xs ys =
    same_from_slice_cmp nat_cmp is_eq bytes_eq refl (λ _ _. refl) (λ _ _. refl) (λ x y xs ys o h. grind (arith, nat_tests)) xs ys _ refl

none_of : (text : List ℕ) (e : PlacedLine) (key : List ℕ) → key ≡ placed_key text e → (ds : List PlacedLine)
    → list_all (λ d. are_apart text d e) ds ≡ not (list_any (λ d. bytes_eq key (placed_key text d)) ds)
none_of text e key is [] = refl
none_of text e key is (d ∷ ds) = grind (arith, common_steps, apart_by_keys text d e, none_of text e key is ds)

-- whether keys in a set are the same
abbrev pub key_order : Vec ℕ Global → Vec ℕ Global → Ordering
key_order x y = slice_cmp nat_cmp x.items y.items

-- a line has the key q
abbrev pub has_key : List ℕ → Vec ℕ Global → PlacedLine → Bool
has_key text q d = bytes_eq q.items (placed_key text d)

module _ (text : List ℕ) (ss : List SpelledPlaced) (i : ℕ) (s : SpelledPlaced) (within : i < length ss) (is : s ≡ get_or ss i s) where
  abbrev lines : ℕ → List PlacedLine
  lines n = map placed_line (take n ss)

  next : lines (i + 1) ≡ lines i ++ placed_line s ∷ []
  next = ap (map placed_line) (take_more ss i s within ∙ ap (λ t. take i ss ++ t ∷ []) (sym is)) ∙ map-append placed_line (take i ss) (s ∷ [])

  all : lines (i + 1) ++ map placed_line (drop (i + 1) ss) ≡ map placed_line ss
  all = sym (map-append placed_line (take (i + 1) ss) (drop (i + 1) ss)) ∙ ap (map placed_line) (take-append-drop (i + 1) ss)

  module _ (key : Vec ℕ Global) (spelled : key.items ≡ placed_key text (placed_line s)) (old : BTreeSet (Vec ℕ Global))
      (seen : (q : Vec ℕ Global) → contains key_order old q ≡ list_any (has_key text q) (lines i)) where
    module _ (apart : is_pairwise (are_apart text) (lines i) ≡ true) (added : Bool) (new : added ≡ not (contains key_order old key)) where
      so_far : is_pairwise (are_apart text) (lines (i + 1)) ≡ added
      so_far =
          let push = pairwise_push (are_apart text) (lines i) (placed_line s) apart in
          let absent = none_of text (placed_line s) key.items spelled (lines i) in
          grind (arith, common_steps, next, push, absent, seen key)

      pub twice : added ≡ false → false ≡ is_pairwise (are_apart text) (map placed_line ss)
      twice there =
          grind (arith, common_steps, all, so_far, pairwise_front (are_apart text) (lines (i + 1)) (map placed_line (drop (i + 1) ss)))

      pub once : added ≡ true → is_pairwise (are_apart text) (lines (i + 1)) ≡ true
      once absent = so_far ∙ absent

    pub seen_more : (new : BTreeSet (Vec ℕ Global)) → Updates key_order old new key true → (q : Vec ℕ Global)
        → contains key_order new q ≡ list_any (has_key text q) (lines (i + 1))
    seen_more new updates q =
        updates.0 q
        ∙ (λ j. cond (same j) true (seen q j))
        ∙ grind (arith, common_steps, next, list_any-append (has_key text q) (lines i) (placed_line s ∷ []))
      where
        same : is_eq (key_order key q) ≡ bytes_eq q.items (placed_key text (placed_line s))
        same = tied key.items q.items ∙ nat_list_eq_equiv.symm key.items q.items ∙ ap (bytes_eq q.items) spelled
