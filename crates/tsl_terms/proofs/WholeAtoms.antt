-- The atoms of the whole formula of a specification are those of its four lists, one list after another.
use Rattle.std.proofs.Common.{◌≡◌, Bool, true, false, ◌&&◌, List, [], ◌∷◌, ◌++◌, map, refl, sym, ap, ◌∙◌, append_assoc, append-nil}
use Rattle.std.specs.List.{list_all, flat_map}
use Rattle.std.proofs.lemmas.Grind.{flat_map-append}
use Rattle.std.proofs.lemmas.List.Folds.{list_all-append, list_all-map}
use Rattle.std.proofs.lemmas.Bool.{and_parts, and_from}
use Rattle.std.proofs.Math.Bool.{and-false}
use Rattle.base_library.proofs.Passes.{list_all_weaker}
use Rattle.tsl_terms.specs.declared.operator.UnaryOperator.TheVariants.{Globally}
use Rattle.tsl_terms.specs.declared.operator.BinaryOperator.{BinaryOperator}
use Rattle.tsl_terms.specs.declared.operator.ManyOperator.{ManyOperator}
use Rattle.tsl_terms.specs.FormulaTree.{
  Atom,
  FormulaTree,
  FormulaTrees,
  unary,
  binary,
  many,
  no_formulas,
  more_formulas,
  formulas_in,
  formulas_of,
}
use Rattle.tsl_terms.specs.Atoms.{atoms, atoms_of_members, has_two, joins_two, all_join_two, is_made_of, members_are_made_of}
use Rattle.tsl_terms.specs.SpecTree.{SpecTree, conjunction_of, assumed, guaranteed, under_assumptions, all_formulas, whole_formula}

-- the atoms of a list, by its members
pub atoms_of_list : (fs : FormulaTrees) → flat_map atoms (formulas_in fs) ≡ atoms_of_members fs
atoms_of_list no_formulas = refl
atoms_of_list (more_formulas f fs) = ap (λ xs. atoms f ++ xs) (atoms_of_list fs)

atoms_of_joined : (fs : List FormulaTree) → atoms_of_members (formulas_of fs) ≡ flat_map atoms fs
atoms_of_joined [] = refl
atoms_of_joined (f ∷ fs) = ap (λ xs. atoms f ++ xs) (atoms_of_joined fs)

pub conjunction_atoms : (fs : List FormulaTree) → atoms (conjunction_of fs) ≡ flat_map atoms fs
conjunction_atoms [] = refl
conjunction_atoms (f ∷ []) = sym (append-nil (atoms f))
conjunction_atoms (f ∷ g ∷ fs) = atoms_of_joined (f ∷ g ∷ fs)

always_atoms : (fs : List FormulaTree) → flat_map atoms (map (unary Globally) fs) ≡ flat_map atoms fs
always_atoms [] = refl
always_atoms (f ∷ fs) = ap (λ xs. atoms f ++ xs) (always_atoms fs)

under_atoms : (fs : List FormulaTree) (g : FormulaTree) → atoms (under_assumptions fs g) ≡ flat_map atoms fs ++ atoms g
under_atoms [] g = refl
under_atoms (f ∷ fs) g = ap (λ xs. xs ++ atoms g) (conjunction_atoms (f ∷ fs))

-- what holds at first, and what holds always
section_atoms : (first always : List FormulaTree) → flat_map atoms (first ++ map (unary Globally) always) ≡ flat_map atoms (first ++ always)
section_atoms first always =
    flat_map-append atoms first (map (unary Globally) always)
    ∙ ap (λ xs. flat_map atoms first ++ xs) (always_atoms always)
    ∙ sym (flat_map-append atoms first always)

pub whole_atoms : (spec : SpecTree) → atoms (whole_formula spec) ≡ flat_map atoms (all_formulas spec)
whole_atoms spec =
    under_atoms (assumed spec) (conjunction_of (guaranteed spec))
    ∙ (λ i. section_atoms spec.assume_first spec.assume_always i ++ (conjunction_atoms (guaranteed spec)
    ∙ section_atoms spec.guarantee_first spec.guarantee_always) i)
    ∙ sym (flat_map-append atoms (spec.assume_first ++ spec.assume_always) (spec.guarantee_first ++ spec.guarantee_always))
    ∙ ap (flat_map atoms) (sym (append_assoc (spec.assume_first ++ spec.assume_always) spec.guarantee_first spec.guarantee_always))

-- four lists, one after another
pub four_lists : (spec : SpecTree) (a b c d : FormulaTrees) → spec.assume_first ≡ formulas_in a → spec.assume_always ≡ formulas_in b →
    spec.guarantee_first ≡ formulas_in c → spec.guarantee_always ≡ formulas_in d →
    ((atoms_of_members a ++ atoms_of_members b) ++ atoms_of_members c) ++ atoms_of_members d ≡ atoms (whole_formula spec)
four_lists spec a b c d h1 h2 h3 h4 =
    (λ i. ((list a spec.assume_first h1 i ++ list b spec.assume_always h2 i) ++ list c spec.guarantee_first h3 i)
    ++ list d spec.guarantee_always h4 i)
    ∙ sym (split (spec.assume_first ++ spec.assume_always ++ spec.guarantee_first) spec.guarantee_always
    ∙ ap (λ xs. xs ++ flat_map atoms spec.guarantee_always) (split (spec.assume_first ++ spec.assume_always) spec.guarantee_first
    ∙ ap (λ xs. xs ++ flat_map atoms spec.guarantee_first) (split spec.assume_first spec.assume_always)))
    ∙ sym (whole_atoms spec)
  where
    split : (fs gs : List FormulaTree) → flat_map atoms (fs ++ gs) ≡ flat_map atoms fs ++ flat_map atoms gs
    split fs gs = flat_map-append atoms fs gs

    list : (fs : FormulaTrees) (members : List FormulaTree) → members ≡ formulas_in fs → atoms_of_members fs ≡ flat_map atoms members
    list fs members h = sym (ap (flat_map atoms) h ∙ atoms_of_list fs)

-- conjunctions and disjunctions of two members or more

all_join_two_of : (fs : List FormulaTree) → all_join_two (formulas_of fs) ≡ list_all joins_two fs
all_join_two_of [] = refl
all_join_two_of (f ∷ fs) = ap (λ b. joins_two f && b) (all_join_two_of fs)

pub conjunction_joins_two : (fs : List FormulaTree) → list_all joins_two fs ≡ true → joins_two (conjunction_of fs) ≡ true
conjunction_joins_two [] h = refl
conjunction_joins_two (f ∷ []) h = (and_parts (joins_two f) true h).0
conjunction_joins_two (f ∷ g ∷ fs) h = all_join_two_of (f ∷ g ∷ fs) ∙ h

under_joins_two : (fs : List FormulaTree) (g : FormulaTree) → list_all joins_two fs ≡ true → joins_two g ≡ true →
    joins_two (under_assumptions fs g) ≡ true
under_joins_two [] g h k = k
under_joins_two (f ∷ fs) g h k = and_from _ _ (conjunction_joins_two (f ∷ fs) h) k

section_joins_two : (first always : List FormulaTree) → list_all joins_two first ≡ true → list_all joins_two always ≡ true →
    list_all joins_two (first ++ map (unary Globally) always) ≡ true
section_joins_two first always h k =
    list_all-append joins_two first (map (unary Globally) always)
    ∙ and_from _ _ h (list_all-map joins_two (unary Globally) always ∙ k)

whole_joins_two : (spec : SpecTree) → list_all joins_two (all_formulas spec) ≡ true → joins_two (whole_formula spec) ≡ true
whole_joins_two spec h =
    let one = and_parts _ _
    (sym (list_all-append joins_two (spec.assume_first ++ spec.assume_always ++ spec.guarantee_first) spec.guarantee_always) ∙ h) in
    let two = and_parts _ _ (sym (list_all-append joins_two (spec.assume_first ++ spec.assume_always) spec.guarantee_first) ∙ one.0) in
    let three = and_parts _ _ (sym (list_all-append joins_two spec.assume_first spec.assume_always) ∙ two.0) in
    under_joins_two (assumed spec) (conjunction_of (guaranteed spec))
    (section_joins_two spec.assume_first spec.assume_always three.0 three.1)
    (conjunction_joins_two (guaranteed spec) (section_joins_two spec.guarantee_first spec.guarantee_always two.1 one.1))

-- what a formula is made of, by its parts

four : (a b c d : Bool) → ((a && b) && (c && d)) ≡ ((a && c) && (b && d))
four true true c d = refl
four true false c d = sym (and-false c)
four false b c d = refl

pub binary_is_made_of : (passes : Atom → Bool) (op : BinaryOperator) (f g : FormulaTree) →
    is_made_of passes (binary op f g) ≡ (is_made_of passes f && is_made_of passes g)
binary_is_made_of passes op f g =
    ap (λ b. b && joins_two (binary op f g)) (list_all-append passes (atoms f) (atoms g))
    ∙ four (list_all passes (atoms f)) (list_all passes (atoms g)) (joins_two f) (joins_two g)

pub more_are_made_of : (passes : Atom → Bool) (f : FormulaTree) (fs : FormulaTrees) →
    members_are_made_of passes (more_formulas f fs) ≡ (is_made_of passes f && members_are_made_of passes fs)
more_are_made_of passes f fs =
    ap (λ b. b && all_join_two (more_formulas f fs)) (list_all-append passes (atoms f) (atoms_of_members fs))
    ∙ four (list_all passes (atoms f)) (list_all passes (atoms_of_members fs)) (joins_two f) (all_join_two fs)

pub many_is_made_of : (passes : Atom → Bool) (op : ManyOperator) (fs : FormulaTrees) → is_made_of passes (many op fs) ≡ true →
    members_are_made_of passes fs ≡ true
many_is_made_of passes op fs h =
    let parts = and_parts (list_all passes (atoms_of_members fs)) (has_two fs && all_join_two fs) h in
    and_from _ _ parts.0 (and_parts (has_two fs) (all_join_two fs) parts.1).1

-- what the formulas of a list are made of
pub list_is_made_of : (passes : Atom → Bool) (fs : List FormulaTree) → list_all (is_made_of passes) fs ≡ true →
    (list_all passes (flat_map atoms fs) ≡ true) × (list_all joins_two fs ≡ true)
list_is_made_of passes [] h = (refl, refl)
list_is_made_of passes (f ∷ fs) h =
    let parts = and_parts (is_made_of passes f) (list_all (is_made_of passes) fs) h in
    let here = and_parts (list_all passes (atoms f)) (joins_two f) parts.0 in
    let rest = list_is_made_of passes fs parts.1 in (
      list_all-append passes (atoms f) (flat_map atoms fs) ∙ and_from _ _ here.0 rest.0,
      and_from _ _ here.1 rest.1,
    )

-- what each formula of a specification is made of, the whole formula is made of
pub whole_is_made_of : (passes : Atom → Bool) (spec : SpecTree) → list_all (is_made_of passes) (all_formulas spec) ≡ true →
    is_made_of passes (whole_formula spec) ≡ true
whole_is_made_of passes spec h =
    let parts = list_is_made_of passes (all_formulas spec) h in
    and_from _ _ (ap (list_all passes) (whole_atoms spec) ∙ parts.0) (whole_joins_two spec parts.1)

-- where each atom that passes one test passes another one
pub is_made_of_then : (p q : Atom → Bool) → ((a : Atom) → p a ≡ true → q a ≡ true) → (f : FormulaTree) → is_made_of p f ≡ true →
    is_made_of q f ≡ true
is_made_of_then p q each f h =
    let parts = and_parts (list_all p (atoms f)) (joins_two f) h in
    and_from _ _ (list_all_weaker p q each (atoms f) parts.0) parts.1

-- what holds of each of the four lists holds of all formulas
pub fits_all : (p : FormulaTree → Bool) (spec : SpecTree) → list_all p spec.assume_first ≡ true → list_all p spec.assume_always ≡ true →
    list_all p spec.guarantee_first ≡ true → list_all p spec.guarantee_always ≡ true → list_all p (all_formulas spec) ≡ true
fits_all p spec h1 h2 h3 h4 =
    list_all-append p (spec.assume_first ++ spec.assume_always ++ spec.guarantee_first) spec.guarantee_always
    ∙ and_from _ _ (list_all-append p (spec.assume_first ++ spec.assume_always) spec.guarantee_first
    ∙ and_from _ _ (list_all-append p spec.assume_first spec.assume_always ∙ and_from _ _ h1 h2) h3) h4
