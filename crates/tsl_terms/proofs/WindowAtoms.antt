-- The atoms of a formula under windows are those of the windows, one after another, and its own.
use Rattle.std.proofs.Common.{◌≡◌, ◌∙◌, Bool, true, ◌&&◌, ℕ, zero, suc, List, [], ◌∷◌, ◌++◌, map, Option, Some, None, refl, sym, ap, append_assoc}
use Rattle.std.proofs.lemmas.List.{map-append}
use Rattle.std.proofs.lemmas.Grind.{flat_map-append}
use Rattle.std.specs.List.{list_all, flat_map}
use Rattle.std.proofs.lemmas.List.Folds.{list_all-append}
use Rattle.std.proofs.lemmas.Bool.{and_parts, and_from}
use Rattle.tsl_terms.specs.TermTree.{ProbeTree}
use Rattle.tsl_terms.specs.FormulaTree.{Atom, test, update, FormulaTree, atom}
use Rattle.tsl_terms.specs.Atoms.{atoms, joins_two, is_made_of}
use Rattle.tsl_terms.specs.WindowTree.{ListedTree, EquatedTree, WindowTree, later, listed_formula, equated_formula, side_formula}
use Rattle.tsl_terms.specs.WindowTree.{window_formula_of, under_windows, left_probes, window_atoms}
use Rattle.tsl_terms.proofs.WholeAtoms.{conjunction_atoms, conjunction_joins_two}

later_atoms : (steps : ℕ) (f : FormulaTree) → atoms (later steps f) ≡ atoms f
later_atoms zero f = refl
later_atoms (suc steps) f = later_atoms steps f

listed_atoms : (us : List ListedTree) → flat_map atoms (map listed_formula us) ≡ map (λ (u : ListedTree). update u.signal u.term) us
listed_atoms [] = refl
listed_atoms (u ∷ us) = λ i. later_atoms u.offset (atom (update u.signal u.term)) i ++ listed_atoms us i

equated_atoms : (es : List EquatedTree) → flat_map atoms (map equated_formula es) ≡ map test (map (λ (e : EquatedTree). e.probe) es)
equated_atoms [] = refl
equated_atoms (e ∷ es) = λ i. later_atoms e.offset (atom (test e.probe)) i ++ equated_atoms es i

side_atoms : (left : Option ProbeTree) (left_at : ℕ) (right : ProbeTree) (last : ℕ) →
    atoms (side_formula left left_at right last) ≡ map test (left_probes left ++ right ∷ [])
side_atoms None left_at right last = later_atoms last (atom (test right))
side_atoms (Some left) left_at right last = λ i. later_atoms left_at (atom (test left)) i ++ later_atoms last (atom (test right)) i

pub window_formula_atoms : (w : WindowTree) → atoms (window_formula_of w) ≡ window_atoms w
window_formula_atoms w =
    (λ i. (conjunction_atoms (map listed_formula w.updates ++ map equated_formula w.equalities)
    ∙ flat_map-append atoms (map listed_formula w.updates) (map equated_formula w.equalities)
    ∙ (λ j. listed_atoms w.updates j ++ equated_atoms w.equalities j)) i ++ side_atoms w.left w.left_at w.right w.length i)
    ∙ append_assoc (map (λ (u : ListedTree). update u.signal u.term) w.updates) (map test equal) (map test sides)
    ∙ ap (λ xs. map (λ (u : ListedTree). update u.signal u.term) w.updates ++ xs) (sym (map-append test equal sides))
  where
    equal : List ProbeTree
    equal = map (λ (e : EquatedTree). e.probe) w.equalities

    sides : List ProbeTree
    sides = left_probes w.left ++ w.right ∷ []

window_formulas_atoms : (ws : List WindowTree) → flat_map atoms (map window_formula_of ws) ≡ flat_map window_atoms ws
window_formulas_atoms [] = refl
window_formulas_atoms (w ∷ ws) = λ i. window_formula_atoms w i ++ window_formulas_atoms ws i

pub windowed_atoms : (ws : List WindowTree) (f : FormulaTree) → atoms (under_windows ws f) ≡ flat_map window_atoms ws ++ atoms f
windowed_atoms [] f = refl
windowed_atoms (w ∷ ws) f = ap (λ xs. xs ++ atoms f) (conjunction_atoms (map window_formula_of (w ∷ ws)) ∙ window_formulas_atoms (w ∷ ws))

-- a window's formula has no conjunction of fewer than two members

later_joins_two : (steps : ℕ) (f : FormulaTree) → joins_two (later steps f) ≡ joins_two f
later_joins_two zero f = refl
later_joins_two (suc steps) f = later_joins_two steps f

listed_join_two : (us : List ListedTree) → list_all joins_two (map listed_formula us) ≡ true
listed_join_two [] = refl
listed_join_two (u ∷ us) = and_from _ _ (later_joins_two u.offset (atom (update u.signal u.term))) (listed_join_two us)

equated_join_two : (es : List EquatedTree) → list_all joins_two (map equated_formula es) ≡ true
equated_join_two [] = refl
equated_join_two (e ∷ es) = and_from _ _ (later_joins_two e.offset (atom (test e.probe))) (equated_join_two es)

sides_join_two : (left : Option ProbeTree) (left_at : ℕ) (right : ProbeTree) (last : ℕ) →
    joins_two (side_formula left left_at right last) ≡ true
sides_join_two None left_at right last = later_joins_two last (atom (test right))
sides_join_two (Some left) left_at right last =
    and_from _ _ (later_joins_two left_at (atom (test left))) (later_joins_two last (atom (test right)))

pub window_joins_two : (w : WindowTree) → joins_two (window_formula_of w) ≡ true
window_joins_two w =
    and_from _ _ (conjunction_joins_two (map listed_formula w.updates ++ map equated_formula w.equalities)
    (list_all-append joins_two (map listed_formula w.updates) (map equated_formula w.equalities)
    ∙ and_from _ _ (listed_join_two w.updates) (equated_join_two w.equalities)))
    (sides_join_two w.left w.left_at w.right w.length)

windows_join_two : (ws : List WindowTree) → list_all joins_two (map window_formula_of ws) ≡ true
windows_join_two [] = refl
windows_join_two (w ∷ ws) = and_from _ _ (window_joins_two w) (windows_join_two ws)

pub windowed_joins_two : (ws : List WindowTree) (f : FormulaTree) → joins_two (under_windows ws f) ≡ joins_two f
windowed_joins_two [] f = refl
windowed_joins_two (w ∷ ws) f =
    ap (λ b. b && joins_two f) (conjunction_joins_two (map window_formula_of (w ∷ ws)) (windows_join_two (w ∷ ws)))

-- what the atoms of the windows and the formula are made of, the formula under the windows is made of
pub windowed_is_made_of : (passes : Atom → Bool) (ws : List WindowTree) (f : FormulaTree) →
    list_all passes (flat_map window_atoms ws) ≡ true → is_made_of passes f ≡ true → is_made_of passes (under_windows ws f) ≡ true
windowed_is_made_of passes ws f windows own =
    let parts = and_parts (list_all passes (atoms f)) (joins_two f) own in
    and_from _ _
    (ap (list_all passes) (windowed_atoms ws f) ∙ list_all-append passes (flat_map window_atoms ws) (atoms f) ∙ and_from _ _ windows parts.0)
    (windowed_joins_two ws f ∙ parts.1)
