-- Windows with updates of one path: what is congruent with some of them is congruent with more, and with more equalities.
use Rattle.std.proofs.Common.{◌≡◌, ◌∙◌, ℕ, Bool, true, false, cond, ◌&&◌, ◌==◌, List, Option, Some, None, slice_get, refl, sym, ap}
use Rattle.std.specs.Prelude.{find, option_map}
use Rattle.std.specs.List.{AllByRecursion, Contains}
use Rattle.std.proofs.lemmas.Bool.{and_parts, eqb-true, false≢true}
use Rattle.std.proofs.lemmas.Option.{none-some}
use Rattle.base_library.specs.Numbers.{is_among}
use Rattle.base_library.proofs.Each.{each_at}
use Rattle.base_library.proofs.Finds.{found_has, found_passes, find_none_at}
use Rattle.base_library.proofs.Options.{some_mapped}
use Rattle.tsl_terms.specs.TermTree.{TermTree}
use Rattle.tsl_terms.specs.WindowTree.{ListedTree, EquatedTree, WindowTree}
use Rattle.tsl_terms.specs.Unfolding.{term_listed, term_taken_by_cell}
use Rattle.tsl_terms.specs.Congruence.{IsCongruent, IsEquality}
use Rattle.letter_space.specs.SpaceTree.{SpaceTree}
use Rattle.letter_space.specs.Letters.{term_taken}
use Rattle.letter_space.specs.Vectors.{picks_of}
use Rattle.branch_finder.specs.Spurious.{IsOneOf}
use Rattle.tsl_terms.proofs.MoreListed.{more_keep_windows_congruent, more_updates_keep_windows_congruent}

-- each member of a list stands in another
abbrev pub StandIn : List ListedTree → List ListedTree → Type 0
StandIn few more = AllByRecursion (λ u. (j : ℕ) × (slice_get more j ≡ Some u)) few

module _ (space : SpaceTree) (cells : List ℕ) (vector : ℕ → ℕ) where
  -- each update is one of those of the vector at its offset
  abbrev pub AreOfPath : List ListedTree → Type 0
  AreOfPath updates = AllByRecursion (λ u. IsOneOf space (vector u.offset) u) updates

  module _ (few more : List ListedTree) (stand : StandIn few more) (of_path : AreOfPath more) (t s : ℕ) where
    abbrev is_for : ListedTree → Bool
    is_for u = (u.signal == s) && (u.offset == t)

    taken : (u : ListedTree) → is_for u ≡ true → IsOneOf space (vector u.offset) u →
        term_taken space.controlled (picks_of space.controlled (vector t)) s ≡ Some u.term
    taken u passes one =
        let parts = and_parts (u.signal == s) (u.offset == t) passes in
        let signal : u.signal ≡ s = eqb-true u.signal s parts.0 in
        let offset : u.offset ≡ t = eqb-true u.offset t parts.1 in
        sym (λ i. term_taken space.controlled (picks_of space.controlled (vector (offset i))) (signal i)) ∙ one

    listed_more : (x : TermTree) → term_listed few t s ≡ Some x → term_listed more t s ≡ Some x
    listed_more x is =
        let found = some_mapped (λ (u : ListedTree). u.term) (find is_for few) x is in
        by found.0 found.2 (found_passes is_for few found.0 found.1)
        (found_has is_for (λ u. (j : ℕ) × (slice_get more j ≡ Some u)) few found.0 stand found.1) (find is_for more) refl
      where
        by : (u : ListedTree) → u.term ≡ x → is_for u ≡ true → (j : ℕ) × (slice_get more j ≡ Some u) → (other : Option ListedTree) →
            find is_for more ≡ other → option_map (λ (v : ListedTree). v.term) other ≡ Some x
        by u same passes place None none = absurd (false≢true (sym (find_none_at is_for more place.0 u none place.1) ∙ passes))
        by u same passes place (Some v) some =
            let one_v = found_has is_for (λ w. IsOneOf space (vector w.offset) w) more v of_path some in
            let one_u = each_at (λ w. IsOneOf space (vector w.offset) w) more place.0 u of_path place.1 in
            sym (taken v (found_passes is_for more v some) one_v) ∙ taken u passes one_u ∙ ap Some same

    pub taken_more : (x : TermTree) → term_taken_by_cell cells few t s ≡ Some x → term_taken_by_cell cells more t s ≡ Some x
    taken_more x is = by (is_among cells s) is
      where
        by : (b : Bool) → cond b (term_listed few t s) None ≡ Some x → cond b (term_listed more t s) None ≡ Some x
        by true known = listed_more x known
        by false known = absurd (none-some x known)

  -- what is congruent with some updates and equalities is so with more
  pub congruent_on_path : (equality : Option ℕ) (w : WindowTree) (more : List ListedTree) (equalities : List EquatedTree) →
      StandIn w.updates more → AreOfPath more → AllByRecursion (λ q. Contains equalities q) w.equalities →
      AllByRecursion (λ q. IsEquality equality q.probe) equalities → IsCongruent cells equality w →
      IsCongruent cells equality (record w { updates = more; equalities = equalities })
  congruent_on_path equality w more equalities stand of_path stand_too proper is =
      more_keep_windows_congruent cells equality w more equalities
      (λ t s x known. taken_more w.updates more stand of_path t s x known) stand_too proper is

  pub congruent_with_updates : (equality : Option ℕ) (w : WindowTree) (more : List ListedTree) → StandIn w.updates more → AreOfPath more →
      IsCongruent cells equality w → IsCongruent cells equality (record w { updates = more })
  congruent_with_updates equality w more stand of_path is =
      more_updates_keep_windows_congruent cells equality w more (λ t s x known. taken_more w.updates more stand of_path t s x known) is
