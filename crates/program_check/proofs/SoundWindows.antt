-- Windows that are congruent: what a loop over them keeps, and that there is one first window that is not.
use Rattle.std.proofs.Common.{◌≡◌, ◌∙◌, ℕ, ◌<◌, true, ◌&&◌, ◌+◌, ◌++◌, nat_le, nat_lt, add-one, List, [], ◌∷◌, length}
use Rattle.std.proofs.Common.{map, take, get_or, Option, Some, option_map, slice_get, inl, inr, refl, sym, ap, subst, arith}
use Rattle.std.specs.List.{list_all, AllByRecursion}
use Rattle.std.proofs.lemmas.Bool.{and_parts, cases_lt}
use Rattle.std.proofs.lemmas.Option.{slice_get-map, slice_get_read}
use Rattle.base_library.specs.Numbers.{is_among}
use Rattle.base_library.proofs.Each.{each_at, each_joined, each_weaker}
use Rattle.base_library.proofs.Passes.{each_from_list_all, passes_at}
use Rattle.base_library.proofs.Places.{slice_get_taken, take_next}
use Rattle.tsl_terms.specs.declared.window.Window.{Window}
use Rattle.tsl_terms.specs.WindowTree.{ListedTree, WindowTree, window_tree}
use Rattle.tsl_terms.specs.Congruence.{IsCongruent, UpdateCells}
use Rattle.tsl_terms.specs.Equality.{equality_in}
use Rattle.tsl_terms.specs.Name.{Name}
use Rattle.tsl_terms.specs.SpecTree.{SpecTree}
use Rattle.program_tree.specs.Fits.{window_is_shaped, window_reads_only, window_fits, longest}
use Rattle.program_tree.specs.declared.program.Program.{Program}
use Rattle.program_tree.specs.ProgramTree.{ProgramTree}
use Rattle.program_tree.specs.ProgramView.{program_tree}
use Rattle.program_check.specs.Verdicts.{AreSound, IsUnsoundAt}

-- the listed updates of a window that fits are of cells
pub cells_updated : (readable cells : List ℕ) (w : WindowTree) → window_fits readable cells w ≡ true → UpdateCells cells w.updates
cells_updated readable cells w fits =
    let shaped = (and_parts (window_is_shaped cells w) (window_reads_only readable w) fits).0 in
    let updates = (and_parts (nat_le w.length longest && nat_le w.left_at w.length) _ (and_parts _ _ shaped).0).1 in
    let listed = (and_parts (list_all (λ (u : ListedTree). nat_lt u.offset w.length && is_among cells u.signal) w.updates) _ updates).0 in
    each_weaker (λ (u : ListedTree). (nat_lt u.offset w.length && is_among cells u.signal) ≡ true)
    (λ (u : ListedTree). is_among cells u.signal ≡ true)
    (λ u both. (and_parts (nat_lt u.offset w.length) (is_among cells u.signal) both).1) w.updates
    (each_from_list_all (λ (u : ListedTree). nat_lt u.offset w.length && is_among cells u.signal) w.updates listed)

module _ (spec : SpecTree) (program : ProgramTree) where
  pub never_sound : (i : ℕ) → IsUnsoundAt spec program i → AreSound spec program → ⊥
  never_sound i at sound =
      at.unsound (each_at (IsCongruent program.cells (equality_in spec.names)) program.windows i at.window sound at.there)

  -- a window before it is congruent
  not_before : (i j : ℕ) → IsUnsoundAt spec program i → IsUnsoundAt spec program j → i < j → ⊥
  not_before i j first second below =
      first.unsound (each_at (IsCongruent program.cells (equality_in spec.names)) (take j program.windows) i first.window second.before
      (slice_get_taken j program.windows i first.window below first.there))

  pub one_unsound : (i j : ℕ) → IsUnsoundAt spec program i → IsUnsoundAt spec program j → i ≡ j
  one_unsound i j first second = elim (cases_lt i j) [
    | inl below ↦ absurd (not_before i j first second below)
    | inr reached ↦ elim (cases_lt j i) [
      | inl above ↦ absurd (not_before j i second first above)
      | inr within ↦ omega (arith, reached, within)
    ]
  ]

-- images of a list's members: the one at a place, and what holds of those before a place and of the one there
image_at : {X Y : Type 0} (f : X → Y) (xs : List X) (i : ℕ) (x : X) → slice_get xs i ≡ Some x → slice_get (map f xs) i ≡ Some (f x)
image_at f xs i x at = slice_get-map f xs i ∙ ap (option_map f) at

each_image_next : {X Y : Type 0} (P : Y → Type 0) (f : X → Y) (xs : List X) (i : ℕ) (x : X) → slice_get xs i ≡ Some x →
    AllByRecursion P (take i (map f xs)) → P (f x) → AllByRecursion P (take (i + 1) (map f xs))
each_image_next P f xs i x at before here =
    let next = take_next (map f xs) i (f x) (image_at f xs i x at) in
    rw add-one (subst (AllByRecursion P) (sym next) (each_joined P (take i (map f xs)) (f x ∷ []) before (here, tt)))

-- what a loop over the windows of a program keeps
abbrev pub AreSoundBefore : List Name → List ℕ → List Window → ℕ → Type 0
AreSoundBefore names cells windows i = AllByRecursion (IsCongruent cells (equality_in names)) (take i (map window_tree windows))

module _ (spec : SpecTree) (program : Program) (cells : List ℕ) (same_cells : cells ≡ program.cells) (windows : List Window)
    (same_windows : windows ≡ program.windows) where
  stands : (i : ℕ) (w : Window) → i < length windows → w ≡ get_or windows i w →
      slice_get (map window_tree program.windows) i ≡ Some (window_tree w)
  stands i w within is =
      image_at window_tree program.windows i w (ap (λ ws. slice_get ws i) (sym same_windows)
      ∙ slice_get_read windows (length windows) i w refl within is)

  pub of_cells : (i : ℕ) (w : Window) → i < length windows → w ≡ get_or windows i w → UpdateCells cells (window_tree w).updates
  of_cells i w within is =
      subst (λ (cs : List ℕ). UpdateCells cs (window_tree w).updates) (sym same_cells)
      (cells_updated (program.inputs ++ program.cells) program.cells (window_tree w)
      (passes_at (window_fits (program.inputs ++ program.cells) program.cells) (map window_tree program.windows) i (window_tree w)
      program.windows_fit (stands i w within is)))

  of_program : (i : ℕ) → AreSoundBefore spec.names cells windows i → AreSoundBefore spec.names program.cells program.windows i
  of_program i before =
      subst (λ (cs : List ℕ). AreSoundBefore spec.names cs program.windows i) same_cells
      (subst (λ (ws : List Window). AreSoundBefore spec.names cells ws i) same_windows before)

  pub unsound_here : (i : ℕ) (w : Window) (equality : Option ℕ) → i < length windows → w ≡ get_or windows i w →
      equality ≡ equality_in spec.names → (IsCongruent cells equality (window_tree w) → ⊥) →
      AreSoundBefore spec.names cells windows i → IsUnsoundAt spec (program_tree program) i
  unsound_here i w equality within is same fails before = record {
    window = window_tree w;
    there = stands i w within is;
    unsound = λ holds. fails (subst (λ e. IsCongruent cells e (window_tree w)) (sym same)
        (subst (λ (cs : List ℕ). IsCongruent cs (equality_in spec.names) (window_tree w)) (sym same_cells) holds));
    before = of_program i before;
  }

pub sound_next : (names : List Name) (cells : List ℕ) (windows : List Window) (i : ℕ) (w : Window) (equality : Option ℕ) →
    i < length windows → w ≡ get_or windows i w → equality ≡ equality_in names → AreSoundBefore names cells windows i →
    IsCongruent cells equality (window_tree w) → AreSoundBefore names cells windows (i + 1)
sound_next names cells windows i w equality within is same before holds =
    each_image_next (IsCongruent cells (equality_in names)) window_tree windows i w
    (slice_get_read windows (length windows) i w refl within is) before (subst (λ e. IsCongruent cells e (window_tree w)) same holds)
