-- Lists of terms that get numbers member by member, and lines whose parts have them.
use Rattle.std.proofs.Common.{◌≡◌, ◌^◌, ◌<◌, cond, List, [], ◌∷◌, ◌++◌, map, get_or, ap, sym, ◌∙◌, refl, arith}
use Rattle.std.specs.Prelude.{ℕ, Option, Some, None, option_map, slice_get, bytes_eq}
use Rattle.std.specs.Option.{option_map_or}
use Rattle.std.proofs.lemmas.Bool.{lt-ltb}
use Rattle.std.proofs.lemmas.Grind.{common_steps}
use Rattle.base_library.proofs.Places.{slice_get_mapped}
use Rattle.term_text.specs.TermText.{name_text}
use Rattle.program_listing.specs.declared.listing.Name.{Name as Place}
use Rattle.program_listing.specs.Listing.{name_bytes}
use Rattle.tsl_terms.specs.Name.{texts, number_of}
use Rattle.tsl_terms.specs.WindowTree.{WindowTree}
use Rattle.std.proofs.lemmas.List.Quantifiers.{position-Some}
use Rattle.std.proofs.lemmas.Option.{slice_get-get_or}
use Rattle.base_library.proofs.Bytes.{same_bytes}
use Rattle.base_library.specs.Options.{all_there}
use Rattle.tsl_terms.specs.declared.term.Term.{Term}
use Rattle.tsl_terms.specs.Name.{Name}
use Rattle.tsl_terms.specs.TermTree.{TermTree, ProbeTree, more_terms, term_tree}
use Rattle.tsl_terms.proofs.NumberedTerms.{numbered_front, front_more}
use Rattle.tsl_terms.specs.WindowTree.{ListedTree, EquatedTree}
use Rattle.program_listing.specs.Listing.{SurfaceTermTree, SurfaceTermTrees, more_surfaces, UpdateLine, ListedLine, PlacedLine, WindowLine}
use Rattle.program_listing.specs.Listing.{branch_line, assignment_line, left_step}
use Rattle.program_tree.specs.NodeTree.{branch, assign}
use Rattle.flow_program.specs.internal.Numbering.{small, numbered, numbered_term, numbered_terms, numbered_test, numbered_listed}
use Rattle.flow_program.specs.Rules.{place_in}
use Rattle.flow_program.specs.internal.Numbering.{numbered_equated, numbered_left, numbered_window, numbered_node, listed_of, equated_of}
use Rattle.flow_program.specs.internal.Numbering.{window_of}
use Rattle.base_library.proofs.ValuesOfOptions.{held, map_holds, then_holds}
use Rattle.base_library.proofs.PairedLists.{paired_there, paired_at, map_alike}

-- the one that is made of the member at a place
pub there_at : {X Y : Type 0} (f : X → Option Y) (xs : List X) (ys : List Y) (i : ℕ) (x : X) → all_there (map f xs) ≡ Some ys →
    slice_get xs i ≡ Some x → (y : Y) × (slice_get ys i ≡ Some y) × (f x ≡ Some y)
there_at f xs ys i x is at = paired_at (paired_there (λ x y. f x ≡ Some y) f (λ x y made. made) xs ys is) i x at

-- a number of 32 bits
pub small_is : (n : ℕ) → n < 2 ^ 32 → small n ≡ Some n
small_is n h = ap (λ b. cond b (Some n) None) (lt-ltb n (2 ^ 32) h)

pub small_same : (n k : ℕ) → small n ≡ Some k → n ≡ k
small_same n k is = grind (arith, common_steps)

-- the text at a number is the one that has it
pub place_at : (all : List (List ℕ)) (bytes : List ℕ) (i : ℕ) → place_in all bytes ≡ Some i → slice_get all i ≡ Some bytes
place_at all bytes i is =
    let found = position-Some (bytes_eq bytes) all i [] is in
    slice_get-get_or all i [] found.0 ∙ ap Some (sym (same_bytes bytes (get_or all i []) found.1))

-- one term more
pub numbered_more : (names : List Name) (text : List ℕ) (front all : List Term) (t : Term) (p : SurfaceTermTree) (rest : SurfaceTermTrees) →
    all ≡ front ++ t ∷ [] → numbered_term names text p ≡ Some (term_tree t) →
    numbered_front (map term_tree all) (numbered_terms names text rest)
    ≡ numbered_front (map term_tree front) (numbered_terms names text (more_surfaces p rest))
numbered_more names text front all t p rest is h = rw (is, h) (front_more more_terms term_tree front t (numbered_terms names text rest))

module _ (names : List Name) (text : List ℕ) where
  pub listed_numbered : (u : ListedLine) (s : ℕ) (t : TermTree) → numbered names text u.signal ≡ Some s →
      numbered_term names text u.term ≡ Some t → small u.offset ≡ Some u.offset →
      numbered_listed names text u ≡ Some (listed_of s t u.offset)
  listed_numbered u s t signal term offset = rw (signal, term, offset) refl

  pub equated_numbered : (e : PlacedLine) (p : ProbeTree) → numbered_test names text e.test ≡ Some p → small e.step ≡ Some e.step →
      numbered_equated names text e ≡ Some (equated_of p e.step)
  equated_numbered e p test step = rw (test, step) refl

  pub window_numbered : (w : WindowLine) (l : Option ProbeTree) (r : ProbeTree) (us : List ListedTree) (es : List EquatedTree) →
      numbered_left names text w.left ≡ Some l → numbered_test names text w.right.test ≡ Some r →
      small (left_step w.left) ≡ Some (left_step w.left) → small w.right.step ≡ Some w.right.step →
      all_there (map (numbered_listed names text) w.updates) ≡ Some us →
      all_there (map (numbered_equated names text) w.equalities) ≡ Some es →
      numbered_window names text w ≡ Some (window_of l r (left_step w.left) w.right.step us es)
  window_numbered w l r us es left right left_at length updates equalities = rw (left, right, left_at, length, updates, equalities) refl

  pub branch_numbered : (p : SurfaceTermTree) (t : ProbeTree) (a b : ℕ) → numbered_test names text p ≡ Some t → small a ≡ Some a →
      small b ≡ Some b → numbered_node names text (branch_line p a b) ≡ Some (branch t a b)
  branch_numbered p t a b test then_node else_node = rw (test, then_node, else_node) refl

  pub assignment_numbered : (us : List UpdateLine) (ts : List TermTree) (go : ℕ) →
      all_there (map (λ u. numbered_term names text u.term) us) ≡ Some ts → small go ≡ Some go →
      numbered_node names text (assignment_line us go) ≡ Some (assign ts go)
  assignment_numbered us ts go terms state = rw (terms, state) refl

  -- what a window's line is made of
  pub record Parts (line : WindowLine) (w : WindowTree) : Type 0 where
    pub left : numbered_left names text line.left ≡ Some w.left
    pub right : numbered_test names text line.right.test ≡ Some w.right
    pub left_at : small (left_step line.left) ≡ Some w.left_at
    pub length : small line.right.step ≡ Some w.length
    pub updates : all_there (map (numbered_listed names text) line.updates) ≡ Some w.updates
    pub equalities : all_there (map (numbered_equated names text) line.equalities) ≡ Some w.equalities

  pub parts_of : (line : WindowLine) (w : WindowTree) → numbered_window names text line ≡ Some w → Parts line w
  parts_of line w is = held (Parts line) (numbered_window names text line) w
      (then_holds (Parts line) _ (numbered_left names text line.left) (λ left left_is.
      then_holds (Parts line) _ (numbered_test names text line.right.test) (λ right right_is.
      then_holds (Parts line) _ (small (left_step line.left)) (λ left_at left_at_is.
      then_holds (Parts line) _ (small line.right.step) (λ length length_is.
      then_holds (Parts line) _ (all_there (map (numbered_listed names text) line.updates)) (λ us us_are.
      map_holds (Parts line) _ (all_there (map (numbered_equated names text) line.equalities)) (λ es es_are. record {
        left = left_is;
        right = right_is;
        left_at = left_at_is;
        length = length_is;
        updates = us_are;
        equalities = es_are;
      })))))))
      is

  -- a name has the text of its number
  pub number_text : (bytes : List ℕ) (id : ℕ) → number_of names bytes ≡ Some id → bytes ≡ name_text names id
  number_text bytes id is =
      let found = slice_get_mapped (λ (n : Name). n.text) names id bytes (place_at (texts names) bytes id is) in
      sym (ap (λ o. option_map_or (λ (n : Name). n.text) o []) found.1 ∙ found.2)

  pub numbered_texts : (ats : List Place) (ids : List ℕ) → all_there (map (numbered names text) ats) ≡ Some ids →
      map (name_bytes text) ats ≡ map (name_text names) ids
  numbered_texts ats ids is =
      map_alike (name_bytes text) (name_text names) (λ at id made. number_text (name_bytes text at) id made)
      (paired_there (λ at id. numbered names text at ≡ Some id) (numbered names text) (λ at id made. made) ats ids is)
