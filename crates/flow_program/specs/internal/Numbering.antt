-- Internal: only private functions of this crate use these words.
-- Lines with numbers in the place of names.
use Rattle.std.specs.Prelude.{◌≡◌, ℕ, ◌^◌, nat_lt, cond, List, map, Option, Some, None, option_map, option_and_then}
use Rattle.base_library.specs.Options.{all_there}
use Rattle.tsl_terms.specs.Name.{number_of, question, Name as NameEntry}
use Rattle.tsl_terms.specs.TermTree.{TermTree, signal, apply, TermTrees, no_terms, more_terms, ProbeTree}
use Rattle.tsl_terms.specs.WindowTree.{WindowTree, ListedTree, EquatedTree}
use Rattle.program_listing.specs.declared.listing.Name.{Name}
use Rattle.program_tree.specs.NodeTree.{NodeTree, branch, assign}
use Rattle.program_tree.specs.ProgramTree.{ProgramTree}
use Rattle.program_listing.specs.Listing.{SurfaceTermTree, bare, applied, SurfaceTermTrees, no_surfaces, more_surfaces, name_bytes}
use Rattle.program_listing.specs.Listing.{ListedLine, PlacedLine, WindowLine, NodeLine, branch_line, assignment_line, ListingTree, left_step}

abbrev pub probe_with : ℕ → TermTrees → ProbeTree
probe_with predicate arguments = record { predicate = predicate; arguments = arguments }

abbrev pub listed_of : ℕ → TermTree → ℕ → ListedTree
listed_of s t offset = record { signal = s; term = t; offset = offset }

abbrev pub equated_of : ProbeTree → ℕ → EquatedTree
equated_of p offset = record { probe = p; offset = offset }

abbrev pub window_of : Option ProbeTree → ProbeTree → ℕ → ℕ → List ListedTree → List EquatedTree → WindowTree
window_of left right left_at length updates equalities = record {
  left = left;
  left_at = left_at;
  right = right;
  length = length;
  updates = updates;
  equalities = equalities;
}

-- a number of 32 bits
abbrev pub small : ℕ → Option ℕ
small n = cond (nat_lt n (2 ^ 32)) (Some n) None

module _ (names : List NameEntry) (text : List ℕ) where
  abbrev pub numbered : Name → Option ℕ
  numbered at = number_of names (name_bytes text at)

  abbrev mutual
    pub numbered_term : SurfaceTermTree → Option TermTree
    numbered_term (bare at) = option_map signal (numbered at)
    numbered_term (applied at arguments) =
        option_and_then (λ number. option_map (apply number) (numbered_terms arguments)) (numbered at)

    pub numbered_terms : SurfaceTermTrees → Option TermTrees
    numbered_terms no_surfaces = Some no_terms
    numbered_terms (more_surfaces p ps) =
        option_and_then (λ tree. option_map (more_terms tree) (numbered_terms ps)) (numbered_term p)

  abbrev pub numbered_test : SurfaceTermTree → Option ProbeTree
  numbered_test (bare at) =
      option_and_then (λ s. option_map (λ q. probe_with q (more_terms (signal s) no_terms)) (number_of names question)) (numbered at)
  numbered_test (applied at arguments) =
      option_and_then (λ number. option_map (probe_with number) (numbered_terms arguments)) (numbered at)

  abbrev pub numbered_listed : ListedLine → Option ListedTree
  numbered_listed u =
      option_and_then (λ s. option_and_then (λ t. option_map (listed_of s t) (small u.offset)) (numbered_term u.term)) (numbered u.signal)

  abbrev pub numbered_equated : PlacedLine → Option EquatedTree
  numbered_equated e = option_and_then (λ p. option_map (equated_of p) (small e.step)) (numbered_test e.test)

  abbrev pub numbered_left : Option PlacedLine → Option (Option ProbeTree)
  numbered_left (Some left) = option_map Some (numbered_test left.test)
  numbered_left None = Some None

  abbrev pub numbered_window : WindowLine → Option WindowTree
  numbered_window w =
      option_and_then (λ left. option_and_then (λ right. option_and_then (λ left_at. option_and_then (λ length.
      option_and_then (λ updates. option_map (window_of left right left_at length updates) (all_there (map numbered_equated w.equalities)))
      (all_there (map numbered_listed w.updates)))
      (small w.right.step)) (small (left_step w.left))) (numbered_test w.right.test)) (numbered_left w.left)

  abbrev pub numbered_node : NodeLine → Option NodeTree
  numbered_node (branch_line test then_node else_node) =
      option_and_then (λ t. option_and_then (λ a. option_map (branch t a) (small else_node)) (small then_node)) (numbered_test test)
  numbered_node (assignment_line updates go) =
      option_and_then (λ ts. option_map (assign ts) (small go)) (all_there (map (λ u. numbered_term u.term) updates))

  -- the program of these lines, with numbers
  pub record Numbered (l : ListingTree) (p : ProgramTree) : Type 0 where
    pub inputs : all_there (map numbered l.inputs) ≡ Some p.inputs
    pub cells : all_there (map numbered l.cells) ≡ Some p.cells
    pub outputs : all_there (map numbered l.outputs) ≡ Some p.outputs
    pub windows : all_there (map numbered_window l.windows) ≡ Some p.windows
    pub nodes : all_there (map numbered_node l.nodes) ≡ Some p.nodes
    pub states : all_there (map small l.states) ≡ Some p.states
