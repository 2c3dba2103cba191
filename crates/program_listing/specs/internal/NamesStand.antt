-- Internal: only private functions and proofs use these words.
-- The names of a part of a listing lie in the text and may be names, and its terms nest at most 200 deep.
use Rattle.std.specs.Prelude.{ℕ, Bool, true, ◌&&◌, nat_le, List, length, IsTrue, Option, Some, None}
use Rattle.std.specs.List.{list_all}
use Rattle.tsl_text.specs.Names.{is_usable}
use Rattle.tsl_terms.specs.WellFormed.{deepest}
use Rattle.program_listing.specs.declared.listing.Name.{Name}
use Rattle.program_listing.specs.ListingTree.{SurfaceTermTree, bare, applied, SurfaceTermTrees, no_surfaces, more_surfaces, UpdateLine}
use Rattle.program_listing.specs.ListingTree.{ListedLine, PlacedLine, WindowLine, NodeLine, branch_line, assignment_line, ListingTree}
use Rattle.program_listing.specs.LineText.{surface_brackets}
use Rattle.program_listing.specs.Listing.{name_bytes, declared}

-- a name stands in the text, and may be a name
abbrev pub name_stands : List ℕ → Name → Bool
name_stands text name = (nat_le name.start name.end && nat_le name.end (length text)) && is_usable (name_bytes text name)

abbrev mutual
  pub surface_stands : List ℕ → SurfaceTermTree → Bool
  surface_stands text (bare name) = name_stands text name
  surface_stands text (applied name arguments) = name_stands text name && surfaces_stand text arguments

  pub surfaces_stand : List ℕ → SurfaceTermTrees → Bool
  surfaces_stand text no_surfaces = true
  surfaces_stand text (more_surfaces p ps) = surface_stands text p && surfaces_stand text ps

-- the names of a surface term stand in the text, and its brackets nest at most 200 deep
abbrev pub is_surface : List ℕ → SurfaceTermTree → Bool
is_surface text p = surface_stands text p && nat_le (surface_brackets p) deepest

abbrev pub update_line_stands : List ℕ → UpdateLine → Bool
update_line_stands text u = name_stands text u.signal && is_surface text u.term

abbrev pub listed_line_stands : List ℕ → ListedLine → Bool
listed_line_stands text u = name_stands text u.signal && is_surface text u.term

abbrev pub placed_line_stands : List ℕ → PlacedLine → Bool
placed_line_stands text t = is_surface text t.test

abbrev pub left_line_stands : List ℕ → Option PlacedLine → Bool
left_line_stands text (Some left) = placed_line_stands text left
left_line_stands text None = true

abbrev pub window_line_stands : List ℕ → WindowLine → Bool
window_line_stands text w =
    (left_line_stands text w.left && placed_line_stands text w.right)
    && (list_all (listed_line_stands text) w.updates && list_all (placed_line_stands text) w.equalities)

abbrev pub node_line_stands : List ℕ → NodeLine → Bool
node_line_stands text (branch_line test then_node else_node) = is_surface text test
node_line_stands text (assignment_line updates go) = list_all (update_line_stands text) updates

-- the names of all lines stand
pub record ListingStands (text : List ℕ) (l : ListingTree) : Type 0 where
  pub declared_stand : IsTrue (list_all (name_stands text) (declared l))
  pub windows_stand : IsTrue (list_all (window_line_stands text) l.windows)
  pub nodes_stand : IsTrue (list_all (node_line_stands text) l.nodes)
