-- What the listing of a program text is, and which line of a text is the first at fault.
use Rattle.std.specs.Prelude.{◌≡◌, ℕ, suc, ◌-◌, ◌<◌, List, [], ◌++◌, length, map, take, drop, flat_map, IsTrue}
use Rattle.std.specs.List.{list_all}
use Rattle.tsl_text.specs.Written.{is_line, text_of_lines}
use Rattle.tsl_terms.specs.declared.names.NameKind.TheVariants.{Signal}
use Rattle.tsl_terms.specs.Name.{AreDistinct, Name as NameEntry}
use Rattle.program_listing.specs.declared.listing.Name.{Name}
pub use Rattle.program_listing.specs.ListingTree.{
  SurfaceTermTree,
  bare,
  applied,
  SurfaceTermTrees,
  no_surfaces,
  more_surfaces,
  count_of_surfaces,
  UpdateLine,
  ListedLine,
  PlacedLine,
  WindowLine,
  NodeLine,
  branch_line,
  assignment_line,
  ListingTree,
  left_step,
  surface_tree,
  surface_trees,
  update_line,
  listed_line,
  placed_line,
  window_line,
  node_line,
  listing_tree,
}
pub use Rattle.program_listing.specs.LineText.{bracketed_surface, surface_brackets, surfaces_brackets}
use Rattle.program_listing.specs.LineText.{Stand, listing_lines, ended_pieces, line_is_within}

-- the bytes of a name
abbrev pub name_bytes : List ℕ → Name → List ℕ
name_bytes text name = take (name.end - name.start) (drop name.start text)

-- the names of signals that lines declare
abbrev pub declared_entry : List ℕ → Name → NameEntry
declared_entry text name = record { text = name_bytes text name; kind = Signal; arity = 0 }

abbrev pub declared : ListingTree → List Name
declared l = (l.inputs ++ l.cells) ++ l.outputs

-- The text is that of these lines, whose names stand where they say, one after another: a name that is declared is declared
-- once, terms nest at most 200 deep, numbers have at most 18 digits, and there is a node and a state.
pub record IsListing (text : List ℕ) (l : ListingTree) : Type 0 where
  pub end : ℕ
  pub in_place : Stand (flat_map ended_pieces (listing_lines l)) (record { at = 0; bytes = text }) (record { at = end; bytes = [] })
  pub within : IsTrue (list_all line_is_within (listing_lines l))
  pub declared_once : AreDistinct (map (declared_entry text) (declared l))
  pub has_node : 0 < length l.nodes
  pub has_state : 0 < length l.states

-- two texts begin with the same lines, so many, each with its line feed
pub record BeginAlike (count : ℕ) (text other : List ℕ) : Type 0 where
  pub lines : List (List ℕ)
  pub are_lines : IsTrue (list_all is_line lines)
  pub number : length lines ≡ count
  pub after_text : List ℕ
  pub text_is : text ≡ text_of_lines lines ++ after_text
  pub after_other : List ℕ
  pub other_is : other ≡ text_of_lines lines ++ after_other

-- The line with this number, from 1, is the first at fault: some text that has a listing begins with the lines before it, but
-- none begins with these lines and it, and the text itself has no listing.
pub record FormFault (text : List ℕ) (line : ℕ) : Type 0 where
  pub count : ℕ
  pub next : line ≡ suc count
  pub other : List ℕ
  pub listing : ListingTree
  pub is_listing : IsListing other listing
  pub before : BeginAlike count text other
  pub here : (another : List ℕ) (l : ListingTree) → IsListing another l → BeginAlike line text another → ⊥
  pub none : (l : ListingTree) → IsListing text l → ⊥
