-- The lines of a program text as pure values, without where they lie in memory: names are places in the text.
use Rattle.std.specs.Prelude.{ℕ, ◌+◌, List, [], map, Option, Some, None, option_map}
use Rattle.program_listing.specs.declared.listing.Name.{Name}
use Rattle.program_listing.specs.declared.listing.SurfaceTerm.{SurfaceTerm}
use Rattle.program_listing.specs.declared.listing.SurfaceTerm.TheVariants.{Bare, Applied}
use Rattle.program_listing.specs.declared.listing.SurfaceTermList.{SurfaceTermList}
use Rattle.program_listing.specs.declared.listing.SurfaceTermList.TheVariants.{Empty, More'}
use Rattle.program_listing.specs.declared.listing.SpelledUpdate.{SpelledUpdate}
use Rattle.program_listing.specs.declared.listing.SpelledListed.{SpelledListed}
use Rattle.program_listing.specs.declared.listing.SpelledPlaced.{SpelledPlaced}
use Rattle.program_listing.specs.declared.listing.SpelledWindow.{SpelledWindow}
use Rattle.program_listing.specs.declared.listing.SpelledNode.{SpelledNode}
use Rattle.program_listing.specs.declared.listing.SpelledNode.TheVariants.{Branch, Assignment}
use Rattle.program_listing.specs.declared.listing.ProgramSyntax.{ProgramSyntax}

-- a term or a test: a name alone, or a name with its arguments
mutual
  pub data SurfaceTermTree : Type 0 where
    bare : Name → SurfaceTermTree
    applied : Name → SurfaceTermTrees → SurfaceTermTree

  pub data SurfaceTermTrees : Type 0 where
    no_surfaces : SurfaceTermTrees
    more_surfaces : SurfaceTermTree → SurfaceTermTrees → SurfaceTermTrees

-- how many surface terms a list has
abbrev pub count_of_surfaces : SurfaceTermTrees → ℕ
count_of_surfaces no_surfaces = 0
count_of_surfaces (more_surfaces p ps) = 1 + count_of_surfaces ps

-- an update of an assignment
pub record UpdateLine : Type 0 where
  pub signal : Name
  pub term : SurfaceTermTree

-- an update that a window lists
pub record ListedLine : Type 0 where
  pub signal : Name
  pub term : SurfaceTermTree
  pub offset : ℕ

-- a test at a step of a window
pub record PlacedLine : Type 0 where
  pub test : SurfaceTermTree
  pub step : ℕ

-- the line of a window: a left test or none, the right test at the last step, and what is listed
pub record WindowLine : Type 0 where
  pub left : Option PlacedLine
  pub right : PlacedLine
  pub updates : List ListedLine
  pub equalities : List PlacedLine

-- the step of the left test, 0 where there is none
abbrev pub left_step : Option PlacedLine → ℕ
left_step None = 0
left_step (Some left) = left.step

-- the line of a node, without its number
pub data NodeLine : Type 0 where
  branch_line : SurfaceTermTree → ℕ → ℕ → NodeLine
  assignment_line : List UpdateLine → ℕ → NodeLine

-- the lines of a program text, each kind in its order
pub record ListingTree : Type 0 where
  pub inputs : List Name
  pub cells : List Name
  pub outputs : List Name
  pub windows : List WindowLine
  pub nodes : List NodeLine
  pub states : List ℕ

abbrev mutual
  pub surface_tree : SurfaceTerm → SurfaceTermTree
  surface_tree (Bare name) = bare name
  surface_tree (Applied name arguments) = applied name (surface_trees arguments)

  pub surface_trees : SurfaceTermList → SurfaceTermTrees
  surface_trees Empty = no_surfaces
  surface_trees (More' p head q rest) = more_surfaces (surface_tree head) (surface_trees rest)

abbrev pub update_line : SpelledUpdate → UpdateLine
update_line u = record { signal = u.signal; term = surface_tree u.term }

abbrev pub listed_line : SpelledListed → ListedLine
listed_line u = record { signal = u.signal; term = surface_tree u.term; offset = u.offset }

abbrev pub placed_line : SpelledPlaced → PlacedLine
placed_line t = record { test = surface_tree t.test; step = t.step }

abbrev pub window_line : SpelledWindow → WindowLine
window_line w = record {
  left = option_map placed_line w.left;
  right = placed_line w.right;
  updates = map listed_line w.updates.items;
  equalities = map placed_line w.equalities.items;
}

abbrev pub node_line : SpelledNode → NodeLine
node_line (Branch test then_node else_node) = branch_line (surface_tree test) then_node else_node
node_line (Assignment updates go) = assignment_line (map update_line updates.items) go

abbrev pub listing_tree : ProgramSyntax → ListingTree
listing_tree l = record {
  inputs = l.inputs.items;
  cells = l.cells.items;
  outputs = l.outputs.items;
  windows = map window_line l.windows.items;
  nodes = map node_line l.nodes.items;
  states = l.states.items;
}

-- the listing without lines
abbrev pub empty_listing : ListingTree
empty_listing = record { inputs = []; cells = []; outputs = []; windows = []; nodes = []; states = [] }
