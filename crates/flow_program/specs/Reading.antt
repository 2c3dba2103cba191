-- What reading a program text gives.
use Rattle.std.specs.Prelude.{◌≡◌, ℕ, List, ◌++◌, Some, None}
use Rattle.tsl_terms.specs.Name.{Name}
use Rattle.flow_program.specs.declared.reading.ProgramError.{ProgramError}
use Rattle.flow_program.specs.declared.reading.ProgramError.TheVariants.{Form, NoMemory}
use Rattle.program_tree.specs.ProgramTree.{ProgramTree}
use Rattle.flow_program.specs.ProgramText.{ProgramText}
use Rattle.program_listing.specs.Listing.{ListingTree, IsListing, FormFault}
use Rattle.flow_program.specs.Uses.{uses_of, names_after}
use Rattle.flow_program.specs.Rules.{fault_of}

-- The text spells the program over these names, which are the given ones and then those of the text by first appearance.
pub record IsReading (text : List ℕ) (given : List Name) (p : ProgramTree) (names : List Name) : Type 0 where
  pub listing : ListingTree
  pub is_listing : IsListing text listing
  pub no_fault : fault_of text given listing ≡ None
  pub names_are : names ≡ names_after given (uses_of text listing)
  pub spelled : ProgramText text names p

-- the lines of the text have this fault
pub record HasRuleFault (text : List ℕ) (given : List Name) (fault : ProgramError) : Type 0 where
  pub listing : ListingTree
  pub is_listing : IsListing text listing
  pub fault_is : fault_of text given listing ≡ Some fault

-- what each refusal says of the text
abbrev pub HasProgramCause : List ℕ → List Name → ProgramError → Type 0
HasProgramCause text given (Form line) = FormFault text line
HasProgramCause text given NoMemory = Unit {0}
HasProgramCause text given fault = HasRuleFault text given fault

-- the refusal says something of the text: it is not that memory ran out
abbrev pub IsOfProgramText : ProgramError → Type 0
IsOfProgramText NoMemory = ⊥
IsOfProgramText _ = Unit {0}

-- names that begin with these
abbrev pub GoOnFrom : List Name → List Name → Type 0
GoOnFrom given names = (more : List Name) × (names ≡ given ++ more)
