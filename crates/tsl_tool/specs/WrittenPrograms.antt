-- Programs that are run with the specification that they were written from, or with none.
use Rattle.std.specs.Prelude.{◌≡◌, ◌⊎◌, ℕ, List, []}
use Rattle.tsl_terms.specs.SpecTree.{SpecTree}
use Rattle.tsl_reader.specs.Spells.{Spells}
use Rattle.checking_commands.specs.RunParts.{RunParts, AreParts}

-- both texts spell one specification
abbrev pub SpellTheSame : List ℕ → List ℕ → Type 0
SpellTheSame text other = (spec : SpecTree) × Spells text spec × Spells other spec

-- what stands before a program is nothing, or spells what the text of the specification spells
abbrev pub IsGivenWith : List ℕ → List ℕ → Type 0
IsGivenWith specification given = (given ≡ []) ⊎ SpellTheSame specification given

-- the bytes have the parts that `run` reads; their program is this text, and before it stands that specification, or nothing
pub record RunsProgramOf (specification text bytes : List ℕ) : Type 0 where
  pub parts : RunParts
  pub are_parts : AreParts bytes parts
  pub program : parts.program ≡ text
  pub given : IsGivenWith specification parts.spec
