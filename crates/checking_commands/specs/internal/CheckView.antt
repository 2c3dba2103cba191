-- Internal: only private functions of this crate use these words.
-- The texts that are checked.
use Rattle.std.specs.Prelude.{◌≢◌, ℕ, ◌^◌, ◌≤◌, List, length}
use Rattle.tsl_terms.specs.Name.{Name}
use Rattle.tsl_terms.specs.SpecTree.{SpecTree}
use Rattle.tsl_terms.specs.SpecView.{spec_tree}
use Rattle.program_tree.specs.ProgramTree.{ProgramTree}
use Rattle.program_tree.specs.ProgramView.{program_tree}
use Rattle.tool_io.specs.declared.status.Status.TheVariants.{Done}
use Rattle.checking_commands.specs.declared.checking.Texts.{Texts}
use Rattle.checking_commands.specs.declared.checking.Judged.{Judged}
use Rattle.checking_commands.specs.declared.checking.Judged.TheVariants.{Accepted, Replied}
use Rattle.checking_commands.specs.Check.{CheckParts, SpellCheckInput, TextsOutcome}
use Rattle.checking_commands.specs.Judged.{AreAcceptedTexts}

abbrev pub check_parts : Texts → CheckParts
check_parts texts = record { spec = texts.spec.now; program = texts.program.now }

-- neither has more bytes than what `check` reads
pub record AreShortTexts (parts : CheckParts) : Type 0 where
  pub spec : length parts.spec ≤ 2 ^ 24
  pub program : length parts.program ≤ 2 ^ 24

-- they spell a specification and a program
abbrev pub AreSpelled : CheckParts → SpecTree → ProgramTree → Type 0
AreSpelled parts spec program =
    (names : List Name) × SpellCheckInput parts (record { spec = spec; names = names; program = program })

-- what is known of them
abbrev pub AreTextsJudged : ℕ → CheckParts → Judged → Type 0
AreTextsJudged bound parts (Accepted spec program) = AreAcceptedTexts bound parts (spec_tree spec) (program_tree program)
AreTextsJudged bound parts (Replied reply) = TextsOutcome bound parts reply × (reply.status ≢ Done)
