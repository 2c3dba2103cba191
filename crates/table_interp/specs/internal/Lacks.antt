-- Internal: only private functions of this crate use these words.
-- What the entry of a needed name may be refused for, as one test.
use Rattle.std.specs.Prelude.{ℕ, Bool, List}
use Rattle.tsl_terms.specs.Name.{Name}
use Rattle.table_syntax.specs.Syntax.{TablesSyntax}
use Rattle.table_interp.specs.declared.entries.Lack.{Lack}
use Rattle.table_interp.specs.declared.entries.Lack.TheVariants as lack
use Rattle.table_interp.specs.Tables.{has_many_entries, has_other_length}

abbrev pub lacks : Lack → List Name → TablesSyntax → ℕ → Bool
lacks lack.Room = has_many_entries
lacks lack.Count = has_other_length
