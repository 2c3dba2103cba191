-- Internal: only private functions of this crate use these words.
-- The names that a use passes, without where they lie in memory.
use Rattle.std.specs.Prelude.{ℕ, List, map}
use Rattle.std.specs.Borrow.{Bor}
use Rattle.tsl_terms.specs.Name.{texts}
use Rattle.definition_expansion.specs.declared.expanding.Passed.{Passed}
use Rattle.definition_expansion.specs.Expansion.{passed}

-- names, as bytes
abbrev pub names_now : List (Bor (List ℕ)) → List (List ℕ)
names_now names = map (λ n. n.now) names

-- what a name in a body stands for
abbrev pub standing : Passed → List ℕ → List ℕ
standing p = passed (texts p.parameters.now) (names_now p.names.now)
