use Rattle.std.proofs.Common.{◌≡◌, map}
use Rattle.std.specs.Prelude.{option_map}
use Rattle.spec_syntax.specs.declared.trees.ReadTerms.{size-ReadTerms}
use Rattle.definition_expansion.specs.Expansion.{bare_names}
use Rattle.spec_syntax.specs.SyntaxView.{terms_syntax}
use Rattle.definition_expansion.specs.internal.Standing.{names_now, standing}
use Rattle.definition_expansion.proofs.MoreMembers.{names_behind}
use Rattle.definition_expansion.proofs.expanding.bare_names.Given as goal

-- the names so far, and then those that are left
abbrev pub invariant-loop-rest : goal.invariant-loop-rest
invariant-loop-rest l =
    names_behind (names_now l.names.items) (option_map (map (standing l.passed)) (bare_names (terms_syntax l.rest)))
    ≡ option_map (map (standing l.passed)) (bare_names (terms_syntax l.fn.arguments))

abbrev pub decreases-loop-rest : goal.decreases-loop-rest
decreases-loop-rest l = size-ReadTerms l.rest
