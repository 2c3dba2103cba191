use Rattle.std.proofs.Common.{◌≡◌, not, false}
use Rattle.std.specs.List.{list_all}
use Rattle.std.specs.Option.{option_map_or}
use Rattle.spec_syntax.specs.SyntaxView.{terms_syntax}
use Rattle.definition_expansion.specs.Expansion.{bare_names}
use Rattle.name_resolution.specs.Heads.{is_name}
use Rattle.name_resolution.proofs.walk.are_free_names.Given as goal

-- all are so exactly where those that are left are
abbrev pub invariant-loop-rest : goal.invariant-loop-rest
invariant-loop-rest l =
    option_map_or (list_all (λ y. not (is_name l.heads y))) (bare_names (terms_syntax l.rest)) false
    ≡ option_map_or (list_all (λ y. not (is_name l.heads y))) (bare_names (terms_syntax l.fn.terms)) false
