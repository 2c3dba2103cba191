-- Internal: only private functions of this crate use these words.
use Rattle.name_resolution.specs.declared.walk.ReadScope.{ReadScope}
use Rattle.name_resolution.specs.Occurrences.{Scope}
use Rattle.name_resolution.specs.Heads.{is_name}

abbrev pub scope_of : ReadScope → Scope
scope_of s = record { is_defined = is_name s.heads.now; is_parameter = is_name s.parameters.now; in_section = s.in_section }
