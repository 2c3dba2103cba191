-- Occurrences, without where their bytes lie in memory.
use Rattle.name_resolution.specs.declared.occurrence.ReadOccurrence.{ReadOccurrence}
use Rattle.name_resolution.specs.Occurrences.{Occurrence}

abbrev pub occurrence_of : ReadOccurrence → Occurrence
occurrence_of o = record {
  text = o.text.now;
  kind = o.kind;
  arity = o.arity;
  role = o.role;
  level = o.level;
  in_section = o.in_section;
  is_alone = o.is_alone;
}
