use Rattle.std.proofs.Common.{◌≡◌, ◌<◌, not, length, map, take, drop, Some}
use Rattle.std.specs.List.{find, AllByRecursion}
use Rattle.entry_names.specs.Entries.{is_known, numbers_of}
use Rattle.entry_names.proofs.locating.entry_numbers.Given as goal

-- the numbers so far, and the first wrong entry is still to come
abbrev pub invariant-loop-entry : goal.invariant-loop-entry
invariant-loop-entry g l = record {
  numbers : numbers_of l.names (map g.E.Named.subject (take l.entry-index l.entries)) ≡ map (λ n. Some n) l.numbers.items;
  within : AllByRecursion (λ n. n < length l.names) l.numbers.items;
  first : find (λ e. not (is_known l.names l.needed e)) (map g.E.Named.subject l.entries)
      ≡ find (λ e. not (is_known l.names l.needed e)) (map g.E.Named.subject (drop l.entry-index l.entries));
}
