use Rattle.std.proofs.Common.{◌≡◌, ◌<◌, ◌≤◌, length, take}
use Rattle.sat_trail.specs.internal.Tables.{IsPlaceTable, AreTruths}
use Rattle.sat_trail.specs.Entries.{level_of}
use Rattle.sat_trail.specs.States.{up_to}
use Rattle.sat_trail.proofs.stack.Stack.undo_to.Given as goal

abbrev pub invariant-loop-last : goal.invariant-loop-last
invariant-loop-last l = record {
  variables : l.self-inside.variables ≡ l.initial.self-inside.variables;
  clauses : l.self-inside.clauses ≡ l.initial.self-inside.clauses;
  level : l.self-inside.level ≡ l.initial.self-inside.level;
  broken : l.self-inside.broken ≡ l.initial.self-inside.broken;
  short : length l.self-inside.entries.items ≤ length l.initial.self-inside.entries.items;
  front : l.self-inside.entries.items ≡ take (length l.self-inside.entries.items) l.initial.self-inside.entries.items;
  left : up_to l.level l.self-inside.entries.items ≡ up_to l.level l.initial.self-inside.entries.items;
  truths : AreTruths l.self-inside.variables l.self-inside.truths.items l.self-inside.entries.items;
  table : IsPlaceTable l.self-inside.variables l.self-inside.places.items l.self-inside.entries.items;
  top : length l.self-inside.entries.items < length l.initial.self-inside.entries.items → l.level ≤ level_of l.self-inside.entries.items;
}

abbrev pub decreases-loop-last : goal.decreases-loop-last
decreases-loop-last l = length l.self-inside.entries.items
