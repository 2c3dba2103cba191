use Rattle.std.proofs.Common.{◌≡◌, ℕ, List, [], Some, length, slice_get}
use Rattle.sat_trail.specs.declared.watches.Watch.{Watch}
use Rattle.sat_trail.proofs.watches.Watches.new.Given as goal

abbrev pub invariant-loop-code : goal.invariant-loop-code
invariant-loop-code l = record {
  count : length l.lists.items ≡ l.code;
  empty : (code : ℕ) (list : List Watch) → slice_get l.lists.items code ≡ Some list → list ≡ [];
}
