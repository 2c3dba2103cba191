-- The set has the keys so far, no two of which are the same.
use Rattle.std.proofs.Common.{◌≡◌, ℕ, true, map, take, Vec, Global}
use Rattle.std.specs.List.{list_any}
use Rattle.std.specs.BTreeSet.{contains}
use Rattle.program_listing.specs.Listing.{placed_line}
use Rattle.flow_program.specs.internal.EqualityKeys.{is_pairwise, are_apart}
use Rattle.flow_program.proofs.EqualityKeys.{key_order, has_key}
use Rattle.flow_program.proofs.equalities.none_stands_twice.Given as goal

abbrev pub invariant-loop-equality : goal.invariant-loop-equality
invariant-loop-equality l = record {
  apart : is_pairwise (are_apart l.text) (map placed_line (take l.equality-index l.equalities)) ≡ true;
  seen : (q : Vec ℕ Global) → contains key_order l.seen q
      ≡ list_any (has_key l.text q) (map placed_line (take l.equality-index l.equalities));
}
