use Rattle.std.proofs.Common.{◌+◌, ◌≤◌, take}
use Rattle.tsl_text.proofs.PlaceLaws.{IsPlace}
use Rattle.tsl_text.proofs.places.place_of.Given as goal

-- the place behind the bytes so far
abbrev pub invariant-loop-byte : goal.invariant-loop-byte
invariant-loop-byte l = record {
  place : IsPlace (take l.byte-index l.byte-items) l.line l.column;
  within : l.column ≤ 1 + l.byte-index;
}
