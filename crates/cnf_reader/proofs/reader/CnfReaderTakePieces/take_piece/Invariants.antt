use Rattle.std.proofs.Common.{ℕ, ◌-◌, ◌≤◌, List, ◌++◌, length, take}
use Rattle.cnf_reader.specs.Pieces.{HasRead}
use Rattle.cnf_reader.proofs.reader.CnfReaderTakePieces.take_piece.Given as goal

abbrev pub invariant-loop-done : goal.invariant-loop-done
invariant-loop-done l = record {
  within : l.done ≤ length l.piece;
  read : (text : List ℕ) → HasRead l.fn.self text → HasRead l.self (text ++ take l.done l.piece);
}

abbrev pub decreases-loop-done : goal.decreases-loop-done
decreases-loop-done l = length l.piece - l.done
