use Rattle.std.proofs.Common.{◌≤◌, ◌++◌, take, subst, arith, rules}
use Rattle.std.proofs.lemmas.List.{take_all}
use Rattle.cnf_reader.specs.Pieces.{HasRead}
use Rattle.cnf_reader.proofs.PlaceLemmas.{part_more}
use Rattle.cnf_reader.proofs.reader.CnfReaderTakePieces.take_piece.Goals as goal

pub loop-done-preserved : goal.loop-done-preserved
loop-done-preserved c =
    let done = c.loop-done.done in
    let end = c.min-end.result in
    let piece = c.args.piece.now in
    let further : done ≤ end = search rules in record {
      within = search rules;
      read = λ text read. subst (HasRead c.take_part.new.self) (part_more text piece done end further)
          (c.in_ok-take_part.ensures (text ++ take done piece) (c.loop-done.invariant.read text read));
    }

pub returns : goal.returns
returns c = λ text read.
    let done = c.loop-done.done in
    let piece = c.args.piece.now in
    subst (λ xs. HasRead c.loop-done.self (text ++ xs)) (take_all done piece (omega arith)) (c.loop-done.invariant.read text read)
