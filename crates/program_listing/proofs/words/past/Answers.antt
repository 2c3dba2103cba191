use Rattle.std.proofs.Common.{sym}
use Rattle.std.proofs.lemmas.Slice.Eq.{strip_prefix_is}
use Rattle.std.specs.Prelude.{Some, None}
use Rattle.program_listing.specs.internal.LineReading.{left_place}
use Rattle.line_formats.proofs.FormatLaws.{eqb_decides}
use Rattle.program_listing.proofs.Strips.{past_found, past_none}
use Rattle.program_listing.proofs.words.past.Goals as goal

pub returns-in-Some : goal.returns-in-Some
returns-in-Some c =
    sym (past_found c.args.word.now (left_place c.args.left) c.in-Some.bytes.now
    (strip_prefix_is eqb_decides c.args.left.bytes.now c.args.word.now (Some c.in-Some.bytes) c.in-Some.ensures.cases))

pub returns-in-None : goal.returns-in-None
returns-in-None c =
    sym (past_none c.args.word.now (left_place c.args.left)
    (strip_prefix_is eqb_decides c.args.left.bytes.now c.args.word.now None c.in-None.ensures.cases))
