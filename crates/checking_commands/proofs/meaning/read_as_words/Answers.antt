use Rattle.checking_commands.proofs.RunLaws.{read_means}
use Rattle.checking_commands.proofs.WordFaultLaws.{word_cause_stands}
use Rattle.checking_commands.proofs.meaning.read_as_words.Goals as goal

pub fault_of_words-requires-clause-stands : goal.fault_of_words-requires-clause-stands
fault_of_words-requires-clause-stands c =
    word_cause_stands c.args.text.now c.args.names.now c.args.cells.now c.in-Err.error c.requires.cells c.in-Err.ensures.cause

pub returns-in-Ok-clause-means : goal.returns-in-Ok-clause-means
returns-in-Ok-clause-means c =
    read_means c.args.names.now c.in-Ok.words.equality c.args.cells.now c.in-Ok.words.cells c.in-Ok.words.interpretation
    c.in-Ok.ensures.equality c.in-Ok.ensures.cells
