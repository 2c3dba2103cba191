use Rattle.checking_commands.proofs.meaning.read_meaning.Goals as goal

pub returns-in-Tables-clause-spells : goal.returns-in-Tables-clause-spells
returns-in-Tables-clause-spells c = rw c.in-Tables.is c.read_as_tables.ensures.spells

pub returns-in-Words-clause-spells : goal.returns-in-Words-clause-spells
returns-in-Words-clause-spells c = rw c.in-Words.is c.read_as_words.ensures.spells
