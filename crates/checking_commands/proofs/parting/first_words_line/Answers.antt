use Rattle.checking_commands.specs.declared.parting.Style.TheVariants.{Words}
use Rattle.checking_commands.proofs.RunParting.{no_meaning, first_line}
use Rattle.checking_commands.proofs.parting.first_words_line.Goals as goal

pub returns-in-Some-clause-found : goal.returns-in-Some-clause-found
returns-in-Some-clause-found c =
    first_line c.args.text.now Words c.in-Some.at c.in-Some.ensures.found c.in-Some.ensures.first
    (λ other h. absurd (c.requires.no_tables other h))

pub returns-in-None-clause-none : goal.returns-in-None-clause-none
returns-in-None-clause-none c = no_meaning c.args.text.now c.requires.no_tables c.in-None.ensures.none
