use Rattle.std.proofs.Common.{arith}
use Rattle.checking_commands.specs.declared.parting.Style.TheVariants.{Tables, Words}
use Rattle.checking_commands.proofs.RunParting.{first_line}
use Rattle.checking_commands.proofs.parting.first_line.Goals as goal

pub returns-in_default-line_at-clause-found : goal.returns-in_default-line_at-clause-found
returns-in_default-line_at-clause-found c =
    first_line c.args.text.now Tables c.in-Some.tables c.in-Some.ensures.found c.in-Some.ensures.first
    (λ other h. absurd (c.in_default-line_at.ensures.none other h))

pub returns-then-words-tables-clause-found : goal.returns-then-words-tables-clause-found
returns-then-words-tables-clause-found c =
    first_line c.args.text.now Words c.in-Some-line_at.words c.in-Some-line_at.ensures.found c.in-Some-line_at.ensures.first
    (λ other h. omega (arith, c.in-Some.ensures.first other h, c.if-words-tables.true))

pub returns-else-words-tables-clause-found : goal.returns-else-words-tables-clause-found
returns-else-words-tables-clause-found c =
    first_line c.args.text.now Tables c.in-Some.tables c.in-Some.ensures.found c.in-Some.ensures.first
    (λ other h. omega (arith, c.in-Some-line_at.ensures.first other h, c.if-words-tables.false))
