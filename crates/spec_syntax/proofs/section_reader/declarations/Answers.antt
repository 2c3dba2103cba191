use Rattle.std.proofs.Common.{◌∙◌}
use Rattle.reader_combinators.proofs.MemberLoops.{viewed_more}
use Rattle.spec_syntax.specs.SyntaxView.{declaration_syntax}
use Rattle.spec_syntax.specs.Reading.{declaration}
use Rattle.spec_syntax.proofs.ExactDeclarations.{declaration_shrinks}
use Rattle.spec_syntax.proofs.section_reader.declarations.Goals as goal

pub loop-declarations-preserved : goal.loop-declarations-preserved
loop-declarations-preserved c =
    rw c.in_ok-push.ensures.items
    (viewed_more declaration_syntax (declaration c.args.levels_left) (declaration_shrinks c.args.levels_left) _ _ _ _
    (rw c.in-Some.is at c.in_ok-declaration.ensures.some))
    ∙ c.loop-declarations.invariant
