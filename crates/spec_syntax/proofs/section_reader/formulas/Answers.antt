use Rattle.std.proofs.Common.{map, ap, sym, ◌∙◌}
use Rattle.reader_combinators.specs.Readers.{map_read}
use Rattle.spec_syntax.specs.SyntaxView.{formula_syntax}
use Rattle.spec_syntax.specs.internal.InnerView.{listed_syntax}
use Rattle.spec_syntax.specs.Reading.{formulas, items_of}
use Rattle.spec_syntax.proofs.ReadLemmas.{passed_on}
use Rattle.spec_syntax.proofs.ReadLoops.{items_more, items_last, items_fault}
use Rattle.spec_syntax.proofs.section_reader.formulas.Goals as goal

pub returns-in_err-formula : goal.returns-in_err-formula
unfolding formulas
returns-in_err-formula c =
    passed_on listed_syntax (formulas c.args.levels_left) c.args.xs.now _ _ c.from_residual.ensures.1
    (items_fault c.args.levels_left (map formula_syntax c.loop-formulas.formulas.items) _ _ _
    (c.in_err-formula.ensures.fault _) c.loop-formulas.invariant)

pub loop-formulas-preserved : goal.loop-formulas-preserved
loop-formulas-preserved c =
    rw c.in_ok-push.ensures.items
    (items_more c.args.levels_left c.loop-formulas.formulas.items c.in-Some.formula _ _ _
    (rw c.in-Some.is at c.in_ok-formula.ensures.some _)
    (c.in-Some-after_semicolon.ensures.some c.args.levels_left _)) ∙ c.loop-formulas.invariant

pub returns-in-None : goal.returns-in-None
unfolding formulas
returns-in-None c =
    rw c.in_ok-push.ensures.items
    (ap (map_read items_of) (sym c.loop-formulas.invariant
    ∙ items_last c.args.levels_left c.loop-formulas.formulas.items c.in-Some.formula _ _
    (rw c.in-Some.is at c.in_ok-formula.ensures.some _) (c.in-None.ensures.none c.args.levels_left _)))
