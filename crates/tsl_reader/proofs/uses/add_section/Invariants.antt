use Rattle.std.proofs.Common.{◌≡◌, ◌++◌, map, drop}
use Rattle.std.specs.Prelude.{flat_map}
use Rattle.tsl_reader.specs.Naming.{uses}
use Rattle.spec_syntax.specs.SyntaxView.{formula_syntax}
use Rattle.tsl_reader.specs.UseView.{read_use}
use Rattle.tsl_reader.proofs.uses.add_section.Given as goal

-- the uses so far, and then those of the formulas that are left
abbrev pub invariant-loop-formula : goal.invariant-loop-formula
invariant-loop-formula l =
    map read_use l.list.items ++ flat_map uses (map formula_syntax (drop l.formula-index l.section.formulas.items))
    ≡ map read_use l.fn.list.items ++ flat_map uses (map formula_syntax l.section.formulas.items)
