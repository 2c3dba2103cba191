use Rattle.std.proofs.Common.{◌≡◌, ◌++◌, map, drop}
use Rattle.tsl_reader.specs.Naming.{all_uses}
use Rattle.spec_syntax.specs.SyntaxView.{section_syntax}
use Rattle.tsl_reader.specs.UseView.{read_use}
use Rattle.tsl_reader.proofs.uses.all_uses.Given as goal

-- the uses so far, and then those of the sections that are left
abbrev pub invariant-loop-section : goal.invariant-loop-section
invariant-loop-section l =
    map read_use l.list.items ++ all_uses (map section_syntax (drop l.section-index l.sections)) ≡ all_uses (map section_syntax l.sections)
