-- What is written and what is left make the whole.
use Rattle.std.proofs.Common.{◌≡◌, ◌++◌, drop, map}
use Rattle.std.specs.List.{AllWithin}
use Rattle.clause_core.specs.Clauses.{IsIncreasing}
use Rattle.tsl_text.specs.Written.{text_of_lines}
use Rattle.refutation_text.specs.Written.{clause_line, cnf_text}
use Rattle.refutation_text.proofs.output.put_cnf.Given as goal

abbrev pub invariant-loop-place : goal.invariant-loop-place
invariant-loop-place l = record {
  increasing : AllWithin IsIncreasing l.cnf.clauses 0 l.place;
  written : l.out.items ++ text_of_lines (map clause_line (drop l.place l.cnf.clauses))
      ≡ l.fn.out.items ++ cnf_text l.cnf.variables l.cnf.clauses;
}
