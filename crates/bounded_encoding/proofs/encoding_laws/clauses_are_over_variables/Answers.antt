use Rattle.std.proofs.Common.{◌≡◌, false}
use Rattle.std.proofs.lemmas.List.Elements.{All-from_recursion}
use Rattle.clause_core.specs.Clauses.{has_pair}
use Rattle.bounded_encoding.specs.Encoding.{demands, encoding}
use Rattle.bounded_encoding.proofs.Unpaired.{none_paired}
use Rattle.bounded_encoding.proofs.Over.{encoding_over}
use Rattle.bounded_encoding.proofs.encoding_laws.clauses_are_over_variables.Goals as goal

pub returns : goal.returns
returns c = record {
  pairs = λ q. All-from_recursion (λ clause. has_pair clause ≡ false) (encoding q) (none_paired (demands q));
  over = encoding_over;
}
