use Rattle.bounded_encoding.specs.Variables.{variable_count}
use Rattle.bounded_encoding.specs.Encoding.{encoding}
use Rattle.tsl_tool.proofs.ProofsVerified.{spelled_verified}
use Rattle.tsl_tool.proofs.laws.proofs_are_verified.Goals as goal

pub returns : goal.returns
returns c = λ sizes spec text proof. spelled_verified text (variable_count proof.question) (encoding proof.question) proof.spelled
