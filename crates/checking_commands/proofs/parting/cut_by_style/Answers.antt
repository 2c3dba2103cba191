use Rattle.std.proofs.Common.{refl}
use Rattle.std.proofs.lemmas.List.{take_rest}
use Rattle.checking_commands.proofs.parting.cut_by_style.Goals as goal

pub returns-clause-found : goal.returns-clause-found
returns-clause-found c = record {
  cut = record {
    at = c.in_ok-line.line.at;
    first = c.in_ok-line.ensures.found.first;
    before_is = refl;
    after_is = take_rest c.args.text.now c.in_ok-line.line.at;
  };
  comes_first = c.in_ok-line.ensures.found.comes_first;
}
