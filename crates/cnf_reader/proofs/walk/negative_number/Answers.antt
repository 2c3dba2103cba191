use Rattle.std.proofs.Common.{sym, ap, ◌∙◌, Some, rules, w64, FitsSigned}
use Rattle.std.proofs.lemmas.Int.{to_z-of_z}
use Rattle.cnf_reader.proofs.WalkLemmas.{negative_means}
use Rattle.cnf_reader.proofs.walk.negative_number.Goals as goal

pub returns-clause-number : goal.returns-clause-number
returns-clause-number c =
    let number = c.in_ok-number.number in
    let fits : FitsSigned w64 number = search rules in
    negative_means c.args.digits.now c.in_ok-value.len c.in_ok-value.value number c.in_ok-value.ensures.number
    (sym c.in_ok-number.ensures)
    ∙ ap Some (sym (to_z-of_z w64 number fits))
