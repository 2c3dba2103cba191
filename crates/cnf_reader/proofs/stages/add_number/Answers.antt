use Rattle.std.proofs.Common.{◌≡◌, Some, sym, ap, ◌∙◌, rules, w64, to_z, of_z, FitsSigned}
use Rattle.std.proofs.lemmas.Int.{to_z-of_z}
use Rattle.std.specs.Prelude.{is_some}
use Rattle.tsl_text.specs.Numbers.{signed_number_in}
use Rattle.cnf_reader.specs.internal.Places.{tells}
use Rattle.cnf_reader.proofs.StageLemmas.{number_wrong, number_right}
use Rattle.cnf_reader.proofs.stages.add_number.Goals as goal

pub returns-in-None : goal.returns-in-None
returns-in-None c = λ words later.
    let word = c.args.word in
    number_wrong (tells c.args.told.now) word.line word.bytes.now words later (c.right_number.ensures.right word.line
    ∙ ap is_some c.in-None.is)

pub returns-in_ok-add-in-Some : goal.returns-in_ok-add-in-Some
returns-in_ok-add-in-Some c = λ words later.
    let word = c.args.word in
    let fits : FitsSigned w64 c.in-Some.number = search rules in
    let number = to_z w64 (of_z w64 c.in-Some.number) in
    let is : signed_number_in word.bytes.now ≡ Some number = c.in-Some.ensures.value ∙ ap Some (sym (to_z-of_z w64 c.in-Some.number fits)) in
    number_right (tells c.args.told.now) (tells c.add.new.self) word.line word.bytes.now number words later
    (record {
      counts = c.in_ok-add-in-Some.ensures.counts;
      ended = c.in_ok-add-in-Some.ensures.ended;
      clauses = c.in_ok-add-in-Some.ensures.clauses;
    })
    is (c.right_number.ensures.right word.line ∙ ap is_some c.in-Some.is)
