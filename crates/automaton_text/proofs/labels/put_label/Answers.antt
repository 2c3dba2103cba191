use Rattle.base_library.proofs.Results.{on_ok_two}
use Rattle.automaton_text.proofs.Writing.{label_written}
use Rattle.automaton_text.proofs.labels.put_label.Goals as goal

pub returns-in_ok-put_literal-in-Some : goal.returns-in_ok-put_literal-in-Some
returns-in_ok-put_literal-in-Some c =
    on_ok_two c.put_further.result
    (λ further _. label_written c.args.cube.care c.args.cube.want c.args.bits c.in-Some.first _ _ _ _ c.in-Some.ensures.some
    c.in_ok-put_literal-in-Some.ensures further)
    c.put_further.ensures c.put_further.ensures
