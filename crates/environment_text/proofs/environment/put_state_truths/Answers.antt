use Rattle.std.proofs.Common.{◌≡◌, ℕ, List, [], ◌++◌, codes, ap, sym, subst, ◌∙◌, slice_index_or, append_assoc}
use Rattle.std.specs.Prelude.{OnOk}
use Rattle.std.specs.Option.{option_map_or}
use Rattle.machines.proofs.EnvironmentTables.{truths_there}
use Rattle.environment_text.specs.EnvironmentText.{truths_text}
use Rattle.environment_text.proofs.environment.put_state_truths.Goals as goal

pub returns : goal.returns
returns c =
    let truths : ℕ = slice_index_or c.as_slice.result.now c.args.state 0 in
    let there = truths_there c.args.environment.now c.args.state truths c.requires.state
    (ap (λ ts. slice_index_or ts c.args.state 0) c.as_slice.ensures) in
    subst (λ (ys : List ℕ). OnOk c.put_truths.result (c.put_truths.new.out.items ≡ ys))
    (ap (λ (ys : List ℕ). ys ++ truths_text c.args.tests truths) c.in_ok-put_bytes.ensures.ok
    ∙ append_assoc c.args.out.now.items (codes " truths") (truths_text c.args.tests truths)
    ∙ ap (λ o. c.args.out.now.items ++ (codes " truths" ++ option_map_or (truths_text c.args.tests) o [])) (sym there))
    c.put_truths.ensures
