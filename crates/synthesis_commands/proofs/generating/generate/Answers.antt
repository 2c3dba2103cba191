use Rattle.std.proofs.Common.{ℕ, List, length, ap, ◌∙◌, arith}
use Rattle.tsl_terms.specs.SpecView.{spec_tree}
use Rattle.generator.proofs.GeneratedSpelled.{generated_is_short}
use Rattle.synthesis_commands.proofs.GenStages.{spec_outcome}
use Rattle.synthesis_commands.proofs.generating.generate.Goals as goal

pub read_spec-requires : goal.read_spec-requires
read_spec-requires c =
    let short = generated_is_short c.args.n c.requires.some c.requires.few in
    let same = ap (λ (bytes : List ℕ). length bytes) (c.deref.ensures.value ∙ c.in_ok-text.ensures) in
    omega (arith, short, same)

pub returns-in-Ok : goal.returns-in-Ok
returns-in-Ok c =
    spec_outcome c.args.n (spec_tree c.in-Ok.spec) c.reply_to_generated.result c.deref.result.now c.in-Ok.ensures.ok
    (c.deref.ensures.value ∙ c.in_ok-text.ensures) c.reply_to_generated.ensures
