use Rattle.std.proofs.Common.{sym, ◌∙◌}
use Rattle.tsl_reader.proofs.TextParts.{stands_wrong, head_told, none}
use Rattle.tsl_reader.proofs.text_names.check_heads.Goals as goal

pub returns-in-Some-clause-cause : goal.returns-in-Some-clause-cause
returns-in-Some-clause-cause c = head_told c.requires.named c.first_head_fault.ensures (sym c.in-Some.is ∙ c.told_token.ensures)

pub returns-in-None-clause-once : goal.returns-in-None-clause-once
returns-in-None-clause-once c =
    none c.requires.named (λ hs os. stands_wrong) c.first_head_fault.ensures (sym c.in-None.is ∙ c.told_token.ensures)
