use Rattle.tsl_reader.proofs.TextParts.{heads_are_names}
use Rattle.tsl_reader.proofs.text_names.order_of.Goals as goal

pub order-requires : goal.order-requires
order-requires c =
    heads_are_names c.args.definitions.now c.requires.parts.1
