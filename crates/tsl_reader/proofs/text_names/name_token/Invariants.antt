use Rattle.std.proofs.Common.{◌≡◌, drop}
use Rattle.std.specs.Prelude.{slice_get}
use Rattle.tsl_reader.specs.Spells.{name_tokens}
use Rattle.tsl_reader.proofs.text_names.name_token.Given as goal

-- the place among the tokens that are left
abbrev pub invariant-loop-token : goal.invariant-loop-token
invariant-loop-token l =
    slice_get (name_tokens l.text (drop l.token-index l.tokens)) l.left ≡ slice_get (name_tokens l.text l.tokens) l.place
