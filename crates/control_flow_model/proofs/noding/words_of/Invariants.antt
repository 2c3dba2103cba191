use Rattle.std.proofs.Common.{◌≡◌, take}
use Rattle.control_flow_model.proofs.noding.words_of.Given as goal

-- the numbers gone through
abbrev pub invariant-loop-number : goal.invariant-loop-number
invariant-loop-number l = l.words.items ≡ take l.number-index l.numbers
