use Rattle.std.proofs.Common.{◌≡◌, drop, nat_eq}
use Rattle.base_library.specs.Kept.{is_kept}
use Rattle.obligations.specs.Choices.{same_choice}
use Rattle.obligations.specs.Numbers.{choice_key, choice_keys}
use Rattle.obligations.proofs.reducing.is_there.Given as goal

-- it is not among those gone through
abbrev pub invariant-loop-other : goal.invariant-loop-other
invariant-loop-other l =
    is_kept (λ k c. same_choice nat_eq c k) (choice_keys (drop l.other-index l.kept)) (choice_key l.choice)
    ≡ is_kept (λ k c. same_choice nat_eq c k) (choice_keys l.kept) (choice_key l.choice)
