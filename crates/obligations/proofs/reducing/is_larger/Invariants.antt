use Rattle.std.proofs.Common.{◌≡◌, ◌&&◌, not, drop, nat_eq}
use Rattle.std.specs.List.{list_any}
use Rattle.obligations.specs.Choices.{is_within, same_choice, is_larger}
use Rattle.obligations.specs.Numbers.{choice_key, choice_keys}
use Rattle.obligations.proofs.reducing.is_larger.Given as goal

-- none of the choices gone through lies within it
abbrev pub invariant-loop-other : goal.invariant-loop-other
invariant-loop-other l =
    list_any (λ d. is_within nat_eq d (choice_key l.choice) && not (same_choice nat_eq d (choice_key l.choice)))
    (choice_keys (drop l.other-index l.choices))
    ≡ is_larger nat_eq (choice_keys l.choices) (choice_key l.choice)
