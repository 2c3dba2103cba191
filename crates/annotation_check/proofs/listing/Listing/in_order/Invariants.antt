use Rattle.std.proofs.Common.{◌≡◌, map, take}
use Rattle.machines.specs.declared.moves.Move.{Move}
use Rattle.annotation_check.proofs.listing.Listing.in_order.Given as goal

abbrev pub invariant-loop-step : goal.invariant-loop-step
invariant-loop-step l =
    (l.letters.items ≡ map (λ (m : Move). m.letter) (take l.step-index l.moves))
    × (l.next.items ≡ map (λ (m : Move). m.next) (take l.step-index l.moves))
