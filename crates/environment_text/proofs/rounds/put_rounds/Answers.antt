use Rattle.std.proofs.Common.{◌≡◌, ℕ, ◌+◌, ◌<◌, List, ◌++◌, length, get_or, drop, map, Some, ap, sym, ◌∙◌, add-one}
use Rattle.std.proofs.lemmas.Option.{slice_get-get_or}
use Rattle.base_library.proofs.Each.{each_at, each_unmapped}
use Rattle.base_library.proofs.Lists.{written_step, left_at}
use Rattle.tsl_terms.specs.Name.{Name}
use Rattle.letter_space.specs.SpaceTree.{SpaceTree}
use Rattle.letter_space.specs.SpaceView.{space_tree}
use Rattle.machines.specs.declared.rounds.Round.{Round}
use Rattle.machines.specs.MachineView.{round_tree}
use Rattle.environment_text.specs.RoundTexts.{round_text, rounds_text_from, RoundIsHeld}
use Rattle.environment_text.proofs.rounds.put_rounds.Goals as goal

pub put_round-requires-clause-round : goal.put_round-requires-clause-round
put_round-requires-clause-round c =
    each_at (λ (r : Round). RoundIsHeld c.args.names.now (space_tree c.args.space.now) (round_tree r)) c.args.rounds.now c.loop-number.number
    c.index-rounds-number.result
    (each_unmapped (RoundIsHeld c.args.names.now (space_tree c.args.space.now)) round_tree c.args.rounds.now c.requires.rounds)
    (slice_get-get_or c.args.rounds.now c.loop-number.number _ c.loop-number-test.true ∙ ap Some (sym c.index-rounds-number.is))

rounds_left : (names : List Name) (space : SpaceTree) (rounds : List Round) (i : ℕ) (r : Round) → i < length rounds → r ≡ get_or rounds i r →
    rounds_text_from names space i (map round_tree (drop i rounds)) ≡ round_text names space i (round_tree r)
    ++ rounds_text_from names space (i + 1) (map round_tree (drop (i + 1) rounds))
rounds_left names space rounds i r within is =
    ap (λ (rs : List Round). rounds_text_from names space i (map round_tree rs)) (left_at rounds i r within is)
    ∙ ap (λ (k : ℕ). round_text names space i (round_tree r)
    ++ rounds_text_from names space k (map round_tree (drop (i + 1) rounds))) (sym (add-one i))

pub loop-number-preserved : goal.loop-number-preserved
loop-number-preserved c =
    written_step _ _ _ _ _ _ c.loop-number.invariant
    (rounds_left c.args.names.now (space_tree c.args.space.now) c.args.rounds.now c.loop-number.number c.index-rounds-number.result
    c.loop-number-test.true c.index-rounds-number.is)
    c.in_ok-put_round.ensures
