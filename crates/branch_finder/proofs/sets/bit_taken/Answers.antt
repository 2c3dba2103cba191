use Rattle.std.proofs.Common.{◌≡◌, ◌∙◌, ◌<◌, true, List, map, Some, ap, sym, length, subst}
use Rattle.std.proofs.lemmas.Option.{same_Some}
use Rattle.tsl_terms.specs.TermTree.{term_tree}
use Rattle.ltl_formula.specs.Cubes.{has_bit}
use Rattle.letter_space.specs.declared.controlled.Controlled.{Controlled}
use Rattle.letter_space.specs.ControlledView.{controlled_tree}
use Rattle.letter_space.specs.Bits.{bit_of_update}
use Rattle.letter_space.specs.Letters.{letter_of, term_taken}
use Rattle.letter_space.specs.SpaceView.{space_tree}
use Rattle.letter_space.proofs.Bounds.{picks_length, word_bit}
use Rattle.branch_finder.proofs.SetLemmas.{bit_there, bit_below, taken_is}
use Rattle.branch_finder.proofs.sets.bit_taken.Goals as goal

pub term_taken-requires : goal.term_taken-requires
term_taken-requires c = record {
  picks = picks_length c.args.space.now.controlled c.args.picks.now c.requires.picks ∙ sym (ap length c.as_slice.ensures);
}

-- the update that is taken
taken : (c : goal.In-Some-update_bit) → term_taken (space_tree c.args.space.now).controlled c.args.picks.now c.args.cell
    ≡ Some (term_tree c.in-Some.term.now)
taken c =
    ap (λ (cs : List Controlled). term_taken (map controlled_tree cs) c.args.picks.now c.args.cell) (sym c.as_slice.ensures)
    ∙ c.in-Some.ensures.some

bit_at : (c : goal.In-Some-update_bit) → bit_of_update (space_tree c.args.space.now) c.args.cell (term_tree c.in-Some.term.now)
    ≡ Some c.in-Some-update_bit.bit
bit_at c = sym c.update_bit.ensures ∙ c.in-Some-update_bit.is

below : (c : goal.In-Some-update_bit) → c.in-Some-update_bit.bit < 64
below c =
    let space = space_tree c.args.space.now in
    let there = bit_there space c.args.space.now.is_space c.args.picks.now c.requires.picks c.args.cell (term_tree c.in-Some.term.now)
    (taken c) in
    let same = same_Some there.0 c.in-Some-update_bit.bit (sym there.1 ∙ bit_at c) in
    bit_below space c.args.space.now.is_space c.args.picks.now c.requires.picks c.in-Some-update_bit.bit
    (subst (λ b. has_bit b (letter_of space 0 c.args.picks.now) ≡ true) same there.2)

pub overflow_shl-result : goal.overflow_shl-result
overflow_shl-result c = below c

pub returns-in-Some-update_bit : goal.returns-in-Some-update_bit
returns-in-Some-update_bit c =
    word_bit c.in-Some-update_bit.bit (below c)
    ∙ sym (taken_is (space_tree c.args.space.now) c.args.space.now.is_space c.args.picks.now c.requires.picks c.args.cell
    (term_tree c.in-Some.term.now) c.in-Some-update_bit.bit (taken c) (bit_at c))
