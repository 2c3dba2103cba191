use Rattle.std.proofs.Common.{◌≡◌, ◌∙◌, List, map, get_or, slice_get, sym, ap, refl}
use Rattle.tsl_terms.specs.declared.term.Term.{Term}
use Rattle.tsl_terms.specs.TermTree.{term_tree}
use Rattle.letter_space.specs.ControlledView.{controlled_tree}
use Rattle.letter_space.specs.Letters.{term_taken}
use Rattle.branch_finder.proofs.Taken.{taken_next, taken_here, looked_up, none_looked_up}
use Rattle.branch_finder.proofs.listing.term_taken.Goals as goal

-- the term that is looked up
wanted : (c : goal.After-get) → term_taken (map controlled_tree c.args.controlled.now) c.args.picks.now c.args.signal
    ≡ slice_get (map term_tree c.as_slice.result.now) (get_or c.args.picks.now c.loop-place.place 0)
wanted c =
    sym c.loop-place.invariant
    ∙ taken_here c.args.controlled.now c.args.picks.now c.args.signal c.loop-place.place (get_or c.args.picks.now c.loop-place.place 0)
    c.index-controlled-place.result c.loop-place-test.true c.requires.picks c.index-controlled-place.is c.if-candidate-signal.true refl
    ∙ ap (λ (ts : List Term). slice_get (map term_tree ts) (get_or c.args.picks.now c.loop-place.place 0)) (sym c.as_slice.ensures)

pub returns-then-candidate-signal-clause-some : goal.returns-then-candidate-signal-clause-some
returns-then-candidate-signal-clause-some c =
    looked_up c.as_slice.result.now (get_or c.args.picks.now c.loop-place.place 0) c.get.result
    (term_taken (map controlled_tree c.args.controlled.now) c.args.picks.now c.args.signal) (wanted c) c.get.ensures.lookup.0
    c.get.ensures.lookup.1

pub returns-then-candidate-signal-clause-none : goal.returns-then-candidate-signal-clause-none
returns-then-candidate-signal-clause-none c =
    none_looked_up c.as_slice.result.now (get_or c.args.picks.now c.loop-place.place 0) c.get.result
    (term_taken (map controlled_tree c.args.controlled.now) c.args.picks.now c.args.signal) (wanted c) c.get.ensures.lookup.0

pub loop-place-preserved : goal.loop-place-preserved
loop-place-preserved c =
    sym (taken_next c.args.controlled.now c.args.picks.now c.args.signal c.loop-place.place c.index-controlled-place.result
    c.loop-place-test.true c.requires.picks c.index-controlled-place.is c.if-candidate-signal.false) ∙ c.loop-place.invariant
