use Rattle.std.proofs.Common.{◌≡◌, map, take, Some}
use Rattle.tsl_terms.specs.TermTree.{term_tree}
use Rattle.letter_space.specs.ControlledView.{controlled_tree}
use Rattle.control_flow_model.specs.ControllerOf.{terms_picked}
use Rattle.control_flow_model.proofs.noding.terms_of.Given as goal

-- the choices gone through stand for these terms
abbrev pub invariant-loop-place : goal.invariant-loop-place
invariant-loop-place l =
    terms_picked (map controlled_tree (take l.place l.controlled-items)) (take l.place l.picks) ≡ Some (map term_tree l.terms.items)
