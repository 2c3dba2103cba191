use Rattle.std.specs.Prelude.{OnOk}
use Rattle.std.proofs.Common.{◌≡◌, ◌∙◌, false, List, [], ◌∷◌, subst, sym, take}
use Rattle.clause_core.specs.Literals.{Lit}
use Rattle.clause_core.specs.Clauses.{in_order, has_pair}
use Rattle.bounded_encoding.specs.FrameView.{frame_tree}
use Rattle.bounded_encoding.specs.Made.{with_clauses}
use Rattle.bounded_encoding.specs.Refusing.{Refuses}
use Rattle.bounded_encoding.specs.internal.Transitions.{unless, shared, clause_for}
use Rattle.bounded_encoding.proofs.Around.{clause_is}
use Rattle.bounded_encoding.proofs.transition_clauses.add_transition.Goals as goal
use Rattle.bounded_encoding.proofs.transition_clauses.add_transition.Goals.{After-put_numbers-count}

is_put : (c : After-put_numbers-count) → take c.put_numbers-count.result c.put_numbers-count.new.literals
    ≡ clause_for (frame_tree c.args.frame.now) c.args.transition c.args.t c.args.i
is_put c = c.put_numbers-count.ensures.put (shared (frame_tree c.args.frame.now) c.args.transition c.args.t) c.requires.around
    ∙ clause_is (frame_tree c.args.frame.now) c.args.transition c.args.t c.args.pairs
    (unless (frame_tree c.args.frame.now) c.args.transition) c.args.i
    c.after_edge-later.result c.requires.pairs c.after_edge-later.ensures

pub add_without_pair-requires : goal.add_without_pair-requires
add_without_pair-requires c = record {
  unpaired = subst (λ (clause : List Lit). has_pair (in_order clause) ≡ false)
      (sym (is_put (goal.at.add_without_pair-requires c).After-put_numbers-count)) c.requires.unpaired;
}

pub returns-clause-added : goal.returns-clause-added
returns-clause-added c =
    subst (λ (clause : List Lit). OnOk c.add_without_pair.result (c.add_without_pair.new.self ≡ with_clauses c.args.out.now (clause ∷ [])))
    (is_put (goal.at.returns-clause-added c).After-put_numbers-count) c.add_without_pair.ensures.added

pub returns-clause-refused : goal.returns-clause-refused
returns-clause-refused c =
    subst (λ (clause : List Lit). Refuses c.add_without_pair.result (with_clauses c.args.out.now (clause ∷ [])))
    (is_put (goal.at.returns-clause-refused c).After-put_numbers-count) c.add_without_pair.ensures.refused
