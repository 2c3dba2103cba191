-- Where no node is held any more, no rejecting step of a node that is reached lies on a turn.
use Rattle.std.proofs.Common.{◌≡◌, ℕ, inl, inr, List, length, Option, subst, arith}
use Rattle.std.proofs.lemmas.Option.{slice_get_within}
use Rattle.loop_acceptance.specs.declared.product.Step.{Step}
use Rattle.loop_acceptance.specs.declared.marks.Mark.{Mark}
use Rattle.loop_acceptance.specs.declared.search.Frame.{Frame}
use Rattle.loop_acceptance.specs.internal.Graph.{StepsTo, TurnFrom}
use Rattle.loop_acceptance.specs.internal.Search.{IsFinished, IsNotNew, IsNestedSearch}
use Rattle.loop_acceptance.proofs.Walks.{reach_stays}

module _ (step : ℕ → ℕ → Option Step) (nodes : ℕ) (marks : List Mark) (red : List ℕ) (frames : List Frame)
    (search : IsNestedSearch step nodes marks red frames) (none : length frames ≡ 0) where
  finished : (p : ℕ) → IsNotNew marks p → IsFinished marks p
  finished p (inl held) = let r = search.found.in_frame p held in let w = slice_get_within frames r.0 r.1 r.2 in absurd (omega (
    arith,
    w,
    none,
  ))
  finished p (inr done) = done

  goes_on : (p q : ℕ) → IsFinished marks p → StepsTo step p q → IsFinished marks q
  goes_on p q done leads = finished q (subst (IsNotNew marks) leads.3 (search.found.seen p done leads.0 leads.1 leads.2))

  pub no_turn : TurnFrom step 0 → ⊥
  no_turn turn =
      search.found.never turn.node turn.next
      (reach_stays step (IsFinished marks) goes_on 0 turn.node (finished 0 search.first) turn.reached) turn.rejects turn.back
