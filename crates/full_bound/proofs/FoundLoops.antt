-- What is found in the table of the steps between pairs: a loop on which the machine fails, or that it has an annotation.
use Rattle.std.proofs.Common.{◌≡◌, ◌∙◌, ℕ, ◌*◌, ◌<◌, ◌≤◌, inl, inr, List, [], ◌++◌, length, map, take, drop, Contains, Vec, sym, ap, subst}
use Rattle.std.proofs.Common.{arith}
use Rattle.std.specs.Prelude.{unwrap_or, option_map}
use Rattle.std.specs.declared.alloc.Global.{Global}
use Rattle.std.proofs.Math.Seq.{take-append_seam, drop-append_seam}
use Rattle.std.proofs.lemmas.Bool.{cases_lt}
use Rattle.std.proofs.lemmas.Option.{slice_get-map, slice_get_past}
use Rattle.base_library.proofs.Lists.{map_map}
use Rattle.ltl_formula.specs.LtlTree.{LtlTree}
use Rattle.cobuchi_automata.specs.Automata.{StateTree, EdgeTree, IsAutomaton}
use Rattle.machines.specs.Moves.{MoveTree}
use Rattle.full_bound.specs.declared.search.Step.{Step}
use Rattle.full_bound.specs.Failing.{StayWithin, IsFailing, HasAnnotationWithin}
use Rattle.full_bound.specs.internal.Pairs.{PairStep, pair_steps}
use Rattle.full_bound.specs.internal.PairTable.{listed_step}
use Rattle.full_bound.specs.internal.Search.{steps_from}
use Rattle.full_bound.specs.internal.Turning.{step_to, step_rejects, letters_of, Turn, IsTurn}
use Rattle.full_bound.proofs.AnnotatedOrFailing.{stays, failing, turn_or_annotated}
use Rattle.full_bound.proofs.Images.{source_of, turn_over, turn_under}

-- no step is from a pair that is none
none_past : (table : List (Vec Step Global)) (p : ℕ) → length table ≤ p → steps_from table p ≡ []
none_past table p past =
    ap (λ o. unwrap_or o []) (slice_get-map (λ (v : Vec Step Global). v.items) table p
    ∙ ap (option_map (λ (v : Vec Step Global). v.items)) (slice_get_past table p past))

module _ (f : LtlTree) (states : List StateTree) (edges : List EdgeTree) (automaton : IsAutomaton f states edges)
    (machine_states : ℕ) (some_machine : 0 < machine_states) (moves : ℕ → List MoveTree) (stay : StayWithin machine_states moves)
    (table : List (Vec Step Global)) (size : length table ≡ machine_states * length states)
    (steps_are : (p : ℕ) → steps_from table p ≡ map (listed_step (length states)) (pair_steps (length states) moves edges p)) where
  abbrev Q : ℕ
  Q = length states

  abbrev images : ℕ → List Step
  images p = map (listed_step Q) (pair_steps Q moves edges p)

  as_images : steps_from table ≡ images
  as_images = λ i p. steps_are p i

  pub steps_stay : (p : ℕ) (s : Step) → Contains (steps_from table p) s → s.to < length table
  steps_stay p s stands = elim (cases_lt p (length table)) [
    | inl within ↦
        let source = source_of (listed_step Q) (pair_steps Q moves edges p) s (subst (λ ss. Contains ss s) (steps_are p) stands) in
        let below = stays f states edges automaton machine_states some_machine moves stay p source.0 (omega (arith, size, within))
        source.1 in
        subst (λ n. n < length table) (ap (λ (t : Step). t.to) source.2) (omega (arith, size, below))
    | inr past ↦ absurd (let none = subst (λ ss. Contains ss s) (none_past table p past) stands in omega (arith, none.1))
  ]

  letters_are : (ss : List PairStep) (ts : List Step) (letters : List ℕ) → map (listed_step Q) ss ≡ ts → letters_of ts ≡ letters →
      map (λ (s : PairStep). s.move.letter) ss ≡ letters
  letters_are ss ts letters images_are spelled =
      sym (map_map (λ (t : Step). t.letter) (listed_step Q) ss) ∙ ap letters_of images_are ∙ spelled

  -- a turn that is found
  pub found_fails : (stem turn letters : List ℕ) (back : ℕ) → IsTurn (steps_from table) stem turn → back ≡ length stem →
      letters ≡ stem ++ turn →
      IsFailing f moves (record { stem = take back letters; cycle = drop back letters })
  found_fails stem turn letters back found back_is letters_is =
      let of_images = subst (λ steps. IsTurn steps stem turn) as_images found in
      let over = turn_over (listed_step Q) (pair_steps Q moves edges) step_to step_rejects of_images.0 in
      let stem_is = letters_are over.0.stem of_images.0.stem stem over.1 of_images.1 in
      let turn_is = letters_are over.0.turn of_images.0.turn turn over.2 of_images.2 in
      let first : take back letters ≡ stem = (λ i. take (back_is i) (letters_is i)) ∙ take-append_seam stem turn in
      let rest : drop back letters ≡ turn = (λ i. drop (back_is i) (letters_is i)) ∙ drop-append_seam stem turn in
      subst (IsFailing f moves) (λ i. record { stem = (stem_is ∙ sym first) i; cycle = (turn_is ∙ sym rest) i })
      (failing f states edges automaton machine_states some_machine moves stay over.0)

  -- and none that is found
  pub none_annotated : (Turn (steps_from table) → ⊥) → HasAnnotationWithin edges moves (machine_states * Q)
  none_annotated none = elim (turn_or_annotated f states edges automaton machine_states some_machine moves stay) [
    | inl turn ↦
        absurd (none (subst Turn (sym as_images) (turn_under (listed_step Q) (pair_steps Q moves edges) step_to step_rejects turn)))
    | inr annotated ↦ annotated
  ]
