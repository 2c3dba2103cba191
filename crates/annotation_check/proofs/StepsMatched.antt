-- The steps of the letters that match an edge, and of all edges so far.
use Rattle.std.proofs.Common.{◌≡◌, ◌∙◌, ℕ, zero, suc, ◌+◌, ◌<◌, ◌≤◌, Bool, true, false, List, [], ◌∷◌, ◌++◌, length, take, get_or, Option, None, Some}
use Rattle.std.proofs.Common.{slice_get, Contains, add-one, refl, sym, ap, subst, arith, inl, inr, ◌⊎◌}
use Rattle.std.specs.Prelude.{◌↔◌}
use Rattle.std.specs.Option.{option_map_or}
use Rattle.std.proofs.lemmas.Bool.{cases_lt, false≢true}
use Rattle.std.proofs.lemmas.List.Elements.{Contains-append_left, Contains-push, Contains-push_cases}
use Rattle.std.proofs.lemmas.Option.{slice_get-get_or, slice_get_within, slice_get_read, get_or_from_slice_get}
use Rattle.base_library.proofs.Places.{take_next}
use Rattle.lane_planes.specs.Planes.{has_bit, is_match}
use Rattle.cobuchi_automata.specs.Automata.{EdgeTree}
use Rattle.machines.specs.Moves.{MoveTree}
use Rattle.annotation_check.specs.declared.stepping.Step.{Step}
use Rattle.annotation_check.specs.internal.Listings.{IsMoveListing, IsRunEnd, AreRunEnds}
use Rattle.annotation_check.specs.internal.Steps.{IsStepOf, AreSteps, IsMatched, IsStepBelow}

-- ---- bits of letters

abbrev step_to : ℕ → ℕ → Bool → Step
step_to s q rejecting = record { machine_state = s; automaton_state = q; rejecting = rejecting }

matched_letter : (f : ℕ → Bool) (o : Option ℕ) → option_map_or f o false ≡ true → (l : ℕ) × (o ≡ Some l) × (f l ≡ true)
matched_letter f None is = absurd (false≢true is)
matched_letter f (Some l) is = (l, refl, is)

-- the end that is read for a place
pub run_at : (next ends : List ℕ) → AreRunEnds next ends → (bit end : ℕ) → bit < length next → end ≡ get_or ends bit end → IsRunEnd next bit end
run_at next ends runs bit end within is =
    let many = runs.many in
    let there : get_or ends bit 0 ≡ end =
    get_or_from_slice_get ends bit end 0 (slice_get_read ends (length ends) bit end refl (omega (arith, within, many)) is) in
    subst (IsRunEnd next bit) there (runs.each bit within)

module _ (letters next : List ℕ) (paired : length letters ≡ length next) (care want : ℕ) (plane : List ℕ)
    (matched : IsMatched letters care want plane) where
  letter_at : (bit : ℕ) → has_bit plane bit ≡ true → (l : ℕ) × (slice_get letters bit ≡ Some l) × (is_match care want l ≡ true)
  letter_at bit set = matched_letter (is_match care want) (slice_get letters bit) (sym (matched bit) ∙ set)

  -- a bit that is set is that of a letter
  pub bit_within : (bit : ℕ) → has_bit plane bit ≡ true → bit < length letters
  bit_within bit set = let at = letter_at bit set in slice_get_within letters bit at.0 at.1

  -- the bits of a run more
  module _ (to : ℕ) (rejecting : Bool) (before now after : List Step) (from bit state end : ℕ) where
    pub run_more : from ≤ bit → has_bit plane bit ≡ true → ((i : ℕ) → from ≤ i → i < bit → has_bit plane i ≡ false) →
        state ≡ get_or next bit state → (ends : List ℕ) → AreRunEnds next ends → end ≡ get_or ends bit end →
        ((x : Step) → Contains now x ↔ (Contains before x ⊎ IsStepBelow plane next to rejecting from x)) →
        ((x : Step) → Contains after x ↔ (Contains now x ⊎ (x ≡ step_to state to rejecting))) →
        (x : Step) → Contains after x ↔ (Contains before x ⊎ IsStepBelow plane next to rejecting end x)
    run_more later set first at ends runs stops so_far more x = (forward, backward)
      where
        run : IsRunEnd next bit end
        run = run_at next ends runs bit end (let within = bit_within bit set in omega (arith, within, paired)) stops

        there : state ≡ get_or next bit 0
        there =
            let within = bit_within bit set in
            sym (get_or_from_slice_get next bit state 0
            (slice_get_read next (length next) bit state refl (omega (arith, within, paired)) at))

        is : step_to state to rejecting ≡ step_to (get_or next bit 0) to rejecting
        is = ap (λ s. step_to s to rejecting) there

        wider : Contains before x ⊎ IsStepBelow plane next to rejecting from x → Contains before x ⊎ IsStepBelow plane next to rejecting end x
        wider (inl old) = inl old
        wider (inr s) =
            inr (record {
              bit = s.bit;
              below = (let b = s.below in let e = run.later in omega (arith, b, later, e));
              set = s.set;
              is = s.is;
            })

        forward : Contains after x → Contains before x ⊎ IsStepBelow plane next to rejecting end x
        forward stands = elim ((more x).0 stands) [
          | inl old ↦ wider ((so_far x).0 old)
          | inr new ↦ inr (record { bit = bit; below = run.later; set = set; is = new ∙ is })
        ]

        of_bit : (s : IsStepBelow plane next to rejecting end x) → Contains after x
        of_bit s = elim (cases_lt s.bit from) [
          | inl low ↦ (more x).1 (inl ((so_far x).1 (inr (record { bit = s.bit; below = low; set = s.set; is = s.is }))))
          | inr high ↦ elim (cases_lt s.bit bit) [
            | inl under ↦ absurd (false≢true (sym (first s.bit high under) ∙ s.set))
            | inr over ↦
                let same = ap (λ n. step_to n to rejecting) (run.same s.bit over s.below) in
                (more x).1 (inr (s.is ∙ same ∙ sym is))
          ]
        ]

        backward : Contains before x ⊎ IsStepBelow plane next to rejecting end x → Contains after x
        backward (inl old) = (more x).1 (inl ((so_far x).1 (inl old)))
        backward (inr s) = of_bit s

  -- the steps of all bits are those of an edge
  module _ (edge : EdgeTree) (cares : edge.care ≡ care) (wants : edge.want ≡ want) (moves : List MoveTree) (listing : IsMoveListing moves letters next)
      (from : ℕ) (none : (i : ℕ) → from ≤ i → has_bit plane i ≡ false) (t : Step) where
    of_edge : IsStepBelow plane next edge.to edge.rejecting from t → IsStepOf moves (edge ∷ []) t
    of_edge s =
        let at = letter_at s.bit s.set in
        let within = bit_within s.bit s.set in
        record {
          move = record { letter = at.0; next = get_or next s.bit 0 };
          edge = edge;
          moved = (listing _).1 (s.bit, at.1, slice_get-get_or next s.bit 0 (omega (arith, within, paired)));
          leaves = (0, omega arith, refl);
          matches = (λ i. is_match (cares i) (wants i) at.0) ∙ at.2;
          is = s.is;
        }

    the_edge : (e : EdgeTree) → Contains (edge ∷ []) e → edge ≡ e
    the_edge e (zero, within, is) = is
    the_edge e (suc k, within, is) = absurd (omega (arith, within))

    of_bit : IsStepOf moves (edge ∷ []) t → IsStepBelow plane next edge.to edge.rejecting from t
    of_bit s =
        let same = the_edge s.edge s.leaves in
        let at = (listing s.move).0 s.moved in
        let set : has_bit plane at.0 ≡ true = matched at.0 ∙ ap (λ o. option_map_or (is_match care want) o false) at.1
        ∙ (λ i. is_match ((sym cares ∙ ap (λ (e : EdgeTree). e.care) same) i) ((sym wants ∙ ap (λ (e : EdgeTree). e.want) same) i) s.move.letter)
        ∙ s.matches in
        record {
          bit = at.0;
          below = low at.0 set;
          set = set;
          is = s.is ∙ (λ i. record {
            machine_state = sym (get_or_from_slice_get next at.0 s.move.next 0 at.2) i;
            automaton_state = (sym same i).to;
            rejecting = (sym same i).rejecting;
          });
        }
      where
        low : (bit : ℕ) → has_bit plane bit ≡ true → bit < from
        low bit set = elim (cases_lt bit from) [
          | inl under ↦ under
          | inr over ↦ absurd (false≢true (sym (none bit over) ∙ set))
        ]

    pub edge_matched : (before now : List Step) →
        ((x : Step) → Contains now x ↔ (Contains before x ⊎ IsStepBelow plane next edge.to edge.rejecting from x)) →
        Contains now t ↔ (Contains before t ⊎ IsStepOf moves (edge ∷ []) t)
    edge_matched before now all = (
      λ stands. elim ((all t).0 stands) [
        | inl old ↦ inl old
        | inr s ↦ inr (of_edge s)
      ],
      λ e. elim e [
        | inl old ↦ (all t).1 (inl old)
        | inr s ↦ (all t).1 (inr (of_bit s))
      ],
    )

-- ---- edges

-- an edge more
pub edge_more : (moves : List MoveTree) (edges : List EdgeTree) (i : ℕ) (e : EdgeTree) (now after : List Step) → slice_get edges i ≡ Some e →
    AreSteps moves (take i edges) now → ((t : Step) → Contains after t ↔ (Contains now t ⊎ IsStepOf moves (e ∷ []) t)) →
    AreSteps moves (take (i + 1) edges) after
edge_more moves edges i e now after at so_far more t =
    let joined : take (i + 1) edges ≡ take i edges ++ e ∷ [] = ap (λ n. take n edges) (add-one i) ∙ take_next edges i e at in (
      λ stands. subst (λ es. IsStepOf moves es t) (sym joined) (elim ((more t).0 stands) [
        | inl old ↦ earlier ((so_far t).0 old)
        | inr new ↦ last new
      ]),
      λ s. (more t).1 (by (subst (λ es. IsStepOf moves es t) joined s)),
    )
  where
    earlier : IsStepOf moves (take i edges) t → IsStepOf moves (take i edges ++ e ∷ []) t
    earlier s = record {
      move = s.move;
      edge = s.edge;
      moved = s.moved;
      leaves = Contains-append_left (take i edges) (e ∷ []) s.edge s.leaves;
      matches = s.matches;
      is = s.is;
    }

    the_edge : (d : EdgeTree) → Contains (e ∷ []) d → e ≡ d
    the_edge d (zero, within, is) = is
    the_edge d (suc k, within, is) = absurd (omega (arith, within))

    last : IsStepOf moves (e ∷ []) t → IsStepOf moves (take i edges ++ e ∷ []) t
    last s = record {
      move = s.move;
      edge = s.edge;
      moved = s.moved;
      leaves = subst (Contains (take i edges ++ e ∷ [])) (the_edge s.edge s.leaves) (Contains-push (take i edges) e);
      matches = s.matches;
      is = s.is;
    }

    by : IsStepOf moves (take i edges ++ e ∷ []) t → Contains now t ⊎ IsStepOf moves (e ∷ []) t
    by s = elim (Contains-push_cases (take i edges) e s.edge s.leaves) [
      | inl old ↦ inl ((so_far t).1 (record {
        move = s.move;
        edge = s.edge;
        moved = s.moved;
        leaves = old;
        matches = s.matches;
        is = s.is;
      }))
      | inr new ↦ inr (record {
        move = s.move;
        edge = s.edge;
        moved = s.moved;
        leaves = (0, omega arith, new);
        matches = s.matches;
        is = s.is;
      })
    ]

-- what was written over the front of a list of equal length
pub written_length : {X : Type 0} (n : ℕ) (xs ys : List X) → n ≡ length xs → length (take n (xs ++ ys)) ≡ n
written_length n xs ys is = subst (λ k. length (take k (xs ++ ys)) ≡ k) (sym is) (front xs ys)
  where
    front : {X : Type 0} (xs ys : List X) → length (take (length xs) (xs ++ ys)) ≡ length xs
    front [] ys = refl
    front (x ∷ xs) ys = ap suc (front xs ys)
