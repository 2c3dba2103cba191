-- A turn of the loop that takes the choices of a state, one after the other.
use Rattle.std.proofs.Common.{◌≡◌, ◌∙◌, ℕ, suc, ◌+◌, ◌<◌, ◌≤◌, List, [], ◌∷◌, ◌++◌, length, map, take, get_or, Some, None, slice_get, refl, Contains, sym, ap, subst, arith}
use Rattle.std.specs.Prelude.{option_map}
use Rattle.std.specs.List.{AllByRecursion}
use Rattle.std.proofs.lemmas.List.{map_push, take_all}
use Rattle.std.proofs.lemmas.Option.{slice_get-map, slice_get-get_or}
use Rattle.base_library.proofs.Each.{each_at, each_joined}
use Rattle.base_library.proofs.Places.{contains_at, take_next}
use Rattle.ltl_formula.specs.LtlTree.{LtlTree}
use Rattle.obligations.specs.declared.numbered.NumberedChoice.{NumberedChoice}
use Rattle.obligations.specs.declared.step_error.StepError.{StepError}
use Rattle.obligations.specs.declared.step_error.StepError.TheVariants.{Choices, NoMemory}
use Rattle.obligations.specs.Expansion.{ChoiceTree, choices}
use Rattle.obligations.specs.Numbers.{ChoiceKey, choice_key, choice_keys}
use Rattle.obligations.specs.Named.{formula_named, choice_named, IsWell}
use Rattle.cobuchi_automata.specs.declared.build_error.BuildError.{BuildError}
use Rattle.cobuchi_automata.specs.Automata.{EdgeTree, untils_of, IsReached, Leads}
use Rattle.cobuchi_automata.specs.Refusals.{HasBuildCause, build_error}
use Rattle.cobuchi_automata.specs.internal.Exploring.{StateKey, state_named, states_named, Takes, IsChoiceRefusal, IsPlan, IsStateKey, IsExplored}
use Rattle.cobuchi_automata.proofs.ExploredLemmas.{taken, leads, still_leads, still_here, refused, expanded}

module _ (f : LtlTree) (names : List LtlTree) (untils : List ℕ) (n : ℕ) (keys : List StateKey) (edges : List EdgeTree) (k : StateKey)
    (list : List NumberedChoice) where
  abbrev named : ChoiceKey → ChoiceTree
  named = choice_named names

  abbrev LeadOn : List StateKey → List EdgeTree → List NumberedChoice → Type 0
  LeadOn ks es cs = AllByRecursion (Leads (untils_of f) (states_named names ks) es n (state_named names k)) (map named (choice_keys cs))

  pub counts_here : IsExplored f names untils n keys edges → slice_get keys n ≡ Some k → k.counter ≤ length untils
  counts_here x here = (each_at (IsStateKey names untils) keys n k x.named here).counts

  -- where the choices of the state's set are too many, a reached set has too many
  pub no_choices : IsExplored f names untils n keys edges → slice_get keys n ≡ Some k → (e : StepError)
      → (e ≡ Choices → choices (map (formula_named names) k.members) ≡ None) → HasBuildCause f (build_error e)
  no_choices x here Choices many = record {
    state = state_named names k;
    reached = each_at (IsReached f) (states_named names keys) n (state_named names k) x.reached
        (slice_get-map (state_named names) keys n ∙ ap (option_map (state_named names)) here);
    none = many refl;
  }
  no_choices x here NoMemory many = tt

  module _ (i : ℕ) (choice : NumberedChoice) (within : i < length list) (is : choice ≡ get_or list i choice) where
    stands : slice_get list i ≡ Some choice
    stands = slice_get-get_or list i choice within ∙ ap Some (sym is)

    key_stands : slice_get (choice_keys list) i ≡ Some (choice_key choice)
    key_stands = slice_get-map choice_key list i ∙ ap (option_map choice_key) stands

    chosen : Contains (map named (choice_keys list)) (named (choice_key choice))
    chosen = contains_at (map named (choice_keys list)) i (named (choice_key choice))
        (slice_get-map named (choice_keys list) i ∙ ap (option_map named) key_stands)

    pub well_here : AllByRecursion (IsWell names) (choice_keys list) → IsWell names (choice_key choice)
    well_here well = each_at (IsWell names) (choice_keys list) i (choice_key choice) well key_stands

    one_more : map named (choice_keys (take (i + 1) list)) ≡ map named (choice_keys (take i list)) ++ named (choice_key choice) ∷ []
    one_more =
        let next : i + 1 ≡ suc i = omega arith in
        ap (λ m. map named (choice_keys (take m list))) next
        ∙ ap (λ cs. map named (choice_keys cs)) (take_next list i choice stands)
        ∙ ap (map named) (map_push choice_key (take i list) choice)
        ∙ map_push named (choice_keys (take i list)) (choice_key choice)

    module _ (plan : IsPlan f names untils) (x : IsExplored f names untils n keys edges) (here : slice_get keys n ≡ Some k)
        (are : choices (map (formula_named names) k.members) ≡ Some (map named (choice_keys list)))
        (well : AllByRecursion (IsWell names) (choice_keys list)) (new : List StateKey) (new_edges : List EdgeTree) where
      -- what is explored, where the state stands, and what leads on
      pub turn : Takes untils n k.counter (choice_key choice) keys edges new new_edges → LeadOn keys edges (take i list)
          → IsExplored f names untils n new new_edges × (slice_get new n ≡ Some k) × LeadOn new new_edges (take (i + 1) list)
      turn t so_far =
          let old = still_leads f names untils plan n keys new edges new_edges k (map named (choice_keys list)) (choice_key choice) x here
          are chosen (well_here well) (map named (choice_keys (take i list))) t so_far in
          let one = leads f names untils plan n keys new edges new_edges k (map named (choice_keys list)) (choice_key choice) x here are
          chosen (well_here well) t in (
            taken f names untils plan n keys new edges new_edges k (map named (choice_keys list)) (choice_key choice) x here are chosen
                (well_here well) t,
            still_here f names untils plan n keys new edges new_edges k (map named (choice_keys list)) (choice_key choice) x here are
                chosen (well_here well) t.states,
            subst (AllByRecursion (Leads (untils_of f) (states_named names new) new_edges n (state_named names k))) (sym one_more)
                (each_joined (Leads (untils_of f) (states_named names new) new_edges n (state_named names k))
                (map named (choice_keys (take i list))) (named (choice_key choice) ∷ []) old (one, tt)),
          )

      pub turn_refused : (e : BuildError) → IsChoiceRefusal untils n k.counter (choice_key choice) keys edges new new_edges e →
          HasBuildCause f e
      turn_refused = refused f names untils plan n keys new edges new_edges k (map named (choice_keys list)) (choice_key choice) x here are
          chosen (well_here well)

  pub all_taken : (i : ℕ) → length list ≤ i → IsPlan f names untils → IsExplored f names untils n keys edges → slice_get keys n ≡ Some k
      → choices (map (formula_named names) k.members) ≡ Some (map named (choice_keys list)) → LeadOn keys edges (take i list)
      → IsExplored f names untils (n + 1) keys edges
  all_taken i past plan x here are so_far =
      expanded f names untils plan n keys edges k (map named (choice_keys list)) x here are
      (subst (LeadOn keys edges) (take_all i list past) so_far)
