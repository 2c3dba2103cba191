-- The names of a specification hold each number of its bits and of the rounds over them.
use Rattle.std.proofs.Common.{◌≡◌, ℕ, ◌==◌, ◌&&◌, Bool, true, false, cond, List, [], ◌∷◌, ◌++◌, Some, slice_get}
use Rattle.std.proofs.Common.{IsTrue, refl, sym, subst}
use Rattle.std.specs.List.{list_all, AllByRecursion}
use Rattle.std.proofs.lemmas.Bool.{and_parts, and_from, eqb-true}
use Rattle.std.proofs.lemmas.Option.{none-some}
use Rattle.base_library.proofs.Each.{each_weaker}
use Rattle.base_library.proofs.Passes.{passes_at, list_all_from_each}
use Rattle.tsl_terms.specs.Name.{Name}
use Rattle.tsl_terms.specs.TermTree.{TermTree}
use Rattle.tsl_terms.specs.SpecTree.{SpecTree}
use Rattle.tsl_terms.specs.WellFormed.{SpecFits}
use Rattle.tsl_terms.specs.WindowTree.{ListedTree, WindowTree, window_probes}
use Rattle.term_text.specs.TermText.{is_held, term_is_held, probe_is_held}
use Rattle.term_text.specs.WindowText.{listed_is_held, window_is_held}
use Rattle.letter_space.specs.SpaceTree.{ControlledTree, SpaceTree}
use Rattle.letter_space.specs.SpecSpace.{spec_space}
use Rattle.letter_space.specs.Letters.{term_taken}
use Rattle.letter_space.specs.Vectors.{picks_of}
use Rattle.machines.specs.MachineTree.{EnvironmentTree}
use Rattle.machines.specs.Moves.{EnvironmentFits}
use Rattle.machines.specs.MachineView.{environment_tree}
use Rattle.machines.specs.Rounds.{RoundTree}
use Rattle.branch_finder.specs.Spurious.{IsOneOf, IsSpurious}
use Rattle.branch_finder.proofs.SpuriousProbes.{spurious_probes}
use Rattle.refinement_loop.specs.declared.outcome.Bound.{Bound}
use Rattle.refinement_loop.specs.declared.outcome.Bound.TheVariants.{Fixed}
use Rattle.refinement_loop.specs.declared.outcome.Search.{Search}
use Rattle.refinement_loop.specs.declared.outcome.Reason.{Reason}
use Rattle.refinement_loop.specs.declared.outcome.Reason.TheVariants.{Rounds, NoCounter, Genuine}
use Rattle.refinement_loop.specs.Outcomes.{HasReason}
use Rattle.refinement_loop.specs.Questions.{IsCounterstrategy}
use Rattle.refinement_loop.specs.Chains.{IsChainFrom, IsChain}
use Rattle.environment_text.specs.EnvironmentText.{controlled_is_held, space_is_held}
use Rattle.environment_text.specs.RoundTexts.{RoundIsHeld, RoundsAreHeld}
use Rattle.search_text.specs.SearchTexts.{ReasonFits}
use Rattle.command_faults.proofs.HeldSpaces.{space_held}
use Rattle.synthesis_commands.specs.internal.SearchReasons.{reason_told}

-- ---- what is over a space that is held

module _ (names : List Name) where
  taken_held : (cs : List ControlledTree) (picks : List ℕ) (s : ℕ) (t : TermTree) → list_all (controlled_is_held names) cs ≡ true →
      term_taken cs picks s ≡ Some t → (is_held names s && term_is_held names t) ≡ true
  taken_held [] picks s t held taken = absurd (none-some t taken)
  taken_held (c ∷ cs) [] s t held taken = absurd (none-some t taken)
  taken_held (c ∷ cs) (pick ∷ picks) s t held taken =
      let parts = and_parts (controlled_is_held names c) (list_all (controlled_is_held names) cs) held in
      by (c.signal == s) refl parts.0 (taken_held cs picks s t parts.1) taken
    where
      by : (b : Bool) → (c.signal == s) ≡ b → controlled_is_held names c ≡ true →
          (term_taken cs picks s ≡ Some t → (is_held names s && term_is_held names t) ≡ true) →
          cond b (slice_get c.choices pick) (term_taken cs picks s) ≡ Some t → (is_held names s && term_is_held names t) ≡ true
      by true same first rest at =
          let parts = and_parts (is_held names c.signal) (list_all (term_is_held names) c.choices) first in
          and_from (is_held names s) (term_is_held names t)
          (subst (λ (r : ℕ). is_held names r ≡ true) (eqb-true c.signal s same) parts.0)
          (passes_at (term_is_held names) c.choices pick t parts.1 at)
      by false other first rest at = rest at

  pub spurious_held : (space : SpaceTree) (e : EnvironmentTree) (w : WindowTree) → IsTrue (space_is_held names space) →
      IsSpurious space e w → IsTrue (window_is_held names w)
  spurious_held space e w held h =
      let parts = and_parts (list_all (probe_is_held names) space.predicates) (list_all (controlled_is_held names) space.controlled) held in
      and_from _ _
      (list_all_from_each (probe_is_held names) (window_probes w)
      (spurious_probes space (λ p. probe_is_held names p ≡ true)
      (λ bit p at. passes_at (probe_is_held names) space.predicates bit p parts.0 at) e w h))
      (list_all_from_each (listed_is_held names) w.updates
      (each_weaker (λ (u : ListedTree). IsOneOf space (h.vector u.offset) u) (λ (u : ListedTree). listed_is_held names u ≡ true)
      (λ u one. taken_held space.controlled (picks_of space.controlled (h.vector u.offset)) u.signal u.term parts.1 one)
      w.updates h.listed))

-- ---- rounds

module _ (spec : SpecTree) (fits : SpecFits spec) where
  abbrev names : List Name
  names = spec.names

  counterstrategy_fits : (windows : List WindowTree) (states : ℕ) (bound : Bound) (e : EnvironmentTree) →
      IsCounterstrategy spec windows states bound e → EnvironmentFits (spec_space spec) e
  counterstrategy_fits windows states bound e h = subst (λ (s : SpaceTree). EnvironmentFits s e) h.asked.space h.solution.fits

  chain_held : (search : Search) (windows : List WindowTree) (rounds : List RoundTree) → IsChainFrom spec search windows rounds →
      AllByRecursion (RoundIsHeld names (spec_space spec)) rounds
  chain_held search windows [] chain = tt
  chain_held search windows (r ∷ rounds) chain = (
    record {
      fits = counterstrategy_fits windows search.env_states (Fixed search.env_bound) r.environment chain.0.environment;
      window = spurious_held names (spec_space spec) r.environment r.window (space_held spec fits) chain.0.spurious;
    },
    chain_held search (windows ++ r.window ∷ []) rounds chain.1,
  )

  pub rounds_held : (search : Search) (space : SpaceTree) (rounds : List RoundTree) → space ≡ spec_space spec → IsChain spec search rounds →
      RoundsAreHeld names space rounds
  rounds_held search space rounds same chain =
      subst (λ (s : SpaceTree). RoundsAreHeld names s rounds) (sym same)
      (record { terms = space_held spec fits; rounds = chain_held search [] rounds chain })

  pub no_rounds_held : (space : SpaceTree) → space ≡ spec_space spec → RoundsAreHeld names space []
  no_rounds_held space same =
      subst (λ (s : SpaceTree). RoundsAreHeld names s []) (sym same) (record { terms = space_held spec fits; rounds = tt })

  pub environment_fits : (windows : List WindowTree) (states : ℕ) (bound : Bound) (space : SpaceTree) (e : EnvironmentTree) → space ≡ spec_space spec →
      IsCounterstrategy spec windows states bound e → EnvironmentFits space e
  environment_fits windows states bound space e same h =
      subst (λ (s : SpaceTree). EnvironmentFits s e) (sym same) (counterstrategy_fits windows states bound e h)

  -- the environment of a reason fits
  pub reason_fits : (search : Search) (windows : List WindowTree) (space : SpaceTree) (reason : Reason) → space ≡ spec_space spec →
      HasReason spec search windows reason → ReasonFits space (reason_told search reason)
  reason_fits search windows space Rounds same has = tt
  reason_fits search windows space NoCounter same has = tt
  reason_fits search windows space (Genuine e) same has =
      environment_fits windows search.env_states (Fixed search.env_bound) space (environment_tree e) same has.1.counterstrategy
