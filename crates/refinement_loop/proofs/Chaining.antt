-- A chain that grows by a round, and what is told of the rounds of a loop.
use Rattle.std.proofs.Common.{◌≡◌, ◌∙◌, ◌+◌, ◌≤◌, List, [], ◌∷◌, ◌++◌, length, map, refl, sym, ap, subst, arith}
use Rattle.std.proofs.lemmas.List.{append_assoc, append-nil, length-append, length-map}
use Rattle.tsl_terms.specs.SpecTree.{SpecTree}
use Rattle.tsl_terms.specs.WindowTree.{WindowTree}
use Rattle.machines.specs.declared.rounds.Round.{Round}
use Rattle.machines.specs.MachineView.{round_tree}
use Rattle.machines.specs.Rounds.{RoundTree, windows_of}
use Rattle.program_check.specs.declared.verdict.CheckError.{CheckError}
use Rattle.program_check.specs.declared.verdict.CheckError.TheVariants.{Large, NoMemory}
use Rattle.refinement_loop.specs.Chains.{IsRound, IsChainFrom, IsChain}
use Rattle.refinement_loop.specs.Outcomes.{MayGoOn, IsLargeIn, HasRefineCause}
use Rattle.refinement_loop.specs.declared.outcome.Search.{Search}
use Rattle.refinement_loop.specs.internal.Turns.{HasTurnCause, refused_after}

module _ (spec : SpecTree) (search : Search) where
  grown_from : (windows : List WindowTree) (rounds : List RoundTree) (round : RoundTree) → IsChainFrom spec search windows rounds →
      IsRound spec search (windows ++ windows_of rounds) round → IsChainFrom spec search windows (rounds ++ round ∷ [])
  grown_from windows [] round chain is =
      (subst (λ ws. IsRound spec search ws round) (append-nil windows) is, tt)
  grown_from windows (first ∷ rounds) round chain is = (
    chain.0,
    grown_from (windows ++ first.window ∷ []) rounds round chain.1
        (subst (λ ws. IsRound spec search ws round) (sym (append_assoc windows (first.window ∷ []) (windows_of rounds))) is),
  )

  pub grown : (rounds : List RoundTree) (round : RoundTree) → IsChain spec search rounds → IsRound spec search (windows_of rounds) round →
      IsChain spec search (rounds ++ round ∷ [])
  grown rounds round chain is = grown_from [] rounds round chain is

length_push : {X : Type 0} (xs : List X) (x : X) → length (xs ++ x ∷ []) ≡ length xs + 1
length_push xs x = omega (arith, length-append xs (x ∷ []))

-- each round has one window
pub as_many_windows : (rounds : List Round) → length (windows_of (map round_tree rounds)) ≡ length rounds
as_many_windows rounds = length-map (map round_tree rounds) (λ r. r.window) ∙ length-map rounds round_tree

module _ (spec : SpecTree) (search : Search) where
  -- a further round
  pub grown_by : (rounds slice more : List Round) (round : Round) → slice ≡ rounds → more ≡ rounds ++ round ∷ [] →
      IsChain spec search (map round_tree rounds) →
      MayGoOn search (windows_of (map round_tree slice)) × IsRound spec search (windows_of (map round_tree slice)) (round_tree round) →
      IsChain spec search (map round_tree more) × (length more ≤ search.rounds)
  grown_by rounds slice more round same pushed chain further = (
    subst (IsChain spec search) (sym (ap (map round_tree) pushed ∙ map_push rounds))
        (grown spec search (map round_tree rounds) (round_tree round) chain
        (subst (λ rs. IsRound spec search (windows_of (map round_tree rs)) (round_tree round)) same further.1)),
    subst (λ rs. length rs ≤ search.rounds) (sym pushed)
        (omega (arith, length_push rounds round, as_many_windows slice, ap (λ (rs : List Round). length rs) same, further.0)),
  )
    where
      map_push : (rs : List Round) → map round_tree (rs ++ round ∷ []) ≡ map round_tree rs ++ round_tree round ∷ []
      map_push [] = refl
      map_push (r ∷ rs) = ap (λ ts. round_tree r ∷ ts) (map_push rs)

  -- a refusal after these rounds
  pub refused_cause : (rounds slice : List Round) (error : CheckError) → slice ≡ rounds → IsChain spec search (map round_tree rounds) →
      length rounds ≤ search.rounds → HasTurnCause spec search (windows_of (map round_tree slice)) error →
      HasRefineCause spec search (refused_after error rounds)
  refused_cause rounds slice (Large limit) same chain few cause = record {
    chain = chain;
    few_rounds = omega (arith, few, length-map rounds round_tree);
    large = subst (λ rs. IsLargeIn spec search (windows_of (map round_tree rs)) limit) same cause;
  }
  refused_cause rounds slice NoMemory same chain few cause = tt
