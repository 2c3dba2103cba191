-- What the status of a run says of its verdicts.
use Rattle.std.proofs.Common.{◌≡◌, ℕ, Bool, true, false, List, [], ◌∷◌, map, Some, refl, ap, ◌∙◌}
use Rattle.std.specs.Prelude.{◌↔◌, Contains, if◌then◌else◌}
use Rattle.std.specs.List.{list_all, AllByRecursion}
use Rattle.std.proofs.lemmas.Bool.{and_parts, and_from, false≢true}
use Rattle.base_library.proofs.Passes.{not_all_place, passes_contained}
use Rattle.base_library.proofs.Places.{contains_at}
use Rattle.tsl_terms.specs.FormulaTree.{FormulaTree}
use Rattle.tsl_meaning.specs.Lasso.{meets, Meets}
use Rattle.tsl_meaning.specs.RunLasso.{shape_of}
use Rattle.tsl_meaning.specs.RunTree.{RunTree}
use Rattle.tool_io.specs.declared.status.Status.TheVariants.{Done, No}
use Rattle.checking_commands.specs.Run.{RunInput, lasso_of, judged_formulas, verdicts_of, verdict_status, run_reply}

-- where the status says yes, each formula holds
pub each_holds : (formulas : List FormulaTree) (holds : FormulaTree → Bool) → list_all (λ b. b) (map holds formulas) ≡ true →
    AllByRecursion (λ f. holds f ≡ true) formulas
each_holds [] holds all = tt
each_holds (f ∷ fs) holds all =
    let parts = and_parts (holds f) (list_all (λ b. b) (map holds fs)) all in (parts.0, each_holds fs holds parts.1)

all_hold : (formulas : List FormulaTree) (holds : FormulaTree → Bool) → AllByRecursion (λ f. holds f ≡ true) formulas →
    list_all (λ b. b) (map holds formulas) ≡ true
all_hold [] holds each = refl
all_hold (f ∷ fs) holds each = and_from (holds f) (list_all (λ b. b) (map holds fs)) each.0 (all_hold fs holds each.1)

pub all_of_done : (verdicts : List Bool) → verdict_status verdicts ≡ Done → list_all (λ b. b) verdicts ≡ true
all_of_done verdicts is = by (list_all (λ b. b) verdicts) is
  where
    by : (all : Bool) → (if all then Done else No) ≡ Done → all ≡ true
    by true e = refl
    by false e = cc

-- and where it says no, a verdict is no
pub some_no : (verdicts : List Bool) → list_all (λ b. b) verdicts ≡ false → Contains verdicts false
some_no verdicts all =
    let found = not_all_place (λ b. b) verdicts all in contains_at verdicts found.0 false (found.2 ∙ ap Some found.3)

not_all : (verdicts : List Bool) → Contains verdicts false → list_all (λ b. b) verdicts ≡ false
not_all verdicts has = by (list_all (λ b. b) verdicts) refl
  where
    by : (all : Bool) → list_all (λ b. b) verdicts ≡ all → all ≡ false
    by true e = absurd (false≢true (passes_contained (λ b. b) verdicts false e has))
    by false e = refl

pub not_all_of_no : (verdicts : List Bool) → verdict_status verdicts ≡ No → list_all (λ b. b) verdicts ≡ false
not_all_of_no verdicts is = by (list_all (λ b. b) verdicts) is
  where
    by : (all : Bool) → (if all then Done else No) ≡ No → all ≡ false
    by true e = cc
    by false e = refl

-- ---- both at once

module _ (input : RunInput) (run : RunTree ℕ) where
  abbrev holds : FormulaTree → Bool
  holds f = meets (lasso_of input (shape_of run)) f 0

  pub yes_where_all_hold : ((run_reply input run).status ≡ Done)
      ↔ AllByRecursion (λ f. Meets (lasso_of input (shape_of run)) f 0) (judged_formulas input)
  yes_where_all_hold = (
    λ is. each_holds (judged_formulas input) holds (all_of_done (verdicts_of input (shape_of run)) is),
    λ each. ap (λ all. if all then Done else No) (all_hold (judged_formulas input) holds each),
  )

  pub no_where_one_fails : ((run_reply input run).status ≡ No) ↔ Contains (verdicts_of input (shape_of run)) false
  no_where_one_fails = (
    λ is. some_no (verdicts_of input (shape_of run)) (not_all_of_no (verdicts_of input (shape_of run)) is),
    λ has. ap (λ all. if all then Done else No) (not_all (verdicts_of input (shape_of run)) has),
  )
