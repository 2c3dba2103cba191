-- When a log of steps is refused. A step names clauses that stand before it, by their numbers; they show by
-- unit propagation that its own clause follows from those.
use Rattle.std.specs.Prelude.{ℕ, suc, ◌+◌, ◌<◌, ◌^◌, ◌==◌, nat_le, Bool, true, false, cond, ◌||◌, List, [], ◌∷◌, ◌++◌, map, length, All}
use Rattle.std.specs.Prelude.{Option, Some, None, option_map}
use Rattle.std.specs.List.{list_any}
use Rattle.clause_core.specs.Literals.{Lit, negation, has}
use Rattle.clause_core.specs.Clauses.{has_pair}
use Rattle.clause_core.specs.Propagation.{not_false}
use Rattle.refutation_check.specs.declared.steps.Step.{Step}

-- a clause, and the number that names it
pub record Numbered : Type 0 where
  pub number : ℕ
  pub clause : List Lit

-- clauses with the numbers from this one on
abbrev pub numbered_from : ℕ → List (List Lit) → List Numbered
numbered_from number [] = []
numbered_from number (clause ∷ clauses) = record { number = number; clause = clause } ∷ numbered_from (suc number) clauses

-- the clause of a number
abbrev pub clause_named : List Numbered → ℕ → Option (List Lit)
clause_named [] number = None
clause_named (k ∷ known) number = cond (k.number == number) (Some k.clause) (clause_named known number)

-- why a log is refused
pub data Refusal : Type 0 where
  at_line : ℕ → Refusal
  at_hint : ℕ → ℕ → Refusal
  unfinished : Refusal

-- what a hint does: its clause is false, which ends the hints, or it makes a literal true, or neither of these
pub data HintEffect : Type 0 where
  ends : HintEffect
  makes : Lit → HintEffect
  shows_nothing : HintEffect

-- what a clause does whose literals that are not false are these
abbrev pub effect_of_open : List Lit → List Lit → HintEffect
effect_of_open trues [] = ends
effect_of_open trues (l ∷ []) = cond (has trues l) shows_nothing (makes l)
effect_of_open trues (l ∷ m ∷ ms) = shows_nothing

-- what the clause does that a hint names
abbrev pub effect_of_named : List Lit → Option (List Lit) → HintEffect
effect_of_named trues None = shows_nothing
effect_of_named trues (Some clause) = effect_of_open trues (not_false trues clause)

-- what a hint at a position leads to, and those after it where it makes a literal true
abbrev pub led_to : ℕ → (Lit → Option ℕ) → HintEffect → Option ℕ
led_to position later ends = None
led_to position later (makes l) = later l
led_to position later shows_nothing = Some position

-- The position of the hint that is refused, where the first of these stands at the position given. A hint whose
-- clause is false ends them; one whose clause has one unassigned literal and all others false makes it true; any
-- other is refused, and so is the end of the hints.
abbrev pub refused_hint : List Numbered → List Lit → ℕ → List ℕ → Option ℕ
refused_hint known trues position [] = Some position
refused_hint known trues position (hint ∷ hints) =
    led_to position (λ l. refused_hint known (l ∷ trues) (suc position) hints) (effect_of_named trues (clause_named known hint))

-- Whether a step may not be tried: its number is not above the largest one so far, a variable is not one of the
-- formula's, or the clause has a literal and its negation.
abbrev pub is_no_step : ℕ → ℕ → Step → Bool
is_no_step variables largest step =
    nat_le step.number largest || (list_any (λ l. nat_le variables l.index) step.clause || has_pair step.clause)

-- why a step is refused after the known clauses
abbrev pub step_refusal : ℕ → ℕ → List Numbered → Step → Option Refusal
step_refusal variables largest known step =
    cond (is_no_step variables largest step) (Some (at_line step.number))
    (option_map (at_hint step.number) (refused_hint known (map negation step.clause) 1 step.hints))

-- the first of two where there is one, and otherwise the second
abbrev pub first_of : Option Refusal → Option Refusal → Option Refusal
first_of (Some refusal) later = Some refusal
first_of None later = later

-- why the first refused step is refused; each step may name the clauses of those before it
abbrev pub steps_refusal : ℕ → ℕ → List Numbered → List Step → Option Refusal
steps_refusal variables largest known [] = None
steps_refusal variables largest known (step ∷ steps) =
    first_of (step_refusal variables largest known step)
    (steps_refusal variables step.number (known ++ record { number = step.number; clause = step.clause } ∷ []) steps)

-- whether a clause has no literal
abbrev pub is_empty_clause : List Lit → Bool
is_empty_clause [] = true
is_empty_clause (l ∷ ls) = false

-- what is missing where no step has the empty clause
abbrev pub end_refusal : List Step → Option Refusal
end_refusal steps = cond (list_any (λ step. is_empty_clause step.clause) steps) None (Some unfinished)

-- Why the log of a formula is refused, if it is. The formula's clauses have the numbers from 1 on.
abbrev pub log_refusal : ℕ → List (List Lit) → List Step → Option Refusal
log_refusal variables clauses steps =
    first_of (steps_refusal variables (length clauses) (numbered_from 1 clauses) steps) (end_refusal steps)

-- a position one past the last hint of each step can be counted
abbrev pub HaveFewHints : List Step → Type 0
HaveFewHints steps = All (λ step. length step.hints + 1 < 2 ^ 32) steps
