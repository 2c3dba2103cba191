-- Loops in which each signal takes one of its choices at each position.
use Rattle.std.specs.Prelude.{ℕ, ◌<◌, false, List, ◌++◌, map, slice_get}
use Rattle.std.specs.List.{AllByRecursion}
use Rattle.std.specs.Option.{option_map_or}
use Rattle.tsl_meaning.specs.Lasso.{Lasso}
use Rattle.ltl_formula.specs.LetterLoop.{LetterLoop, shape_of}
use Rattle.letter_space.specs.SpaceTree.{SpaceTree}
use Rattle.letter_space.specs.Letters.{valuation_count, ArePicks, letter_of, atom_holds_of}

-- what happens at a position: the truths of the predicate terms, and which of its choices each signal takes
pub record Happening : Type 0 where
  pub valuation : ℕ
  pub picks : List ℕ

-- what happens once, and what happens again and again
pub record HappeningLoop : Type 0 where
  pub stem : List Happening
  pub cycle : List Happening

module _ (space : SpaceTree) where
  abbrev pub letter_of_happening : Happening → ℕ
  letter_of_happening h = letter_of space h.valuation h.picks

  -- the letters of what happens
  abbrev pub letter_loop : HappeningLoop → LetterLoop
  letter_loop loop = record { stem = map letter_of_happening loop.stem; cycle = map letter_of_happening loop.cycle }

  -- it is one of the space's valuations, and each signal takes one of its choices
  pub record IsHappening (h : Happening) : Type 0 where
    pub valuation : h.valuation < valuation_count space
    pub picks : ArePicks space.controlled h.picks

  abbrev pub AreHappenings : HappeningLoop → Type 0
  AreHappenings loop = AllByRecursion IsHappening (loop.stem ++ loop.cycle)

  -- a probe holds where the valuation says so, an update where the signal takes that term
  abbrev pub happening_lasso : HappeningLoop → Lasso
  happening_lasso loop = record {
    shape = shape_of (letter_loop loop);
    holds = λ i a. option_map_or (λ h. atom_holds_of space h.valuation h.picks a) (slice_get (loop.stem ++ loop.cycle) i) false;
  }
