-- Worked examples of expansions.
use Rattle.std.specs.Prelude.{◌≡◌, Some, [], ◌∷◌, refl}
use Rattle.ltl_formula.specs.LtlTree.{LtlTree, top, bottom, bit, not_bit, conjunction, disjunction, until, release, no_formulas}
use Rattle.ltl_formula.specs.LtlTree.{more_formulas}
use Rattle.obligations.specs.Choices.{empty_choice, most_choices}
use Rattle.obligations.specs.Expansion.{choices}

-- an until: now, or put off
abbrev finally_b0 : LtlTree
finally_b0 = until top (bit 0)

of_until : choices (finally_b0 ∷ []) ≡ Some (
    (record { care = 1; want = 1; next_set = []; postponed = [] })
    ∷ (record { care = 0; want = 0; next_set = finally_b0 ∷ []; postponed = finally_b0 ∷ [] }) ∷ [])
of_until = refl

of_true : choices (top ∷ []) ≡ Some (empty_choice ∷ [])
of_true = refl

of_none : choices [] ≡ Some (empty_choice ∷ [])
of_none = refl

-- a contradiction leaves no choice
of_both : choices (conjunction (more_formulas (bit 1) (more_formulas (not_bit 1) no_formulas)) ∷ []) ≡ Some []
of_both = refl

-- the larger one of two choices is dropped
of_larger : choices (disjunction (more_formulas (conjunction (more_formulas (bit 0) (more_formulas (bit 1) no_formulas)))
    (more_formulas (bit 1) no_formulas)) ∷ [])
    ≡ Some ((record { care = 2; want = 2; next_set = []; postponed = [] }) ∷ [])
of_larger = refl

-- always: not bit 0, or bit 0 at some time
abbrev response : LtlTree
response = release bottom (disjunction (more_formulas (not_bit 0) (more_formulas finally_b0 no_formulas)))

of_response : choices (response ∷ []) ≡ Some (
    (record { care = 1; want = 0; next_set = response ∷ []; postponed = [] })
    ∷ (record { care = 1; want = 1; next_set = response ∷ []; postponed = [] })
    ∷ (record { care = 0; want = 0; next_set = finally_b0 ∷ response ∷ []; postponed = finally_b0 ∷ [] }) ∷ [])
of_response = refl

-- a letter has no bit 64
of_high_bit : choices (bit 64 ∷ []) ≡ Some []
of_high_bit = refl

-- how many choices a list may have
most : most_choices ≡ 65536
most = refl
