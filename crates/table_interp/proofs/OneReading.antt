-- A text spells at most one interpretation, and at most one input loop.
use Rattle.std.proofs.Common.{◌≡◌, ◌∙◌, ℕ, List, [], ◌∷◌, map, Option, Some, None, refl, sym, ap, subst}
use Rattle.base_library.proofs.Lists.{map_taken_back}
use Rattle.base_library.specs.Options.{all_there}
use Rattle.base_library.proofs.Options.{one_value}
use Rattle.tsl_terms.specs.Name.{Name}
use Rattle.tsl_meaning.specs.Interpretation.{Interpretation, InputRows}
use Rattle.table_syntax.specs.Syntax.{TablesSyntax, InputsSyntax}
use Rattle.table_interp.specs.Tables.{Gives, SpellsTables}
use Rattle.table_interp.specs.Inputs.{by_inputs, GivesRows, SpellsInputs}
use Rattle.table_syntax.proofs.Readings.{same_tables, same_inputs}

first_or_zero : List ℕ → ℕ
first_or_zero [] = 0
first_or_zero (v ∷ vs) = v

same_singles : (vs ws : List ℕ) → map (λ v. v ∷ []) vs ≡ map (λ w. w ∷ []) ws → vs ≡ ws
unfolding first_or_zero
same_singles vs ws = map_taken_back (λ v. v ∷ []) first_or_zero (λ v. refl) vs ws

value_or_zero : Option ℕ → ℕ
value_or_zero None = 0
value_or_zero (Some v) = v

same_somes : (vs ws : List ℕ) → map (λ v. Some v) vs ≡ map (λ w. Some w) ws → vs ≡ ws
unfolding value_or_zero
same_somes vs ws = map_taken_back (λ v. Some v) value_or_zero (λ v. refl) vs ws

one_gives : (names : List Name) (cells : List ℕ) (given : TablesSyntax) (a b : Interpretation) → Gives names cells given a →
    Gives names cells given b → a ≡ b
one_gives names cells given a b x y =
    let domain : a.domain ≡ b.domain = x.domain ∙ sym y.domain in
    let tables : a.tables ≡ b.tables = one_value _ a.tables b.tables x.tables y.tables in
    let initial : a.initial ≡ b.initial = same_singles a.initial b.initial (one_value _ _ _ x.initial y.initial) in
    λ i. record { domain = domain i; tables = tables i; initial = initial i }

pub one_tables : (text : List ℕ) (names : List Name) (cells : List ℕ) (a b : Interpretation) → SpellsTables text names cells a →
    SpellsTables text names cells b → a ≡ b
one_tables text names cells a b x y =
    one_gives names cells y.given a b
    (subst (λ g. Gives names cells g a) (same_tables text x.given y.given x.read.read y.read.read) x.gives) y.gives

one_gives_rows : (names : List Name) (inputs : List ℕ) (given : InputsSyntax) (domain : ℕ) (a b : InputRows ℕ) →
    GivesRows names inputs given domain a → GivesRows names inputs given domain b → a ≡ b
one_gives_rows names inputs given domain a b x y =
    let columns : x.columns ≡ y.columns = same_somes x.columns y.columns (sym x.columns_are ∙ y.columns_are) in
    let stem : a.stem ≡ b.stem = one_value (all_there (map (by_inputs y.columns inputs) given.stem)) a.stem b.stem
    (ap (λ c. all_there (map (by_inputs c inputs) given.stem)) (sym columns) ∙ x.stem) y.stem in
    let cycle : a.cycle ≡ b.cycle = one_value (all_there (map (by_inputs y.columns inputs) given.cycle)) a.cycle b.cycle
    (ap (λ c. all_there (map (by_inputs c inputs) given.cycle)) (sym columns) ∙ x.cycle) y.cycle in
    λ i. record { stem = stem i; cycle = cycle i }

pub one_inputs : (text : List ℕ) (names : List Name) (inputs : List ℕ) (domain : ℕ) (a b : InputRows ℕ) →
    SpellsInputs text names inputs domain a → SpellsInputs text names inputs domain b → a ≡ b
one_inputs text names inputs domain a b x y =
    one_gives_rows names inputs y.given domain a b
    (subst (λ g. GivesRows names inputs g domain a) (same_inputs text x.given y.given x.read y.read) x.gives) y.gives
