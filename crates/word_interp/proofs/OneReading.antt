-- A text spells at most one interpretation.
use Rattle.std.proofs.Common.{◌≡◌, ◌∙◌, ℕ, List, sym, subst}
use Rattle.tsl_terms.specs.Name.{Name}
use Rattle.tsl_meaning.specs.Interpretation.{Interpretation}
use Rattle.table_syntax.specs.Syntax.{WordsSyntax}
use Rattle.table_syntax.proofs.Readings.{same_words}
use Rattle.word_interp.specs.Words.{Gives, SpellsWords}

one_gives : (names : List Name) (cells : List ℕ) (given : WordsSyntax) (a b : Interpretation) → Gives names cells given a →
    Gives names cells given b → a ≡ b
one_gives names cells given a b x y =
    let domain : a.domain ≡ b.domain = x.domain ∙ sym y.domain in
    let tables : a.tables ≡ b.tables = x.tables ∙ sym y.tables in
    let initial : a.initial ≡ b.initial = x.initial ∙ sym y.initial in
    λ i. record { domain = domain i; tables = tables i; initial = initial i }

pub one_words : (text : List ℕ) (names : List Name) (cells : List ℕ) (a b : Interpretation) → SpellsWords text names cells a →
    SpellsWords text names cells b → a ≡ b
one_words text names cells a b x y =
    one_gives names cells y.given a b
    (subst (λ g. Gives names cells g a) (same_words text x.given y.given x.read.read y.read.read) x.gives) y.gives
