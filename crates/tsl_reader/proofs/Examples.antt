-- How names are numbered.
use Rattle.std.proofs.Common.{◌≡◌, ℕ, List, [], ◌∷◌, refl, map}
use Rattle.std.specs.Prelude.{codes, position, Some, None}
use Rattle.tsl_terms.specs.declared.names.NameKind.TheVariants.{Signal, Predicate}
use Rattle.tsl_terms.specs.Name.{Name}
use Rattle.tsl_terms.specs.Clashes.{first_uses, alike_in_kind, same_arity}
use Rattle.tsl_terms.specs.internal.FirstUse.{differs_from}
use Rattle.tsl_terms.specs.TermTree.{signal}
use Rattle.tsl_terms.specs.FormulaTree.{atom, update}
use Rattle.spec_syntax.specs.declared.syntax.Part.TheVariants.{GuaranteeFirst}
use Rattle.spec_syntax.specs.Syntax.{alone, no_terms, more_terms, bare, tested, updated, SectionSyntax}
use Rattle.spec_syntax.specs.Reading.{section_made}
use Rattle.tsl_reader.specs.Naming.{use_as, question_use, written_uses, names_of, numbered_list}

-- `[y <- x]; p z; x;`
abbrev three : List SectionSyntax
three = section_made GuaranteeFirst (updated (codes "y") (alone (codes "x")) ∷ tested (codes "p") (more_terms (alone
    (codes "z")) no_terms) ∷ bare (codes "x") ∷ []) ∷ []

abbrev signal_named : List ℕ → Name
signal_named text = (use_as Signal text 0).name

-- `?` follows all names that stand before its first use
question_behind_its_signal : names_of three ≡
    signal_named (codes "y") ∷ signal_named (codes "x") ∷ record { text = codes "p"; kind = Predicate; arity = 1 } ∷ signal_named
    (codes "z") ∷ question_use ∷ []
question_behind_its_signal = refl

only_names_of_the_text : map (λ n. n.text) (written_uses three) ≡ codes "y" ∷ codes "x" ∷ codes "p" ∷ codes "z" ∷ codes "x" ∷ []
only_names_of_the_text = refl

numbers_by_first_appearance : numbered_list (names_of three) (updated (codes "y") (alone (codes "x")) ∷ [])
    ≡ Some (atom (update 0 (signal 1)) ∷ [])
numbers_by_first_appearance = refl

-- `x; p x; p(); p;`
abbrev clashing : List SectionSyntax
clashing = section_made GuaranteeFirst (bare (codes "x") ∷ tested (codes "p") (more_terms (alone (codes "x")) no_terms) ∷ tested
    (codes "p") no_terms ∷ bare (codes "p") ∷ []) ∷ []

-- the last `p` is a signal
kind_clash : position (differs_from alike_in_kind (first_uses (written_uses clashing))) (written_uses clashing) ≡ Some 4
kind_clash = refl

-- the second `p` has no argument
arity_clash : position (differs_from same_arity (first_uses (written_uses clashing))) (written_uses clashing) ≡ Some 3
arity_clash = refl

no_clash : position (differs_from same_arity (first_uses (written_uses three))) (written_uses three) ≡ None
no_clash = refl
