-- The names of sections know each use in them, where each of these is usable, whatever the sections derive from.
use Rattle.std.proofs.Common.{List, ap, ◌∙◌}
use Rattle.std.specs.Prelude.{option_map}
use Rattle.std.specs.List.{AllByRecursion}
use Rattle.std.proofs.lemmas.Option.{slice_get-map}
use Rattle.base_library.proofs.Each.{each_at, each_from_places}
use Rattle.tsl_terms.specs.Clashes.{alike_in_kind, same_arity, HasNoClash}
use Rattle.spec_syntax.specs.Syntax.{SectionSyntax}
use Rattle.tsl_reader.specs.Naming.{all_uses, written_uses, names_of}
use Rattle.tsl_reader.proofs.Usable.{IsUsable}
use Rattle.tsl_reader.proofs.Known.{KnownUse, known_name, known_question}

-- each name that sections use is usable
abbrev pub UsesAreUsable : List SectionSyntax → Type 0
UsesAreUsable ss = AllByRecursion (λ u. IsUsable u.name.text) (all_uses ss)

pub all_known : (ss : List SectionSyntax) → UsesAreUsable ss → HasNoClash alike_in_kind (written_uses ss) →
    HasNoClash same_arity (written_uses ss) → AllByRecursion (KnownUse (names_of ss)) (all_uses ss)
all_known ss usable kinds arities =
    each_from_places (KnownUse (names_of ss)) (all_uses ss) (λ at u there.
    let fine : IsUsable u.name.text = each_at (λ v. IsUsable v.name.text) (all_uses ss) at u usable there in
    record {
      name = known_name ss usable kinds arities at u.name (slice_get-map (λ v. v.name) (all_uses ss) at
          ∙ ap (option_map (λ v. v.name)) there) fine;
      usable = fine;
      asked = known_question ss usable kinds arities at u there;
    })
