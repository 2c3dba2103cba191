-- Parameters, each once: where no name in a head is wrong, all of them.
use Rattle.std.proofs.Common.{◌≡◌, ℕ, ◌+◌, ◌<◌, Bool, true, false, List, [], ◌∷◌, ◌++◌, map, length, drop, get_or, refl, ap, sym, ◌∙◌}
use Rattle.std.proofs.Common.{subst, append_assoc, inl, inr, arith}
use Rattle.std.proofs.lemmas.Grind.{common_steps}
use Rattle.std.specs.Prelude.{◌&&◌, ◌||◌, None, position, if◌then◌else◌}
use Rattle.std.specs.List.{AllByRecursion}
use Rattle.std.specs.Borrow.{Bor}
use Rattle.std.specs.Str.{bytes_eq}
use Rattle.std.proofs.lemmas.List.{append-nil, drop_more, map_push}
use Rattle.std.proofs.lemmas.Bool.{and_from, or_cases, or_left, or_right}
use Rattle.base_library.proofs.Bytes.{bytes_same}
use Rattle.base_library.proofs.Options.{none_is}
use Rattle.base_library.proofs.Each.{each_left, each_right, each_weaker, each_unmapped}
use Rattle.base_library.proofs.Passes.{list_any_contained}
use Rattle.base_library.proofs.Places.{contains_at, slice_get-behind}
use Rattle.tsl_terms.specs.declared.names.NameKind.TheVariants.{Signal}
use Rattle.tsl_terms.specs.Name.{Name, number_of, texts}
use Rattle.tsl_terms.specs.Clashes.{added_unless_found, with_use, with_uses}
use Rattle.spec_syntax.specs.Syntax.{Declaration, the_section, the_definition}
use Rattle.name_resolution.specs.declared.occurrence.Role.TheVariants.{Redefined, Parameter}
use Rattle.name_resolution.specs.Heads.{head_of, definitions_in, is_name, is_among}
use Rattle.name_resolution.specs.Occurrences.{of_body, formula_occurrences, section_occurrences, is_repeated, parameter_name}
use Rattle.name_resolution.specs.Occurrences.{definition_occurrences, occurrences_behind, occurrences}
use Rattle.name_resolution.specs.Faults.{is_redefined}
use Rattle.name_resolution.proofs.NameTests.{is_name_any}
use Rattle.name_resolution.proofs.WholeText.{nowhere, Stands}
use Rattle.tsl_reader.specs.ReadText.{names_once, with_names_once}

abbrev pub signal_of : List ℕ → Name
signal_of x = record { text = x; kind = Signal; arity = 0 }

texts_of_signals : (xs : List (List ℕ)) → texts (map signal_of xs) ≡ xs
texts_of_signals [] = refl
texts_of_signals (x ∷ xs) = ap (λ ts. x ∷ ts) (texts_of_signals xs)

-- ---- where none is redefined, parameters are distinct

parameter_stands : (a b : Bool) → is_redefined (if a || b then Redefined else Parameter) ≡ false → b ≡ false
parameter_stands a b h = grind (arith, common_steps)

each_once : (heads : List Name) (ps qs : List (List ℕ)) →
    AllByRecursion Stands (map (parameter_name (is_name heads) (is_repeated ps)) qs) → AllByRecursion (λ q. is_repeated ps q ≡ false) qs
each_once heads ps qs h =
    each_weaker (λ q. Stands (parameter_name (is_name heads) (is_repeated ps) q)) (λ q. is_repeated ps q ≡ false)
    (λ q stands. parameter_stands (is_name heads q) (is_repeated ps q) stands) qs
    (each_unmapped Stands (parameter_name (is_name heads) (is_repeated ps)) qs h)

-- what stands in front of itself is repeated
repeated_behind : (before : List (List ℕ)) (x : List ℕ) (after : List (List ℕ)) → is_among before x ≡ true →
    is_repeated (before ++ x ∷ after) x ≡ true
repeated_behind [] x after h = cc
repeated_behind (p ∷ ps) x after h =
    let rest = ps ++ x ∷ after in
    let at = contains_at rest (length ps) x (slice_get-behind ps x after) in
    let there = list_any_contained (bytes_eq x) rest x at (bytes_same x x refl) in
    elim (or_cases (bytes_eq x p) (is_among ps x) h) [
      | inl same ↦ or_left (bytes_eq x p && is_among rest x) (is_repeated rest x) (and_from (bytes_eq x p) (is_among rest x) same there)
      | inr later ↦ or_right (bytes_eq x p && is_among rest x) (is_repeated rest x) (repeated_behind ps x after later)
    ]

kept : (before after : List (List ℕ)) → AllByRecursion (λ x. is_repeated (before ++ after) x ≡ false) after →
    with_uses (map signal_of before) (map signal_of after) ≡ map signal_of (before ++ after)
kept before [] h = ap (map signal_of) (sym (append-nil before))
kept before (x ∷ after) h =
    let turned = append_assoc before (x ∷ []) after in
    let new = none_is (number_of (map signal_of before) x) (is_name_any (map signal_of before) x
    ∙ ap (λ ts. is_among ts x) (texts_of_signals before) ∙ absent (is_among before x) refl) in
    ap (λ ns. with_uses ns (map signal_of after))
    (ap (added_unless_found (map signal_of before) (signal_of x)) new ∙ sym (map_push signal_of before x))
    ∙ kept (before ++ x ∷ []) after (subst (λ xs. AllByRecursion (λ y. is_repeated xs y ≡ false) after) (sym turned) h.1)
    ∙ ap (map signal_of) turned
  where
    absent : (b : Bool) → is_among before x ≡ b → b ≡ false
    absent false e = refl
    absent true e = sym (repeated_behind before x after e) ∙ h.0

all_kept : (ps : List (List ℕ)) → AllByRecursion (λ x. is_repeated ps x ≡ false) ps → texts (names_once ps) ≡ ps
all_kept ps h = ap texts (kept [] ps h) ∙ texts_of_signals ps

behind : (heads before : List Name) (ds : List Declaration) → AllByRecursion Stands (occurrences_behind heads before ds) →
    map with_names_once (definitions_in ds) ≡ definitions_in ds
behind heads before [] h = refl
behind heads before (the_section s ∷ ds) h =
    behind heads before ds (each_right Stands (section_occurrences heads s) (occurrences_behind heads before ds) h)
behind heads before (the_definition d ∷ ds) h =
    let own = definition_occurrences heads before d in
    let rest = occurrences_behind heads (with_use before (head_of d)) ds in
    let params = each_left Stands (map (parameter_name (is_name heads) (is_repeated d.parameters)) d.parameters)
    (formula_occurrences (of_body heads d.parameters) 0 d.body) (each_left Stands own rest h).1 in
    let same : texts (names_once d.parameters) ≡ d.parameters =
    all_kept d.parameters (each_once heads d.parameters d.parameters params) in
    let first : with_names_once d ≡ d = λ i. record { name = d.name; parameters = same i; body = d.body } in
    (λ i. first i ∷ behind heads (with_use before (head_of d)) ds (each_right Stands own rest h) i)

-- where no name is redefined, the definitions keep all their parameters
pub parameters_once : (ds : List Declaration) (heads : List Name) → position (λ o. is_redefined o.role) (occurrences heads ds) ≡ None →
    map with_names_once (definitions_in ds) ≡ definitions_in ds
parameters_once ds heads h = behind heads [] ds (nowhere (λ o. is_redefined o.role) (occurrences heads ds) h)

-- ---- the loop that adds them

pub parameter_more : (old new : List Name) (xs : List (Bor (List ℕ))) (i : ℕ) (d : Bor (List ℕ)) (whole : List Name) → i < length xs →
    new ≡ with_use old (signal_of (get_or xs i d).now) →
    with_uses old (map signal_of (map (λ p. p.now) (drop i xs))) ≡ whole →
    with_uses new (map signal_of (map (λ p. p.now) (drop (i + 1) xs))) ≡ whole
parameter_more old new xs i d whole within is so_far =
    ap (λ ns. with_uses ns (map signal_of (map (λ p. p.now) (drop (i + 1) xs)))) is
    ∙ sym (ap (λ ys. with_uses old (map signal_of (map (λ p. p.now) ys))) (drop_more xs i d within)) ∙ so_far
