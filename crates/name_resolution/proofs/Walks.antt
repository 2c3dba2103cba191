-- The names of one part after another.
use Rattle.std.proofs.Common.{◌≡◌, ℕ, zero, suc, ◌+◌, ◌<◌, ◌≤◌, ◌^◌, Bool, true, false, List, [], ◌∷◌, ◌++◌, map, length, get_or, drop, refl, ap, sym, ◌∙◌, subst, arith, length-append, append_assoc}
use Rattle.std.specs.Prelude.{◌&&◌, Option, Some, None, option_map, if◌then◌else◌}
use Rattle.std.specs.List.{list_all, AllByRecursion}
use Rattle.std.specs.Option.{option_map_or}
use Rattle.std.proofs.lemmas.List.{length-map}
use Rattle.base_library.proofs.Lists.{left_at, written_step}
use Rattle.tsl_terms.specs.declared.names.NameKind.TheVariants.{Predicate}
use Rattle.tsl_terms.specs.Name.{Name}
use Rattle.tsl_terms.specs.Clashes.{with_use, with_uses}
use Rattle.spec_syntax.specs.declared.trees.ReadDeclaration.{ReadDeclaration}
use Rattle.spec_syntax.specs.Syntax.{Definition, Declaration, the_section, the_definition}
use Rattle.spec_syntax.specs.SyntaxView.{declaration_syntax}
use Rattle.name_resolution.specs.declared.occurrence.Role.TheVariants.{Head, Redefined}
use Rattle.name_resolution.specs.Heads.{is_name, is_among, head_names, heads_in, head_size, heads_size}
use Rattle.name_resolution.specs.Occurrences.{Occurrence, Scope, of_body, formula_occurrences, is_repeated, in_head}
use Rattle.name_resolution.specs.Occurrences.{parameter_name, definition_occurrences, declaration_occurrences, occurrences_behind}

-- ---- bare names, none of them defined

and_false : (b : Bool) → false ≡ (b && false)
and_false true = refl
and_false false = refl

free_front : (free : List ℕ → Bool) (x : List ℕ) (found : Option (List (List ℕ))) →
    option_map_or (list_all free) (option_map (λ xs. x ∷ xs) found) false ≡ (free x && option_map_or (list_all free) found false)
free_front free x None = and_false (free x)
free_front free x (Some ys) = refl

pub free_more : (free : List ℕ → Bool) (x : List ℕ) (found : Option (List (List ℕ))) → free x ≡ true →
    option_map_or (list_all free) (option_map (λ xs. x ∷ xs) found) false ≡ option_map_or (list_all free) found false
free_more free x found h = free_front free x found ∙ ap (λ b. b && option_map_or (list_all free) found false) h

pub free_stops : (free : List ℕ → Bool) (x : List ℕ) (found : Option (List (List ℕ))) → free x ≡ false →
    option_map_or (list_all free) (option_map (λ xs. x ∷ xs) found) false ≡ false
free_stops free x found h = free_front free x found ∙ ap (λ b. b && option_map_or (list_all free) found false) h

-- ---- defined names

pub uses_joined : (names xs ys : List Name) → with_uses names (xs ++ ys) ≡ with_uses (with_uses names xs) ys
uses_joined names [] ys = refl
uses_joined names (x ∷ xs) ys = uses_joined (with_use names x) xs ys

heads_next : (ds : List ReadDeclaration) (i : ℕ) (d : ReadDeclaration) → i < length ds → d ≡ get_or ds i d →
    map declaration_syntax (drop i ds) ≡ declaration_syntax d ∷ map declaration_syntax (drop (i + 1) ds)
heads_next ds i d within is = ap (map declaration_syntax) (left_at ds i d within is)

pub heads_more : (old new whole : List Name) (ds : List ReadDeclaration) (i : ℕ) (d : ReadDeclaration) → i < length ds → d ≡ get_or ds i d →
    new ≡ with_uses old (head_names (declaration_syntax d)) →
    with_uses old (heads_in (map declaration_syntax (drop i ds))) ≡ whole →
    with_uses new (heads_in (map declaration_syntax (drop (i + 1) ds))) ≡ whole
heads_more old new whole ds i d within is added so_far =
    ap (λ ns. with_uses ns (heads_in (map declaration_syntax (drop (i + 1) ds)))) added
    ∙ sym (uses_joined old (head_names (declaration_syntax d)) (heads_in (map declaration_syntax (drop (i + 1) ds))))
    ∙ ap (λ xs. with_uses old (heads_in xs)) (sym (heads_next ds i d within is))
    ∙ so_far

-- levels enough for what the next one defines
pub heads_few : (most : ℕ) (ds : List ReadDeclaration) (i : ℕ) (d : ReadDeclaration) → i < length ds → d ≡ get_or ds i d →
    most + heads_size (map declaration_syntax (drop i ds)) < 2 ^ 32 →
    (most + head_size (declaration_syntax d)) + heads_size (map declaration_syntax (drop (i + 1) ds)) < 2 ^ 32
heads_few most ds i d within is few =
    let e : heads_size (map declaration_syntax (drop i ds)) ≡ head_size (declaration_syntax d)
    + heads_size (map declaration_syntax (drop (i + 1) ds)) = ap heads_size (heads_next ds i d within is) in
    omega (arith, few, e)

-- ---- the names of declarations

pub head_within : (heads before : List Name) (d : Declaration) → head_size d ≤ length (declaration_occurrences heads before d)
head_within heads before (the_section s) = omega arith
head_within heads before (the_definition d) =
    omega (
      arith,
      length-append (map (parameter_name (is_name heads) (is_repeated d.parameters)) d.parameters)
          (formula_occurrences (of_body heads d.parameters) 0 d.body),
      length-map d.parameters (parameter_name (is_name heads) (is_repeated d.parameters)),
    )

pub names_more : (heads before after : List Name) (old new whole : List Occurrence) (ds : List ReadDeclaration) (i : ℕ) (d : ReadDeclaration) →
    i < length ds → d ≡ get_or ds i d →
    after ≡ with_uses before (head_names (declaration_syntax d)) →
    new ≡ old ++ declaration_occurrences heads before (declaration_syntax d) →
    old ++ occurrences_behind heads before (map declaration_syntax (drop i ds)) ≡ whole →
    new ++ occurrences_behind heads after (map declaration_syntax (drop (i + 1) ds)) ≡ whole
names_more heads before after old new whole ds i d within is added more so_far =
    ap (λ ns. new ++ occurrences_behind heads ns (map declaration_syntax (drop (i + 1) ds))) added
    ∙ written_step old new (declaration_occurrences heads before (declaration_syntax d))
    (occurrences_behind heads before (map declaration_syntax (drop i ds)))
    (occurrences_behind heads (with_uses before (head_names (declaration_syntax d))) (map declaration_syntax (drop (i + 1) ds)))
    whole so_far (ap (occurrences_behind heads before) (heads_next ds i d within is)) more

left_few : (heads before : List Name) (ds : List ReadDeclaration) (i : ℕ) (d : ReadDeclaration) → i < length ds → d ≡ get_or ds i d →
    length (occurrences_behind heads before (map declaration_syntax (drop i ds)))
    ≡ length (declaration_occurrences heads before (declaration_syntax d))
    + length (occurrences_behind heads (with_uses before (head_names (declaration_syntax d))) (map declaration_syntax (drop (i + 1) ds)))
left_few heads before ds i d within is =
    ap (λ xs. length (occurrences_behind heads before xs)) (heads_next ds i d within is)
    ∙ length-append (declaration_occurrences heads before (declaration_syntax d))
    (occurrences_behind heads (with_uses before (head_names (declaration_syntax d))) (map declaration_syntax (drop (i + 1) ds)))

-- few names of the next one
pub next_few : (heads before : List Name) (ds : List ReadDeclaration) (i : ℕ) (d : ReadDeclaration) → i < length ds → d ≡ get_or ds i d →
    length before + length (occurrences_behind heads before (map declaration_syntax (drop i ds))) < 2 ^ 32 →
    length (declaration_occurrences heads before (declaration_syntax d)) < 2 ^ 32
next_few heads before ds i d within is few = omega (arith, few, left_few heads before ds i d within is)

-- and levels enough for what it defines
pub next_room : (heads before : List Name) (ds : List ReadDeclaration) (i : ℕ) (d : ReadDeclaration) → i < length ds → d ≡ get_or ds i d →
    length before + length (occurrences_behind heads before (map declaration_syntax (drop i ds))) < 2 ^ 32 →
    length before + head_size (declaration_syntax d) < 2 ^ 32
next_room heads before ds i d within is few =
    omega (arith, few, left_few heads before ds i d within is, head_within heads before (declaration_syntax d))

pub few_more : (heads before after : List Name) (ds : List ReadDeclaration) (i : ℕ) (d : ReadDeclaration) → i < length ds → d ≡ get_or ds i d →
    after ≡ with_uses before (head_names (declaration_syntax d)) →
    length after ≤ length before + head_size (declaration_syntax d) →
    length before + length (occurrences_behind heads before (map declaration_syntax (drop i ds))) < 2 ^ 32 →
    length after + length (occurrences_behind heads after (map declaration_syntax (drop (i + 1) ds))) < 2 ^ 32
few_more heads before after ds i d within is added grown few =
    let e : length (occurrences_behind heads after (map declaration_syntax (drop (i + 1) ds)))
    ≡ length (occurrences_behind heads (with_uses before (head_names (declaration_syntax d))) (map declaration_syntax (drop (i + 1) ds)))
    = ap (λ ns. length (occurrences_behind heads ns (map declaration_syntax (drop (i + 1) ds)))) added in
    omega (arith, few, grown, e, left_few heads before ds i d within is, head_within heads before (declaration_syntax d))

-- ---- what is known of names in a body

pub body_scope : (heads names : List Name) (ps : List (List ℕ)) → ((x : List ℕ) → is_name names x ≡ is_among ps x) →
    (record { is_defined = is_name heads; is_parameter = is_name names; in_section = false }) ≡ of_body heads ps
body_scope heads names ps same = λ i. record { is_defined = is_name heads; is_parameter = λ x. same x i; in_section = false }

pub same_parameters : (heads repeated : List Name) (ps : List (List ℕ)) → ((x : List ℕ) → is_name repeated x ≡ is_repeated ps x) →
    map (parameter_name (is_name heads) (is_name repeated)) ps ≡ map (parameter_name (is_name heads) (is_repeated ps)) ps
same_parameters heads repeated ps same = λ i. map (parameter_name (is_name heads) (λ x. same x i)) ps

-- ---- what holds of each member holds of the next one

pub each_within : {X Y : Type 0} (P : Y → Type 0) (v : X → Y) (xs : List X) (i : ℕ) (x : X) → AllByRecursion P (map v xs) → i < length xs →
    x ≡ get_or xs i x → P (v x)
each_within P v xs i x each within is = subst (λ y. P (v y)) (sym is) (at xs i each within) where
  at : (xs : List _) (i : ℕ) → AllByRecursion P (map v xs) → i < length xs → P (v (get_or xs i x))
  at [] i each within = absurd (omega arith)
  at (y ∷ ys) zero each within = each.0
  at (y ∷ ys) (suc i) each within = at ys i each.1 (omega arith)

-- ---- a definition, part by part

pub definition_few : (heads before names : List Name) (d : Definition) → ((x : List ℕ) → is_name names x ≡ is_among d.parameters x) →
    length (definition_occurrences heads before d) < 2 ^ 32 →
    length (formula_occurrences (record { is_defined = is_name heads; is_parameter = is_name names; in_section = false }) 0 d.body) < 2 ^ 32
definition_few heads before names d among few =
    let parameters = map (parameter_name (is_name heads) (is_repeated d.parameters)) d.parameters in
    let body = formula_occurrences (of_body heads d.parameters) 0 d.body in
    let shorter : length body < 2 ^ 32 = omega (arith, few, length-append parameters body) in
    subst (λ (s : Scope). length (formula_occurrences s 0 d.body) < 2 ^ 32) (sym (body_scope heads names d.parameters among)) shorter

pub definition_added : (heads before names repeated : List Name) (d : Definition) (arity : ℕ) (old after_head after_parameters new : List Occurrence) →
    ((x : List ℕ) → is_name names x ≡ is_among d.parameters x) →
    ((x : List ℕ) → is_name repeated x ≡ is_repeated d.parameters x) →
    arity ≡ length d.parameters →
    after_head ≡ old ++ in_head Predicate arity (if is_name before d.name then Redefined else Head) d.name ∷ [] →
    after_parameters ≡ after_head ++ map (parameter_name (is_name heads) (is_name repeated)) d.parameters →
    new ≡ after_parameters
    ++ formula_occurrences (record { is_defined = is_name heads; is_parameter = is_name names; in_section = false }) 0 d.body →
    new ≡ old ++ definition_occurrences heads before d
definition_added heads before names repeated d arity old after_head after_parameters new among twice same head parameters body =
    let role = if is_name before d.name then Redefined else Head in
    let h = in_head Predicate (length d.parameters) role d.name in
    let ps = map (parameter_name (is_name heads) (is_repeated d.parameters)) d.parameters in
    let fs = formula_occurrences (of_body heads d.parameters) 0 d.body in
    body
    ∙ ap (λ (s : Scope). after_parameters ++ formula_occurrences s 0 d.body) (body_scope heads names d.parameters among)
    ∙ ap (λ (xs : List Occurrence). xs ++ fs)
    (parameters
    ∙ ap (λ (xs : List Occurrence). after_head ++ xs) (same_parameters heads repeated d.parameters twice)
    ∙ ap (λ (xs : List Occurrence). xs ++ ps) (head ∙ ap (λ k. old ++ in_head Predicate k role d.name ∷ []) same))
    ∙ append_assoc (old ++ h ∷ []) ps fs
    ∙ append_assoc old (h ∷ []) (ps ++ fs)
