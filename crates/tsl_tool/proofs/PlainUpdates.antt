-- A text of plain updates derives in the grammar from its updates, and spells the same specification.
use Rattle.std.proofs.Common.{◌≡◌, ℕ, ◌+◌, ◌*◌, ◌≤◌, Bool, true, false, not, ◌||◌, List, [], ◌∷◌, ◌++◌, length, map, refl, ap, sym, ◌∙◌}
use Rattle.std.proofs.Common.{subst, arith}
use Rattle.std.specs.Prelude.{Option, Some, None, if◌then◌else◌, codes, flat_map}
use Rattle.std.specs.List.{list_all, AllByRecursion}
use Rattle.std.specs.Str.{bytes_eq}
use Rattle.std.proofs.lemmas.Bool.{and_parts, not-true}
use Rattle.std.proofs.lemmas.List.{append-nil, map-append}
use Rattle.tsl_text.specs.declared.Token.{Token}
use Rattle.tsl_text.specs.declared.TokenKind.TheVariants.{OpenBrace, CloseBrace, OpenSquare, CloseSquare, Semicolon, LeftArrow}
use Rattle.tsl_text.specs.Division.{tokens_from}
use Rattle.tsl_text.specs.Lexeme.{name, lexeme_of}
use Rattle.tsl_text.proofs.Parts.{lexemes as lexemes_of_tokens}
use Rattle.tsl_text.specs.Names.{is_name_text, is_reserved, is_usable}
use Rattle.tsl_terms.specs.Name.{Name, number_of}
use Rattle.tsl_terms.specs.TermTree.{signal}
use Rattle.tsl_terms.specs.declared.names.NameKind.TheVariants.{Signal}
use Rattle.tsl_terms.specs.declared.operator.UnaryOperator.TheVariants.{Globally}
use Rattle.tsl_terms.specs.Clashes.{alike_in_kind, same_arity, first_uses, HasNoClash}
use Rattle.tsl_terms.specs.FormulaTree.{FormulaTree, atom, update, unary, formulas_of}
use Rattle.tsl_terms.specs.Nodes.{nodes, nodes_of_members}
use Rattle.tsl_terms.specs.SpecTree.{SpecTree, conjunction_of, whole_formula}
use Rattle.spec_syntax.specs.Syntax.{Terminal, free, mark, word_of, free_unless, terminal_of, alone, FormulaSyntax, updated, SectionSyntax}
use Rattle.spec_syntax.specs.Grammar as grammar
use Rattle.spec_syntax.specs.Grammar.{IsFormula, AreItems, IsSection, AreSections}
use Rattle.tsl_reader.specs.Naming.{Use, use_as, uses, all_uses, written_uses, named_by, names_of, numbered_formula, numbered_list}
use Rattle.spec_syntax.specs.Texts.{terminal_at, terminals}
use Rattle.tsl_reader.specs.Spells.{Spells, deepest_level, most_formula_nodes}
use Rattle.tsl_reader.proofs.WithoutDefinitions.{derived_alone}
use Rattle.tsl_tool.specs.Form.{Pair, update_lexemes, form_lexemes, sides, has_usable_names, signal_named, AreUpdates, IsForm}
use Rattle.tsl_tool.specs.Form.{SpellsUpdates}
use Rattle.tsl_tool.specs.Form as form
use Rattle.base_library.proofs.Each.{each_at}

-- names that are not reserved are no words

no_word : {W : Type 0} (is : Bool) (w : W) (rest : Option W) (others : Bool) → (others ≡ false → rest ≡ None) → (is || others) ≡ false →
    (if is then Some w else rest) ≡ None
no_word true w rest others further h = cc
no_word false w rest others further h = further h

not_word : (text : List ℕ) → is_reserved text ≡ false → word_of text ≡ None
not_word text h =
    no_word (bytes_eq text (codes "assume")) _ _ _
    (no_word (bytes_eq text (codes "guarantee")) _ _ _ (no_word (bytes_eq text (codes "always")) _ _ _
    (no_word (bytes_eq text (codes "initially")) _ _ _
    (no_word (bytes_eq text (codes "true")) _ _ _ (no_word (bytes_eq text (codes "false")) _ _ _
    (no_word (bytes_eq text (codes "X")) _ _ _
    (no_word (bytes_eq text (codes "F")) _ _ _ (no_word (bytes_eq text (codes "G")) _ _ _ (no_word (bytes_eq text (codes "U")) _ _ _
    (no_word (bytes_eq text (codes "W")) _ _ _
    (no_word (bytes_eq text (codes "R")) _ _ _ (no_word (bytes_eq text (codes "A")) _ None false (λ e. refl))))))))))))) h

name_is_free : (text : List ℕ) → is_usable text ≡ true → free_unless text (word_of text) ≡ free text
name_is_free text usable =
    ap (free_unless text) (not_word text (not-true (is_reserved text) (and_parts (is_name_text text) (not (is_reserved text)) usable).1))

-- the terminals

abbrev update_terminals : Pair → List Terminal
update_terminals pair =
    mark OpenSquare ∷ free pair.left ∷ mark LeftArrow ∷ free pair.right ∷ mark CloseSquare ∷ mark Semicolon ∷ []

abbrev form_terminals : List Pair → List Terminal
form_terminals pairs =
    terminal_of (name (codes "always")) ∷ terminal_of (name (codes "guarantee")) ∷ mark OpenBrace ∷
    (flat_map update_terminals pairs ++ mark CloseBrace ∷ [])

terminals_of_updates : (pairs : List Pair) → list_all has_usable_names pairs ≡ true →
    map terminal_of (flat_map update_lexemes pairs) ≡ flat_map update_terminals pairs
terminals_of_updates [] usable = refl
terminals_of_updates (pair ∷ pairs) usable =
    let parts = and_parts (has_usable_names pair) (list_all has_usable_names pairs) usable in
    let names = and_parts (is_usable pair.left) (is_usable pair.right) parts.0 in
    let left = name_is_free pair.left names.0 in
    let right = name_is_free pair.right names.1 in
    let others = terminals_of_updates pairs parts.1 in
    λ i. mark OpenSquare ∷ left i ∷ mark LeftArrow ∷ right i ∷ mark CloseSquare ∷ mark Semicolon ∷ others i

terminals_of_form : (pairs : List Pair) → list_all has_usable_names pairs ≡ true →
    map terminal_of (form_lexemes pairs) ≡ form_terminals pairs
terminals_of_form pairs usable =
    let body = map-append terminal_of (flat_map update_lexemes pairs) _
    ∙ ap (λ xs. xs ++ mark CloseBrace ∷ []) (terminals_of_updates pairs usable) in
    λ i. terminal_of (name (codes "always")) ∷ terminal_of (name (codes "guarantee")) ∷ mark OpenBrace ∷ body i

each_terminal : (text : List ℕ) (tokens : List Token) → terminals text tokens ≡ map terminal_of (map (lexeme_of text) tokens)
each_terminal text [] = refl
each_terminal text (t ∷ tokens) = ap (λ xs. terminal_at text t ∷ xs) (each_terminal text tokens)

terminals_are : (text : List ℕ) (pairs : List Pair) (is : IsForm text pairs) →
    terminals text (tokens_from 0 is.parts) ≡ form_terminals pairs
terminals_are text pairs is =
    each_terminal text (tokens_from 0 is.parts)
    ∙ ap (map terminal_of) (lexemes_of_tokens text is.parts is.divides ∙ is.tokens)
    ∙ terminals_of_form pairs is.usable

-- the derivation

abbrev formula_of : Pair → FormulaSyntax
formula_of pair = updated pair.left (alone pair.right)

is_formula : (pair : Pair) →
    IsFormula deepest_level (mark OpenSquare ∷ free pair.left ∷ mark LeftArrow ∷ free pair.right ∷ mark CloseSquare ∷ []) (formula_of pair)
is_formula pair =
    grammar.chain (grammar.no_iff (grammar.no_imp (grammar.disjunction
    (grammar.conjunction (grammar.atom (grammar.update pair.left (grammar.signal pair.right))) grammar.no_conjunct) grammar.no_disjunct)))

are_items : (pairs : List Pair) → AreItems deepest_level (flat_map update_terminals pairs) (map formula_of pairs)
are_items [] = grammar.nothing
are_items (pair ∷ pairs) = grammar.item (is_formula pair) (are_items pairs)

-- the one section, whose formulas are always guaranteed
abbrev is_section : (pairs : List Pair) → (s : SectionSyntax) × IsSection deepest_level (form_terminals pairs) s
is_section pairs = (_, grammar.braces grammar.always_guarantee (are_items pairs))

abbrev section_of : List Pair → SectionSyntax
section_of pairs = (is_section pairs).0

are_sections : (pairs : List Pair) → AreSections deepest_level (form_terminals pairs) (section_of pairs ∷ [])
are_sections pairs =
    subst (λ xs. AreSections deepest_level xs (section_of pairs ∷ [])) (append-nil (form_terminals pairs))
    (grammar.section (is_section pairs).1 grammar.no_section)

-- the names

-- the use of a name in an update
abbrev plain_use : List ℕ → Use
plain_use text = use_as Signal text 0

uses_of : (pairs : List Pair) → flat_map uses (map formula_of pairs) ≡ map plain_use (flat_map sides pairs)
uses_of [] = refl
uses_of (pair ∷ pairs) = ap (λ us. plain_use pair.left ∷ plain_use pair.right ∷ us) (uses_of pairs)

all_uses_of : (pairs : List Pair) → all_uses (section_of pairs ∷ []) ≡ map plain_use (flat_map sides pairs)
all_uses_of pairs = append-nil (flat_map uses (map formula_of pairs)) ∙ uses_of pairs

named : (texts : List (List ℕ)) → flat_map named_by (map plain_use texts) ≡ map signal_named texts
named [] = refl
named (text ∷ texts) = ap (λ ns. signal_named text ∷ ns) (named texts)

names_are : (pairs : List Pair) → form.names_of_pairs pairs ≡ names_of (section_of pairs ∷ [])
names_are pairs = ap first_uses (sym (named (flat_map sides pairs)) ∙ ap (flat_map named_by) (sym (all_uses_of pairs)))

-- no name is used in two ways

all_plain : (texts : List (List ℕ)) → AllByRecursion (λ u. u ≡ signal_named u.text) (map (λ (u : Use). u.name) (map plain_use texts))
all_plain [] = tt
all_plain (text ∷ texts) = (refl, all_plain texts)

written_plain : (pairs : List Pair) → AllByRecursion (λ u. u ≡ signal_named u.text) (written_uses (section_of pairs ∷ []))
written_plain pairs =
    subst (λ us. AllByRecursion (λ u. u ≡ signal_named u.text) (map (λ (u : Use). u.name) us)) (sym (all_uses_of pairs))
    (all_plain (flat_map sides pairs))

no_clash : (alike : Name → Name → Bool) → ((a b : List ℕ) → alike (signal_named a) (signal_named b) ≡ true) →
    (us : List Name) → AllByRecursion (λ u. u ≡ signal_named u.text) us → HasNoClash alike us
no_clash alike same us plain at clash =
    let first : clash.first ≡ signal_named clash.first.text =
    each_at (λ u. u ≡ signal_named u.text) us clash.first_at clash.first plain clash.first_there in
    let usage : clash.usage ≡ signal_named clash.usage.text =
    each_at (λ u. u ≡ signal_named u.text) us at clash.usage plain clash.use_there in
    let is : alike clash.first clash.usage ≡ true = (λ i. alike (first i) (usage i)) ∙ same clash.first.text clash.usage.text in
    let e : true ≡ false = sym is ∙ clash.differs in
    cc

-- the formulas

one_number : (names : List Name) (pair : Pair) (f : FormulaTree) (left right : ℕ) → number_of names pair.left ≡ Some left →
    number_of names pair.right ≡ Some right → f ≡ atom (update left (signal right)) → numbered_formula names (formula_of pair) ≡ Some f
one_number names pair f left right l r is = rw (l, r, is) refl

numbers_are : (names : List Name) (pairs : List Pair) (fs : List FormulaTree) → AreUpdates names pairs fs →
    numbered_list names (map formula_of pairs) ≡ Some fs
numbers_are names [] [] h = refl
numbers_are names (pair ∷ pairs) (f ∷ fs) h =
    let first = h.0 in
    rw (one_number names pair f first.0 first.1 first.2 first.3 first.4, numbers_are names pairs fs h.1) refl
numbers_are names [] (f ∷ fs) h = absurd h
numbers_are names (pair ∷ pairs) [] h = absurd h

-- their nodes

nodes_of_update : (f : FormulaTree) (left right : ℕ) → f ≡ atom (update left (signal right)) → nodes f ≡ 2
nodes_of_update f left right is = ap nodes is

nodes_of_updates : (names : List Name) (pairs : List Pair) (fs : List FormulaTree) → AreUpdates names pairs fs →
    nodes_of_members (formulas_of (map (unary Globally) fs)) ≤ 3 * length pairs
nodes_of_updates names [] [] h = omega arith
nodes_of_updates names (pair ∷ pairs) (f ∷ fs) h =
    omega (arith, nodes_of_update f h.0.0 h.0.1 h.0.4, nodes_of_updates names pairs fs h.1)
nodes_of_updates names [] (f ∷ fs) h = absurd h
nodes_of_updates names (pair ∷ pairs) [] h = absurd h

nodes_of_conjunction : (fs : List FormulaTree) → nodes (conjunction_of fs) ≤ 1 + nodes_of_members (formulas_of fs)
nodes_of_conjunction [] = omega arith
nodes_of_conjunction (f ∷ []) = omega arith
nodes_of_conjunction (f ∷ g ∷ fs) = omega arith

few_nodes : (spec : SpecTree) (pairs : List Pair) → spec.assume_first ≡ [] → spec.assume_always ≡ [] → spec.guarantee_first ≡ [] →
    AreUpdates spec.names pairs spec.guarantee_always → length pairs ≤ form.most_updates → nodes (whole_formula spec) ≤ most_formula_nodes
few_nodes spec pairs first always guaranteed updates few =
    let whole : whole_formula spec ≡ conjunction_of (map (unary Globally) spec.guarantee_always) = rw (first, always, guaranteed) refl in
    omega (
      arith,
      few,
      ap nodes whole,
      nodes_of_conjunction (map (unary Globally) spec.guarantee_always),
      nodes_of_updates spec.names pairs spec.guarantee_always updates,
    )

-- the law
pub plain_is_spelled : (bytes : List ℕ) (spec : SpecTree) → SpellsUpdates bytes spec → Spells bytes spec
plain_is_spelled bytes spec x = record {
  few_nodes = few_nodes spec x.pairs x.nothing_assumed_first x.nothing_assumed_always x.nothing_guaranteed_first x.guarantees x.form.few;
  derived = derived_alone bytes spec (tokens_from 0 x.form.parts) (section_of x.pairs ∷ [])
      (record { parts = x.form.parts; divides = x.form.divides; places = refl })
      (subst (λ xs. AreSections deepest_level xs (section_of x.pairs ∷ [])) (sym (terminals_are bytes x.pairs x.form)) (are_sections x.pairs))
      (no_clash alike_in_kind (λ a b. refl) (written_uses (section_of x.pairs ∷ [])) (written_plain x.pairs))
      (no_clash same_arity (λ a b. refl) (written_uses (section_of x.pairs ∷ [])) (written_plain x.pairs)) (x.names ∙ names_are x.pairs)
      (ap Some (sym x.nothing_assumed_first)) (ap Some (sym x.nothing_assumed_always)) (ap Some (sym x.nothing_guaranteed_first))
      (ap (numbered_list spec.names) (append-nil (map formula_of x.pairs))
      ∙ numbers_are spec.names x.pairs spec.guarantee_always x.guarantees);
}
