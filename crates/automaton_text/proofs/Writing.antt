-- The parts of a text, one after another, are the text.
use Rattle.std.proofs.Common.{◌≡◌, ◌∙◌, ℕ, zero, suc, ◌+◌, ◌-◌, ◌<◌, Bool, true, false, cond, List, [], ◌∷◌, ◌++◌, length, map, refl, sym, ap, arith}
use Rattle.std.proofs.Common.{append_assoc, append-nil, add-one, codes}
use Rattle.std.specs.Prelude.{filter, flat_map, decimal, if◌then◌else◌}
use Rattle.std.proofs.lemmas.Grind.{flat_map-append}
use Rattle.std.proofs.lemmas.List.{length-map, length-append}
use Rattle.base_library.specs.Numbers.{numbers_from}
use Rattle.base_library.proofs.Lists.{written_step}
use Rattle.tsl_text.specs.Written.{text_of_lines}
use Rattle.tsl_terms.specs.Name.{Name}
use Rattle.term_text.specs.TermText.{probe_text}
use Rattle.ltl_formula.specs.Cubes.{has_bit}
use Rattle.letter_space.specs.SpaceTree.{ControlledTree, SpaceTree, choice_count, bit_count}
use Rattle.cobuchi_automata.specs.Automata.{EdgeTree}
use Rattle.annotation_check.specs.Annotations.{edges_from}
use Rattle.automaton_text.specs.BitNames.{bit_names, choice_names}
use Rattle.automaton_text.specs.HoaText.{literal_text, joined, bits_text, quoted_text, header_lines, state_lines, hoa_text}
use Rattle.automaton_text.specs.internal.Written.{listed_lines}

-- ---- the bits that a cube asks for

abbrev pub asked_from : ℕ → ℕ → ℕ → List ℕ
asked_from care bits bit = filter (λ b. has_bit b care) (numbers_from bit (bits - bit))

pub asked_next : (care bits bit : ℕ) (b : Bool) → bit < bits → has_bit bit care ≡ b →
    asked_from care bits bit ≡ cond b (bit ∷ asked_from care bits (suc bit)) (asked_from care bits (suc bit))
asked_next care bits bit b within is =
    let left : bits - bit ≡ suc (bits - suc bit) = omega (arith, within) in
    ap (λ n. filter (λ b. has_bit b care) (numbers_from bit n)) left
    ∙ ap (λ b. cond b (bit ∷ asked_from care bits (suc bit)) (asked_from care bits (suc bit))) is

abbrev further : ℕ → List ℕ → List ℕ
further want bits = flat_map (λ m. codes "&" ++ m) (map (literal_text want) bits)

pub further_next : (care want bits bit : ℕ) (old new all : List ℕ) → bit < bits →
    new ≡ old ++ (if has_bit bit care then codes "&" ++ literal_text want bit else []) →
    old ++ further want (asked_from care bits bit) ≡ all → new ++ further want (asked_from care bits (bit + 1)) ≡ all
further_next care want bits bit old new all within grown so_far =
    ap (λ k. new ++ further want (asked_from care bits k)) (add-one bit)
    ∙ written_step old new (if has_bit bit care then codes "&" ++ literal_text want bit else []) (further want (asked_from care bits bit))
    (further want (asked_from care bits (suc bit))) all so_far
    (by (has_bit bit care) (asked_next care bits bit (has_bit bit care) within refl)) grown
  where
    by : (b : Bool) → asked_from care bits bit ≡ cond b (bit ∷ asked_from care bits (suc bit)) (asked_from care bits (suc bit)) →
        further want (asked_from care bits bit)
        ≡ (if b then codes "&" ++ literal_text want bit else []) ++ further want (asked_from care bits (suc bit))
    by true is = ap (further want) is
    by false is = ap (further want) is

pub label_written : (care want bits first : ℕ) (all o o1 o2 : List ℕ) → all ≡ first ∷ asked_from care bits (suc first) →
    o1 ≡ o ++ literal_text want first → o2 ≡ o1 ++ further want (asked_from care bits (first + 1)) →
    o2 ≡ o ++ joined (map (literal_text want) all)
label_written care want bits first all o o1 o2 is begun rest =
    rest ∙ ap (λ k. o1 ++ further want (asked_from care bits k)) (add-one first)
    ∙ ap (λ xs. xs ++ further want (asked_from care bits (suc first))) begun
    ∙ append_assoc o (literal_text want first) (further want (asked_from care bits (suc first)))
    ∙ ap (λ bs. o ++ joined (map (literal_text want) bs)) (sym is)

-- ---- pieces

pub two : (o o1 o2 a b : List ℕ) → o1 ≡ o ++ a → o2 ≡ o1 ++ b → o2 ≡ o ++ (a ++ b)
two o o1 o2 a b first second = second ∙ ap (λ xs. xs ++ b) first ∙ append_assoc o a b

two_names : (f g : List (List ℕ)) → flat_map quoted_text f ++ flat_map quoted_text g ≡ flat_map quoted_text (f ++ g)
two_names f g = sym (flat_map-append quoted_text f g)

choices_length : (names : List Name) (cs : List ControlledTree) → length (flat_map (choice_names names) cs) ≡ choice_count cs
choices_length names [] = refl
choices_length names (c ∷ cs) =
    length-append (choice_names names c) (flat_map (choice_names names) cs)
    ∙ ap (λ n. n + length (flat_map (choice_names names) cs)) (length-map c.choices _)
    ∙ ap (λ n. length c.choices + n) (choices_length names cs)

pub names_length : (names : List Name) (space : SpaceTree) → length (bit_names names space) ≡ bit_count space
names_length names space =
    length-append (map (probe_text names) space.predicates) (flat_map (choice_names names) space.controlled)
    ∙ ap (λ n. n + length (flat_map (choice_names names) space.controlled)) (length-map space.predicates (probe_text names))
    ∙ ap (λ n. length space.predicates + n) (choices_length names space.controlled)

pub bits_written : (names : List Name) (space : SpaceTree) (bits : ℕ) (o o1 o2 o3 o4 o5 : List ℕ) → bits ≡ bit_count space →
    o1 ≡ o ++ codes "AP: " → o2 ≡ o1 ++ decimal bits → o3 ≡ o2 ++ flat_map quoted_text (map (probe_text names) space.predicates) →
    o4 ≡ o3 ++ flat_map quoted_text (flat_map (choice_names names) space.controlled) → o5 ≡ o4 ++ codes "\n" →
    o5 ≡ o ++ (bits_text (bit_names names space) ++ 10 ∷ [])
bits_written names space bits o o1 o2 o3 o4 o5 count first second third fourth fifth =
    five o o1 o2 o3 o4 o5 (codes "AP: ") (decimal bits) (flat_map quoted_text (map (probe_text names) space.predicates))
    (flat_map quoted_text (flat_map (choice_names names) space.controlled)) (codes "\n") first second third fourth fifth
    ∙ ap (λ n. o ++ ((codes "AP: " ++ (decimal n ++ tail)) ++ 10 ∷ [])) (count ∙ sym (names_length names space))
    ∙ ap (λ zs. o ++ ((codes "AP: " ++ (decimal (length (bit_names names space)) ++ zs)) ++ 10 ∷ []))
    (two_names (map (probe_text names) space.predicates) (flat_map (choice_names names) space.controlled))
  where
    tail : List ℕ
    tail = flat_map quoted_text (map (probe_text names) space.predicates)
        ++ flat_map quoted_text (flat_map (choice_names names) space.controlled)

    five : (o o1 o2 o3 o4 o5 a b c d e : List ℕ) → o1 ≡ o ++ a → o2 ≡ o1 ++ b → o3 ≡ o2 ++ c → o4 ≡ o3 ++ d → o5 ≡ o4 ++ e →
        o5 ≡ o ++ ((a ++ (b ++ (c ++ d))) ++ e)
    five o o1 o2 o3 o4 o5 a b c d e h1 h2 h3 h4 h5 = rw (h5, h4, h3, h2, h1) (simp append_assoc)

pub seven : (o o1 o2 o3 o4 o5 o6 o7 a b c d e f g : List ℕ) → o1 ≡ o ++ a → o2 ≡ o1 ++ b → o3 ≡ o2 ++ c → o4 ≡ o3 ++ d → o5 ≡ o4 ++ e →
    o6 ≡ o5 ++ f → o7 ≡ o6 ++ g → o7 ≡ o ++ (a ++ (b ++ (c ++ (d ++ (e ++ (f ++ (g ++ [])))))))
seven o o1 o2 o3 o4 o5 o6 o7 a b c d e f g h1 h2 h3 h4 h5 h6 h7 = rw (h7, h6, h5, h4, h3, h2, h1) (simp (append_assoc, append-nil))

-- ---- states

listed_are : (bits : ℕ) (edges : List EdgeTree) (first count : ℕ) →
    listed_lines bits first (map (edges_from edges) (numbers_from first count)) ≡ flat_map (state_lines bits edges) (numbers_from first count)
listed_are bits edges first zero = refl
listed_are bits edges first (suc count) = ap (λ ls. state_lines bits edges first ++ ls) (listed_are bits edges (suc first) count)

pub automaton_written : (names : List (List ℕ)) (bits states : ℕ) (edges : List EdgeTree) (lists : List (List EdgeTree))
    (o1 o2 o3 : List ℕ) → bits ≡ length names → lists ≡ map (edges_from edges) (numbers_from 0 states) →
    o1 ≡ text_of_lines (header_lines names states) → o2 ≡ o1 ++ text_of_lines (listed_lines bits 0 lists) →
    o3 ≡ o2 ++ (codes "--END--" ++ 10 ∷ []) → o3 ≡ hoa_text names states edges
automaton_written names bits states edges lists o1 o2 o3 count are first second third =
    two o1 o2 o3 (text_of_lines (listed_lines bits 0 lists)) (codes "--END--" ++ 10 ∷ []) second third
    ∙ ap (λ xs. o1 ++ (text_of_lines xs ++ (codes "--END--" ++ 10 ∷ [])))
    (ap (listed_lines bits 0) are ∙ listed_are bits edges 0 states ∙ ap (λ n. flat_map (state_lines n edges) (numbers_from 0 states)) count)
    ∙ ap (λ xs. xs ++ (text_of_lines body ++ (codes "--END--" ++ 10 ∷ []))) first
    ∙ joined (header_lines names states) body (codes "--END--" ∷ [])
  where
    body : List (List ℕ)
    body = flat_map (state_lines (length names) edges) (numbers_from 0 states)

    joined : (xs ys zs : List (List ℕ)) → text_of_lines xs ++ (text_of_lines ys ++ text_of_lines zs) ≡ text_of_lines ((xs ++ ys) ++ zs)
    joined xs ys zs =
        sym (append_assoc (text_of_lines xs) (text_of_lines ys) (text_of_lines zs))
        ∙ ap (λ t. t ++ text_of_lines zs) (sym (flat_map-append (λ l. l ++ 10 ∷ []) xs ys))
        ∙ sym (flat_map-append (λ l. l ++ 10 ∷ []) (xs ++ ys) zs)
