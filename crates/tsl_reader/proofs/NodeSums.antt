-- How many nodes expansions have, counted formula by formula up to a bound.
use Rattle.std.proofs.Common.{◌≡◌, ℕ, ◌+◌, ◌<◌, min, List, length, map, get_or, drop, ap, ◌∙◌, arith}
use Rattle.std.specs.Prelude.{flat_map}
use Rattle.std.proofs.lemmas.List.{drop_more}
use Rattle.std.proofs.lemmas.List.Sums.{sum_by-cons, sum_by-append}
use Rattle.spec_syntax.specs.Syntax.{Definition}
use Rattle.spec_syntax.specs.declared.trees.ReadFormula.{ReadFormula}
use Rattle.spec_syntax.specs.declared.trees.ReadSection.{ReadSection}
use Rattle.spec_syntax.specs.SyntaxView.{formula_syntax, section_syntax}
use Rattle.tsl_reader.specs.Expanding.{nodes_of_expansion, nodes_of_formulas, nodes_of_sections}

-- one formula more
pub formula_counted : (ds : List Definition) (stop : ℕ) (fs : List ReadFormula) (i : ℕ) (d x : ReadFormula) (now next one whole : ℕ) →
    i < length fs → x ≡ get_or fs i d → one ≡ min stop (nodes_of_expansion ds (formula_syntax x)) → next ≡ min stop (now + one) →
    min stop (now + nodes_of_formulas ds (map formula_syntax (drop i fs))) ≡ whole →
    min stop (next + nodes_of_formulas ds (map formula_syntax (drop (i + 1) fs))) ≡ whole
formula_counted ds stop fs i d x now next one whole within there is more so_far =
    let rest = map formula_syntax (drop (i + 1) fs) in
    let front : nodes_of_formulas ds (map formula_syntax (drop i fs))
    ≡ nodes_of_expansion ds (formula_syntax (get_or fs i d)) + nodes_of_formulas ds rest =
    ap (λ gs. nodes_of_formulas ds (map formula_syntax gs)) (drop_more fs i d within)
    ∙ sum_by-cons (nodes_of_expansion ds) (formula_syntax (get_or fs i d)) rest in
    omega (arith, front, ap (λ f. nodes_of_expansion ds (formula_syntax f)) there, is, more, so_far)

-- one section more
pub section_counted : (ds : List Definition) (stop : ℕ) (ss : List ReadSection) (i : ℕ) (d : ReadSection) (now next whole : ℕ) →
    i < length ss → next ≡ min stop (now + nodes_of_formulas ds (map formula_syntax (get_or ss i d).formulas.items)) →
    min stop (now + nodes_of_sections ds (map section_syntax (drop i ss))) ≡ whole →
    min stop (next + nodes_of_sections ds (map section_syntax (drop (i + 1) ss))) ≡ whole
section_counted ds stop ss i d now next whole within more so_far =
    let rest = map section_syntax (drop (i + 1) ss) in
    let own = map formula_syntax (get_or ss i d).formulas.items in
    let front : nodes_of_sections ds (map section_syntax (drop i ss)) ≡ nodes_of_formulas ds own + nodes_of_sections ds rest =
    ap (λ rs. nodes_of_sections ds (map section_syntax rs)) (drop_more ss i d within)
    ∙ sum_by-append (nodes_of_expansion ds) own (flat_map (λ s. s.formulas) rest) in
    omega (arith, front, more, so_far)
