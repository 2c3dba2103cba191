-- The graph of uses, row by row.
use Rattle.std.proofs.Common.{◌≡◌, ◌∙◌, ℕ, ◌+◌, ◌<◌, List, [], ◌∷◌, ◌++◌, length, get_or, map, take, Vec, refl, sym, ap, append_assoc}
use Rattle.std.specs.declared.alloc.Global.{Global}
use Rattle.base_library.proofs.Lists.{alike_more, map_map}
use Rattle.std.proofs.lemmas.List.Elements.{filter_map-append}
use Rattle.tsl_terms.specs.Name.{Name, number_of}
use Rattle.spec_syntax.specs.Syntax.{Definition}
use Rattle.spec_syntax.specs.SyntaxView.{formula_syntax}
use Rattle.depth_first_search.specs.Graphs.{graph_of}
use Rattle.definition_expansion.specs.declared.definitions.ReadDefinition.{ReadDefinition}
use Rattle.definition_expansion.specs.DefinitionView.{definition_of}
use Rattle.definition_expansion.specs.internal.UseNumbers.{numbers_of, used_names, use_graph}

pub rows_more : (heads : List Name) (old new : List (Vec ℕ Global)) (row : Vec ℕ Global) (ds : List ReadDefinition) (i : ℕ) (d : ReadDefinition) →
    i < length ds → d ≡ get_or ds i d → graph_of old ≡ use_graph heads (map definition_of (take i ds)) →
    row.items ≡ numbers_of heads (used_names (formula_syntax d.body)) → new ≡ old ++ row ∷ [] →
    graph_of new ≡ use_graph heads (map definition_of (take (i + 1) ds))
rows_more heads old new row ds i d within is so_far same pushed =
    let of_one = λ (e : Definition). numbers_of heads (used_names e.body) in
    alike_more (λ (r : Vec ℕ Global). r.items) (λ (e : ReadDefinition). of_one (definition_of e)) old new row ds i d within is
    (so_far ∙ map_map of_one definition_of (take i ds)) same pushed
    ∙ sym (map_map of_one definition_of (take (i + 1) ds))

-- the numbers of two parts, one after the other
pub numbers_both : (heads : List Name) (old middle new : List ℕ) (xs ys : List (List ℕ)) → middle ≡ old ++ numbers_of heads xs →
    new ≡ middle ++ numbers_of heads ys → new ≡ old ++ numbers_of heads (xs ++ ys)
numbers_both heads old middle new xs ys first second =
    second ∙ ap (λ ns. ns ++ numbers_of heads ys) first ∙ append_assoc old (numbers_of heads xs) (numbers_of heads ys)
    ∙ ap (λ ns. old ++ ns) (sym (filter_map-append (number_of heads) xs ys))

pub numbers_further : (heads : List Name) (old middle all : List ℕ) (xs ys : List (List ℕ)) → middle ≡ old ++ numbers_of heads xs →
    old ++ numbers_of heads (xs ++ ys) ≡ all → middle ++ numbers_of heads ys ≡ all
numbers_further heads old middle all xs ys first whole = numbers_both heads old middle _ xs ys first refl ∙ whole
