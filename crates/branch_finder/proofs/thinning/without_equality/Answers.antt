use Rattle.std.proofs.Common.{◌≡◌, ◌∙◌, ◌+◌, suc, ◌++◌, List, map, take, drop, ap, sym, add-one}
use Rattle.std.proofs.lemmas.List.{take-map, drop-map, take_rest}
use Rattle.tsl_terms.specs.declared.window.Equated.{Equated}
use Rattle.tsl_terms.specs.WindowTree.{EquatedTree, equated_tree, window_tree}
use Rattle.branch_finder.proofs.thinning.without_equality.Goals as goal

pub returns : goal.returns
returns c =
    let window = c.args.window.now in
    let place = c.args.place in
    let slice = c.as_slice-equalities.result.now in
    let copied : window_tree c.in_ok-left.field-0 ≡ window_tree window = c.in_ok-left.ensures in
    let equalities : map equated_tree c.from_vec.result
    ≡ take place (map equated_tree window.equalities) ++ drop (suc place) (map equated_tree window.equalities)
    = ap (map equated_tree) c.from_vec.ensures
    ∙ (c.in_ok-add_equal_copies-2.ensures
    ∙ (ap (λ (qs : List Equated). map equated_tree c.add_equal_copies.new.copies.items ++ map equated_tree qs) (take_rest slice (place + 1))
    ∙ ap (λ (qs : List EquatedTree). qs ++ map equated_tree (drop (place + 1) slice))
    (c.in_ok-add_equal_copies.ensures
    ∙ ap (λ (qs : List Equated). map equated_tree qs ++ map equated_tree (take place slice)) c.new-rest.ensures.items)
    ∙ (ap (λ (qs : List Equated). map equated_tree (take place qs) ++ map equated_tree (drop (place + 1) qs)) c.as_slice-equalities.ensures
    ∙ (λ i. sym (take-map equated_tree place window.equalities) i ++ sym (drop-map equated_tree (place + 1) window.equalities) i)
    ∙ ap (λ n. take place (map equated_tree window.equalities) ++ drop n (map equated_tree window.equalities)) (add-one place)))) in
    λ i. record {
      left = (copied i).left;
      left_at = (copied i).left_at;
      right = (copied i).right;
      length = (copied i).length;
      equalities = equalities i;
      updates = (copied i).updates;
    }
