use Rattle.std.proofs.Common.{◌≡◌, ◌∙◌, ◌+◌, suc, ◌++◌, List, map, take, drop, ap, sym, add-one}
use Rattle.std.proofs.lemmas.List.{take-map, drop-map, take_rest}
use Rattle.tsl_terms.specs.declared.window.Listed.{Listed}
use Rattle.tsl_terms.specs.WindowTree.{ListedTree, listed_tree, window_tree}
use Rattle.branch_finder.proofs.thinning.without_update.Goals as goal

pub returns : goal.returns
returns c =
    let window = c.args.window.now in
    let place = c.args.place in
    let slice = c.as_slice-updates.result.now in
    let copied : window_tree c.in_ok-left.field-0 ≡ window_tree window = c.in_ok-left.ensures in
    let updates : map listed_tree c.from_vec.result
    ≡ take place (map listed_tree window.updates) ++ drop (suc place) (map listed_tree window.updates)
    = ap (map listed_tree) c.from_vec.ensures
    ∙ (c.in_ok-add_copies-2.ensures
    ∙ (ap (λ (us : List Listed). map listed_tree c.add_copies.new.copies.items ++ map listed_tree us) (take_rest slice (place + 1))
    ∙ ap (λ (us : List ListedTree). us ++ map listed_tree (drop (place + 1) slice))
    (c.in_ok-add_copies.ensures
    ∙ ap (λ (us : List Listed). map listed_tree us ++ map listed_tree (take place slice)) c.new-rest.ensures.items)
    ∙ (ap (λ (us : List Listed). map listed_tree (take place us) ++ map listed_tree (drop (place + 1) us)) c.as_slice-updates.ensures
    ∙ (λ i. sym (take-map listed_tree place window.updates) i ++ sym (drop-map listed_tree (place + 1) window.updates) i)
    ∙ ap (λ n. take place (map listed_tree window.updates) ++ drop n (map listed_tree window.updates)) (add-one place)))) in
    λ i. record {
      left = (copied i).left;
      left_at = (copied i).left_at;
      right = (copied i).right;
      length = (copied i).length;
      updates = updates i;
      equalities = (copied i).equalities;
    }
