use Rattle.std.proofs.Common.{◌≡◌, ℕ, get_or, List, ◌++◌, codes, IsTrue, ap, sym, subst, ◌∙◌, append_assoc}
use Rattle.std.specs.Prelude.{OnOk}
use Rattle.std.proofs.lemmas.Bool.{and_parts}
use Rattle.base_library.proofs.Passes.{map_passes_within}
use Rattle.tsl_terms.specs.declared.term.Term.{Term}
use Rattle.tsl_terms.specs.TermTree.{term_tree}
use Rattle.term_text.specs.TermText.{update_text, term_is_held}
use Rattle.environment_text.proofs.Picks.{picked_is}
use Rattle.environment_text.proofs.environment.put_picked.Goals as goal

pub put_update-requires-clause-term : goal.put_update-requires-clause-term
put_update-requires-clause-term c =
    subst (λ (t : Term). IsTrue (term_is_held c.args.names.now (term_tree t)))
    (sym (c.index-as_slice-pick.is ∙ ap (λ ts. get_or ts c.args.pick c.index-as_slice-pick.result) c.as_slice.ensures))
    (map_passes_within term_tree (term_is_held c.args.names.now) c.args.controlled.now.choices c.args.pick _
    (and_parts _ _ c.requires.held).1 c.requires.below)

pub returns : goal.returns
returns c =
    let term : Term = c.index-as_slice-pick.result in
    let update : List ℕ = update_text c.args.names.now c.args.controlled.now.signal (term_tree term) in
    subst (λ (ys : List ℕ). OnOk c.put_update.result (c.put_update.new.out.items ≡ ys))
    (ap (λ (ys : List ℕ). ys ++ update) c.in_ok-put_bytes.ensures.ok ∙ append_assoc c.args.out.now.items (codes " ") update
    ∙ ap (λ (ys : List ℕ). c.args.out.now.items ++ ys) (sym (picked_is c.args.names.now c.args.controlled.now c.args.pick term c.requires.below
    (c.index-as_slice-pick.is ∙ ap (λ ts. get_or ts c.args.pick term) c.as_slice.ensures))))
    c.put_update.ensures.text
