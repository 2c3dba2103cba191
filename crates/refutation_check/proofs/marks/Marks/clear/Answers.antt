use Rattle.std.proofs.Common.{◌≡◌, ◌++◌, ◌∷◌, [], false, set, reverse, sym, ap, ◌∙◌, subst}
use Rattle.std.specs.Prelude.{option_to_list}
use Rattle.refutation_check.proofs.Marking.{IsAtMost, taken_back, reverse_push}
use Rattle.refutation_check.proofs.marks.Marks.clear.Goals as goal

pub loop-literal-preserved : goal.loop-literal-preserved
loop-literal-preserved c =
    let now = c.loop-literal.self-inside in
    let rest = c.pop.new.self.items in
    let l = c.in-Some.literal in
    let before : now.literals.items ≡ rest ++ l ∷ [] = c.pop.ensures.items ∙ ap (λ o. rest ++ option_to_list o) c.in-Some.is in
    record {
      variables = c.loop-literal.invariant.variables;
      table = subst (λ k. IsAtMost now.variables (set now.truths.items k false) (reverse rest)) (sym c.place.ensures)
          (taken_back now.variables now.truths.items l (reverse rest)
          (subst (IsAtMost now.variables now.truths.items) (reverse_push now.literals.items rest l before) c.loop-literal.invariant.table));
    }
