use Rattle.std.proofs.Common.{◌≡◌, ◌∙◌, length, sym, arith}
use Rattle.std.specs.Vec.{vec_len}
use Rattle.std.proofs.lemmas.Bool.{eqb-true}
use Rattle.std.proofs.lemmas.List.{nil_from_length}
use Rattle.ltl_formula.specs.LtlTree.{ltl_tree}
use Rattle.ltl_rewriting.proofs.PartedMembers.{all_alone}
use Rattle.ltl_rewriting.proofs.parting.joined_all.Goals as goal

pub returns-then-is_empty : goal.returns-then-is_empty
returns-then-is_empty c loop i =
    let count = eqb-true (vec_len c.args.always) 0 (sym c.is_empty.ensures ∙ c.if-is_empty.true) in
    let fits = c.args.always.ok in
    let none : length c.args.always.items ≡ 0 = omega (arith, count, fits) in
    all_alone loop c.args.always.items c.args.others.items (ltl_tree c.in_ok-made.made) i (nil_from_length c.args.always.items none) c.in_ok-made.ensures
