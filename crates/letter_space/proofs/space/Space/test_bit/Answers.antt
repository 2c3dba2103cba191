use Rattle.std.proofs.Common.{◌≡◌, None, rules, sym, ap, ◌∙◌}
use Rattle.std.specs.List.{position}
use Rattle.tsl_terms.specs.TermTree.{probe_tree}
use Rattle.letter_space.proofs.Places.{position-map}
use Rattle.letter_space.proofs.space.Space.test_bit.Goals as goal

pub returns-in_err-place : goal.returns-in_err-place
returns-in_err-place c =
    let none : c.from_residual.result ≡ None = search rules in
    none ∙ sym c.in_err-place.was ∙ c.place_of_probe.ensures ∙ ap (position _) c.as_slice.ensures
    ∙ sym (position-map probe_tree _ c.args.self.now.predicates)

pub returns : goal.returns
returns c =
    sym c.in_ok-place.was ∙ c.place_of_probe.ensures ∙ ap (position _) c.as_slice.ensures
    ∙ sym (position-map probe_tree _ c.args.self.now.predicates)
