use Rattle.std.proofs.Common.{◌≡◌, ◌+◌, None, rules, sym, ap, ◌∙◌, option_map}
use Rattle.std.specs.List.{position}
use Rattle.tsl_terms.specs.TermTree.{term_tree}
use Rattle.letter_space.proofs.Places.{position-map}
use Rattle.letter_space.proofs.controlled.Controlled.bit_of.Goals as goal

pub returns-in_err-place : goal.returns-in_err-place
returns-in_err-place c =
    let none : c.from_residual.result ≡ None = search rules in
    none ∙ ap (option_map (λ k. c.args.self.now.first + k)) (sym c.in_err-place.was ∙ c.place_of_term.ensures
    ∙ ap (position _) c.as_slice.ensures ∙ sym (position-map term_tree _ c.args.self.now.choices))

pub returns : goal.returns
returns c =
    ap (option_map (λ k. c.args.self.now.first + k)) (sym c.in_ok-place.was ∙ c.place_of_term.ensures ∙ ap (position _) c.as_slice.ensures
    ∙ sym (position-map term_tree _ c.args.self.now.choices))
