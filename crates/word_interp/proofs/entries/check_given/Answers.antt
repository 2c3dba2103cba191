use Rattle.std.proofs.Common.{◌∙◌, ℕ, ap, sym}
use Rattle.std.specs.Prelude.{option_map}
use Rattle.table_syntax.specs.View.{words_view}
use Rattle.word_interp.proofs.Checked.{arities, numbers, number}
use Rattle.word_interp.proofs.entries.check_given.Goals as goal

pub returns-in-Some-clause-cause : goal.returns-in-Some-clause-cause
returns-in-Some-clause-cause c = record {
  so_far = c.requires.whole;
  first = sym (c.in-Some.ensures ∙ arities c.args.names.now c.args.cells.now (words_view c.args.text.now) _ _ _ c.requires.domain
      c.requires.given c.requires.needed c.requires.within);
}

pub returns-in-Some-first_too_large-clause-cause : goal.returns-in-Some-first_too_large-clause-cause
returns-in-Some-first_too_large-clause-cause c = record {
  so_far = record {
    so_far = c.requires.whole;
    fitting = sym (arities c.args.names.now c.args.cells.now (words_view c.args.text.now) _ _ _ c.requires.domain
        c.requires.given c.requires.needed c.requires.within) ∙ sym c.first_of_other_arity.ensures ∙ c.in_default.is;
  };
  first = sym (c.in-Some-first_too_large.ensures.name ∙ numbers c.args.names.now c.args.cells.now (words_view c.args.text.now) _ _ _ c.requires.domain
      c.requires.given c.requires.needed c.requires.within);
  number = sym (number c.args.names.now c.args.cells.now (words_view c.args.text.now) _ _ _ c.requires.domain
      c.requires.given c.requires.needed c.requires.within c.in-Some-first_too_large.found.0 c.in-Some-first_too_large.ensures.name)
      ∙ c.in-Some-first_too_large.ensures.number;
}

pub returns-clause-ok : goal.returns-clause-ok
returns-clause-ok c = record {
  so_far = record {
    so_far = c.requires.whole;
    fitting = sym (arities c.args.names.now c.args.cells.now (words_view c.args.text.now) _ _ _ c.requires.domain
        c.requires.given c.requires.needed c.requires.within) ∙ sym c.first_of_other_arity.ensures ∙ c.in_default.is;
  };
  in_range = sym (numbers c.args.names.now c.args.cells.now (words_view c.args.text.now) _ _ _ c.requires.domain
      c.requires.given c.requires.needed c.requires.within) ∙ sym c.first_too_large.ensures.name
      ∙ ap (option_map (λ (p : ℕ × ℕ). p.0)) c.in_default-first_too_large.is;
}
