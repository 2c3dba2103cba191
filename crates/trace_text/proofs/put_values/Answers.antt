use Rattle.std.proofs.Common.{◌≡◌, ℕ, ◌+◌, ◌<◌, ◌≤◌, min, length, get_or, drop, List, [], ◌∷◌, ◌++◌, codes, refl, ap, sym, ◌∙◌, rules}
use Rattle.std.proofs.Common.{arith, ⊎_elim}
use Rattle.std.specs.Prelude.{decimal}
use Rattle.std.proofs.lemmas.List.{drop_more, drop_all, length_push, append-nil}
use Rattle.std.proofs.lemmas.Bool.{cases_lt}
use Rattle.std.proofs.lemmas.Slice.Zip.{zip_turn, zip_end}
use Rattle.base_library.proofs.Passes.{passes_within}
use Rattle.base_library.proofs.Lists.{written_step}
use Rattle.tsl_terms.specs.Name.{Name}
use Rattle.term_text.specs.TermText.{name_text, is_held}
use Rattle.trace_text.specs.TraceText.{values_text}
use Rattle.trace_text.proofs.put_values.Goals as goal

pub put_value-requires : goal.put_value-requires
put_value-requires c =
    let turn = (zip_turn c.args.signals.now c.args.values.now c.loop-signal.yielded c.into_iter-signal-iterator.result
    c.loop-signal.signal-iterator c.next.new.self c.next.result (search rules) (search rules) c.loop-signal.yielded_by
    (c.in-Some.signal, c.in-Some.value) c.in-Some.is c.next.ensures.steps) in
    rw (turn.2 0) (passes_within (is_held c.args.names.now) c.args.signals.now
    (length c.loop-signal.yielded) 0 c.requires turn.0)

values_left : (names : List Name) (signals values : List ℕ) (n s v : ℕ) → n < length signals → n < length values →
    s ≡ get_or signals n 0 → v ≡ get_or values n 0 →
    values_text names (drop n signals) (drop n values) ≡ (codes " " ++ name_text names s ++ codes " " ++ decimal v)
    ++ values_text names (drop (n + 1) signals) (drop (n + 1) values)
values_left names signals values n s v within inside signal value =
    ap (λ (ss : List ℕ). values_text names ss (drop n values)) (drop_more signals n 0 within
    ∙ ap (λ (r : ℕ). r ∷ drop (n + 1) signals) (sym signal))
    ∙ ap (λ (vs : List ℕ). values_text names (s ∷ drop (n + 1) signals) vs) (drop_more values n 0 inside
    ∙ ap (λ (r : ℕ). r ∷ drop (n + 1) values) (sym value))

pub loop-signal-preserved : goal.loop-signal-preserved
loop-signal-preserved c =
    let turn = (zip_turn c.args.signals.now c.args.values.now c.loop-signal.yielded c.into_iter-signal-iterator.result
    c.loop-signal.signal-iterator c.next.new.self c.next.result (search rules) (search rules) c.loop-signal.yielded_by
    (c.in-Some.signal, c.in-Some.value) c.in-Some.is c.next.ensures.steps) in
    record {
      can_next = search rules;
      is_finite = search rules;
      written =
          rw (length_push c.loop-signal.yielded (c.in-Some.signal, c.in-Some.value))
          (written_step _ _ _ _ _ _ c.loop-signal.invariant.written
          (values_left c.args.names.now c.args.signals.now c.args.values.now
          (length c.loop-signal.yielded) c.in-Some.signal.now c.in-Some.value.now turn.0 turn.1 (turn.2 0) (turn.3 0))
          c.in_ok-put_value.ensures);
    }

no_values_left : (names : List Name) (signals : List ℕ) → values_text names signals [] ≡ []
no_values_left names [] = refl
no_values_left names (s ∷ ss) = refl

values_done : (names : List Name) (signals values : List ℕ) (n : ℕ) → n ≡ min (length signals) (length values) →
    values_text names (drop n signals) (drop n values) ≡ []
values_done names signals values n end =
    ⊎_elim
    (λ (l : length signals < length values). ap (λ (ss : List ℕ). values_text names ss (drop n values))
    (drop_all n signals (omega arith)))
    (λ (l : length values ≤ length signals). ap (λ (vs : List ℕ). values_text names (drop n signals) vs)
    (drop_all n values (omega arith)) ∙ no_values_left names (drop n signals))
    (cases_lt (length signals) (length values))

pub returns : goal.returns
returns c =
    let end = zip_end c.args.signals.now c.args.values.now c.loop-signal.yielded c.into_iter-signal-iterator.result
    c.loop-signal.signal-iterator c.next.new.self c.next.result (search rules)
    (search rules) c.loop-signal.yielded_by c.in-None.is c.next.ensures.steps in
    sym (append-nil c.loop-signal.out.items)
    ∙ ap (λ (ys : List ℕ). c.loop-signal.out.items ++ ys)
    (sym (values_done c.args.names.now c.args.signals.now c.args.values.now (length c.loop-signal.yielded) end))
    ∙ c.loop-signal.invariant.written
