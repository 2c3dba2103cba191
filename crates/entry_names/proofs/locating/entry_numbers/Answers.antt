use Rattle.std.proofs.Common.{◌<◌, ◌∷◌, [], not, length, map, sym, ap, ◌∙◌, arith}
use Rattle.std.proofs.lemmas.List.{take_all}
use Rattle.std.proofs.lemmas.List.Elements.{All-from_recursion}
use Rattle.base_library.proofs.Finds.{find_image_end, find_item_past, find_item_here}
use Rattle.base_library.proofs.Options.{not_false_of_some}
use Rattle.base_library.proofs.Each.{each_joined}
use Rattle.table_syntax.specs.View.{text_token_view}
use Rattle.entry_names.specs.Needed.{number_for}
use Rattle.entry_names.specs.Entries.{is_known, numbers_of}
use Rattle.entry_names.proofs.Growing.{item_numbers}
use Rattle.entry_names.proofs.Located.{known_as, unknown_entry}
use Rattle.entry_names.proofs.locating.entry_numbers.Goals as goal

pub loop-entry-preserved : goal.loop-entry-preserved
loop-entry-preserved g c =
    let within : c.loop-entry.entry-index < length c.args.entries.now = omega (arith, c.loop-entry-test.true) in
    record {
      numbers =
          rw c.in_ok-push-in-Some.ensures.items
          (item_numbers g.E.Named.subject (λ e. number_for c.args.names.now e.name) c.args.entries.now c.loop-entry.entry-index
          c.entry-item.result c.loop-entry.numbers.items c.in-Some.number within c.entry-item.is
          (ap (number_for c.args.names.now) (sym c.name-name.ensures) ∙ c.in-Some.ensures.value) c.loop-entry.invariant.numbers);
      within =
          rw c.in_ok-push-in-Some.ensures.items
          (each_joined (λ n. n < length c.args.names.now) c.loop-entry.numbers.items (c.in-Some.number ∷ []) c.loop-entry.invariant.within
          (c.in-Some.ensures.within, tt));
      first =
          c.loop-entry.invariant.first
          ∙ find_item_past g.E.Named.subject (λ e. not (is_known c.args.names.now c.args.needed.now e)) c.args.entries.now
          c.loop-entry.entry-index c.entry-item.result within c.entry-item.is
          (not_false_of_some c.needed_number.result c.in-Some.number _ c.in-Some.is (c.needed_number.ensures.some
          ∙ known_as c.args.names.now c.args.needed.now (g.E.Named.subject c.entry-item.result) c.kind.result
          (text_token_view c.name-name.result) c.kind.ensures c.name-name.ensures));
    }

pub returns-in-None-clause-fault : goal.returns-in-None-clause-fault
returns-in-None-clause-fault g c =
    let within : c.loop-entry.entry-index < length c.args.entries.now = omega (arith, c.loop-entry-test.true) in
    unknown_entry c.args.names.now c.args.needed.now (map g.E.Named.subject c.args.entries.now) (g.E.Named.subject c.entry-item.result)
    (text_token_view c.name-name.result)
    (c.loop-entry.invariant.first
    ∙ find_item_here g.E.Named.subject (λ e. not (is_known c.args.names.now c.args.needed.now e)) c.args.entries.now
    c.loop-entry.entry-index c.entry-item.result within c.entry-item.is
    (ap not (sym (c.in-None.ensures.some
    ∙ known_as c.args.names.now c.args.needed.now (g.E.Named.subject c.entry-item.result) c.kind.result
    (text_token_view c.name-name.result) c.kind.ensures c.name-name.ensures))))
    c.name-name.ensures

pub returns-clause-numbers : goal.returns-clause-numbers
returns-clause-numbers g c =
    sym (ap (λ xs. numbers_of c.args.names.now (map g.E.Named.subject xs))
    (take_all c.loop-entry.entry-index c.args.entries.now (omega (arith, c.loop-entry-test.false))))
    ∙ c.loop-entry.invariant.numbers

pub returns-clause-within : goal.returns-clause-within
returns-clause-within g c = All-from_recursion (λ n. n < length c.args.names.now) c.loop-entry.numbers.items c.loop-entry.invariant.within

pub returns-clause-known : goal.returns-clause-known
returns-clause-known g c =
    c.loop-entry.invariant.first
    ∙ find_image_end g.E.Named.subject (λ e. not (is_known c.args.names.now c.args.needed.now e)) c.args.entries.now
    c.loop-entry.entry-index (omega (arith, c.loop-entry-test.false))
