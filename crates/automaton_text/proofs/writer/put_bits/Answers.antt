use Rattle.std.proofs.Common.{◌∙◌, ◌++◌, ap, map}
use Rattle.std.specs.Prelude.{flat_map}
use Rattle.base_library.proofs.Results.{on_ok_two}
use Rattle.tsl_terms.specs.TermTree.{probe_tree}
use Rattle.term_text.specs.TermText.{probe_text}
use Rattle.letter_space.specs.ControlledView.{controlled_tree}
use Rattle.letter_space.specs.SpaceView.{space_tree}
use Rattle.automaton_text.specs.BitNames.{choice_names}
use Rattle.automaton_text.specs.HoaText.{quoted_text}
use Rattle.automaton_text.proofs.Writing.{bits_written}
use Rattle.automaton_text.proofs.writer.put_bits.Goals as goal

pub returns : goal.returns
returns c =
    on_ok_two c.put_bytes-2.result
    (λ last _. bits_written c.args.names.now (space_tree c.args.space.now) c.from.result c.args.out.now.items c.put_bytes.new.out.items
    c.put_number.new.out.items c.put_tests.new.out.items c.put_signals.new.out.items c.put_bytes-2.new.out.items (c.from.ensures ∙ c.bit_count.ensures.count)
    c.in_ok-put_bytes.ensures.ok c.in_ok-put_number.ensures.ok
    (c.in_ok-put_tests.ensures
    ∙ ap (λ ts. c.put_number.new.out.items ++ flat_map quoted_text (map (probe_text c.args.names.now) (map probe_tree ts))) c.as_slice.ensures)
    (c.in_ok-put_signals.ensures
    ∙ ap (λ ss. c.put_tests.new.out.items ++ flat_map quoted_text (flat_map (choice_names c.args.names.now) (map controlled_tree ss)))
    c.as_slice-2.ensures)
    last)
    c.put_bytes-2.ensures.ok c.put_bytes-2.ensures.ok
