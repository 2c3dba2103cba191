use Rattle.base_library.proofs.Results.{on_ok_two}
use Rattle.automaton_text.proofs.Writing.{seven}
use Rattle.automaton_text.proofs.writer.put_header.Goals as goal

pub returns : goal.returns
returns c =
    on_ok_two c.put_line-5.result
    (λ last _. seven c.args.out.now.items _ _ _ _ _ _ _ _ _ _ _ _ _ _ c.in_ok-put_line.ensures c.in_ok-put_count.ensures
    c.in_ok-put_line-2.ensures c.in_ok-put_bits.ensures c.in_ok-put_line-3.ensures c.in_ok-put_line-4.ensures last)
    c.put_line-5.ensures c.put_line-5.ensures
