use Rattle.std.proofs.Common.{None, map, refl}
use Rattle.line_formats.specs.Machine.{with_last_feed}
use Rattle.lasso_text.specs.LoopView.{letter_view}
use Rattle.lasso_text.proofs.LoopLaws.{loop_read}
use Rattle.lasso_text.proofs.reader.read_letters.Goals as goal

pub returns-clause-is_loop : goal.returns-clause-is_loop
returns-clause-is_loop c =
    (loop_read c.args.bits (with_last_feed c.args.text.now) _ c.read_text.new.reader
    (λ i. record { bits = c.args.bits; letters = map letter_view (c.new.ensures.items i); back = None })
    (c.in_ok-read_text.ensures.ok refl) c.from_vec.result c.from_vec.ensures).0

pub returns-clause-ok : goal.returns-clause-ok
returns-clause-ok c =
    (loop_read c.args.bits (with_last_feed c.args.text.now) _ c.read_text.new.reader
    (λ i. record { bits = c.args.bits; letters = map letter_view (c.new.ensures.items i); back = None })
    (c.in_ok-read_text.ensures.ok refl) c.from_vec.result c.from_vec.ensures).1
