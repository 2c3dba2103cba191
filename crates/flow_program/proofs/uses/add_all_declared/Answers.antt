use Rattle.std.proofs.Common.{◌≡◌, length, rules, append_assoc}
use Rattle.flow_program.proofs.UseLemmas.{declared_append}
use Rattle.flow_program.proofs.uses.add_all_declared.Goals as goal

pub returns : goal.returns
returns c =
    let inputs : c.len.result ≡ length c.args.listing.now.inputs.items = search rules in
    let cells : c.len-2.result ≡ length c.args.listing.now.cells.items = search rules in
    simp (
      c.in_ok-add_declared-3.ensures,
      c.in_ok-add_declared-2.ensures,
      c.in_ok-add_declared.ensures,
      c.deref.ensures.value,
      c.deref-2.ensures.value,
      c.deref-3.ensures.value,
      declared_append,
      append_assoc,
      inputs,
      cells,
    )
