use Rattle.base_library.proofs.Passes.{passes_within}
use Rattle.program_listing.specs.internal.NamesStand.{name_stands}
use Rattle.flow_program.proofs.RuleLemmas.{declared_absent}
use Rattle.flow_program.proofs.rules.declared_names.Goals as goal

pub name_bytes-requires : goal.name_bytes-requires
name_bytes-requires c =
    passes_within (name_stands c.args.text.now) c.args.declared.now c.loop-name.name-index _ c.requires.stand c.loop-name-test.true

pub add-requires-clause-absent : goal.add-requires-clause-absent
add-requires-clause-absent c =
    declared_absent c.args.text.now c.args.declared.now c.loop-name.name-index _ c.name_bytes.result.now c.loop-name.names c.requires.once
    c.loop-name-test.true c.name_bytes.ensures c.loop-name.invariant
