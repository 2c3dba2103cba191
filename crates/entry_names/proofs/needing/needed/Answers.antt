use Rattle.std.proofs.Common.{rules, ◌≡◌, ◌<◌, List, ℕ, length, sym, subst}
use Rattle.std.specs.Prelude.{All}
use Rattle.base_library.proofs.Numbers.{numbers_passed_more}
use Rattle.entry_names.specs.Needed.{is_symbol_number, needed}
use Rattle.entry_names.proofs.NeededNames.{needed_within}
use Rattle.entry_names.proofs.needing.needed.Goals as goal

pub loop-id-preserved : goal.loop-id-preserved
loop-id-preserved c =
    numbers_passed_more (is_symbol_number c.args.names.now) c.loop-id.id c.loop-id.all.items c.push_if.new.all.items
    c.is_symbol_number.result c.loop-id.invariant c.in_ok-push_if.ensures c.is_symbol_number.ensures

pub returns-clause-within : goal.returns-clause-within
returns-clause-within c =
    let all : c.extend_from_slice.new.self.items ≡ needed c.args.names.now c.args.cells.now = search rules in
    subst (λ (ids : List ℕ). All (λ id. id < length c.args.names.now) ids) (sym all)
    (needed_within c.args.names.now c.args.cells.now c.requires)
