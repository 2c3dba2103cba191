-- What a controller's type keeps holds of its pure table.
use Rattle.std.proofs.Common.{◌∙◌, slice_get, sym, ap}
use Rattle.std.proofs.lemmas.List.{length-map}
use Rattle.base_library.proofs.Lists.{map_map}
use Rattle.machines.specs.declared.controller.Controller.{Controller}
use Rattle.machines.specs.MachineTree.{EntryTree, IsController}
use Rattle.machines.specs.MachineView.{entry_tree, controller_tree}

pub is_controller : (c : Controller) → IsController (controller_tree c)
is_controller c = record {
  has_state = c.has_state;
  has_entries = length-map c.entries entry_tree ∙ c.has_entries;
  stays = λ i n at. c.stays i n (ap (λ ns. slice_get ns i) (sym (map_map (λ (e : EntryTree). e.next) entry_tree c.entries)) ∙ at);
}
