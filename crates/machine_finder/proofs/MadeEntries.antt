-- Entries that are made one after the other, and the machine that they make.
use Rattle.std.proofs.Common.{◌≡◌, ◌∙◌, ℕ, ◌*◌, ◌<◌, List, [], ◌∷◌, ◌++◌, map, Some, slice_get, sym, ap, subst, arith, inl, inr}
use Rattle.base_library.proofs.Each.{each_from_places}
use Rattle.base_library.proofs.Places.{slice_get_push, slice_get_mapped}
use Rattle.letter_space.specs.SpaceTree.{SpaceTree}
use Rattle.letter_space.specs.Letters.{valuation_count, ArePicks}
use Rattle.machines.specs.declared.controller.Entry.{Entry}
use Rattle.machines.specs.MachineTree.{EntryTree, NameStates}
use Rattle.machines.specs.MachineView.{entry_tree}
use Rattle.machines.specs.Moves.{FitsSpace}
use Rattle.machine_finder.specs.internal.Entries.{AreEntries}

module _ (space : SpaceTree) (states : ℕ) where
  pub no_entries : AreEntries space states []
  no_entries = record { choices = λ i e at. absurd cc; stay = λ i e at. absurd cc }

  pub one_more : (entries : List Entry) (e : Entry) → AreEntries space states entries → ArePicks space.controlled e.choices →
      e.next < states → AreEntries space states (entries ++ e ∷ [])
  one_more entries e are picks stays = record {
    choices = λ i d at. elim (slice_get_push entries e i d at) [
      | inl before ↦ are.choices i d before.1
      | inr last ↦ subst (λ (x : Entry). ArePicks space.controlled x.choices) last.1 picks
    ];
    stay = λ i d at. elim (slice_get_push entries e i d at) [
      | inl before ↦ are.stay i d before.1
      | inr last ↦ subst (λ (x : Entry). x.next < states) last.1 stays
    ];
  }

  pub next_states : (entries : List Entry) → AreEntries space states entries →
      NameStates states (map (λ (e : Entry). e.next) entries)
  next_states entries are i n at =
      let entry = slice_get_mapped (λ (e : Entry). e.next) entries i n at in
      let below = are.stay i entry.0 entry.1 in
      omega (arith, below, entry.2)

  pub fits : (valuations : ℕ) (entries : List Entry) → valuations ≡ valuation_count space → AreEntries space states entries →
      FitsSpace space (record { states = states; valuations = valuations; entries = map entry_tree entries })
  fits valuations entries of_space are = record {
    valuations = of_space;
    choices = each_from_places (λ e. ArePicks space.controlled e.choices) (map entry_tree entries) (λ i e at.
        let entry = slice_get_mapped entry_tree entries i e at in
        subst (λ (x : EntryTree). ArePicks space.controlled x.choices) entry.2 (are.choices i entry.0 entry.1));
  }
