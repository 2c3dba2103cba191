-- The entries of states and valuations, state by state.
use Rattle.std.proofs.Common.{◌≡◌, ◌∙◌, ℕ, ◌+◌, ◌*◌, ◌/◌, ◌%◌, ◌<◌, ◌≤◌, cond, List, [], ◌∷◌, ◌++◌, map, length, Some, None, slice_get}
use Rattle.std.proofs.Common.{sym, ap, subst, arith, inl, inr, mul_comm}
use Rattle.std.specs.Prelude.{option_map}
use Rattle.std.proofs.lemmas.Bool.{lt-ltb}
use Rattle.std.proofs.lemmas.List.{length-map}
use Rattle.std.proofs.lemmas.Nat.{mul-add-lt, div-mul-add, mod-mul-add}
use Rattle.std.proofs.lemmas.Option.{slice_get-map}
use Rattle.base_library.proofs.Each.{each_from_places}
use Rattle.base_library.proofs.Places.{slice_get_some, slice_get_push, slice_get_mapped}
use Rattle.program_tree.specs.ProgramTree.{ProgramTree}
use Rattle.letter_space.specs.SpaceTree.{SpaceTree}
use Rattle.letter_space.specs.Letters.{valuation_count, ArePicks}
use Rattle.machines.specs.declared.controller.Entry.{Entry}
use Rattle.machines.specs.MachineTree.{EntryTree, NameStates}
use Rattle.machines.specs.MachineView.{entry_tree}
use Rattle.control_flow_model.specs.ControllerOf.{IsEntryOf, IsControllerOf}
use Rattle.control_flow_model.proofs.PickedTerms.{picks_there}

module _ (space : SpaceTree) (program : ProgramTree) (valuations : ℕ) where
  -- each stands at the place of its state and valuation, and goes to a state
  pub record AreEntries (entries : List Entry) : Type 0 where
    pub each : (k : ℕ) (e : Entry) → slice_get entries k ≡ Some e →
        IsEntryOf space program (k / valuations) (k % valuations) (entry_tree e)
    pub stay : (k : ℕ) (e : Entry) → slice_get entries k ≡ Some e → e.next < length program.states

  pub no_entries : AreEntries []
  no_entries = record { each = λ k e at. absurd cc; stay = λ k e at. absurd cc }

  pub one_more : (entries : List Entry) (n : ℕ) (e : Entry) → length entries ≡ n → AreEntries entries →
      IsEntryOf space program (n / valuations) (n % valuations) (entry_tree e) → e.next < length program.states →
      AreEntries (entries ++ e ∷ [])
  one_more entries n e count are is stays = record {
    each = λ k d at. elim (slice_get_push entries e k d at) [
      | inl before ↦ are.each k d before.1
      | inr last ↦
          let here : k ≡ n = last.0 ∙ count in
          subst (λ (x : Entry). IsEntryOf space program (k / valuations) (k % valuations) (entry_tree x)) last.1
          (subst (λ m. IsEntryOf space program (m / valuations) (m % valuations) (entry_tree e)) (sym here) is)
    ];
    stay = λ k d at. elim (slice_get_push entries e k d at) [
      | inl before ↦ are.stay k d before.1
      | inr last ↦ subst (λ (x : Entry). x.next < length program.states) last.1 stays
    ];
  }

  pub next_states : (entries : List Entry) (states : ℕ) → states ≡ length program.states → AreEntries entries →
      NameStates states (map (λ (e : Entry). e.next) entries)
  next_states entries states count are i n at =
      let entry = slice_get_mapped (λ (e : Entry). e.next) entries i n at in
      let below = are.stay i entry.0 entry.1 in
      omega (arith, below, entry.2, count)

pub is_controller_of : (space : SpaceTree) (program : ProgramTree) (states valuations : ℕ) (entries : List Entry) → 1 ≤ states →
    valuations ≡ valuation_count space → states ≡ length program.states → length entries ≡ states * valuations →
    AreEntries space program valuations entries →
    IsControllerOf space program (record { states = states; valuations = valuations; entries = map entry_tree entries })
is_controller_of space program states valuations entries some of_space of_program count are = record {
  table = record {
    has_state = some;
    has_entries = length-map entries entry_tree ∙ count;
    stays = λ i n at.
        let entry = slice_get_mapped (λ (e : EntryTree). e.next) (map entry_tree entries) i n at in
        let made = slice_get_mapped entry_tree entries i entry.0 entry.1 in
        let below = are.stay i made.0 made.1 in
        omega (arith, below, ap (λ (e : EntryTree). e.next) made.2, entry.2, of_program);
  };
  fits = record {
    valuations = of_space;
    choices = each_from_places (λ e. ArePicks space.controlled e.choices) (map entry_tree entries) (λ i e at.
        let entry = slice_get_mapped entry_tree entries i e at in
        let is = are.each i entry.0 entry.1 in
        subst (λ (x : EntryTree). ArePicks space.controlled x.choices) entry.2
        (picks_there space.controlled (entry_tree entry.0).choices is.action.updates is.assigns));
  };
  states = of_program;
  entries = λ s v state valuation.
      let place : s * valuations + v < states * valuations =
      subst (λ n. s * valuations + v < n) (mul_comm valuations states) (mul-add-lt s valuations v states state valuation) in
      let entry = slice_get_some entries (s * valuations + v) (subst (λ n. s * valuations + v < n) (sym count) place) in
      let is = are.each (s * valuations + v) entry.0 entry.1 in (
        entry_tree entry.0,
        ap (λ b. cond b (slice_get (map entry_tree entries) (s * valuations + v)) None) (lt-ltb v valuations valuation)
            ∙ slice_get-map entry_tree entries (s * valuations + v) ∙ ap (option_map entry_tree) entry.1,
        subst (λ k. IsEntryOf space program k v (entry_tree entry.0)) (div-mul-add s valuations v valuation)
            (subst (λ k. IsEntryOf space program ((s * valuations + v) / valuations) k (entry_tree entry.0))
            (mod-mul-add s valuations v valuation) is),
      );
}
