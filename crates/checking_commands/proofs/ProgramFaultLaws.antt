-- The name of a refusal of a program stands in its text.
use Rattle.std.proofs.Common.{◌≡◌, ℕ, ◌≤◌, Bool, true, false, ◌&&◌, List, [], ◌∷◌, length, refl, subst, cond}
use Rattle.std.specs.Prelude.{Option, Some, None, nat_le, nat_lt}
use Rattle.std.specs.List.{find, AllByRecursion}
use Rattle.std.proofs.lemmas.Bool.{and_parts, leb-true}
use Rattle.base_library.proofs.Each.{each_weaker}
use Rattle.base_library.proofs.Finds.{found_has}
use Rattle.tsl_terms.specs.Name.{Name as NameEntry}
use Rattle.tsl_terms.specs.Clashes.{alike_in_kind, same_arity}
use Rattle.tsl_text.specs.Names.{is_usable}
use Rattle.program_listing.specs.declared.listing.Name.{Name}
use Rattle.flow_program.specs.declared.reading.ProgramError.{ProgramError}
use Rattle.flow_program.specs.declared.reading.ProgramError.TheVariants.{Form, Order, Target, Updates, Window, Unknown, Kind, Arity}
use Rattle.flow_program.specs.declared.reading.ProgramError.TheVariants.{Windows, Nodes, States, NoMemory}
use Rattle.program_tree.specs.Writable.{most_windows, most_nodes, most_states}
use Rattle.program_listing.specs.ListingTree.{ListingTree}
use Rattle.program_listing.specs.Listing.{name_bytes, IsListing}
use Rattle.flow_program.specs.Uses.{ProgramUse}
use Rattle.flow_program.specs.Uses.{first_window, first_node, first_state, uses_of}
use Rattle.flow_program.specs.Uses.{names_after}
use Rattle.flow_program.specs.Rules.{first_there, at_line, at_use, over, line_fault, use_fault, limit_fault, fault_of, first_line}
use Rattle.flow_program.specs.Rules.{breaks_order, goes_nowhere, is_nowhere}
use Rattle.flow_program.specs.Rules.{breaks_updates, breaks_window, is_unknown, is_unlike, readable_of, controlled_of, cell_texts}
use Rattle.flow_program.specs.Reading.{HasProgramCause}
use Rattle.flow_program.proofs.UsesStand.{UseStands, uses_stand}
use Rattle.checking_commands.specs.internal.RunFaultPlaces.{ProgramStandsIn}

module _ (text : List ℕ) where
  -- the name lies in the text
  abbrev LiesIn : Name → Type 0
  LiesIn name = (name.start ≤ name.end) × (name.end ≤ length text)

  abbrev UseLies : ProgramUse → Type 0
  UseLies u = LiesIn u.place

  use_lies_in : (u : ProgramUse) → UseStands text u → UseLies u
  use_lies_in u stands =
      let name = u.place in
      let parts = and_parts (nat_le name.start name.end) (nat_le name.end (length text))
      (and_parts (nat_le name.start name.end && nat_le name.end (length text)) (is_usable (name_bytes text name)) stands.0).0 in
      (leb-true name.start name.end parts.0, leb-true name.end (length text) parts.1)

  -- ---- the faults of the rules

  abbrev FaultLies : Option ProgramError → Type 0
  FaultLies found = (fault : ProgramError) → found ≡ Some fault → ProgramStandsIn text fault

  line_lies : (fault : ℕ → ProgramError) → ((line : ℕ) → ProgramStandsIn text (fault line)) → (found : Option ℕ) →
      FaultLies (at_line fault found)
  line_lies fault free None e is = cc
  line_lies fault free (Some line) e is = let same : fault line ≡ e = cc in subst (ProgramStandsIn text) same (free line)

  over_lies : (fault : ProgramError) → ProgramStandsIn text fault → (most count : ℕ) → FaultLies (over fault most count)
  over_lies fault free most count e is = by (nat_lt most count) is
    where
      by : (b : Bool) → cond b (Some fault) None ≡ Some e → ProgramStandsIn text e
      by true is = let same : fault ≡ e = cc in subst (ProgramStandsIn text) same free
      by false is = cc

  use_lies : (fault : ℕ → Name → ProgramError) → ((line : ℕ) (name : Name) → LiesIn name → ProgramStandsIn text (fault line name)) →
      (test : ProgramUse → Bool) (uses : List ProgramUse) → AllByRecursion UseLies uses → FaultLies (at_use fault (find test uses))
  use_lies fault stands test uses each e is = by (find test uses) refl is
    where
      by : (found : Option ProgramUse) → find test uses ≡ found → at_use fault found ≡ Some e → ProgramStandsIn text e
      by None at is = cc
      by (Some u) at is =
          let same : fault u.line u.place ≡ e = cc in
          subst (ProgramStandsIn text) same (stands u.line u.place (found_has test UseLies uses u each at))

  first_lies : (faults : List (Option ProgramError)) → AllByRecursion FaultLies faults → FaultLies (first_there faults)
  first_lies [] each e is = cc
  first_lies (None ∷ fs) each e is = first_lies fs each.1 e is
  first_lies (Some f ∷ fs) each e is = each.0 e is

  line_fault_lies : (l : ListingTree) → FaultLies (line_fault text l)
  line_fault_lies l =
      first_lies (
      at_line Order (first_line breaks_order (first_node l) l.nodes)
      ∷ at_line Target (first_line (goes_nowhere (length l.states)) (first_node l) l.nodes)
      ∷ at_line Target (first_line (is_nowhere (length l.nodes)) (first_state l) l.states)
      ∷ at_line Updates (first_line (breaks_updates text (controlled_of text l)) (first_node l) l.nodes)
      ∷ at_line Window (first_line (breaks_window text (cell_texts text l)) (first_window l) l.windows)
      ∷ []) (
        line_lies Order (λ line. tt) (first_line breaks_order (first_node l) l.nodes),
        (
          line_lies Target (λ line. tt) (first_line (goes_nowhere (length l.states)) (first_node l) l.nodes),
          (
            line_lies Target (λ line. tt) (first_line (is_nowhere (length l.nodes)) (first_state l) l.states),
            (
              line_lies Updates (λ line. tt) (first_line (breaks_updates text (controlled_of text l)) (first_node l) l.nodes),
              (line_lies Window (λ line. tt) (first_line (breaks_window text (cell_texts text l)) (first_window l) l.windows), tt),
            ),
          ),
        ),
      )

  use_fault_lies : (readable : List (List ℕ)) (names : List NameEntry) (uses : List ProgramUse) → AllByRecursion UseLies uses →
      FaultLies (use_fault readable names uses)
  use_fault_lies readable names uses each =
      first_lies (
      at_use Unknown (find (is_unknown readable) uses)
      ∷ at_use Kind (find (is_unlike alike_in_kind names) uses)
      ∷ at_use Arity (find (is_unlike same_arity names) uses)
      ∷ []) (
        use_lies Unknown (λ line name lies. lies) (is_unknown readable) uses each,
        (
          use_lies Kind (λ line name lies. lies) (is_unlike alike_in_kind names) uses each,
          (use_lies Arity (λ line name lies. lies) (is_unlike same_arity names) uses each, tt),
        ),
      )

  limit_fault_lies : (l : ListingTree) → FaultLies (limit_fault l)
  limit_fault_lies l =
      first_lies (
      over Windows most_windows (length l.windows) ∷ over Nodes most_nodes (length l.nodes) ∷ over States most_states (length l.states)
      ∷ []) (
        over_lies Windows tt most_windows (length l.windows),
        (over_lies Nodes tt most_nodes (length l.nodes), (over_lies States tt most_states (length l.states), tt)),
      )

  fault_lies : (given : List NameEntry) (l : ListingTree) → IsListing text l → FaultLies (fault_of text given l)
  fault_lies given l h =
      let uses = each_weaker (UseStands text) UseLies use_lies_in (uses_of text l) (uses_stand text l h) in
      let names = names_after given (uses_of text l) in
      first_lies
      (line_fault text l ∷ use_fault (readable_of text l) (names_after given (uses_of text l)) (uses_of text l) ∷ limit_fault l ∷ [])
      (line_fault_lies l, (use_fault_lies (readable_of text l) names (uses_of text l) uses, (limit_fault_lies l, tt)))

pub program_cause_stands : (text : List ℕ) (given : List NameEntry) (error : ProgramError) → HasProgramCause text given error →
    ProgramStandsIn text error
program_cause_stands text given (Unknown line name) h = fault_lies text given h.listing h.is_listing (Unknown line name) h.fault_is
program_cause_stands text given (Kind line name) h = fault_lies text given h.listing h.is_listing (Kind line name) h.fault_is
program_cause_stands text given (Arity line name) h = fault_lies text given h.listing h.is_listing (Arity line name) h.fault_is
program_cause_stands text given (Form line) h = tt
program_cause_stands text given (Order line) h = tt
program_cause_stands text given (Target line) h = tt
program_cause_stands text given (Updates line) h = tt
program_cause_stands text given (Window line) h = tt
program_cause_stands text given Windows h = tt
program_cause_stands text given Nodes h = tt
program_cause_stands text given States h = tt
program_cause_stands text given NoMemory h = tt
