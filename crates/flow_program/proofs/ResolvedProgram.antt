-- A text whose lines break no rule spells a program.
use Rattle.std.proofs.Common.{◌≡◌, ℕ, zero, suc, ◌+◌, ◌^◌, ◌<◌, ◌≤◌, Bool, true, false, not, ◌&&◌, List, [], ◌∷◌, ◌++◌, refl, ap, sym}
use Rattle.std.proofs.Common.{subst, ◌∙◌, arith, length, map, length-append}
use Rattle.std.specs.Prelude.{Option, Some, None, slice_get, find, codes, IsTrue, flat_map}
use Rattle.std.specs.List.{list_all, AllByRecursion}
use Rattle.std.specs.Option.{is_some}
use Rattle.std.proofs.lemmas.Bool.{ltb-true, not-false, and_from}
use Rattle.std.proofs.lemmas.List.{append-nil, map-append, length-map}
use Rattle.std.proofs.lemmas.List.Folds.{flat_map-map}
use Rattle.std.proofs.lemmas.Option.{slice_get_within}
use Rattle.base_library.proofs.Each.{each_at, each_from_places, each_left, each_right, each_weaker}
use Rattle.base_library.proofs.Numbers.{among_at}
use Rattle.base_library.specs.Numbers.{is_among, IsDistinct}
use Rattle.base_library.proofs.Options.{none_mapped, some_is}
use Rattle.std.proofs.lemmas.Bool.Decides.{nat_tests}
use Rattle.std.proofs.lemmas.Grind.{common_steps}
use Rattle.base_library.proofs.Finds.{find_none_at}
use Rattle.base_library.proofs.Passes.{list_all_joined, passes_at}
use Rattle.tsl_text.specs.Names.{is_usable}
use Rattle.tsl_terms.specs.Name.{AreDistinct, is_name, Name as NameEntry}
use Rattle.tsl_terms.specs.Clashes.{alike_in_kind, same_arity}
use Rattle.tsl_terms.proofs.FirstUses.{first_uses_distinct}
use Rattle.tsl_terms.specs.WellFormed.{name_fits, is_usable_at}
use Rattle.term_text.specs.TermText.{name_text}
use Rattle.term_text.specs.WindowText.{window_text}
use Rattle.program_listing.specs.declared.listing.Name.{Name}
use Rattle.flow_program.specs.declared.reading.ProgramError.{ProgramError}
use Rattle.program_tree.specs.NodeTree.{branch, assign}
use Rattle.program_tree.specs.ProgramTree.{ProgramTree}
use Rattle.program_tree.specs.Fits.{window_fits, IsProgram}
use Rattle.program_tree.specs.Writable.{signal_fits, window_is_writable, node_is_writable, HasEqualities, most_windows, most_nodes, most_states}
use Rattle.program_tree.specs.Writable.{IsWritable}
use Rattle.flow_program.specs.ProgramText.{ProgramText, declarations, nodes_text, states_text}
use Rattle.program_listing.specs.Listing.{name_bytes, declared, WindowLine, NodeLine, ListingTree, IsListing}
use Rattle.program_listing.specs.LineText.{input, cell, output, window, ended_pieces, listing_lines}
use Rattle.program_listing.specs.internal.NamesStand.{ListingStands, window_line_stands, node_line_stands}
use Rattle.program_listing.proofs.ListingFacts.{pieces_text, pieces_in, listing_stands}
use Rattle.flow_program.specs.Uses.{ProgramUse, signal_use, window_uses, node_uses, declared_uses, windows_uses, nodes_uses}
use Rattle.flow_program.specs.Uses.{first_declaration, first_window, first_node, first_state, uses_of, entries_of_use, names_after}
use Rattle.flow_program.specs.Rules.{first_place, first_line, breaks_order, goes_nowhere, is_nowhere, breaks_updates, breaks_window}
use Rattle.flow_program.specs.Rules.{place_in, cell_texts, readable_of, controlled_of, is_unknown, is_unlike, at_line, over, first_there}
use Rattle.flow_program.specs.Rules.{line_fault, limit_fault, fault_of}
use Rattle.flow_program.specs.internal.Numbering.{numbered_window, numbered_node, Numbered}
use Rattle.tsl_terms.proofs.KnownNames.{Known}
use Rattle.flow_program.proofs.KnownUses.{known_name, known_question}
use Rattle.flow_program.proofs.SpelledLines.{listing_spelled, states_spelled}
use Rattle.flow_program.proofs.UsesStand.{uses_usable}
use Rattle.flow_program.proofs.WithUses.{are_first}
use Rattle.flow_program.proofs.CellPlaces.{place_of_number, second_once}
use Rattle.base_library.proofs.MadeLists.{all_made, each_made, all_pass}
use Rattle.flow_program.proofs.EachLine.{lines_apart, all_spelled}
use Rattle.flow_program.proofs.ResolvedTerms.{number_in, HasNumber, has_number, IsUsed, is_used, number_at}
use Rattle.flow_program.proofs.ResolvedLines.{numbers_at, IsDeclared, numbers_spelled, all_numbered, numbers_fit, declared_text}
use Rattle.flow_program.proofs.ResolvedLines.{distinct_numbers, window_with, GoodWindow, good_window}
use Rattle.flow_program.proofs.ResolvedNodes.{node_with, GoodNode, good_node, IsGood, nodes_spelled, nodes_fit, states_numbered}

-- ---- what no fault says

none_there : (fs : List (Option ProgramError)) → first_there fs ≡ None → AllByRecursion (λ f. f ≡ None) fs
none_there [] h = tt
none_there (None ∷ fs) h = (refl, none_there fs h)
none_there (Some e ∷ fs) h = absurd (cc)

pub none_placed : {X : Type 0} (test : ℕ → X → Bool) (k : ℕ) (xs : List X) → first_place test k xs ≡ None →
    (i : ℕ) (x : X) → slice_get xs i ≡ Some x → test (k + i) x ≡ false
none_placed test k [] h i x at = absurd (cc)
none_placed test k (y ∷ ys) h zero x at = grind (arith, common_steps)
none_placed test k (y ∷ ys) h (suc i) x at =
    let next : k + suc i ≡ suc k + i = omega arith in
    grind (arith, common_steps, none_placed test (suc k) ys)

pub no_line : {X : Type 0} (fault : ℕ → ProgramError) (test : ℕ → X → Bool) (line : ℕ) (xs : List X) →
    at_line fault (first_line test line xs) ≡ None → (i : ℕ) (x : X) → slice_get xs i ≡ Some x → test i x ≡ false
no_line fault test line xs h i x at =
    let here : i ≡ 0 + i = omega arith in
    ap (λ j. test j x) here
    ∙ none_placed test 0 xs (none_mapped (λ place. line + place) (first_place test 0 xs) (none_mapped fault (first_line test line xs) h)) i x at

pub within_limit : (fault : ProgramError) (most count : ℕ) → over fault most count ≡ None → count ≤ most
within_limit fault most count h = grind (arith, nat_tests)

-- the lines keep each rule
pub record KeepsRules (text : List ℕ) (given : List NameEntry) (l : ListingTree) : Type 0 where
  pub order : (i : ℕ) (n : NodeLine) → slice_get l.nodes i ≡ Some n → breaks_order i n ≡ false
  pub go : (i : ℕ) (n : NodeLine) → slice_get l.nodes i ≡ Some n → goes_nowhere (length l.states) i n ≡ false
  pub starts : (i n : ℕ) → slice_get l.states i ≡ Some n → is_nowhere (length l.nodes) i n ≡ false
  pub updates : (i : ℕ) (n : NodeLine) → slice_get l.nodes i ≡ Some n → breaks_updates text (controlled_of text l) i n ≡ false
  pub windows : (i : ℕ) (w : WindowLine) → slice_get l.windows i ≡ Some w → breaks_window text (cell_texts text l) i w ≡ false
  pub known : find (is_unknown (readable_of text l)) (uses_of text l) ≡ None
  pub one_kind : find (is_unlike alike_in_kind (names_after given (uses_of text l))) (uses_of text l) ≡ None
  pub one_arity : find (is_unlike same_arity (names_after given (uses_of text l))) (uses_of text l) ≡ None
  pub few_windows : length l.windows ≤ most_windows
  pub few_nodes : length l.nodes ≤ most_nodes
  pub few_states : length l.states ≤ most_states

pub keeps_rules : (text : List ℕ) (given : List NameEntry) (l : ListingTree) → fault_of text given l ≡ None → KeepsRules text given l
keeps_rules text given l none =
    let all = none_there (line_fault text l ∷ _ ∷ limit_fault l ∷ []) none in
    let lines = none_there (_ ∷ _ ∷ _ ∷ _ ∷ _ ∷ []) all.0 in
    let uses = none_there (_ ∷ _ ∷ _ ∷ []) all.1.0 in
    let limits = none_there (_ ∷ _ ∷ _ ∷ []) all.1.1.0 in
    record {
      order = no_line ProgramError.Order breaks_order (first_node l) l.nodes lines.0;
      go = no_line ProgramError.Target (goes_nowhere (length l.states)) (first_node l) l.nodes lines.1.0;
      starts = no_line ProgramError.Target (is_nowhere (length l.nodes)) (first_state l) l.states lines.1.1.0;
      updates = no_line ProgramError.Updates (breaks_updates text (controlled_of text l)) (first_node l) l.nodes lines.1.1.1.0;
      windows = no_line ProgramError.Window (breaks_window text (cell_texts text l)) (first_window l) l.windows lines.1.1.1.1.0;
      known = none_mapped _ (find (is_unknown (readable_of text l)) (uses_of text l)) uses.0;
      one_kind = none_mapped _ (find (is_unlike alike_in_kind (names_after given (uses_of text l))) (uses_of text l)) uses.1.0;
      one_arity = none_mapped _ (find (is_unlike same_arity (names_after given (uses_of text l))) (uses_of text l)) uses.1.1.0;
      few_windows = within_limit ProgramError.Windows most_windows (length l.windows) limits.0;
      few_nodes = within_limit ProgramError.Nodes most_nodes (length l.nodes) limits.1.0;
      few_states = within_limit ProgramError.States most_states (length l.states) limits.1.1.0;
    }

-- ---- the program

pub map_both : {X Y Z : Type 0} (f : X → Z) (g : Y → Z) (xs xs' : List X) (ys ys' : List Y) → map f xs ≡ map g ys → map f xs' ≡ map g ys' →
    map f (xs ++ xs') ≡ map g (ys ++ ys')
map_both f g xs xs' ys ys' h k = map-append f xs xs' ∙ (λ i. h i ++ k i) ∙ sym (map-append g ys ys')

-- the lines have their numbers, and the program with them is spelled by the text
pub record ResolvedProgram (text : List ℕ) (names : List NameEntry) (l : ListingTree) : Type 0 where
  pub program : ProgramTree
  pub numbers : Numbered names text l program
  pub spelled : ProgramText text names program

module _ (text : List ℕ) (given : List NameEntry) (distinct : AreDistinct given) (fit : IsTrue (list_all name_fits given)) (l : ListingTree)
    (h : IsListing text l) (keeps : KeepsRules text given l) where
  abbrev us : List ProgramUse
  us = uses_of text l

  abbrev names : List NameEntry
  names = names_after given us

  stands : ListingStands text l
  stands = listing_stands text l h

  names_distinct : AreDistinct names
  names_distinct =
      subst AreDistinct (sym (are_first given (flat_map entries_of_use us) distinct)) (first_uses_distinct (given
      ++ flat_map entries_of_use us))

  named_use : (at : ℕ) (u : ProgramUse) → slice_get us at ≡ Some u → Known names u.name
  named_use at u there =
      known_name given distinct us at u there (find_none_at (is_unlike alike_in_kind names) us at u keeps.one_kind there)
      (find_none_at (is_unlike same_arity names) us at u keeps.one_arity there)

  usable_use : (at : ℕ) (u : ProgramUse) → slice_get us at ≡ Some u → is_usable u.name.text ≡ true
  usable_use at u there = passes_at (λ v. is_usable v.name.text) us at u (uses_usable text l h) there

  -- what holds of all uses holds of those of declarations, of windows and of nodes
  uses_parts : (P : ProgramUse → Type 0) → AllByRecursion P us → AllByRecursion P (declared_uses text first_declaration (declared l))
      × AllByRecursion P (windows_uses text (first_window l) l.windows) × AllByRecursion P (nodes_uses text (first_node l) l.nodes)
  uses_parts P all =
      let first = declared_uses text first_declaration (declared l) in
      let second = windows_uses text (first_window l) l.windows in
      let front = each_left P (first ++ second) (nodes_uses text (first_node l) l.nodes) all in
      (each_left P first second front, each_right P first second front, each_right P (first ++ second) _ all)

  -- ---- the signals that are declared

  abbrev IsNamed : ProgramUse → Type 0
  IsNamed u = HasNumber names u.name × ((is_name names (number_in names u.name.text) u.name.kind u.name.arity
      && is_usable_at names (number_in names u.name.text)) ≡ true)

  declared_named : AllByRecursion (IsDeclared names text) (declared l)
  declared_named =
      each_weaker (λ at. (line : ℕ) × AllByRecursion IsNamed (signal_use text line at ∷ [])) (IsDeclared names text) (λ at is. is.1.0)
      (declared l) (lines_apart IsNamed (λ line at. signal_use text line at ∷ []) first_declaration (declared l)
      (uses_parts IsNamed (each_from_places IsNamed us (λ at u there.
      let n : HasNumber names u.name = has_number names u.name (named_use at u there) in
      (n, and_from _ _ n.named (n.usable ∙ usable_use at u there))))).0)

  readable_named : AllByRecursion (IsDeclared names text) (l.inputs ++ l.cells)
  readable_named = each_left (IsDeclared names text) (l.inputs ++ l.cells) l.outputs declared_named

  inputs_named : AllByRecursion (IsDeclared names text) l.inputs
  inputs_named = each_left (IsDeclared names text) l.inputs l.cells readable_named

  cells_named : AllByRecursion (IsDeclared names text) l.cells
  cells_named = each_right (IsDeclared names text) l.inputs l.cells readable_named

  outputs_named : AllByRecursion (IsDeclared names text) l.outputs
  outputs_named = each_right (IsDeclared names text) (l.inputs ++ l.cells) l.outputs declared_named

  abbrev numbers : List Name → List ℕ
  numbers = numbers_at names text

  abbrev readable : List ℕ
  readable = numbers l.inputs ++ numbers l.cells

  abbrev controlled : List ℕ
  controlled = numbers l.cells ++ numbers l.outputs

  signals_once : IsDistinct (readable ++ numbers l.outputs)
  signals_once =
      subst IsDistinct (map-append (number_at names text) (l.inputs ++ l.cells) l.outputs
      ∙ ap (λ ns. ns ++ numbers l.outputs) (map-append (number_at names text) l.inputs l.cells))
      (distinct_numbers names text (declared l) declared_named h.declared_once)

  -- ---- what is used

  read_use : (at : ℕ) (u : ProgramUse) → slice_get us at ≡ Some u → (k : Known names u.name) → IsTrue u.is_read →
      is_among readable k.number ≡ true
  read_use at u there k reads =
      let told : (u.is_read && not (is_some (place_in (readable_of text l) u.name.text))) ≡ false =
      find_none_at (is_unknown (readable_of text l)) us at u keeps.known there in
      let found = some_is (place_in (readable_of text l) u.name.text) (grind (arith, common_steps)) in
      among_at readable found.0 k.number (place_of_number names text (l.inputs ++ l.cells) readable
      (all_numbered names text (l.inputs ++ l.cells) readable_named
      ∙ ap Some (map-append (number_at names text) l.inputs l.cells)) u.name.text k.number found.0 k.numbered found.1)

  abbrev Used : ProgramUse → Type 0
  Used = IsUsed names readable text

  each_used : AllByRecursion Used us
  each_used = each_from_places Used us (λ at u there.
      is_used names readable text u (named_use at u there) (usable_use at u there)
      (known_question given distinct us fit (uses_usable text l h) at u there) (read_use at u there (named_use at u there)))

  -- ---- windows, nodes and states

  windows_used : AllByRecursion (λ w. (line : ℕ) × AllByRecursion Used (window_uses text line w)) l.windows
  windows_used = lines_apart Used (window_uses text) (first_window l) l.windows (uses_parts Used each_used).1

  nodes_used : AllByRecursion (λ n. (line : ℕ) × AllByRecursion Used (node_uses text line n)) l.nodes
  nodes_used = lines_apart Used (node_uses text) (first_node l) l.nodes (uses_parts Used each_used).2

  abbrev IsGoodWindow : WindowLine → Type 0
  IsGoodWindow = GoodWindow names readable text l.cells

  windows : AllByRecursion IsGoodWindow l.windows
  windows = each_from_places IsGoodWindow l.windows (λ i w at.
      let k = each_at (λ w. (line : ℕ) × AllByRecursion Used (window_uses text line w)) l.windows i w windows_used at in
      good_window names readable text names_distinct l.cells cells_named
      (second_once (numbers l.inputs) (numbers l.cells) (numbers l.outputs) signals_once) k.0 w k.1
      (passes_at (window_line_stands text) l.windows i w stands.windows_stand at) (keeps.windows i w at))

  controlled_are : map (name_text names) controlled ≡ controlled_of text l
  controlled_are =
      map_both (name_text names) (name_bytes text) (numbers l.cells) (numbers l.outputs) l.cells l.outputs
      (numbers_spelled names text l.cells cells_named) (numbers_spelled names text l.outputs outputs_named)

  node_at : (i : ℕ) (n : NodeLine) → slice_get l.nodes i ≡ Some n → GoodNode names readable text controlled (length l.states) i n
  node_at i n at =
      let k = each_at (λ n. (line : ℕ) × AllByRecursion Used (node_uses text line n)) l.nodes i n nodes_used at in
      good_node names readable text controlled (length l.states) (controlled_of text l) controlled_are (omega (arith, keeps.few_states)) k.0 i
      (omega (arith, keeps.few_nodes, slice_get_within l.nodes i n at)) n k.1
      (passes_at (node_line_stands text) l.nodes i n stands.nodes_stand at) (keeps.order i n at) (keeps.go i n at) (keeps.updates i n at)

  abbrev IsGoodNode : NodeLine → Type 0
  IsGoodNode = IsGood names readable text controlled (length l.states)

  nodes : AllByRecursion IsGoodNode l.nodes
  nodes = each_from_places IsGoodNode l.nodes (λ i n at. (i, node_at i n at))

  state_at : (s i : ℕ) → slice_get l.states s ≡ Some i → i < length l.nodes
  state_at s i at = ltb-true i (length l.nodes) (not-false _ (keeps.starts s i at))

  -- ---- the program

  abbrev program : ProgramTree
  program = record {
    inputs = numbers l.inputs;
    cells = numbers l.cells;
    outputs = numbers l.outputs;
    windows = map (window_with names text) l.windows;
    nodes = map (node_with names text) l.nodes;
    states = l.states;
  }

  is_program : IsProgram program
  is_program =
      let fit = nodes_fit names readable text controlled (length l.states) l.nodes node_at in
      record {
        signals_distinct = signals_once;
        branches_fit = λ i a b t at. fit i (branch t a b) at;
        assignments_fit = λ i go ts at.
            let fits = fit i (assign ts go) at in
            (fits.0 ∙ length-append (numbers l.cells) (numbers l.outputs), fits.1, fits.2);
        states_fit = (h.has_state, λ s i at. subst (λ n. i < n) (sym (length-map l.nodes (node_with names text))) (state_at s i at));
        windows_fit = all_pass IsGoodWindow (window_with names text) (window_fits readable (numbers l.cells)) (λ w g. g.fits) l.windows windows;
      }

  is_writable : IsWritable names program
  is_writable = record {
    signals = list_all_joined (signal_fits names) (numbers l.inputs) controlled (numbers_fit names text l.inputs inputs_named)
        (list_all_joined (signal_fits names) (numbers l.cells) (numbers l.outputs) (numbers_fit names text l.cells cells_named)
        (numbers_fit names text l.outputs outputs_named));
    windows = all_pass IsGoodWindow (window_with names text) (window_is_writable names) (λ w g. g.writable) l.windows windows;
    equalities = each_made IsGoodWindow (window_with names text) (HasEqualities names) (λ w g. g.equal) l.windows windows;
    nodes = all_pass IsGoodNode (node_with names text) (node_is_writable names) (λ n g. g.1.writable) l.nodes nodes;
    few_windows = subst (λ n. n ≤ most_windows) (sym (length-map l.windows (window_with names text))) keeps.few_windows;
    few_nodes = subst (λ n. n ≤ most_nodes) (sym (length-map l.nodes (node_with names text))) keeps.few_nodes;
    few_states = keeps.few_states;
  }

  pub resolved_program : ResolvedProgram text names l
  resolved_program =
      let here = pieces_in text l h in
      record {
        program = program;
        numbers = record {
          inputs = all_numbered names text l.inputs inputs_named;
          cells = all_numbered names text l.cells cells_named;
          outputs = all_numbered names text l.outputs outputs_named;
          windows = all_made IsGoodWindow (window_with names text) (numbered_window names text) (λ w g. g.numbered) l.windows windows;
          nodes = all_made IsGoodNode (node_with names text) (numbered_node names text) (λ n g. g.1.numbered) l.nodes nodes;
          states = states_numbered l.states (each_from_places (λ i. i < 2 ^ 32) l.states (λ s i at.
              omega (arith, keeps.few_nodes, state_at s i at)));
        };
        spelled = record {
          is_program = is_program;
          is_writable = is_writable;
          text = here.spelled ∙ append-nil (pieces_text text (flat_map ended_pieces (listing_lines l)))
              ∙ listing_spelled text l (declarations (codes "input ") names program.inputs) (declarations (codes "cell ") names program.cells)
              (declarations (codes "output ") names program.outputs) (flat_map (window_text names) program.windows)
              (nodes_text names controlled 0 program.nodes) (states_text 0 l.states)
              (declared_text names text (codes "input ") input (λ n. refl) l.inputs inputs_named)
              (declared_text names text (codes "cell ") cell (λ n. refl) l.cells cells_named)
              (declared_text names text (codes "output ") output (λ n. refl) l.outputs outputs_named)
              (ap (pieces_text text) (flat_map-map ended_pieces window l.windows) ∙ all_spelled IsGoodWindow (window_with names text) text
              (λ w. ended_pieces (window w)) (window_text names) (λ w g. g.spelled) l.windows windows)
              (nodes_spelled names readable text controlled (length l.states) 0 l.nodes nodes) (states_spelled text 0 l.states);
        };
      }
