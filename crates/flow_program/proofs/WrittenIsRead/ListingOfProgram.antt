-- A text that spells a program has a listing, and its lines break no rule.
use Rattle.std.proofs.Common.{◌≡◌, ℕ, ◌+◌, ◌<◌, Bool, true, false, not, ◌&&◌, cond, List, [], ◌∷◌, ◌++◌, refl}
use Rattle.std.proofs.Common.{ap, sym, subst, ◌∙◌, arith, length, map, flat_map}
use Rattle.std.proofs.Common.{length-append}
use Rattle.std.specs.Prelude.{Option, Some, None, option_map, nat_le, codes, slice_get, find}
use Rattle.std.specs.List.{list_all, AllByRecursion}
use Rattle.std.specs.Option.{is_some, option_map_or}
use Rattle.std.proofs.lemmas.Bool.{and_from, lt-ltb, le-ltb}
use Rattle.std.proofs.lemmas.List.{append-nil}
use Rattle.std.proofs.lemmas.List.Folds.{list_all-append}
use Rattle.base_library.proofs.Each.{each_joined, each_at, each_from_places, each_weaker, each_left, each_right, each_unmapped, each_flat_map}
use Rattle.base_library.proofs.Numbers.{among_place}
use Rattle.base_library.specs.Numbers.{IsDistinct}
use Rattle.tsl_terms.specs.Name.{number_of, AreDistinct, Name as NameEntry}
use Rattle.tsl_terms.specs.Clashes.{with_uses, added_unless_found, alike_in_kind, same_arity}
use Rattle.tsl_terms.specs.WindowTree.{WindowTree, EquatedTree, right_alone}
use Rattle.term_text.specs.TermText.{name_text}
use Rattle.program_listing.specs.declared.listing.Name.{Name}
use Rattle.flow_program.specs.declared.reading.ProgramError.{ProgramError}
use Rattle.program_tree.specs.NodeTree.{NodeTree, branch, assign}
use Rattle.program_tree.specs.ProgramTree.{ProgramTree}
use Rattle.program_tree.specs.Fits.{longest, window_fits}
use Rattle.program_tree.specs.Writable.{signal_fits, most_windows, most_nodes, HasEqualities}
use Rattle.flow_program.specs.ProgramText.{program_text}
use Rattle.program_tree.specs.Writable.{most_states}
use Rattle.flow_program.specs.ProgramText.{ProgramText}
use Rattle.program_listing.specs.LineText.{LineTree, head_line, end_line, input, cell, output, window as window_tree_line, ended_pieces}
use Rattle.program_listing.specs.LineText.{node_lines, state_lines, listing_lines, Stand}
use Rattle.program_listing.specs.Listing.{name_bytes, declared_entry, declared, IsListing, PlacedLine, WindowLine, ListingTree, left_step}
use Rattle.flow_program.specs.Uses.{ProgramUse, entries_of_use, names_after}
use Rattle.flow_program.specs.Uses.{first_window, first_node, first_state, uses_of}
use Rattle.flow_program.specs.Rules.{first_place, is_nowhere, breaks_updates, place_in}
use Rattle.flow_program.specs.Rules.{is_cell_within, is_equality_within, right_fits}
use Rattle.flow_program.specs.Rules.{breaks_window, cell_texts, readable_of, controlled_of}
use Rattle.flow_program.specs.Rules.{is_unknown, is_unlike, at_line, at_use, first_there, line_fault, use_fault, limit_fault}
use Rattle.flow_program.specs.Rules.{fault_of}
use Rattle.std.proofs.lemmas.Option.{none-some, same_Some, slice_get-map}
use Rattle.base_library.proofs.Booleans.{eqb_self}
use Rattle.base_library.proofs.Places.{slice_get_grown, slice_get_some}
use Rattle.base_library.proofs.Finds.{find_none}
use Rattle.base_library.proofs.Places.{slice_get_mapped}
use Rattle.base_library.proofs.Passes.{list_all_parts}
use Rattle.base_library.proofs.Passes.{passes_at}
use Rattle.tsl_terms.specs.declared.names.NameKind.{NameKind}
use Rattle.tsl_terms.specs.declared.names.NameKind.TheVariants.{Signal, Function, Predicate}
use Rattle.tsl_terms.specs.Name.{same_kind}
use Rattle.flow_program.specs.Reading.{GoOnFrom}
use Rattle.flow_program.specs.internal.Numbering.{Numbered}
use Rattle.std.proofs.lemmas.Grind.{flat_map-append}
use Rattle.std.proofs.Common.{append_assoc}
use Rattle.flow_program.proofs.KnownUses.{named_is_first}
use Rattle.tsl_terms.proofs.FirstUses.{first_of, FirstAt, first_at}
use Rattle.flow_program.proofs.CellPlaces.{placed_some, second_once, AreListed, are_listed, within_alike, rise_alike}
use Rattle.flow_program.proofs.EquatedLines.{are_equated, test_of_equality, in_order_alike, tests_within, lines_within}
use Rattle.flow_program.proofs.WrittenIsRead.ListingOfTerms.{its_number, InNames}
use Rattle.flow_program.proofs.WrittenIsRead.Runs.{at, Part, exactly, beside, made}
use Rattle.flow_program.proofs.WrittenIsRead.ListingOfTerms.{HeldUse}
use Rattle.flow_program.proofs.WrittenIsRead.ListingOfLines.{KeptWindow, kept_window, all_windows, windows_part, KeptNode}
use Rattle.flow_program.proofs.WrittenIsRead.ListingOfLines.{ListingOfNodes, nodes_part, all_declared, declared_part}
use Rattle.flow_program.proofs.WrittenIsRead.ListingOfTerms.{PartOf}
use Rattle.flow_program.proofs.UseLemmas.{declared_append}
use Rattle.flow_program.proofs.WrittenIsRead.ListingOfLines.{states_part, states_within, states_numbered, none_place}
use Rattle.flow_program.proofs.NumberLemmas.{Parts, parts_of, small_same, there_at, numbered_texts}
use Rattle.flow_program.specs.internal.Numbering.{numbered, numbered_test, numbered_left}
use Rattle.flow_program.specs.internal.Numbering.{numbered_window, numbered_node}
use Rattle.base_library.specs.Options.{all_there}
use Rattle.base_library.proofs.Gathered.{length-all_there}
use Rattle.base_library.proofs.Options.{some_mapped}
use Rattle.std.proofs.lemmas.List.{length-map}
use Rattle.tsl_terms.specs.Equality.{equality_in}
use Rattle.tsl_terms.specs.Congruence.{IsEquality}
use Rattle.tsl_terms.specs.TermTree.{ProbeTree}

-- ---- what the names of a text are

same_itself : (k : NameKind) → same_kind k k ≡ true
same_itself Signal = refl
same_itself Function = refl
same_itself Predicate = refl

module _ (names : List NameEntry) (distinct : AreDistinct names) where
  -- the names that get numbers by uses that are held
  named_in : (readable : List ℕ) (us : List ProgramUse) → AllByRecursion (HeldUse names readable) us →
      AllByRecursion (InNames names) (flat_map entries_of_use us)
  named_in readable us held =
      each_flat_map (InNames names) entries_of_use us (each_weaker (HeldUse names readable)
      (λ u. AllByRecursion (InNames names) (entries_of_use u)) (λ u h. ((h.id, h.there), h.asked)) us held)

  -- a name that is there has a number, so it is not added
  pub all_stay : (us : List NameEntry) → AllByRecursion (InNames names) us → with_uses names us ≡ names
  all_stay [] h = refl
  all_stay (u ∷ us) h =
      ap (λ found. with_uses (added_unless_found names u found) us) (its_number names distinct h.0.0 u h.0.1) ∙ all_stay us h.1

  -- where names go on from given ones, each use that they hold is like the name of its text
  none_unlike : (alike : NameEntry → NameEntry → Bool) → ((n : NameEntry) → alike n n ≡ true) → (given : List NameEntry) →
      GoOnFrom given names → (readable : List ℕ) (us : List ProgramUse) → AllByRecursion (HeldUse names readable) us →
      find (is_unlike alike (names_after given us)) us ≡ None
  none_unlike alike itself given goes readable us held =
      find_none (is_unlike alike (names_after given us)) us (each_weaker (HeldUse names readable)
      (λ u. is_unlike alike (names_after given us) u ≡ false) like us held)
    where
      stands : (i : ℕ) (m : NameEntry) → slice_get given i ≡ Some m → slice_get names i ≡ Some m
      stands i m is = ap (λ ns. slice_get ns i) goes.1 ∙ slice_get_grown given goes.0 i m is

      all_in : AllByRecursion (InNames names) (given ++ flat_map entries_of_use us)
      all_in = each_joined (InNames names) given (flat_map entries_of_use us)
          (each_from_places (InNames names) given (λ i m is. (i, stands i m is))) (named_in readable us held)

      like : (u : ProgramUse) → HeldUse names readable u → is_unlike alike (names_after given us) u ≡ false
      like u h =
          ap (λ o. option_map_or (λ n. not (alike n u.name)) o false)
          (named_is_first given (λ i j m n is too. distinct i j m n (stands i m is) (stands j n too)) us u.name.text)
          ∙ by (first_of (given ++ flat_map entries_of_use us) u.name.text) refl
        where
          by : (found : Option NameEntry) → first_of (given ++ flat_map entries_of_use us) u.name.text ≡ found →
              option_map_or (λ n. not (alike n u.name)) found false ≡ false
          by None e = refl
          by (Some f) e =
              let first : FirstAt (given ++ flat_map entries_of_use us) u.name.text f = first_at _ u.name.text f e in
              let one = each_at (InNames names) _ first.at f all_in first.there in
              let place : one.0 ≡ h.id = distinct one.0 h.id f u.name one.1 h.there (sym first.same) in
              let same : f ≡ u.name = same_Some f u.name (sym one.1 ∙ ap (slice_get names) place ∙ h.there) in
              ap not (ap (λ m. alike m u.name) same ∙ itself u.name)

-- ---- windows

module _ (names : List NameEntry) (text : List ℕ) where
  -- without a left test the right one is an equality
  right_alone_fits : (left : Option PlacedLine) (l : Option ProbeTree) (right : PlacedLine) (r : ProbeTree) →
      numbered_left names text left ≡ Some l → numbered_test names text right.test ≡ Some r →
      AllByRecursion (IsEquality (equality_in names)) (right_alone l r) → right_fits text left right ≡ true
  right_alone_fits (Some t) l right r is right_is equal = refl
  right_alone_fits None l right r is right_is equal =
      test_of_equality names text right.test r right_is
      (subst (λ o. AllByRecursion (IsEquality (equality_in names)) (right_alone o r)) (sym (same_Some None l is)) equal).0

module _ (names : List NameEntry) (readable : List ℕ) (text : List ℕ) (cell_names : List Name) (cells : List ℕ)
    (cells_are : all_there (map (numbered names text) cell_names) ≡ Some cells) (once : IsDistinct cells) where
  abbrev texts_of_cells : List (List ℕ)
  texts_of_cells = map (name_bytes text) cell_names

  window_keeps : (x : WindowTree) (w : WindowLine) (number : ℕ) → numbered_window names text w ≡ Some x → HasEqualities names x →
      window_fits readable cells x ≡ true → breaks_window text texts_of_cells number w ≡ false
  window_keeps x w number is equal fits =
      let k : KeptWindow readable cells x = kept_window readable cells x fits in
      let parts : Parts names text w x = parts_of names text w x is in
      let length_is : w.right.step ≡ x.length = small_same w.right.step x.length parts.length in
      let left_is : left_step w.left ≡ x.left_at = small_same (left_step w.left) x.left_at parts.left_at in
      let are : AreListed names text w.updates x.updates = are_listed names text w.updates x.updates parts.updates in
      let equal_are = are_equated names text w.equalities x.equalities parts.equalities in
      let probes = map (λ (e : EquatedTree). e.probe) x.equalities in
      let equalities = each_unmapped (IsEquality (equality_in names)) (λ (e : EquatedTree). e.probe) x.equalities
      (each_left (IsEquality (equality_in names)) probes (right_alone x.left x.right) equal) in
      let alone = each_right (IsEquality (equality_in names)) probes (right_alone x.left x.right) equal in
      let within : list_all (is_equality_within text w.right.step) w.equalities ≡ true =
      ap (λ n. list_all (is_equality_within text n) w.equalities) length_is
      ∙ lines_within names text x.length w.equalities x.equalities equal_are k.offsets equalities in
      ap not (and_from _ _
      (and_from _ _ ((λ i. nat_le (length_is i) longest && nat_le (left_is i) (length_is i)) ∙ k.short)
      (and_from _ _ (ap (λ n. list_all (is_cell_within text texts_of_cells n) w.updates) length_is
      ∙ within_alike names text cell_names cells cells_are once x.length w.updates x.updates are ∙ k.updates)
      (rise_alike names text cell_names cells cells_are once w.updates x.updates are ∙ k.rise)))
      (and_from _ _ (right_alone_fits names text w.left x.left w.right x.right parts.left parts.right alone)
      (and_from _ _ within
      (in_order_alike names text w.equalities x.equalities equal_are (tests_within names text w.right.step w.equalities within)
      ∙ k.order))))

  pub windows_keep : (xs : List WindowTree) (ws : List WindowLine) → all_there (map (numbered_window names text) ws) ≡ Some xs →
      AllByRecursion (HasEqualities names) xs → list_all (window_fits readable cells) xs ≡ true → (i : ℕ) (w : WindowLine) →
      slice_get ws i ≡ Some w → (number : ℕ) → breaks_window text texts_of_cells number w ≡ false
  windows_keep xs ws are equal fits i w is number =
      let x = there_at (numbered_window names text) ws xs i w are is in
      window_keeps x.0 w number x.2 (each_at (HasEqualities names) xs i x.0 equal x.1) (passes_at
      (window_fits readable cells) xs i x.0 fits x.1)

-- ---- the whole program

-- no name of the program is declared twice in the text
declared_apart : (names : List NameEntry) (text : List ℕ) (ds : List Name) (ids : List ℕ) →
    all_there (map (numbered names text) ds) ≡ Some ids → IsDistinct ids → AreDistinct (map (declared_entry text) ds)
declared_apart names text ds ids are once i j m n is too same =
    let d = slice_get_mapped (declared_entry text) ds i m is in
    let e = slice_get_mapped (declared_entry text) ds j n too in
    let a = there_at (numbered names text) ds ids i d.0 are d.1 in
    let b = there_at (numbered names text) ds ids j e.0 are e.1 in
    let bytes : name_bytes text d.0 ≡ name_bytes text e.0 = ap (λ f. f.text) d.2 ∙ same ∙ ap (λ f. f.text) (sym e.2) in
    let one : a.0 ≡ b.0 = same_Some a.0 b.0 (sym a.2 ∙ ap (number_of names) bytes ∙ b.2) in
    once i j b.0 (a.1 ∙ ap Some one) b.1

-- the numbers of lists one after another
both_there : {X Y : Type 0} (f : X → Option Y) (xs ys : List X) (as' bs : List Y) → all_there (map f xs) ≡ Some as' →
    all_there (map f ys) ≡ Some bs → all_there (map f (xs ++ ys)) ≡ Some (as' ++ bs)
both_there f [] ys as' bs is too = too ∙ ap (λ zs. Some (zs ++ bs)) (same_Some [] as' is)
both_there {Y = Y} f (x ∷ xs) ys as' bs is too = by (f x) is (λ cs e. both_there f xs ys cs bs e too) where
  by : (o : Option Y) → all_there (o ∷ map f xs) ≡ Some as' →
      ((cs : List Y) → all_there (map f xs) ≡ Some cs → all_there (map f (xs ++ ys)) ≡ Some (cs ++ bs)) →
      all_there (o ∷ map f (xs ++ ys)) ≡ Some (as' ++ bs)
  by None there rest = absurd (none-some as' there)
  by (Some y) there rest =
      let tail = some_mapped (λ zs. y ∷ zs) (all_there (map f xs)) as' there in
      ap (option_map (λ zs. y ∷ zs)) (rest tail.0 tail.1) ∙ ap (λ zs. Some (zs ++ bs)) tail.2

-- what is made of eight lists one after another
eight_joined : {X Y : Type 0} (f : X → List Y) (a b c d e g h k : List X) →
    ((((((flat_map f a ++ flat_map f b) ++ flat_map f c) ++ flat_map f d) ++ flat_map f e) ++ flat_map f g) ++ flat_map f h) ++ flat_map f k
    ≡ flat_map f (a ++ (b ++ (c ++ (d ++ (e ++ (g ++ (h ++ k)))))))
eight_joined f a b c d e g h k = simp (flat_map-append, append_assoc)

-- the listing of a text that spells a program
pub record ListingOfProgram (text : List ℕ) (names : List NameEntry) (p : ProgramTree) : Type 0 where
  pub listing : ListingTree
  pub is_listing : IsListing text listing
  pub numbers : Numbered names text listing p
  pub held_names : AllByRecursion (InNames names) (flat_map entries_of_use (uses_of text listing))
  pub no_fault : (given : List NameEntry) → GoOnFrom given names → fault_of text given listing ≡ None

module _ (text : List ℕ) (names : List NameEntry) (distinct : AreDistinct names) (p : ProgramTree) (h : ProgramText text names p) where
  abbrev readable : List ℕ
  readable = p.inputs ++ p.cells

  abbrev Fit : List ℕ → Type 0
  Fit ids = list_all (signal_fits names) ids ≡ true

  signals_fit : Fit p.inputs × Fit (p.cells ++ p.outputs)
  signals_fit = list_all_parts (signal_fits names) p.inputs (p.cells ++ p.outputs) h.is_writable.signals

  controlled_fit : Fit p.cells × Fit p.outputs
  controlled_fit = list_all_parts (signal_fits names) p.cells p.outputs signals_fit.1

  kept_nodes : (k i : ℕ) (x : NodeTree) → k ≡ 0 + i → slice_get p.nodes i ≡ Some x →
      KeptNode names distinct readable text (p.cells ++ p.outputs) signals_fit.1 (length p.states) h.is_writable.few_states k x
  kept_nodes k i (branch t l r) place is =
      let fits = h.is_program.branches_fit i l r t is in (omega (arith, fits.0, place), omega (arith, fits.1, place), fits.2)
  kept_nodes k i (assign ts go) place is =
      let fits = h.is_program.assignments_fit i go ts is in (fits.0 ∙ sym (length-append p.cells p.outputs), fits.1, fits.2)

  -- the lines of the program
  abbrev Declared : (Name → LineTree) → List ℕ → Type 0
  Declared make = PartOf names readable (all_declared names distinct readable text make)

  record Lines : Type 0 where
    inputs : Declared input p.inputs
    cells : Declared cell p.cells
    outputs : Declared output p.outputs
    windows : PartOf names readable (all_windows names distinct readable text) p.windows
    nodes : ListingOfNodes names distinct readable text (p.cells ++ p.outputs) signals_fit.1 (length p.states) h.is_writable.few_states 0
        p.nodes

  abbrev listing_at : Lines → ListingTree
  listing_at l = record {
    inputs = l.inputs.line;
    cells = l.cells.line;
    outputs = l.outputs.line;
    windows = l.windows.line;
    nodes = l.nodes.lines;
    states = p.states;
  }

  lines_part : Part text (λ (l : Lines). flat_map ended_pieces (listing_lines (listing_at l))) (program_text names p)
  lines_part =
      let declared = declared_part names distinct readable text in
      made (beside (beside (beside (beside (beside (beside (beside (beside (exactly (codes "tslprogram 1")) (exactly (codes "\n")))
      (declared (codes "input ") input (λ n. refl) (λ n. refl) p.inputs signals_fit.0))
      (declared (codes "cell ") cell (λ n. refl) (λ n. refl) p.cells controlled_fit.0))
      (declared (codes "output ") output (λ n. refl) (λ n. refl) p.outputs controlled_fit.1))
      (windows_part names distinct readable text p.cells p.windows h.is_writable.windows h.is_program.windows_fit))
      (nodes_part names distinct readable text (p.cells ++ p.outputs) signals_fit.1 (length p.states) h.is_writable.few_states 0 p.nodes
      (omega (arith, h.is_writable.few_nodes)) h.is_writable.nodes kept_nodes)) (states_part 0 p.states))
      (beside (exactly (codes "end")) (exactly (codes "\n")))) refl
      (λ x. record {
        inputs = x.0.0.0.0.0.0.1;
        cells = x.0.0.0.0.0.1;
        outputs = x.0.0.0.0.1;
        windows = x.0.0.0.1;
        nodes = x.0.0.1;
      }) (λ x. eight_joined ended_pieces (head_line ∷ []) (map input x.0.0.0.0.0.0.1.line) (map cell x.0.0.0.0.0.1.line)
      (map output x.0.0.0.0.1.line) (map window_tree_line x.0.0.0.1.line) (node_lines 0 x.0.0.1.lines) (state_lines 0 p.states)
      (end_line ∷ []))

  found : (l : Lines) × Stand (flat_map ended_pieces (listing_lines (listing_at l))) (at [] (program_text names p ++ []))
      (at (program_text names p) [])
  found = lines_part.found [] [] (h.text ∙ sym (append-nil (program_text names p)))

  abbrev lines : Lines
  lines = found.0

  abbrev listing : ListingTree
  listing = listing_at lines

  windows_count : length lines.windows.line ≡ length p.windows
  windows_count =
      sym (length-all_there (map (numbered_window names text) lines.windows.line) p.windows lines.windows.numbered_is
      ∙ length-map lines.windows.line (numbered_window names text))

  nodes_count : length lines.nodes.lines ≡ length p.nodes
  nodes_count =
      sym (length-all_there (map (numbered_node names text) lines.nodes.lines) p.nodes lines.nodes.numbered_are
      ∙ length-map lines.nodes.lines (numbered_node names text))

  readable_numbers : all_there (map (numbered names text) (lines.inputs.line ++ lines.cells.line)) ≡ Some readable
  readable_numbers =
      both_there (numbered names text) lines.inputs.line lines.cells.line p.inputs p.cells lines.inputs.numbered_is lines.cells.numbered_is

  controlled_are : map (name_text names) (p.cells ++ p.outputs) ≡ controlled_of text listing
  controlled_are = sym (numbered_texts names text (lines.cells.line ++ lines.outputs.line) (p.cells ++ p.outputs) (both_there
      (numbered names text) lines.cells.line lines.outputs.line p.cells p.outputs lines.cells.numbered_is lines.outputs.numbered_is))

  starts_small : (i m : ℕ) → slice_get p.states i ≡ Some m → m < 65536
  starts_small i m is = omega (arith, h.is_program.states_fit.1 i m is, h.is_writable.few_nodes)

  held : AllByRecursion (HeldUse names readable) (uses_of text listing)
  held =
      let joined = each_joined (HeldUse names readable) in
      simp declared_append (joined _ _ (joined _ _ (joined _ _ (joined _ _ (lines.inputs.held _) (lines.cells.held _))
      (lines.outputs.held _)) (lines.windows.held _)) (lines.nodes.held _))

  readable_are : readable_of text listing ≡ map (name_text names) readable
  readable_are = numbered_texts names text (lines.inputs.line ++ lines.cells.line) readable readable_numbers

  -- a signal that is read is declared
  known : (u : ProgramUse) → HeldUse names readable u → is_unknown (readable_of text listing) u ≡ false
  known u held_use = by u.is_read refl where
    by : (b : Bool) → u.is_read ≡ b → is_unknown (readable_of text listing) u ≡ false
    by false e = ap (λ r. r && not (is_some (place_in (readable_of text listing) u.name.text))) e
    by true e =
        let place = among_place readable held_use.id (held_use.read e) in
        let text_is : name_text names held_use.id ≡ u.name.text = ap (λ o. option_map_or (λ m. m.text) o []) held_use.there in
        let stands : slice_get (readable_of text listing) place.0 ≡ Some u.name.text =
        simp (readable_are, slice_get-map, place.1, text_is) in
        let found = placed_some (readable_of text listing) place.0 u.name.text stands in
        (λ i. e i && not (is_some (found.1 i)))

  all_known : find (is_unknown (readable_of text listing)) (uses_of text listing) ≡ None
  all_known = find_none (is_unknown (readable_of text listing)) (uses_of text listing)
      (each_weaker (HeldUse names readable) (λ u. is_unknown (readable_of text listing) u ≡ false) known (uses_of text listing) held)

  -- what a rule of lines tells by the first place that breaks it
  abbrev told : (ℕ → ProgramError) → ℕ → Option ℕ → Option ProgramError
  told fault line place = at_line fault (option_map (λ k. line + k) place)

  no_line_fault : line_fault text listing ≡ None
  no_line_fault =
      let updates : first_place (breaks_updates text (controlled_of text listing)) 0 lines.nodes.lines ≡ None =
      subst (λ ts. first_place (breaks_updates text ts) 0 lines.nodes.lines ≡ None) controlled_are lines.nodes.updates in
      let starts : first_place (is_nowhere (length lines.nodes.lines)) 0 p.states ≡ None =
      none_place (is_nowhere (length lines.nodes.lines)) p.states (λ k i m is.
      ap not (lt-ltb m (length lines.nodes.lines) (subst (λ n. m < n) (sym nodes_count) (h.is_program.states_fit.1 i m is)))) 0 in
      let windows : first_place (breaks_window text (cell_texts text listing)) 0 lines.windows.line ≡ None =
      none_place (breaks_window text (cell_texts text listing)) lines.windows.line (λ k i w is.
      windows_keep names readable text lines.cells.line p.cells lines.cells.numbered_is
      (second_once p.inputs p.cells p.outputs h.is_program.signals_distinct) p.windows lines.windows.line lines.windows.numbered_is
      h.is_writable.equalities h.is_program.windows_fit i w is k) 0 in
      λ i. first_there (told ProgramError.Order (first_node listing) (lines.nodes.order i)
      ∷ told ProgramError.Target (first_node listing) (lines.nodes.go i) ∷ told ProgramError.Target (first_state listing) (starts i)
      ∷ told ProgramError.Updates (first_node listing) (updates i) ∷ told ProgramError.Window (first_window listing) (windows i) ∷ [])

  no_use_fault : (given : List NameEntry) → GoOnFrom given names →
      use_fault (readable_of text listing) (names_after given (uses_of text listing)) (uses_of text listing) ≡ None
  no_use_fault given goes = λ i. first_there (at_use ProgramError.Unknown (all_known i)
      ∷ at_use ProgramError.Kind (none_unlike names distinct alike_in_kind (λ m. same_itself m.kind) given goes readable
      (uses_of text listing) held i)
      ∷ at_use ProgramError.Arity (none_unlike names distinct same_arity (λ m. eqb_self m.arity) given goes readable
      (uses_of text listing) held i) ∷ [])

  no_limit_fault : limit_fault listing ≡ None
  no_limit_fault =
      let windows = le-ltb most_windows (length lines.windows.line) (omega (arith, windows_count, h.is_writable.few_windows)) in
      let nodes = le-ltb most_nodes (length lines.nodes.lines) (omega (arith, nodes_count, h.is_writable.few_nodes)) in
      let states = le-ltb most_states (length p.states) h.is_writable.few_states in
      λ i. first_there (cond (windows i) (Some ProgramError.Windows) None ∷ cond (nodes i) (Some ProgramError.Nodes) None
      ∷ cond (states i) (Some ProgramError.States) None ∷ [])

  pub listing_of_program : ListingOfProgram text names p
  listing_of_program = record {
    listing = listing;
    is_listing = record {
      end = length (program_text names p);
      in_place = subst (λ bytes. Stand (flat_map ended_pieces (listing_lines listing)) (record { at = 0; bytes = bytes })
          (record { at = length (program_text names p); bytes = [] })) (append-nil (program_text names p) ∙ sym h.text)
          found.1;
      within = simp (
        list_all-append,
        lines.inputs.within,
        lines.cells.within,
        lines.outputs.within,
        lines.windows.within,
        lines.nodes.within,
        states_within 0 p.states (omega (arith, h.is_writable.few_states)) starts_small,
      );
      declared_once = declared_apart names text (declared listing) ((p.inputs ++ p.cells) ++ p.outputs)
          (both_there (numbered names text) (lines.inputs.line ++ lines.cells.line) lines.outputs.line (p.inputs ++ p.cells) p.outputs
          readable_numbers lines.outputs.numbered_is) h.is_program.signals_distinct;
      has_node = (let first = slice_get_some p.states 0 h.is_program.states_fit.0 in
          let below = h.is_program.states_fit.1 0 first.0 first.1 in
          omega (arith, below, nodes_count));
      has_state = h.is_program.states_fit.0;
    };
    numbers = record {
      inputs = lines.inputs.numbered_is;
      cells = lines.cells.numbered_is;
      outputs = lines.outputs.numbered_is;
      windows = lines.windows.numbered_is;
      nodes = lines.nodes.numbered_are;
      states = states_numbered p.states starts_small;
    };
    held_names = named_in names distinct readable (uses_of text listing) held;
    no_fault = λ given goes i. first_there (no_line_fault i ∷ no_use_fault given goes i ∷ no_limit_fault i ∷ []);
  }
