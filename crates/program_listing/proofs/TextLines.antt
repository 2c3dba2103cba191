-- The lines of a text lead to a listing exactly where it is that of the text.
use Rattle.std.proofs.Common.{◌≡◌, ℕ, ◌+◌, ◌-◌, ◌<◌, ◌≤◌, Bool, true, false, ◌&&◌, List, [], ◌∷◌, ◌++◌, length, length-append, take, drop}
use Rattle.std.proofs.Common.{map, flat_map, codes, Option, Some, None, ◌⊎◌, inl, inr, slice_get, refl, sym, ap, subst, ◌∙◌, append_assoc}
use Rattle.std.proofs.Common.{arith}
use Rattle.std.specs.Prelude.{is_none, is_some, option_and_then, cond}
use Rattle.std.specs.List.{list_all, AllByRecursion}
use Rattle.std.proofs.lemmas.Bool.{and_parts, and_from, false≢true}
use Rattle.std.proofs.lemmas.List.{append-nil, map-append, drop-append-le, take-append-le, length-drop}
use Rattle.std.proofs.lemmas.Option.{none-some, same_Some, cond_some}
use Rattle.std.proofs.Math.Seq.{take-append_seam, drop-append-add}
use Rattle.base_library.proofs.Options.{is_none_is}
use Rattle.base_library.proofs.Places.{slice_get_push, slice_get-behind}
use Rattle.tsl_text.specs.Written.{is_line, text_of_lines}
use Rattle.tsl_terms.specs.declared.names.NameKind.TheVariants.{Signal}
use Rattle.tsl_terms.specs.Name.{AreDistinct, number_of, Name as NameEntry}
use Rattle.tsl_terms.proofs.FirstUses.{first_of, first_some, not_found}
use Rattle.tsl_terms.proofs.NameLemmas.{absent_before}
use Rattle.line_formats.specs.Machine.{steps, IsText}
use Rattle.line_formats.proofs.FormatLaws.{and_then_some}
use Rattle.program_listing.specs.declared.listing.Name.{Name}
use Rattle.program_listing.specs.Listing.{declared_entry, declared, IsListing}
use Rattle.program_listing.specs.ListingTree.{ListingTree}
use Rattle.program_listing.specs.LineText.{word, named, Place, Stand, LineTree, input, cell, output, ended_pieces, line_is_within}
use Rattle.program_listing.specs.LineText.{listing_lines}
use Rattle.program_listing.specs.declared.rest.LineError.{LineError}
use Rattle.program_listing.specs.declared.rest.LineError.TheVariants.{Form, NoMemory}
use Rattle.program_listing.specs.internal.LineReading.{IsMisread, read_line}
use Rattle.program_listing.specs.internal.LineOrder.{Progress, fresh, done, add, add_all, declares, ListingState, start, whole, step}
use Rattle.program_listing.specs.internal.LineOrder.{step_at, IsRepeated, is_done, entry_in, entries_in, are_new, state_after, if_new}
use Rattle.program_listing.specs.internal.LineOrder.{with_line, LiesIn, DeclaresIn}
use Rattle.program_listing.proofs.LineFeeds.{ended_line, line_before_feed}
use Rattle.program_listing.proofs.LinesRead.{IsLineAt, line_sound, line_complete}
use Rattle.program_listing.proofs.ListingFacts.{listing_from}
use Rattle.program_listing.proofs.OrderOfLines.{listing_adds, grown_all}
use Rattle.program_listing.proofs.Standing.{stand_append, stand_split}

-- ---- the name that a line declares

-- the name of a line of a word and a name
name_in : (w : List ℕ) (n : Name) (p q : Place) → Stand (word w ∷ named n ∷ []) p q → LiesIn p n
name_in w n p q s =
    let begin : n.start ≡ p.at + length w = ap (λ (m : Name). m.start) s.2.4 in
    let end : n.end ≡ p.at + length w + length s.2.0 = ap (λ (m : Name). m.end) s.2.4 in
    let bytes : length p.bytes ≡ length w + (length s.2.0 + length s.2.1) =
    ap length s.1 ∙ length-append w s.0 ∙ ap (λ (k : ℕ). length w + k) (ap length s.2.2 ∙ length-append s.2.0 s.2.1) in
    (omega (arith, begin), omega (arith, begin, end), omega (arith, end, bytes))

pub declares_in : (p : Place) (t : LineTree) → IsLineAt p t → DeclaresIn p t
declares_in p (input n) l = (name_in (codes "input ") n p l.end l.stands, tt)
declares_in p (cell n) l = (name_in (codes "cell ") n p l.end l.stands, tt)
declares_in p (output n) l = (name_in (codes "output ") n p l.end l.stands, tt)
declares_in p _ l = tt

pub few_entries : (p : Place) (t : LineTree) → length (entries_in p t) ≤ 1
few_entries p (input n) = omega arith
few_entries p (cell n) = omega arith
few_entries p (output n) = omega arith
few_entries p _ = omega arith

-- a name has the same bytes in its line and in the text
same_entries : (front line rest : List ℕ) (at : ℕ) → at ≡ length front → (ns : List Name) →
    AllByRecursion (LiesIn (record { at = at; bytes = line })) ns →
    map (declared_entry (front ++ (line ++ rest))) ns ≡ map (entry_in (record { at = at; bytes = line })) ns
same_entries front line rest at e [] h = refl
same_entries front line rest at e (n ∷ ns) h =
    λ i. record { text = bytes i; kind = Signal; arity = 0 } ∷ same_entries front line rest at e ns h.1 i
  where
    j : ℕ
    j = n.start - at

    k : ℕ
    k = n.end - n.start

    bytes : take k (drop n.start (front ++ (line ++ rest))) ≡ take ((n.end - at) - j) (drop j line)
    bytes =
        let first = h.0 in
        let there : n.start ≡ length front + j = omega (arith, e, first.0) in
        let few : k ≤ length (drop j line) = omega (arith, length-drop j line, first.0, first.1, first.2) in
        let size : k ≡ (n.end - at) - j = omega (arith, first.0, first.1) in
        ap (λ (s : ℕ). take k (drop s (front ++ (line ++ rest)))) there
        ∙ ap (take k) (drop-append-add front (line ++ rest) j ∙ drop-append-le j line rest (omega (arith, first.0, first.1, first.2)))
        ∙ take-append-le k (drop j line) rest few ∙ ap (λ (m : ℕ). take m (drop j line)) size

-- ---- names that are new

absent : (names : List NameEntry) (text : List ℕ) → number_of names text ≡ None → (i : ℕ) (m : NameEntry) → slice_get names i ≡ Some m →
    m.text ≡ text → ⊥
absent names text none i m there same =
    let first = first_some names i m there in
    none-some first.0 (sym (not_found names text none) ∙ ap (first_of names) (sym same) ∙ first.1)

push_distinct : (names : List NameEntry) (u : NameEntry) → number_of names u.text ≡ None → AreDistinct names →
    AreDistinct (names ++ u ∷ [])
push_distinct names u none h i j m n there here same = by (slice_get_push names u i m there) (slice_get_push names u j n here) where
  by : (((i < length names) × (slice_get names i ≡ Some m)) ⊎ ((i ≡ length names) × (u ≡ m))) →
      (((j < length names) × (slice_get names j ≡ Some n)) ⊎ ((j ≡ length names) × (u ≡ n))) → i ≡ j
  by (inl a) (inl b) = h i j m n a.1 b.1 same
  by (inl a) (inr b) = absurd (absent names u.text none i m a.1 (same ∙ ap (λ (x : NameEntry). x.text) (sym b.1)))
  by (inr a) (inl b) = absurd (absent names u.text none j n b.1 (sym same ∙ ap (λ (x : NameEntry). x.text) (sym a.1)))
  by (inr a) (inr b) = a.0 ∙ sym b.0

distinct_more : (names later : List NameEntry) → length later ≤ 1 → are_new names later ≡ true → AreDistinct names →
    AreDistinct (names ++ later)
distinct_more names [] few new h = subst AreDistinct (sym (append-nil names)) h
distinct_more names (e ∷ []) few new h =
    push_distinct names e (is_none_is (number_of names e.text) (and_parts (is_none (number_of names e.text)) true new).0) h
distinct_more names (e ∷ f ∷ later) few new h = absurd (omega (arith, few))

-- where names are distinct, the later ones are new
all_new : (names later rest : List NameEntry) → length later ≤ 1 → AreDistinct (names ++ (later ++ rest)) → are_new names later ≡ true
all_new names [] rest few h = refl
all_new names (e ∷ f ∷ later) rest few h = absurd (omega (arith, few))
all_new names (e ∷ []) rest few h =
    ap (λ (o : Option ℕ). is_none o && true)
    (ap (λ (ns : List NameEntry). number_of ns e.text) (sym (take-append_seam names (e ∷ rest)))
    ∙ absent_before (names ++ e ∷ rest) (length names) e.text h (rw (slice_get-behind names e rest) refl))

-- ---- one line more

-- the line after the lines so far
abbrev place_of : ListingState → List ℕ → Place
place_of s line = record { at = s.at; bytes = line }

pub record Stepped (s t : ListingState) (line : List ℕ) : Type 0 where
  pub tree : LineTree
  pub progress : Progress
  pub read : read_line (place_of s line) ≡ Some tree
  pub new : are_new s.names (entries_in (place_of s line) tree) ≡ true
  pub added : add s.progress tree ≡ Some progress
  pub is : state_after s (place_of s line) tree progress ≡ t

pub stepped : (s t : ListingState) (line : List ℕ) → step s line ≡ Some t → Stepped s t line
stepped s t line h =
    let found = and_then_some (read_line (place_of s line)) (with_line s (place_of s line)) t h in
    let more = and_then_some (add s.progress found.0) (if_new s (place_of s line) found.0) t found.2 in
    let p : Place = place_of s line in
    let last = cond_some (are_new s.names (entries_in p found.0)) (state_after s p found.0 more.0) t more.2 in
    record { tree = found.0; progress = more.0; read = found.1; new = last.0; added = more.1; is = last.1 }

pub step_is : (s : ListingState) (line : List ℕ) (tree : LineTree) (q : Progress) → read_line (place_of s line) ≡ Some tree →
    are_new s.names (entries_in (place_of s line) tree) ≡ true → add s.progress tree ≡ Some q →
    step s line ≡ Some (state_after s (place_of s line) tree q)
step_is s line tree q read new added =
    ap (option_and_then (with_line s (place_of s line))) read ∙ ap (option_and_then (if_new s (place_of s line) tree)) added
    ∙ ap (λ (b : Bool). cond b (Some (state_after s (place_of s line) tree q)) None) new

-- a line that may not stand next, or that declares a name again
pub refused : (s : ListingState) (bytes : List ℕ) (p : Place) (tree : LineTree) → p ≡ place_of s bytes → read_line p ≡ Some tree →
    (is_some (add s.progress tree) && are_new s.names (entries_in p tree)) ≡ false → step s bytes ≡ None
refused s bytes p tree at read h =
    ap (step_at s) (sym at) ∙ ap (option_and_then (with_line s p)) read ∙ by (add s.progress tree) (are_new s.names (entries_in p tree)) h
  where
    by : (o : Option Progress) (b : Bool) → (is_some o && b) ≡ false →
        option_and_then (λ (q : Progress). cond b (Some (state_after s p tree q)) None) o ≡ None
    by None b h = refl
    by (Some q) false h = refl
    by (Some q) true h = absurd (false≢true (sym h))

neither : {b : Bool} (a : Bool) → b ≡ false → (a && b) ≡ false
neither false h = refl
neither true h = h

pub repeated : (s : ListingState) (bytes : List ℕ) (p : Place) (tree : LineTree) → p ≡ place_of s bytes → read_line p ≡ Some tree →
    (fault : LineError) → IsRepeated (are_new s.names (entries_in p tree)) fault → IsMisread (step s bytes) fault
repeated s bytes p tree at read Form h =
    refused s bytes p tree at read (neither (is_some (add s.progress tree)) h)
repeated s bytes p tree at read NoMemory h = tt

-- ---- what lines say

-- the lines that are read after those in front, in the text of all
record Told (ls : List (List ℕ)) (s t : ListingState) (text : List ℕ) : Type 0 where
  trees : List LineTree
  adds : add_all trees s.progress ≡ Some t.progress
  within : list_all line_is_within trees ≡ true
  stands : Stand (flat_map ended_pieces trees) (record { at = s.at; bytes = text_of_lines ls }) (record { at = t.at; bytes = [] })
  names : t.names ≡ s.names ++ map (declared_entry text) (flat_map declares trees)
  distinct : AreDistinct s.names → AreDistinct t.names

feed_end : (front l rest : List ℕ) → (front ++ (l ++ 10 ∷ [])) ++ rest ≡ front ++ (l ++ 10 ∷ rest)
feed_end front l rest =
    append_assoc front (l ++ 10 ∷ []) rest ∙ ap (λ (zs : List ℕ). front ++ zs) (append_assoc l (10 ∷ []) rest)

feed_length : (front l : List ℕ) → length (front ++ (l ++ 10 ∷ [])) ≡ length front + (length l + 1)
feed_length front l = length-append front (l ++ 10 ∷ []) ∙ ap (λ (n : ℕ). length front + n) (length-append l (10 ∷ []))

told : (ls : List (List ℕ)) (s t : ListingState) (front : List ℕ) → s.at ≡ length front → steps step s ls ≡ Some t →
    Told ls s t (front ++ text_of_lines ls)
told [] s t front here h = subst (λ (u : ListingState). Told [] s u (front ++ [])) (same_Some s t h) (record {
  trees = [];
  adds = refl;
  within = refl;
  stands = refl;
  names = sym (append-nil s.names);
  distinct = λ d. d;
})
told (l ∷ ls) s t front here h =
    let found = and_then_some (step s l) (λ u. steps step u ls) t h in
    let st = stepped s found.0 l found.1 in
    let p : Place = place_of s l in
    let u : ListingState = state_after s p st.tree st.progress in
    let rest = told ls u t (front ++ (l ++ 10 ∷ [])) (omega (arith, here, feed_length front l))
    (ap (λ (z : ListingState). steps step z ls) st.is ∙ found.2) in
    let at : IsLineAt p st.tree = line_sound p st.tree st.read in
    let own : map (declared_entry (front ++ (l ++ 10 ∷ text_of_lines ls))) (declares st.tree) ≡ entries_in p st.tree =
    same_entries front l (10 ∷ text_of_lines ls) s.at here (declares st.tree) (declares_in p st.tree at) in
    let line : (l ++ 10 ∷ []) ++ text_of_lines ls ≡ l ++ 10 ∷ text_of_lines ls = append_assoc l (10 ∷ []) (text_of_lines ls) in
    let text : List ℕ = front ++ text_of_lines (l ∷ ls) in
    let same : (front ++ (l ++ 10 ∷ [])) ++ text_of_lines ls ≡ text = append_assoc front (l ++ 10 ∷ []) (text_of_lines ls) in
    record {
      trees = st.tree ∷ rest.trees;
      adds = ap (option_and_then (add_all rest.trees)) st.added ∙ rest.adds;
      within = and_from (line_is_within st.tree) (list_all line_is_within rest.trees) at.within rest.within;
      stands = stand_append (ended_pieces st.tree) (flat_map ended_pieces rest.trees) _ (record { at = u.at; bytes = text_of_lines ls }) _
          (subst (λ (zs : List ℕ). Stand (ended_pieces st.tree) (record { at = s.at; bytes = zs })
          (record { at = u.at; bytes = text_of_lines ls })) (sym line) (line_before_feed st.tree p at (text_of_lines ls))) rest.stands;
      names = rest.names ∙ append_assoc s.names (entries_in p st.tree) _
          ∙ (λ i. s.names ++ (sym (ap (λ (zs : List ℕ). map (declared_entry (front ++ zs)) (declares st.tree)) line ∙ own) i
          ++ map (declared_entry (same i)) (flat_map declares rest.trees)))
          ∙ ap (λ (es : List NameEntry). s.names ++ es)
          (sym (map-append (declared_entry text) (declares st.tree) (flat_map declares rest.trees)));
      distinct = λ d. rest.distinct (distinct_more s.names (entries_in p st.tree) (few_entries p st.tree) st.new d);
    }

-- lines that end with the last one are the text of a listing
pub listing_of_lines : (ls : List (List ℕ)) (t : ListingState) (l : ListingTree) → steps step start ls ≡ Some t → t.progress ≡ done l →
    IsListing (text_of_lines ls) l
listing_of_lines ls t l says e =
    let text : List ℕ = text_of_lines ls in
    let r = told ls start t [] refl says in
    let all = grown_all r.trees fresh (done l) (r.adds ∙ ap Some e) in
    let both = all.2 tt in
    let names : t.names ≡ map (declared_entry text) (declared l) = r.names ∙ ap (map (declared_entry text)) (sym all.1) in
    listing_from text l t.at
    (subst (λ (ts : List LineTree). Stand (flat_map ended_pieces ts) (record { at = 0; bytes = text }) (record { at = t.at; bytes = [] }))
    (sym all.0) r.stands)
    (subst (λ (ts : List LineTree). list_all line_is_within ts ≡ true) (sym all.0) r.within)
    (subst AreDistinct names (r.distinct (λ i j m n there. absurd (none-some m there)))) both.0 both.1

-- ---- lines that stand are read

pub record Leads (s : ListingState) (bytes : List ℕ) (l : ListingTree) : Type 0 where
  pub lines : List (List ℕ)
  pub end : ListingState
  pub split : bytes ≡ text_of_lines lines
  pub is_text : IsText step whole s lines end
  pub done : end.progress ≡ done l

leads : (trees : List LineTree) (s : ListingState) (p : Place) (stop : ℕ) (l : ListingTree) (front : List ℕ) → s.at ≡ p.at →
    p.at ≡ length front → list_all line_is_within trees ≡ true →
    Stand (flat_map ended_pieces trees) p (record { at = stop; bytes = [] }) → add_all trees s.progress ≡ Some (done l) →
    AreDistinct (s.names ++ map (declared_entry (front ++ p.bytes)) (flat_map declares trees)) → Leads s p.bytes l
leads [] s p stop l front here len h stands adds distinct =
    let last : s.progress ≡ done l = same_Some s.progress (done l) adds in
    record {
      lines = [];
      end = s;
      split = ap (λ (x : Place). x.bytes) stands;
      is_text = record { lines = refl; says = refl; done = ap is_done last };
      done = last;
    }
leads (tree ∷ trees) s p stop l front here len h stands adds distinct =
    let parts = stand_split (ended_pieces tree) (flat_map ended_pieces trees) p (record { at = stop; bytes = [] }) stands in
    let m : Place = parts.0 in
    let both = and_parts (line_is_within tree) (list_all line_is_within trees) h in
    let found = and_then_some (add s.progress tree) (add_all trees) (done l) adds in
    let first = ended_line tree p m both.0 parts.1 in
    let line : List ℕ = first.bytes in
    let at : IsLineAt (place_of s line) tree = subst (λ (n : ℕ). IsLineAt (record { at = n; bytes = line }) tree) (sym here) first.alone in
    let later : List NameEntry = entries_in (place_of s line) tree in
    let text : List ℕ = front ++ p.bytes in
    let tail : List NameEntry = map (declared_entry text) (flat_map declares trees) in
    let whole : text ≡ front ++ (line ++ 10 ∷ m.bytes) = ap (λ (zs : List ℕ). front ++ zs) first.split in
    let own : map (declared_entry text) (declares tree) ≡ later =
    ap (λ (zs : List ℕ). map (declared_entry zs) (declares tree)) whole
    ∙ same_entries front line (10 ∷ m.bytes) s.at (here ∙ len) (declares tree) (declares_in (place_of s line) tree at) in
    let good : AreDistinct (s.names ++ (later ++ tail)) =
    subst (λ (es : List NameEntry). AreDistinct (s.names ++ es))
    (map-append (declared_entry text) (declares tree) (flat_map declares trees) ∙ ap (λ (es : List NameEntry). es ++ tail) own) distinct in
    let new = all_new s.names later tail (few_entries (place_of s line) tree) good in
    let t : ListingState = state_after s (place_of s line) tree found.0 in
    let rest = leads trees t m stop l (front ++ (line ++ 10 ∷ [])) (omega (arith, here, first.end))
    (omega (arith, len, first.end, feed_length front line)) both.1 parts.2 found.2
    (subst (λ (zs : List ℕ). AreDistinct ((s.names ++ later) ++ map (declared_entry zs) (flat_map declares trees)))
    (sym (feed_end front line m.bytes ∙ sym whole)) (subst AreDistinct (sym (append_assoc s.names later tail)) good)) in
    record {
      lines = line ∷ rest.lines;
      end = rest.end;
      split = first.split ∙ ap (λ (zs : List ℕ). line ++ 10 ∷ zs) rest.split ∙ sym (append_assoc line (10 ∷ []) (text_of_lines rest.lines));
      is_text = record {
        lines = and_from (is_line line) (list_all is_line rest.lines) first.is_line rest.is_text.lines;
        says = ap (option_and_then (λ u. steps step u rest.lines))
            (step_is s line tree found.0 (line_complete (place_of s line) tree at) new found.1) ∙ rest.is_text.says;
        done = rest.is_text.done;
      };
      done = rest.done;
    }

-- the text of a listing is its lines
pub listing_leads : (text : List ℕ) (l : ListingTree) → IsListing text l → Leads start text l
listing_leads text l is =
    let adds = listing_adds l is.has_node is.has_state in
    let names : declared l ≡ flat_map declares (listing_lines l) = (grown_all (listing_lines l) fresh (done l) adds).1 in
    leads (listing_lines l) start (record { at = 0; bytes = text }) is.end l [] refl refl is.within is.in_place
    adds (subst (λ (ns : List Name). AreDistinct (map (declared_entry text) ns)) names is.declared_once)
