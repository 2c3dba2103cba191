-- Terms and tests are read exactly.
use Rattle.std.proofs.Common.{◌≡◌, ℕ, zero, suc, ◌+◌, ◌≤◌, Bool, true, false, not, ◌&&◌, cond, leb, max, List, [], ◌∷◌, ◌++◌, length, drop}
use Rattle.std.proofs.Common.{flat_map, codes, Option, Some, None, IfSome, IsTrue, option_and_then, refl, sym, ap, subst, ◌∙◌, arith}
use Rattle.std.specs.Char.{is_ascii_digit}
use Rattle.std.specs.List.{list_all, prefix_len}
use Rattle.std.proofs.Math.Seq.{drop-append_seam}
use Rattle.std.proofs.Math.Nat.{le-max_left, le-max_right, max-le}
use Rattle.std.proofs.lemmas.Bool.{and_parts, and_from, cond-true, cond-false, leb-true, le-leb, false_from_ne_true, or_right, ne_eqb}
use Rattle.std.proofs.lemmas.Bool.{false≢true}
use Rattle.std.proofs.lemmas.Option.{IfSome_then}
use Rattle.base_library.proofs.Booleans.{same_tests}
use Rattle.tsl_text.specs.Names.{is_name_start, is_name_byte, is_name_text, is_reserved, is_usable}
use Rattle.term_text.proofs.Fronts.{name_first, no_digit_begins, no_bracket_begins}
use Rattle.program_listing.specs.declared.listing.Name.{Name}
use Rattle.program_listing.specs.ListingTree.{SurfaceTermTree, bare, applied, SurfaceTermTrees, no_surfaces, more_surfaces}
use Rattle.program_listing.specs.LineText.{Piece, word, named, Place, Stand, argument_pieces, applied_pieces, surface_pieces}
use Rattle.program_listing.specs.LineText.{surfaces_pieces, bracketed_surface, surface_brackets, surfaces_brackets, is_shallow}
use Rattle.program_listing.specs.internal.LineReading.{LineReader, Shrinks, mapped, nothing, either, begins, surfaces_of, is_open}
use Rattle.program_listing.specs.internal.LineReading.{number_follows, argument_begins, argument_follows, tail_of, with_tail, tail}
use Rattle.program_listing.specs.internal.LineReading.{surface_by, short, argument_surface, spaced_argument, arguments, surface_with}
use Rattle.program_listing.specs.internal.LineReading.{has_arguments, if_applied, only_applied, surface_in_brackets, surface}
use Rattle.program_listing.specs.internal.LineOrder.{is_nil}
use Rattle.tsl_terms.specs.WellFormed.{deepest}
use Rattle.program_listing.proofs.Strips.{past_none}
use Rattle.program_listing.proofs.Exactly.{ReadAt, Reads, Any, if_mapped, if_then, at_front, nothing_reads, prefixed_reads, closed_reads}
use Rattle.program_listing.proofs.Exactly.{restated, mapped_reads, either_sound, pair_reads, repeat_reads, shrinks}
use Rattle.program_listing.proofs.WordsRead.{NoLetter, prefix_len_run, usable_run, name_reads}

-- ---- what may follow

-- what may follow an argument: no letter, no bracket, and no number after a space
pub record EndsArgument (bytes : List ℕ) : Type 0 where
  pub no_letter : NoLetter bytes
  pub no_open : begins is_open bytes ≡ false
  pub no_number : number_follows bytes ≡ false

-- what may follow a term or a test: it may follow an argument, and is none
abbrev pub EndsSurfaceTerm : List ℕ → Type 0
EndsSurfaceTerm bytes = (argument_follows bytes ≡ false) × EndsArgument bytes

-- ---- what names begin with

first_letter : (name rest : List ℕ) → IsTrue (is_usable name) → (c : ℕ) × (cs : List ℕ) × (name ++ rest ≡ c ∷ cs) × IsTrue (is_name_start c)
first_letter name rest h =
    let first = name_first name (and_parts (is_name_text name) (not (is_reserved name)) h).0 in
    (first.0, first.1 ++ rest, ap (λ (zs : List ℕ). zs ++ rest) first.2, first.3)

-- a term or a test begins with a letter
pub surface_letter : (v : SurfaceTermTree) (p q : Place) → Stand (surface_pieces v) p q →
    (c : ℕ) × (cs : List ℕ) × (p.bytes ≡ c ∷ cs) × IsTrue (is_name_start c)
surface_letter (bare n) p q s = let f = first_letter s.0 s.1 s.3 in (f.0, f.1, s.2 ∙ f.2, f.3)
surface_letter (applied n vs) p q s = let f = first_letter s.0 s.1 s.3 in (f.0, f.1, s.2 ∙ f.2, f.3)

no_bracket : (v : SurfaceTermTree) (p q : Place) → Stand (surface_pieces v) p q → begins is_open p.bytes ≡ false
no_bracket v p q s =
    let f = surface_letter v p q s in ap (begins is_open) f.2 ∙ ne_eqb f.0 40 (λ e. no_bracket_begins f.0 f.3 (sym e))

-- ---- a name and what follows it

abbrev pub own_pieces : SurfaceTermTree → List Piece
own_pieces v = argument_pieces v (surface_pieces v)

abbrev spaced_pieces : SurfaceTermTree → List Piece
spaced_pieces v = word (codes " ") ∷ own_pieces v

abbrev listed : SurfaceTermTrees → List SurfaceTermTree
listed no_surfaces = []
listed (more_surfaces v vs) = v ∷ listed vs

listed_of : (vs : List SurfaceTermTree) → listed (surfaces_of vs) ≡ vs
listed_of [] = refl
listed_of (v ∷ vs) = ap (λ (us : List SurfaceTermTree). v ∷ us) (listed_of vs)

of_listed : (vs : SurfaceTermTrees) → surfaces_of (listed vs) ≡ vs
of_listed no_surfaces = refl
of_listed (more_surfaces v vs) = ap (more_surfaces v) (of_listed vs)

pieces_listed : (vs : SurfaceTermTrees) → flat_map spaced_pieces (listed vs) ≡ surfaces_pieces vs
pieces_listed no_surfaces = refl
pieces_listed (more_surfaces v vs) = ap (λ (xs : List Piece). word (codes " ") ∷ (own_pieces v ++ xs)) (pieces_listed vs)

abbrev tail_pieces : Option SurfaceTermTrees → List Piece
tail_pieces None = []
tail_pieces (Some vs) = applied_pieces vs (surfaces_pieces vs)

abbrev in_tail : Option SurfaceTermTrees → List SurfaceTermTree
in_tail None = []
in_tail (Some vs) = listed vs

abbrev parts_of : SurfaceTermTree → Name × Option SurfaceTermTrees
parts_of (bare n) = (n, None)
parts_of (applied n vs) = (n, Some vs)

abbrev arguments_of : SurfaceTermTree → List SurfaceTermTree
arguments_of v = in_tail (parts_of v).1

-- with any reader of arguments
module _ {reader : LineReader (List SurfaceTermTree)} {good : List SurfaceTermTree → Bool} {Ends : List ℕ → Type 0}
    (h : Reads reader (flat_map spaced_pieces) good Ends) (none : good [] ≡ true)
    (ended : (bytes : List ℕ) → Ends bytes → EndsArgument bytes) where
  tail_read : (p q : Place) (vs : List SurfaceTermTree) → Stand (flat_map spaced_pieces vs) p q → IsTrue (good vs) →
      ReadAt tail_pieces (λ t. good (in_tail t)) p (tail_of vs, q)
  tail_read p q [] s fine = (s, fine)
  tail_read p q (v ∷ vs) s fine =
      let same = listed_of (v ∷ vs) in (
        subst (λ (xs : List Piece). Stand xs p q) (ap (flat_map spaced_pieces) (sym same) ∙ pieces_listed (surfaces_of (v ∷ vs))) s,
        ap good same ∙ fine,
      )

  -- no `()` follows
  tail_is : (p q : Place) (vs : List SurfaceTermTree) → begins is_open p.bytes ≡ false → reader p ≡ Some (vs, q) →
      tail reader p ≡ Some (tail_of vs, q)
  tail_is p q vs shut e =
      ap (λ (o : Option Place). either o (nothing (Some no_surfaces)) (mapped tail_of (reader p)))
      (past_none (codes "()") p (λ rest f. false≢true (sym shut ∙ ap (begins is_open) f)))
      ∙ ap (mapped tail_of) e

  tail_reads : Reads (tail reader) tail_pieces (λ t. good (in_tail t)) Ends
  tail_reads = record { sound = sound; complete = complete } where
    sound : (p : Place) → IfSome (tail reader p) (ReadAt tail_pieces (λ t. good (in_tail t)) p)
    sound p =
        either_sound _ _ (codes "()") nothing_reads (λ u. Some no_surfaces) (λ u. refl) (λ u. sym none) p _
        (if_mapped _ (reader p) _ (h.sound p) (λ r s. tail_read p r.1 r.0 s.0 s.1))

    complete : (p : Place) (t : Option SurfaceTermTrees) (q : Place) → Stand (tail_pieces t) p q → IsTrue (good (in_tail t)) →
        Ends q.bytes → tail reader p ≡ Some (t, q)
    complete p None q s fine ends =
        tail_is p q [] (ap (λ (x : Place). begins is_open x.bytes) s ∙ (ended q.bytes ends).no_open) (h.complete p [] q s fine ends)
    complete p (Some no_surfaces) q s fine ends =
        at_front (tail reader) p (codes "()" ++ s.0) _ s.1 (ap (λ (x : Place). Some (Some no_surfaces, x)) s.2)
    complete p (Some (more_surfaces v vs)) q s fine ends =
        let us : SurfaceTermTrees = more_surfaces v vs in
        tail_is p q (listed us) (ap (begins is_open) s.1)
        (h.complete p (listed us) q (subst (λ (xs : List Piece). Stand xs p q) (sym (pieces_listed us)) s) fine ends)
        ∙ ap (λ (ws : SurfaceTermTrees). Some (Some ws, q)) (of_listed us)

  surface_by_reads : Reads (surface_by reader) surface_pieces (λ v. good (arguments_of v)) Ends
  surface_by_reads = mapped_reads with_tail parts_of again same keeps (pair_reads meets name_reads tail_reads) where
    again : (v : SurfaceTermTree) → with_tail (parts_of v) ≡ v
    again (bare n) = refl
    again (applied n vs) = refl

    same : (r : Name × Option SurfaceTermTrees) → IsTrue (true && good (in_tail r.1)) →
        named r.0 ∷ tail_pieces r.1 ≡ surface_pieces (with_tail r)
    same (n, None) fine = refl
    same (n, Some vs) fine = refl

    keeps : (r : Name × Option SurfaceTermTrees) → (true && good (in_tail r.1)) ≡ good (arguments_of (with_tail r))
    keeps (n, None) = refl
    keeps (n, Some vs) = refl

    meets : (t : Option SurfaceTermTrees) (p q : Place) → Stand (tail_pieces t) p q → IsTrue (good (in_tail t)) → Ends q.bytes →
        NoLetter p.bytes
    meets None p q s fine ends = ap (λ (x : Place). begins is_name_byte x.bytes) s ∙ (ended q.bytes ends).no_letter
    meets (Some no_surfaces) p q s fine ends = ap (begins is_name_byte) s.1
    meets (Some (more_surfaces v vs)) p q s fine ends = ap (begins is_name_byte) s.1

-- ---- one argument

abbrev pub own_brackets : SurfaceTermTree → ℕ
own_brackets v = bracketed_surface v (surface_brackets v)

abbrev pub argument_is_within : ℕ → SurfaceTermTree → Bool
argument_is_within levels_left v = leb (own_brackets v) levels_left

abbrev applied_within : ℕ → SurfaceTermTree → Bool
applied_within levels_left v = argument_is_within levels_left v && has_arguments v

-- an argument without brackets
short_reads : Reads short surface_pieces (λ v. is_nil (arguments_of v)) EndsArgument
short_reads = surface_by_reads (record { sound = λ p. (refl, refl); complete = complete }) refl (λ bytes ends. ends) where
  complete : (p : Place) (vs : List SurfaceTermTree) (q : Place) → Stand (flat_map spaced_pieces vs) p q → IsTrue (is_nil vs) →
      EndsArgument q.bytes → nothing [] p ≡ Some (vs, q)
  complete p [] q s fine ends = ap (λ (x : Place). Some ([], x)) s
  complete p (v ∷ vs) q s fine ends = absurd (false≢true fine)

-- it begins with a bracket or with a name that no number follows
named_starts : (name rest : List ℕ) (p : Place) → p.bytes ≡ name ++ rest → IsTrue (is_usable name) → NoLetter rest →
    number_follows rest ≡ false → (argument_begins p.bytes ≡ true) × (begins is_ascii_digit p.bytes ≡ false)
named_starts name rest p e usable letter number =
    let f = first_letter name rest usable in
    let len : prefix_len is_name_byte p.bytes ≡ length name =
    ap (prefix_len is_name_byte) e ∙ prefix_len_run is_name_byte name rest (usable_run name usable) letter in
    let back : drop (prefix_len is_name_byte p.bytes) p.bytes ≡ rest =
    ap (λ (k : ℕ). drop k p.bytes) len ∙ ap (drop (length name)) e ∙ drop-append_seam name rest in (
      or_right (begins is_open p.bytes) _
          (and_from (begins is_name_start p.bytes) _ (ap (begins is_name_start) (e ∙ f.2) ∙ f.3)
          (ap (λ (zs : List ℕ). not (number_follows zs)) back ∙ ap not number)),
      ap (begins is_ascii_digit) (e ∙ f.2) ∙ false_from_ne_true (is_ascii_digit f.0) (λ d. no_digit_begins f.0 f.3 d),
    )

argument_starts : (v : SurfaceTermTree) (p q : Place) → Stand (own_pieces v) p q → EndsArgument q.bytes →
    (argument_begins p.bytes ≡ true) × (begins is_ascii_digit p.bytes ≡ false)
argument_starts (bare n) p q s ends =
    let ended : EndsArgument s.1 = subst (λ (x : Place). EndsArgument x.bytes) (sym s.5) ends in
    named_starts s.0 s.1 p s.2 s.3 ended.no_letter ended.no_number
argument_starts (applied n no_surfaces) p q s ends =
    named_starts s.0 s.1 p s.2 s.3 (ap (begins is_name_byte) s.5.1) (ap number_follows s.5.1)
argument_starts (applied n (more_surfaces v vs)) p q s ends = (ap argument_begins s.1, ap (begins is_ascii_digit) s.1)

-- with the space before it
spaced_starts : (v : SurfaceTermTree) (p q : Place) → Stand (spaced_pieces v) p q → EndsArgument q.bytes →
    (argument_follows p.bytes ≡ true) × EndsArgument p.bytes
spaced_starts v p q s ends =
    let inner = argument_starts v (record { at = p.at + 1; bytes = s.0 }) q s.2 ends in (
      ap argument_follows s.1 ∙ inner.0,
      record {
        no_letter = ap (begins is_name_byte) s.1;
        no_open = ap (begins is_open) s.1;
        no_number = ap number_follows s.1 ∙ inner.1;
      },
    )

-- where those in brackets are read
module _ (brackets : LineReader SurfaceTermTree) (levels_left : ℕ)
    (h : Reads brackets own_pieces (applied_within levels_left) Any) where
  argument_reads : Reads (argument_surface brackets) own_pieces (argument_is_within levels_left) EndsArgument
  argument_reads = record { sound = sound; complete = complete } where
    short_within : (v : SurfaceTermTree) (p q : Place) → ReadAt surface_pieces (λ v. is_nil (arguments_of v)) p (v, q) →
        ReadAt own_pieces (argument_is_within levels_left) p (v, q)
    short_within (bare n) p q s = (s.0, le-leb 0 levels_left (omega arith))
    short_within (applied n no_surfaces) p q s = (s.0, le-leb 0 levels_left (omega arith))
    short_within (applied n (more_surfaces v vs)) p q s = absurd (false≢true s.1)

    sound : (p : Place) → IfSome (argument_surface brackets p) (ReadAt own_pieces (argument_is_within levels_left) p)
    sound p = by (begins is_open p.bytes) where
      by : (t : Bool) → IfSome (cond t (brackets p) (short p)) (ReadAt own_pieces (argument_is_within levels_left) p)
      by true = IfSome_then (brackets p) (h.sound p)
          (λ r s. (s.0, (and_parts (argument_is_within levels_left r.0) (has_arguments r.0) s.1).0))
      by false = IfSome_then (short p) (short_reads.sound p) (λ r s. short_within r.0 p r.1 s)

    by_short : (v : SurfaceTermTree) (p q : Place) → Stand (surface_pieces v) p q → IsTrue (is_nil (arguments_of v)) →
        EndsArgument q.bytes → argument_surface brackets p ≡ Some (v, q)
    by_short v p q s none ends =
        cond-false (begins is_open p.bytes) (brackets p) (short p) (no_bracket v p q s) ∙ short_reads.complete p v q s none ends

    complete : (p : Place) (v : SurfaceTermTree) (q : Place) → Stand (own_pieces v) p q → IsTrue (argument_is_within levels_left v) →
        EndsArgument q.bytes → argument_surface brackets p ≡ Some (v, q)
    complete p (bare n) q s good ends = by_short (bare n) p q s refl ends
    complete p (applied n no_surfaces) q s good ends = by_short (applied n no_surfaces) p q s refl ends
    complete p (applied n (more_surfaces v vs)) q s good ends =
        let fine = and_from (argument_is_within levels_left (applied n (more_surfaces v vs))) true good refl in
        cond-true (begins is_open p.bytes) (brackets p) (short p) (ap (begins is_open) s.1) ∙ h.complete p _ q s fine tt

  spaced_reads : Reads (spaced_argument brackets) spaced_pieces (argument_is_within levels_left) EndsArgument
  spaced_reads = prefixed_reads (codes " ") argument_reads

  -- each takes its space at least
  spaced_shrinks : Shrinks (spaced_argument brackets)
  spaced_shrinks = shrinks 32 [] own_pieces spaced_reads

  arguments_read : Reads (arguments brackets) (flat_map spaced_pieces) (list_all (argument_is_within levels_left)) EndsSurfaceTerm
  arguments_read =
      repeat_reads argument_follows spaced_reads spaced_shrinks (λ v p q s good ends. spaced_starts v p q s ends) (λ bytes ends. ends)

-- ---- a surface term

level_max : (a b levels_left : ℕ) → (leb a levels_left && leb b levels_left) ≡ leb (max a b) levels_left
level_max a b levels_left = same_tests _ _ both each where
  both : (leb a levels_left && leb b levels_left) ≡ true → leb (max a b) levels_left ≡ true
  both h =
      let parts = and_parts (leb a levels_left) (leb b levels_left) h in
      le-leb (max a b) levels_left (max-le (leb-true a levels_left parts.0) (leb-true b levels_left parts.1))

  each : leb (max a b) levels_left ≡ true → (leb a levels_left && leb b levels_left) ≡ true
  each h =
      let deep : max a b ≤ levels_left = leb-true (max a b) levels_left h in
      and_from (leb a levels_left) (leb b levels_left) (le-leb a levels_left (omega (arith, deep, le-max_left a b)))
      (le-leb b levels_left (omega (arith, deep, le-max_right a b)))

list_within : (levels_left : ℕ) (vs : SurfaceTermTrees) →
    list_all (argument_is_within levels_left) (listed vs) ≡ leb (surfaces_brackets vs) levels_left
list_within levels_left no_surfaces = sym (le-leb 0 levels_left (omega arith))
list_within levels_left (more_surfaces v vs) =
    ap (λ (t : Bool). argument_is_within levels_left v && t) (list_within levels_left vs)
    ∙ level_max (own_brackets v) (surfaces_brackets vs) levels_left

abbrev pub is_within : ℕ → SurfaceTermTree → Bool
is_within levels_left v = leb (surface_brackets v) levels_left

surface_with_reads : (brackets : LineReader SurfaceTermTree) (levels_left : ℕ) →
    Reads brackets own_pieces (applied_within levels_left) Any →
    Reads (surface_with brackets) surface_pieces (is_within levels_left) EndsSurfaceTerm
surface_with_reads brackets levels_left h =
    restated (λ v good. refl) keeps (surface_by_reads (arguments_read brackets levels_left h) refl (λ bytes ends. ends.1))
  where
    keeps : (v : SurfaceTermTree) → list_all (argument_is_within levels_left) (arguments_of v) ≡ is_within levels_left v
    keeps (bare n) = sym (le-leb 0 levels_left (omega arith))
    keeps (applied n vs) = list_within levels_left vs

-- ---- brackets, level by level

-- what has arguments
only_reads : {reader : LineReader SurfaceTermTree} {within : SurfaceTermTree → Bool} {Ends : List ℕ → Type 0} →
    Reads reader surface_pieces within Ends → Reads (only_applied reader) surface_pieces (λ v. within v && has_arguments v) Ends
only_reads {reader} {within} h = record {
  sound = λ p. if_then _ (reader p) if_applied (h.sound p) (λ r s. by p r (has_arguments r.0) refl s);
  complete = λ p v q s good ends.
      let both = and_parts (within v) (has_arguments v) good in
      ap (option_and_then if_applied) (h.complete p v q s both.0 ends) ∙ cond-true (has_arguments v) (Some (v, q)) None both.1;
}
  where
    by : (p : Place) (r : SurfaceTermTree × Place) (t : Bool) → has_arguments r.0 ≡ t → ReadAt surface_pieces within p r →
        IfSome (cond t (Some r) None) (ReadAt surface_pieces (λ v. within v && has_arguments v) p)
    by p r false has s = tt
    by p r true has s = (s.0, and_from (within r.0) (has_arguments r.0) s.1 has)

pub brackets_read : (levels_left : ℕ) → Reads (surface_in_brackets levels_left) own_pieces (applied_within levels_left) Any
unfolding surface_in_brackets
brackets_read zero = record { sound = λ p. tt; complete = λ p v q s good ends. absurd (none v good) } where
  none : (v : SurfaceTermTree) → IsTrue (applied_within 0 v) → ⊥
  none (bare n) h = false≢true h
  none (applied n no_surfaces) h = false≢true h
  none (applied n (more_surfaces v vs)) h =
      let levels : ℕ = 1 + surfaces_brackets (more_surfaces v vs) in
      let deep = leb-true levels 0 (and_parts (leb levels 0) true h).0 in
      omega (arith, deep)
brackets_read (suc levels_left) =
    restated same keeps
    (closed_reads (codes ")") (λ rest. (refl, record { no_letter = refl; no_open = refl; no_number = refl }))
    (prefixed_reads (codes "(")
    (only_reads (surface_with_reads (surface_in_brackets levels_left) levels_left (brackets_read levels_left)))))
  where
    same : (v : SurfaceTermTree) → IsTrue (is_within levels_left v && has_arguments v) →
        word (codes "(") ∷ (surface_pieces v ++ word (codes ")") ∷ []) ≡ own_pieces v
    same (bare n) h = absurd (false≢true (and_parts (is_within levels_left (bare n)) false h).1)
    same (applied n no_surfaces) h = absurd (false≢true (and_parts (is_within levels_left (applied n no_surfaces)) false h).1)
    same (applied n (more_surfaces v vs)) h = refl

    and_none : (a b : Bool) → (a && false) ≡ (b && false)
    and_none false false = refl
    and_none false true = refl
    and_none true false = refl
    and_none true true = refl

    keeps : (v : SurfaceTermTree) → (is_within levels_left v && has_arguments v) ≡ applied_within (suc levels_left) v
    keeps (bare n) = and_none _ _
    keeps (applied n no_surfaces) = and_none _ _
    keeps (applied n (more_surfaces v vs)) =
        ap (λ (t : Bool). t && true) (same_tests (leb brackets levels_left) (leb (1 + brackets) (suc levels_left))
        (λ h. let k = leb-true brackets levels_left h in le-leb (1 + brackets) (suc levels_left) (omega (arith, k)))
        (λ h. let k = leb-true (1 + brackets) (suc levels_left) h in le-leb brackets levels_left (omega (arith, k))))
      where
        brackets : ℕ
        brackets = surfaces_brackets (more_surfaces v vs)

pub surface_reads : Reads surface surface_pieces is_shallow EndsSurfaceTerm
surface_reads = surface_with_reads (surface_in_brackets deepest) deepest (brackets_read deepest)

-- each argument takes a byte at least
pub arguments_shrink : (levels_left : ℕ) → Shrinks (spaced_argument (surface_in_brackets levels_left))
arguments_shrink levels_left = spaced_shrinks (surface_in_brackets levels_left) levels_left (brackets_read levels_left)
