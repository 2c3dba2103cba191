-- A line has no line feed within it, and is read alike whatever follows it.
use Rattle.std.proofs.Common.{◌≡◌, ℕ, zero, suc, ◌+◌, ◌/◌, ◌%◌, Bool, true, false, not, cond, eqb, ltb, List, [], ◌∷◌, ◌++◌, length}
use Rattle.std.proofs.Common.{length-append, flat_map, codes, decimal, Option, Some, None, IsTrue, refl, sym, ap, subst, ◌∙◌, append_assoc}
use Rattle.std.proofs.Common.{arith}
use Rattle.std.specs.Fmt.{digits, digits_onto, digit_glyph}
use Rattle.std.specs.List.{list_all}
use Rattle.std.proofs.lemmas.Bool.{and_parts, and_from, eqb-true, ne_eqb, false≢true, false_from_ne_true}
use Rattle.std.proofs.lemmas.List.{append-nil}
use Rattle.std.proofs.lemmas.List.Folds.{list_all-append}
use Rattle.base_library.proofs.Passes.{list_all_joined, list_all_weaker}
use Rattle.tsl_text.specs.Lines.{is_line_byte}
use Rattle.tsl_text.specs.Names.{is_name_byte, is_usable}
use Rattle.tsl_text.specs.Written.{is_line}
use Rattle.program_listing.specs.declared.listing.Name.{Name}
use Rattle.program_listing.specs.ListingTree.{SurfaceTermTree, bare, applied, SurfaceTermTrees, no_surfaces, more_surfaces, PlacedLine}
use Rattle.program_listing.specs.ListingTree.{branch_line, assignment_line}
use Rattle.program_listing.specs.LineText.{Piece, word, named, Place, Stand, argument_pieces, surface_pieces, surfaces_pieces, LineTree}
use Rattle.program_listing.specs.LineText.{window, node, state, update_pieces, set_pieces, listed_pieces, placed_pieces, equated_pieces}
use Rattle.program_listing.specs.LineText.{left_pieces, line_pieces, ended_pieces, line_is_within}
use Rattle.program_listing.proofs.LinesRead.{IsLineAt}
use Rattle.program_listing.proofs.Standing.{stand_append, stand_split}
use Rattle.program_listing.proofs.WordsRead.{usable_run}

-- ---- bytes of a line

name_is_line : (name : List ℕ) → IsTrue (is_usable name) → is_line name ≡ true
name_is_line name h = list_all_weaker is_name_byte is_line_byte other name (usable_run name h) where
  other : (byte : ℕ) → is_name_byte byte ≡ true → is_line_byte byte ≡ true
  other byte fits = ap not (false_from_ne_true (eqb byte 10) (λ e. false≢true (ap is_name_byte (sym (eqb-true byte 10 e)) ∙ fits)))

-- a number has digits alone
digits_are_line : (k n : ℕ) (acc : List ℕ) → is_line acc ≡ true → is_line (digits_onto k 10 false n acc) ≡ true
digits_are_line zero n acc h = h
digits_are_line (suc k) n acc h = by _ _ (eqb (n / 10) 0) more (digits_are_line k (n / 10) (digit_glyph false (n % 10) ∷ acc) more) where
  glyph : (t : Bool) (d : ℕ) → is_line_byte (cond t (48 + d) (87 + d)) ≡ true
  glyph true d = ap not (ne_eqb (48 + d) 10 (λ e. omega (arith, e)))
  glyph false d = ap not (ne_eqb (87 + d) 10 (λ e. omega (arith, e)))

  more : is_line (digit_glyph false (n % 10) ∷ acc) ≡ true
  more = and_from (is_line_byte (digit_glyph false (n % 10))) (is_line acc) (glyph (ltb (n % 10) 10) (n % 10)) h

  by : (xs ys : List ℕ) (t : Bool) → is_line xs ≡ true → is_line ys ≡ true → is_line (cond t xs ys) ≡ true
  by xs ys true x y = x
  by xs ys false x y = y

decimal_is_line : (n : ℕ) → is_line (decimal n) ≡ true
unfolding digits
decimal_is_line n = digits_are_line 64 n [] refl

-- ---- pieces of a line

abbrev pub is_lined : Piece → Bool
is_lined (word w) = is_line w
is_lined (named n) = true

abbrev pub are_lined : List Piece → Bool
are_lined xs = list_all is_lined xs

lined_many : {A : Type 0} (pieces : A → List Piece) → ((a : A) → are_lined (pieces a) ≡ true) → (as' : List A) →
    are_lined (flat_map pieces as') ≡ true
lined_many pieces each [] = refl
lined_many pieces each (a ∷ as') = list_all_joined is_lined (pieces a) (flat_map pieces as') (each a) (lined_many pieces each as')

mutual
  surface_lined : (v : SurfaceTermTree) → are_lined (surface_pieces v) ≡ true
  surface_lined (bare n) = refl
  surface_lined (applied n no_surfaces) = refl
  surface_lined (applied n (more_surfaces v vs)) = surfaces_lined (more_surfaces v vs)

  surfaces_lined : (vs : SurfaceTermTrees) → are_lined (surfaces_pieces vs) ≡ true
  surfaces_lined no_surfaces = refl
  surfaces_lined (more_surfaces v vs) =
      list_all_joined is_lined (argument_pieces v (surface_pieces v)) (surfaces_pieces vs) (argument_lined v) (surfaces_lined vs)

  argument_lined : (v : SurfaceTermTree) → are_lined (argument_pieces v (surface_pieces v)) ≡ true
  argument_lined (bare n) = refl
  argument_lined (applied n no_surfaces) = refl
  argument_lined (applied n (more_surfaces v vs)) =
      list_all_joined is_lined (surfaces_pieces (more_surfaces v vs)) (word (codes ")") ∷ []) (surfaces_lined (more_surfaces v vs)) refl

update_lined : (n : Name) (v : SurfaceTermTree) → are_lined (update_pieces n v) ≡ true
update_lined n v = simp (list_all-append, surface_lined)

placed_lined : (t : PlacedLine) → are_lined (placed_pieces t) ≡ true
placed_lined t = simp (list_all-append, surface_lined, decimal_is_line)

left_lined : (left : Option PlacedLine) → are_lined (left_pieces left) ≡ true
left_lined None = refl
left_lined (Some t) = simp (list_all-append, surface_lined, decimal_is_line)

pub line_lined : (t : LineTree) → are_lined (line_pieces t) ≡ true
line_lined (window w) =
    list_all_joined is_lined (left_pieces w.left) _ (left_lined w.left)
    (list_all_joined is_lined (placed_pieces w.right) _ (placed_lined w.right)
    (list_all_joined is_lined (flat_map listed_pieces w.updates) _
    (lined_many listed_pieces (λ u. simp (list_all-append, surface_lined, decimal_is_line)) w.updates)
    (lined_many equated_pieces placed_lined w.equalities)))
line_lined (node i (branch_line v a b)) = simp (list_all-append, surface_lined, decimal_is_line)
line_lined (node i (assignment_line us go)) =
    simp (list_all-append, lined_many set_pieces (λ u. update_lined u.signal u.term), decimal_is_line)
line_lined (state i n) = simp decimal_is_line
line_lined _ = refl

-- ---- what stands does so whatever follows

-- the bytes between two places, without a line feed
pub record Span (xs : List Piece) (p q : Place) : Type 0 where
  pub bytes : List ℕ
  pub split : p.bytes ≡ bytes ++ q.bytes
  pub lined : are_lined xs ≡ true → is_line bytes ≡ true
  pub end : q.at ≡ p.at + length bytes
  pub moves : (rest : List ℕ) → Stand xs (record { at = p.at; bytes = bytes ++ rest }) (record { at = q.at; bytes = rest })

-- these bytes, and then those of the other pieces
longer : (x : Piece) (xs : List Piece) (w rest : List ℕ) (p q : Place) → p.bytes ≡ w ++ rest → (is_lined x ≡ true → is_line w ≡ true) →
    ((others : List ℕ) (r : Place) → Stand xs (record { at = p.at + length w; bytes = others }) r →
    Stand (x ∷ xs) (record { at = p.at; bytes = w ++ others }) r) →
    Span xs (record { at = p.at + length w; bytes = rest }) q → Span (x ∷ xs) p q
longer x xs w rest p q split line put more = record {
  bytes = w ++ more.bytes;
  split = split ∙ ap (λ (zs : List ℕ). w ++ zs) more.split ∙ sym (append_assoc w more.bytes q.bytes);
  lined = λ h.
      let parts = and_parts (is_lined x) (are_lined xs) h in
      list_all_joined is_line_byte w more.bytes (line parts.0) (more.lined parts.1);
  end = omega (arith, more.end, length-append w more.bytes);
  moves = λ others.
      subst (λ (zs : List ℕ). Stand (x ∷ xs) (record { at = p.at; bytes = zs }) (record { at = q.at; bytes = others }))
      (sym (append_assoc w more.bytes others)) (put (more.bytes ++ others) _ (more.moves others));
}

span : (xs : List Piece) (p q : Place) → Stand xs p q → Span xs p q
span [] p q s =
    subst (Span [] p) s (record { bytes = []; split = refl; lined = λ h. refl; end = omega arith; moves = λ rest. refl })
span (word w ∷ xs) p q s = longer (word w) xs w s.0 p q s.1 (λ h. h) (λ others r t. (others, refl, t)) (span xs _ q s.2)
span (named n ∷ xs) p q s =
    longer (named n) xs s.0 s.1 p q s.2 (λ h. name_is_line s.0 s.3) (λ others r t. (s.0, others, refl, s.3, s.4, t)) (span xs _ q s.5)

-- ---- a line and its line feed

-- a line with its line feed is read by itself
pub record EndedLine (t : LineTree) (p q : Place) : Type 0 where
  pub bytes : List ℕ
  pub is_line : is_line bytes ≡ true
  pub split : p.bytes ≡ bytes ++ 10 ∷ q.bytes
  pub end : q.at ≡ p.at + (length bytes + 1)
  pub alone : IsLineAt (record { at = p.at; bytes = bytes }) t

pub ended_line : (t : LineTree) (p q : Place) → line_is_within t ≡ true → Stand (ended_pieces t) p q → EndedLine t p q
ended_line t p q within s =
    let parts = stand_split (line_pieces t) (word (codes "\n") ∷ []) p q s in
    let line = span (line_pieces t) p parts.0 parts.1 in
    let after : parts.0.at + 1 ≡ q.at = ap (λ (x : Place). x.at) parts.2.2 in
    record {
      bytes = line.bytes;
      is_line = line.lined (line_lined t);
      split = line.split ∙ ap (λ (zs : List ℕ). line.bytes ++ zs) (parts.2.1 ∙ ap (λ (x : Place). 10 ∷ x.bytes) parts.2.2);
      end = omega (arith, after, line.end);
      alone = record {
        end = record { at = parts.0.at; bytes = [] };
        stands = subst (λ (zs : List ℕ). Stand (line_pieces t) (record { at = p.at; bytes = zs }) (record { at = parts.0.at; bytes = [] }))
            (append-nil line.bytes) (line.moves []);
        ends = refl;
        within = within;
      };
    }

-- a line that stands alone stands before a line feed too
pub line_before_feed : (t : LineTree) (p : Place) → IsLineAt p t → (rest : List ℕ) →
    Stand (ended_pieces t) (record { at = p.at; bytes = p.bytes ++ 10 ∷ rest })
    (record { at = p.at + (length p.bytes + 1); bytes = rest })
line_before_feed t p l rest =
    let line = span (line_pieces t) p l.end l.stands in
    let whole : line.bytes ≡ p.bytes = sym (append-nil line.bytes) ∙ ap (λ (zs : List ℕ). line.bytes ++ zs) (sym l.ends) ∙ sym line.split in
    let at : l.end.at + 1 ≡ p.at + (length p.bytes + 1) = omega (arith, line.end, ap length whole) in
    stand_append (line_pieces t) (word (codes "\n") ∷ []) (record { at = p.at; bytes = p.bytes ++ 10 ∷ rest })
    (record { at = l.end.at; bytes = 10 ∷ rest }) (record { at = p.at + (length p.bytes + 1); bytes = rest })
    (subst (λ (zs : List ℕ). Stand (line_pieces t) (record { at = p.at; bytes = zs ++ 10 ∷ rest })
    (record { at = l.end.at; bytes = 10 ∷ rest }))
    whole (line.moves (10 ∷ rest)))
    (rest, refl, ap (λ (n : ℕ). record { at = n; bytes = rest }) at)
