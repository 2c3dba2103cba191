-- Names and numbers are read exactly.
use Rattle.std.proofs.Common.{◌≡◌, ℕ, ◌+◌, ◌^◌, ◌<◌, Bool, true, false, not, cond, List, [], ◌∷◌, ◌++◌, length, take, drop}
use Rattle.std.proofs.Common.{take-append-drop, decimal, Option, Some, None, option_map, IfSome, IsTrue, refl, sym, ap, ◌∙◌, arith}
use Rattle.std.specs.Char.{is_ascii_digit}
use Rattle.std.specs.List.{list_all, prefix_len}
use Rattle.std.proofs.Math.Seq.{take-append_seam, drop-append_seam}
use Rattle.std.proofs.lemmas.Bool.{and_parts, cond-true, cond-false, lt-ltb, ltb-true}
use Rattle.std.proofs.lemmas.List.Folds.{length-prefix_len}
use Rattle.tsl_text.specs.Names.{is_name_byte, is_name_text, is_reserved, is_usable}
use Rattle.tsl_text.specs.Numbers.{plain_number_in}
use Rattle.tsl_text.proofs.NumberLaws.{decimal_digits, decimal_is_read, read_is_decimal}
use Rattle.term_text.proofs.Fronts.{name_run}
use Rattle.line_formats.proofs.LeafLaws.{read_is_short}
use Rattle.program_listing.specs.declared.listing.Name.{Name}
use Rattle.program_listing.specs.LineText.{Piece, word, named, Place, is_short}
use Rattle.program_listing.specs.internal.LineReading.{begins, skipped, name_of_length, first_name, number_of_length, first_number}
use Rattle.program_listing.proofs.Exactly.{ReadAt, Reads}

-- a run of bytes at the front is as long as it can be
pub prefix_len_run : (p : ℕ → Bool) (front rest : List ℕ) → list_all p front ≡ true → begins p rest ≡ false →
    prefix_len p (front ++ rest) ≡ length front
prefix_len_run p [] [] all ends = refl
prefix_len_run p [] (y ∷ rest) all ends = cond-false (p y) (1 + prefix_len p rest) 0 ends
prefix_len_run p (x ∷ front) rest all ends =
    let parts = and_parts (p x) (list_all p front) all in
    let more : prefix_len p (front ++ rest) ≡ length front = prefix_len_run p front rest parts.1 ends in
    cond-true (p x) (1 + prefix_len p (front ++ rest)) 0 parts.0 ∙ omega arith

-- so it is read whole
record FrontRun (test : ℕ → Bool) (p : Place) (front rest : List ℕ) : Type 0 where
  len : prefix_len test p.bytes ≡ length front
  is : take (length front) p.bytes ≡ front
  past : skipped (length front) p ≡ record { at = p.at + length front; bytes = rest }

front_run : (test : ℕ → Bool) (p q : Place) (front rest : List ℕ) → p.bytes ≡ front ++ rest → list_all test front ≡ true →
    ◌≡◌ {A = Place} (record { at = p.at + length front; bytes = rest }) q → begins test q.bytes ≡ false → FrontRun test p front rest
front_run test p q front rest e all next ends = record {
  len = ap (prefix_len test) e ∙ prefix_len_run test front rest all (ap (λ (x : Place). begins test x.bytes) next ∙ ends);
  is = ap (take (length front)) e ∙ take-append_seam front rest;
  past = ap (λ (bytes : List ℕ). record { at = p.at + length front; bytes = bytes })
      (ap (drop (length front)) e ∙ drop-append_seam front rest);
}

-- ---- names

abbrev pub NoLetter : List ℕ → Type 0
NoLetter bytes = begins is_name_byte bytes ≡ false

abbrev pub name_pieces : Name → List Piece
name_pieces n = named n ∷ []

abbrev pub always : {A : Type 0} → A → Bool
always a = true

pub usable_run : (name : List ℕ) → IsTrue (is_usable name) → list_all is_name_byte name ≡ true
usable_run name h = name_run name (and_parts (is_name_text name) (not (is_reserved name)) h).0

pub name_reads : Reads first_name name_pieces always NoLetter
name_reads = record {
  sound = λ p. named_at p (prefix_len is_name_byte p.bytes) (length-prefix_len is_name_byte p.bytes) (is_usable (take _ p.bytes)) refl;
  complete = λ p n q s good ends.
      let run = front_run is_name_byte p q s.0 s.1 s.2 (usable_run s.0 s.3) s.5 ends in
      ap (λ (k : ℕ). name_of_length k p) run.len ∙ cond-true (is_usable (take (length s.0) p.bytes)) _ None (ap is_usable run.is ∙ s.3)
      ∙ (λ i. Some (sym s.4 i, (run.past ∙ s.5) i));
}
  where
    named_at : (p : Place) (len : ℕ) → length (take len p.bytes) ≡ len → (t : Bool) → is_usable (take len p.bytes) ≡ t →
        IfSome (cond {A = Option (Name × Place)} t (Some (record { start = p.at; end = p.at + len }, skipped len p)) None)
        (ReadAt name_pieces always p)
    named_at p len same false h = tt
    named_at p len same true h = (
      (
        take len p.bytes,
        drop len p.bytes,
        sym (take-append-drop len p.bytes),
        h,
        ap (λ (k : ℕ). record { start = p.at; end = p.at + k }) (sym same),
        ap (λ (k : ℕ). record { at = p.at + k; bytes = drop len p.bytes }) same,
      ),
      refl,
    )

-- ---- numbers

abbrev pub NoDigit : List ℕ → Type 0
NoDigit bytes = begins is_ascii_digit bytes ≡ false

abbrev pub number_pieces : ℕ → List Piece
number_pieces n = word (decimal n) ∷ []

pub short_below : (n : ℕ) → IsTrue (is_short n) → n < 10 ^ 18
short_below n h = ltb-true n (10 ^ 18) h

pub number_reads : Reads first_number number_pieces is_short NoDigit
number_reads = record {
  sound = λ p.
      let len : ℕ = prefix_len is_ascii_digit p.bytes in
      number_at p len (length-prefix_len is_ascii_digit p.bytes) (plain_number_in (take len p.bytes)) refl;
  complete = λ p n q s good ends.
      let below : n < 10 ^ 18 = short_below n good in
      let run = front_run is_ascii_digit p q (decimal n) s.0 s.1 (decimal_digits n (omega (arith, below))) s.2 ends in
      ap (λ (k : ℕ). number_of_length k p) run.len
      ∙ (λ i. option_map {U = ℕ × Place} (λ (k : ℕ). (k, (run.past ∙ s.2) i)) ((ap plain_number_in run.is ∙ decimal_is_read n below) i));
}
  where
    number_at : (p : Place) (len : ℕ) → length (take len p.bytes) ≡ len → (o : Option ℕ) → plain_number_in (take len p.bytes) ≡ o →
        IfSome (option_map {U = ℕ × Place} (λ (k : ℕ). (k, skipped len p)) o) (ReadAt number_pieces is_short p)
    number_at p len same None h = tt
    number_at p len same (Some n) h =
        let digits : take len p.bytes ≡ decimal n = read_is_decimal (take len p.bytes) n h in (
          (
            drop len p.bytes,
            sym (take-append-drop len p.bytes) ∙ ap (λ (ds : List ℕ). ds ++ drop len p.bytes) digits,
            ap (λ (k : ℕ). record { at = p.at + k; bytes = drop len p.bytes }) (ap length (sym digits) ∙ same),
          ),
          lt-ltb n (10 ^ 18) (read_is_short (take len p.bytes) n h),
        )
