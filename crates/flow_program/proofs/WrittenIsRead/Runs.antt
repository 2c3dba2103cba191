-- Pieces that spell bytes, wherever they stand.
use Rattle.std.proofs.Common.{◌≡◌, ℕ, ◌-◌, true, List, [], ◌∷◌, ◌++◌, length, take, drop, refl, sym, ap, subst, ◌∙◌, arith}
use Rattle.std.proofs.Common.{append_assoc, length-append}
use Rattle.std.proofs.lemmas.List.{append-nil}
use Rattle.std.proofs.Math.Seq.{take-append_seam, drop-append_seam}
use Rattle.tsl_text.specs.Names.{is_usable}
use Rattle.program_listing.specs.declared.listing.Name.{Name}
use Rattle.program_listing.specs.LineText.{Piece, word, named, Place, Stand}
use Rattle.program_listing.specs.Listing.{name_bytes}
use Rattle.program_listing.proofs.Standing.{stand_append}

-- the place after these bytes, where those are left
abbrev pub at : List ℕ → List ℕ → Place
at front bytes = record { at = length front; bytes = bytes }

-- a name that stands after these bytes
abbrev pub name_at : List ℕ → List ℕ → Name
name_at front name = record { start = length front; end = length (front ++ name) }

-- where the text goes on with these bytes after a front, it has them there
pub bytes_at : (text front name rest : List ℕ) → text ≡ front ++ (name ++ rest) → name_bytes text (name_at front name) ≡ name
bytes_at text front name rest is =
    let count : length (front ++ name) - length front ≡ length name = omega (arith, length-append front name) in
    ap (λ n. take n (drop (length front) text)) count
    ∙ ap (λ bytes. take (length name) (drop (length front) bytes)) is
    ∙ ap (take (length name)) (drop-append_seam front (name ++ rest))
    ∙ take-append_seam name rest

-- A part of a text: wherever these bytes stand in the text, a value is made whose pieces stand there.
pub record Part (text : List ℕ) {X : Type 0} (pieces : X → List Piece) (bytes : List ℕ) : Type 0 where
  pub found : (front rest : List ℕ) → text ≡ front ++ (bytes ++ rest) →
      (x : X) × Stand (pieces x) (at front (bytes ++ rest)) (at (front ++ bytes) rest)

pub nothing : {text : List ℕ} → Part text (λ (u : Unit {0}). []) []
nothing = record { found = λ front rest is. (tt, λ i. at (sym (append-nil front) i) rest) }

pub exactly : {text : List ℕ} (w : List ℕ) → Part text (λ (u : Unit {0}). word w ∷ []) w
exactly w = record {
  found = λ front rest is. (tt, (rest, refl, λ i. record { at = sym (length-append front w) i; bytes = rest }));
}

-- a name that may be one, of which is kept what holds of its place
pub a_name : {text : List ℕ} {X : Type 0} (name : List ℕ) → is_usable name ≡ true → (place : X → Name) →
    ((n : Name) → name_bytes text n ≡ name → (x : X) × (place x ≡ n)) → Part text (λ x. named (place x) ∷ []) name
a_name {text = text} name usable place kept = record {
  found = λ front rest is.
      let x = kept (name_at front name) (bytes_at text front name rest is) in (
        x.0,
        (
          name,
          rest,
          refl,
          usable,
          x.1 ∙ (λ i. record { start = length front; end = length-append front name i }),
          λ i. record { at = sym (length-append front name) i; bytes = rest },
        ),
      );
}

pub beside : {text : List ℕ} {X Y : Type 0} {p : X → List Piece} {q : Y → List Piece} {a b : List ℕ} → Part text p a → Part text q b →
    Part text (λ (both : X × Y). p both.0 ++ q both.1) (a ++ b)
beside {p = p} {q = q} {a = a} {b = b} first second = record {
  found = λ front rest is.
      let x = first.found front (b ++ rest) (is ∙ simp append_assoc) in
      let y = second.found (front ++ a) rest (is ∙ simp append_assoc) in
      let stands = stand_append (p x.0) (q y.0) _ _ _ x.1 y.1 in
      ((x.0, y.0), simp append_assoc (simp append_assoc at stands));
}

-- what is made of a part, where the bytes and the pieces are these too
pub made : {text : List ℕ} {X Y : Type 0} {p : X → List Piece} {q : Y → List Piece} {a b : List ℕ} → Part text p a → a ≡ b →
    (f : X → Y) → ((x : X) → p x ≡ q (f x)) → Part text q b
made {text = text} {q = q} {a = a} part spelled f same = subst (Part text q) spelled (record {
  found = λ front rest is.
      let x = part.found front rest is in
      (f x.0, subst (λ ps. Stand ps (at front (a ++ rest)) (at (front ++ a) rest)) (same x.0) x.1);
})
