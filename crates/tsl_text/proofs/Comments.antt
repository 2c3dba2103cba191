-- Comments: what scanning computes is what closes them.
use Rattle.std.proofs.Common.{
  ◌≡◌,
  ℕ,
  zero,
  suc,
  ◌+◌,
  ◌-◌,
  ◌<◌,
  ◌≤◌,
  Bool,
  true,
  false,
  ◌&&◌,
  cond,
  eqb,
  List,
  [],
  ◌∷◌,
  ◌++◌,
  length,
  get_or,
  drop,
  Option,
  Some,
  None,
  refl,
  sym,
  ◌∙◌,
  ap,
  subst,
  arith,
  append_assoc,
  length-drop,
}
use Rattle.std.proofs.lemmas.Bool.{and_parts, and_from, eqb-true, eq-eqb, ne_eqb, false_from_ne_true, false≢true}
use Rattle.std.proofs.lemmas.List.{drop_more}
use Rattle.tsl_text.specs.Division.{ClosesComment, close, skip, nest, IsNoMark}
use Rattle.tsl_text.specs.internal.Front.{begins_comment, ends_comment, after_comment}

-- One step of the scan at a place of the text, by the two bytes that stand there.
pub scan_step : (text : List ℕ) (depth at : ℕ) → at + 1 < length text →
    after_comment depth (drop at text)
    ≡ cond (ends_comment (get_or text at 0) (get_or text (at + 1) 0))
    (cond (eqb depth 0) (Some (drop (at + 2) text)) (after_comment (depth - 1) (drop (at + 2) text)))
    (cond (begins_comment (get_or text at 0) (get_or text (at + 1) 0)) (after_comment (depth + 1) (drop (at + 2) text))
    (after_comment depth (drop (at + 1) text)))
scan_step text depth at two =
    let second : drop (at + 1) text ≡ get_or text (at + 1) 0 ∷ drop (at + 2) text = drop_more text (at + 1) 0 two
    ∙ (let next : at + 1 + 1 ≡ at + 2 = omega arith in ap (λ n. get_or text (at + 1) 0 ∷ drop n text) next) in
    rw (drop_more text at 0 (omega arith), second) refl

-- fewer than two bytes close nothing
pub short_scan : (text : List ℕ) (depth at : ℕ) → length text ≤ at + 1 → after_comment depth (drop at text) ≡ None
short_scan text depth at short = by (drop at text) (omega (arith, length-drop at text))
  where
    by : (rest : List ℕ) → length rest ≤ 1 → after_comment depth rest ≡ None
    by [] few = refl
    by (byte ∷ []) few = refl
    by (first ∷ second ∷ rest) few = absurd (omega arith)

-- ---- marks, as the tests say them

are_two : (a b c d : ℕ) → (eqb a c && eqb b d) ≡ true → a ∷ b ∷ [] ≡ c ∷ d ∷ []
are_two a b c d h = let parts = and_parts (eqb a c) (eqb b d) h in λ i. eqb-true a c parts.0 i ∷ eqb-true b d parts.1 i ∷ []

are_not_two : (a b c d : ℕ) → (eqb a c && eqb b d) ≡ false → a ∷ b ∷ [] ≡ c ∷ d ∷ [] → ⊥
are_not_two a b c d h e = false≢true (sym h ∙ and_from (eqb a c) (eqb b d) (eq-eqb a c (cc)) (eq-eqb b d (cc)))

other_two : (a b c d : ℕ) → (a ∷ b ∷ [] ≡ c ∷ d ∷ [] → ⊥) → (eqb a c && eqb b d) ≡ false
other_two a b c d other = false_from_ne_true _ (λ h. other (are_two a b c d h))

-- ---- what closes a comment is passed over

-- what the scan gives behind a comment that is closed at this depth
abbrev behind : ℕ → List ℕ → Option (List ℕ)
behind depth rest = cond (eqb depth 0) (Some rest) (after_comment (depth - 1) rest)

behind-more : (depth next : ℕ) (rest : List ℕ) → next ≡ suc depth → behind next rest ≡ after_comment depth rest
behind-more depth next rest more =
    let back : next - 1 ≡ depth = omega arith in
    rw (ne_eqb next 0 (λ e. omega arith), back) refl

-- What closes a comment is passed over, whatever follows.
pub after_comment-closing : {text : List ℕ} → ClosesComment text → (depth : ℕ) (rest : List ℕ) →
    after_comment depth (text ++ rest) ≡ cond (eqb depth 0) (Some rest) (after_comment (depth - 1) rest)
after_comment-closing (close e) depth rest = ap (λ t. after_comment depth (t ++ rest)) e
after_comment-closing (skip first second tail mark closing e) depth rest =
    ap (λ t. after_comment depth (t ++ rest)) e
    ∙ rw (other_two first second 42 47 mark.1, other_two first second 47 42 mark.0) (after_comment-closing closing depth rest)
after_comment-closing (nest inner tail closing outer e) depth rest =
    ap (λ t. after_comment depth (t ++ rest)) e
    ∙ ap (after_comment (depth + 1)) (append_assoc inner tail rest)
    ∙ after_comment-closing closing (depth + 1) (tail ++ rest)
    ∙ behind-more depth (depth + 1) (tail ++ rest) (omega arith)
    ∙ after_comment-closing outer depth rest

-- ---- what is passed over closes a comment

-- bytes that begin with what closes a comment, and the rest
abbrev Closing : List ℕ → List ℕ → Type 0
Closing bytes rest = (text : List ℕ) × (bytes ≡ text ++ rest) × ClosesComment text

-- the comment at the front is closed, and so are those around it, up to the rest
abbrev Closings : ℕ → List ℕ → List ℕ → Type 0
Closings zero bytes rest = Closing bytes rest
Closings (suc depth) bytes rest = (mid : List ℕ) × Closing bytes mid × Closings depth mid rest

-- another comment that ends at the same place may stand in the first one's place
first_closing : (depth : ℕ) (bytes rest : List ℕ) → Closings depth bytes rest →
    (mid : List ℕ) × Closing bytes mid × ((others : List ℕ) → Closing others mid → Closings depth others rest)
first_closing zero bytes rest h = (rest, h, λ others closing. closing)
first_closing (suc depth) bytes rest h = (h.0, h.1, λ others closing. (h.0, closing, h.2))

skipped : (first second : ℕ) (rest mid : List ℕ) → IsNoMark first second → Closing (second ∷ rest) mid → Closing (first ∷ second ∷ rest) mid
skipped first second rest mid mark ([], split, close e) = absurd cc
skipped first second rest mid mark ([], split, skip a b tail other closing e) = absurd cc
skipped first second rest mid mark ([], split, nest inner tail closing outer e) = absurd cc
skipped first second rest mid mark (byte ∷ text, split, closing) =
    let head : second ≡ byte = cc in
    (first ∷ byte ∷ text, ap (λ bytes. first ∷ bytes) split, skip first byte text (subst (IsNoMark first) head mark) closing refl)

-- What the scan passes over closes the comment and those within.
pub closings : (bytes : List ℕ) (depth : ℕ) (rest : List ℕ) → after_comment depth bytes ≡ Some rest → Closings depth bytes rest
closings [] depth rest e = absurd cc
closings (byte ∷ []) depth rest e = absurd cc
closings (first ∷ second ∷ bytes) depth rest e =
    by (ends_comment first second) refl (begins_comment first second) refl depth e
    (closings bytes) (closings (second ∷ bytes) depth rest)
  where
    by : (ends : Bool) → ends_comment first second ≡ ends → (begins : Bool) → begins_comment first second ≡ begins → (depth : ℕ) →
        cond ends (behind depth bytes) (cond begins (after_comment (depth + 1) bytes) (after_comment depth (second ∷ bytes))) ≡ Some rest →
        ((d : ℕ) (r : List ℕ) → after_comment d bytes ≡ Some r → Closings d bytes r) →
        (after_comment depth (second ∷ bytes) ≡ Some rest → Closings depth (second ∷ bytes) rest) →
        Closings depth (first ∷ second ∷ bytes) rest
    by true h begins k zero e behind_it next =
        (first ∷ second ∷ [], ap (λ r. first ∷ second ∷ r) (let same : bytes ≡ rest = cc in same), close (are_two first second 42 47 h))
    by true h begins k (suc depth) e behind_it next =
        let found = sym (behind-more depth (suc depth) bytes refl) ∙ e in
        (bytes, (first ∷ second ∷ [], refl, close (are_two first second 42 47 h)), behind_it depth rest found)
    by false h true k depth e behind_it next =
        let more : depth + 1 ≡ suc depth = omega arith in
        let inner = behind_it (suc depth) rest (ap (λ n. after_comment n bytes) (sym more) ∙ e) in
        let outer = first_closing depth inner.0 rest inner.2 in
        let within = inner.1 in
        let around = outer.1 in
        outer.2 (first ∷ second ∷ bytes) (
          first ∷ second ∷ (within.0 ++ around.0),
          ap (λ t. first ∷ second ∷ t) (within.1 ∙ ap (λ t. within.0 ++ t) around.1 ∙ sym (append_assoc within.0 around.0 outer.0)),
          nest within.0 around.0 within.2 around.2 (ap (λ t. t ++ (within.0 ++ around.0)) (are_two first second 47 42 k)),
        )
    by false h false k depth e behind_it next =
        let outer = first_closing depth (second ∷ bytes) rest (next e) in
        outer.2 (first ∷ second ∷ bytes)
        (skipped first second bytes outer.0 (are_not_two first second 47 42 k, are_not_two first second 42 47 h) outer.1)

-- the front that closes one comment
pub closing_front : (bytes after : List ℕ) → after_comment 0 bytes ≡ Some after →
    (text : List ℕ) × (bytes ≡ text ++ after) × ClosesComment text
closing_front bytes after e = closings bytes 0 after e
