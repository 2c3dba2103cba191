-- Lines and columns, a byte and a line further.
use Rattle.std.proofs.Common.{
  ◌≡◌,
  ℕ,
  ◌+◌,
  ◌-◌,
  ◌<◌,
  ◌≤◌,
  Bool,
  true,
  false,
  not,
  ◌&&◌,
  eqb,
  List,
  [],
  ◌∷◌,
  ◌++◌,
  length,
  get_or,
  take,
  drop,
  refl,
  sym,
  ◌∙◌,
  ap,
  subst,
  inl,
  inr,
  ⊎_elim,
  arith,
  length-append,
  length-drop,
  length-take-le,
  take-append-drop,
  append_assoc,
  get_or-drop,
  append-nil,
}
use Rattle.std.specs.Bool.{Decides}
use Rattle.std.specs.Cmp.Lexicographic.{pointwise}
use Rattle.std.specs.List.{list_all, prefix_len, count_by}
use Rattle.std.proofs.lemmas.Bool.Decides.{Decides-eqb}
use Rattle.std.proofs.lemmas.Slice.Eq.{slice_eq-Decides}
use Rattle.std.proofs.lemmas.Bool.{and_from, eqb-true, not-false, cases_eq, cases_lt, ne_eqb}
use Rattle.std.proofs.lemmas.List.{take_more, drop_at, take_at, get_or_at, take_rest}
use Rattle.std.proofs.lemmas.List.Folds.{list_all-append}
use Rattle.std.proofs.lemmas.List.Sums.{prefix_len-le-length, prefix_len_passes, prefix_len_stops, count_by_more_yes, count_by_more_no}
use Rattle.tsl_text.specs.Lines.{is_line_byte, HasNoLineFeed}
use Rattle.tsl_text.specs.Places.{IsLineStart, IsBetweenFeeds, IsColumn}
use Rattle.base_library.proofs.Passes.{list_all-prefix}
use Rattle.tsl_text.proofs.Bytes.{prefix_len-line, line_end-prefix}

-- ---- columns

-- the line and the column behind these bytes
pub record IsPlace (front : List ℕ) (line column : ℕ) : Type 0 where
  pub feeds : line ≡ 1 + count_by (λ byte. eqb byte 10) front
  pub last : IsColumn front column

pub place_none : IsPlace [] 1 1
place_none = record {
  feeds = refl;
  last = record { lines = []; line = []; split = refl; begins = inl refl; whole = refl; count = refl };
}

-- the place behind one more byte of the text: a line feed, or another byte
module _ (bytes : List ℕ) (at line column : ℕ) (inside : at < length bytes) (h : IsPlace (take at bytes) line column) where
  pub place_feed : get_or bytes at 0 ≡ 10 → IsPlace (take (at + 1) bytes) (line + 1) 1
  place_feed feed = record {
    feeds = omega (arith, h.feeds, count_by_more_yes (λ byte. eqb byte 10) bytes at 0 inside (ap (λ b. eqb b 10) feed));
    last = record {
      lines = take (at + 1) bytes;
      line = [];
      split = sym (append-nil (take (at + 1) bytes));
      begins = inr (take at bytes, take_more bytes at 0 inside ∙ ap (λ b. take at bytes ++ b ∷ []) feed);
      whole = refl;
      count = refl;
    };
  }

  pub place_byte : (get_or bytes at 0 ≡ 10 → ⊥) → IsPlace (take (at + 1) bytes) line (column + 1)
  place_byte other =
      let byte = get_or bytes at 0 ∷ [] in
      let test = ne_eqb (get_or bytes at 0) 10 other in
      record {
        feeds = omega (arith, h.feeds, count_by_more_no (λ byte. eqb byte 10) bytes at 0 inside test);
        last = record {
          lines = h.last.lines;
          line = h.last.line ++ byte;
          split = take_more bytes at 0 inside ∙ ap (λ t. t ++ byte) h.last.split ∙ append_assoc h.last.lines h.last.line byte;
          begins = h.last.begins;
          whole = list_all-append is_line_byte h.last.line byte
              ∙ and_from (list_all is_line_byte h.last.line) _ h.last.whole (ap (λ b. not b && true) test);
          count = omega (arith, h.last.count, length-append h.last.line byte);
        };
      }

-- ---- lines

-- the length of the line that begins at a place
abbrev pub len_at : List ℕ → ℕ → ℕ
len_at text start = prefix_len is_line_byte (drop start text)

module _ (text line : List ℕ) (start : ℕ) (inside : start ≤ length text) where
  pub fits : start + len_at text start ≤ length text
  fits = omega (arith, prefix_len-le-length is_line_byte (drop start text), length-drop start text)

  -- the line that begins here is found
  pub line_here : IsLineStart (take start text) → take (len_at text start) (drop start text) ≡ line → IsBetweenFeeds text line start
  line_here begins same = record {
    before = take start text;
    after = drop (len_at text start) (drop start text);
    split = sym (take-append-drop start text)
        ∙ ap (λ rest. take start text ++ rest) (sym (take-append-drop (len_at text start) (drop start text))
        ∙ ap (λ l. l ++ drop (len_at text start) (drop start text)) same);
    place = length-take-le start text inside;
    begins = begins;
    ends = line_end-prefix (drop start text);
    whole = subst HasNoLineFeed same (list_all-prefix is_line_byte (drop start text));
  }

  -- the next line begins behind the line feed
  pub next_begins : start + (len_at text start + 1) ≤ length text → IsLineStart (take (start + (len_at text start + 1)) text)
  next_begins more =
      let n = len_at text start in
      let there : start + (n + 1) ≡ start + n + 1 = omega arith in
      let short : n < length (drop start text) = omega (arith, length-drop start text) in
      let stop = prefix_len_stops is_line_byte (drop start text) 0 short in
      let feed : get_or text (start + n) 0 ≡ 10 = sym (get_or-drop start text n 0)
      ∙ eqb-true (get_or (drop start text) n 0) 10 (not-false (eqb (get_or (drop start text) n 0) 10) stop) in
      inr (
        take (start + n) text,
        ap (λ k. take k text) there ∙ take_more text (start + n) 0 (omega arith)
            ∙ ap (λ b. take (start + n) text ++ b ∷ []) feed,
      )

  -- a line that begins here is the one that the code compares
  same_line : IsBetweenFeeds text line start → take (len_at text start) (drop start text) ≡ line
  same_line h =
      let rest : drop start text ≡ line ++ h.after = ap (drop start) h.split ∙ drop_at h.before (line ++ h.after) start h.place in
      let len : len_at text start ≡ length line = ap (prefix_len is_line_byte) rest ∙ prefix_len-line line h.after h.whole h.ends in
      (λ i. take (len i) (rest i)) ∙ take_at line h.after (length line) refl

-- a line that begins later begins behind a line feed
behind_feed : (text line : List ℕ) (at : ℕ) → IsBetweenFeeds text line at → 0 < at → (get_or text (at - 1) 0 ≡ 10) × (at ≤ length text)
behind_feed text line at h some =
    let within : at ≤ length text = omega (arith, h.place, ap length h.split ∙ length-append h.before (line ++ h.after)) in
    ⊎_elim
    (λ none. absurd (omega (arith, h.place, ap length none)))
    (λ feed.
    let place : length feed.0 ≡ at - 1 = omega (arith, h.place, ap length feed.1 ∙ length-append feed.0 (10 ∷ [])) in
    let whole : text ≡ feed.0 ++ 10 ∷ (line ++ h.after) = h.split ∙ ap (λ b. b ++ (line ++ h.after)) feed.1
    ∙ append_assoc feed.0 (10 ∷ []) (line ++ h.after) in
    (ap (λ t. get_or t (at - 1) 0) whole ∙ get_or_at feed.0 10 (line ++ h.after) 0 (at - 1) place, within))
    h.begins

-- a line that is another than the one here begins behind it
pub later_line : (text line : List ℕ) (start at : ℕ) → start ≤ length text → (take (len_at text start) (drop start text) ≡ line → ⊥) →
    IsBetweenFeeds text line at → start ≤ at → start + (len_at text start + 1) ≤ at
later_line text line start at inside other h from =
    ⊎_elim
    (λ here. absurd (other (same_line text line start inside (subst (IsBetweenFeeds text line) here h))))
    (λ apart.
    let feed = behind_feed text line at h (omega arith) in
    ⊎_elim
    (λ within.
    let k = at - 1 - start in
    let place : start + k ≡ at - 1 = omega arith in
    let passes = prefix_len_passes is_line_byte (drop start text) k 0 (omega arith) in
    let byte : get_or (drop start text) k 0 ≡ 10 = get_or-drop start text k 0 ∙ ap (λ n. get_or text n 0) place ∙ feed.0 in
    let never : false ≡ true = sym (ap is_line_byte byte) ∙ passes in
    absurd cc)
    (λ behind. behind)
    (cases_lt at (start + (len_at text start + 1))))
    (cases_eq at start)

-- every line begins within the text
pub line_within : (text line : List ℕ) (at : ℕ) → IsBetweenFeeds text line at → at ≤ length text
line_within text line at h = omega (arith, h.place, ap length h.split ∙ length-append h.before (line ++ h.after))

-- what the code measures and compares is the line that begins here
pub compared : (text line : List ℕ) (start len : ℕ) (result : Bool) →
    len ≡ prefix_len is_line_byte (take (length text - start) (drop start text)) →
    result ≡ pointwise eqb (take len (take (length text - start) (drop start text))) line →
    (len ≡ len_at text start) × Decides result (take (len_at text start) (drop start text) ≡ line)
compared text line start len result measured e =
    let same : len ≡ len_at text start = measured ∙ ap (prefix_len is_line_byte) (take_rest text start) in
    let test = e ∙ (λ i. pointwise eqb (take (same i) (take_rest text start i)) line) in
    (same, slice_eq-Decides Decides-eqb (take (len_at text start) (drop start text)) line result test)
