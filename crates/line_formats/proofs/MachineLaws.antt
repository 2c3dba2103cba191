-- What reading line by line answers: what the lines of a text say, or exactly its first wrong line.
use Rattle.std.proofs.Common.{zero, ◌<◌, ◌≡◌, ℕ, suc, ◌+◌, Bool, true, false, not, ◌&&◌, eqb, List, [], ◌∷◌, ◌++◌, length, Option, Some}
use Rattle.std.proofs.Common.{None, Result, Ok, Err, refl, sym, ap, subst, ◌∙◌, append_assoc, append-nil, arith, ◌⊎◌, inl, inr}
use Rattle.std.specs.List.{list_all}
use Rattle.std.proofs.lemmas.Bool.{and_parts, and_from, eqb-true}
use Rattle.base_library.proofs.Passes.{list_all_joined}
use Rattle.base_library.proofs.Lists.{tails}
use Rattle.tsl_text.specs.Lines.{is_line_byte, lines_from}
use Rattle.tsl_text.specs.Written.{is_line, text_of_lines}
use Rattle.tsl_text.proofs.LineLaws.{from_feed, from_cut}
use Rattle.tsl_text.proofs.Fronts.{one_run}
use Rattle.std.specs.Prelude.{option_and_then}
use Rattle.line_formats.specs.Machine.{steps, or_wrong, where_ended, read_from, IsText, IsFirstWrong, IsLive}

-- ---- lines and a rest without a line feed

pub record Divided (text : List ℕ) : Type 0 where
  pub lines : List (List ℕ)
  pub tail : List ℕ
  pub split : text ≡ text_of_lines lines ++ tail
  pub are_lines : list_all is_line lines ≡ true
  pub no_feed : is_line tail ≡ true

divided : (text : List ℕ) → Divided text
divided [] = record { lines = []; tail = []; split = refl; are_lines = refl; no_feed = refl }
divided (b ∷ bs) = by (eqb b 10) refl (divided bs) where
  longer : (t : Divided bs) → is_line_byte b ≡ true → (ls : List (List ℕ)) → t.lines ≡ ls → Divided (b ∷ bs)
  longer t h [] e = record {
    lines = [];
    tail = b ∷ t.tail;
    split = ap (λ zs. b ∷ zs) (t.split ∙ ap (λ ls. text_of_lines ls ++ t.tail) e);
    are_lines = refl;
    no_feed = and_from (is_line_byte b) (is_line t.tail) h t.no_feed;
  }
  longer t h (l ∷ ls) e =
      let parts = and_parts (is_line l) (list_all is_line ls) (ap (list_all is_line) (sym e) ∙ t.are_lines) in
      record {
        lines = (b ∷ l) ∷ ls;
        tail = t.tail;
        split = ap (λ zs. b ∷ zs) (t.split ∙ ap (λ ms. text_of_lines ms ++ t.tail) e);
        are_lines = and_from (is_line_byte b && is_line l) (list_all is_line ls) (and_from (is_line_byte b) (is_line l) h parts.0) parts.1;
        no_feed = t.no_feed;
      }

  by : (t : Bool) → eqb b 10 ≡ t → Divided bs → Divided (b ∷ bs)
  by true e t = record {
    lines = [] ∷ t.lines;
    tail = t.tail;
    split = (λ i. eqb-true b 10 e i ∷ t.split i);
    are_lines = t.are_lines;
    no_feed = t.no_feed;
  }
  by false e t = longer t (ap not e) t.lines refl

feed_end : (line ls u : List ℕ) → ((line ++ 10 ∷ []) ++ ls) ++ u ≡ line ++ 10 ∷ (ls ++ u)
feed_end line ls u = ap (λ zs. zs ++ u) (append_assoc line (10 ∷ []) ls) ∙ append_assoc line (10 ∷ ls) u

-- no line feed stands in a line
no_feed_in : (tail l rest : List ℕ) → is_line tail ≡ true → tail ≡ l ++ 10 ∷ rest → ⊥
no_feed_in [] [] rest h e = absurd cc
no_feed_in [] (x ∷ l) rest h e = absurd cc
no_feed_in (b ∷ bs) [] rest h e =
    let first = (and_parts (is_line_byte b) (is_line bs) h).0 in
    let same : b ≡ 10 = cc in
    let never : false ≡ true = ap is_line_byte (sym same) ∙ first in
    absurd cc
no_feed_in (b ∷ bs) (x ∷ l) rest h e = no_feed_in bs l rest (and_parts (is_line_byte b) (is_line bs) h).1 (cc)

same_first : (a b u v : List ℕ) → is_line a ≡ true → is_line b ≡ true → a ++ 10 ∷ u ≡ b ++ 10 ∷ v → (a ≡ b) × (u ≡ v)
same_first a b u v h k e =
    let run = one_run is_line_byte a b (10 ∷ u) (10 ∷ v) h k refl refl e in
    (run.0, tails 10 10 u v run.1)

nothing_left : (l rest : List ℕ) → l ++ 10 ∷ rest ≡ [] → ⊥
nothing_left [] rest e = absurd cc
nothing_left (x ∷ l) rest e = absurd cc

-- a text is that of one list of lines
same_lines : (ls ms : List (List ℕ)) (tail : List ℕ) → list_all is_line ls ≡ true → list_all is_line ms ≡ true → is_line tail ≡ true →
    text_of_lines ls ++ tail ≡ text_of_lines ms → (ls ≡ ms) × (tail ≡ [])
same_lines [] [] tail h k n e = (refl, e)
same_lines [] (m ∷ ms) tail h k n e =
    absurd (no_feed_in tail m (text_of_lines ms) n (e ∙ append_assoc m (10 ∷ []) (text_of_lines ms)))
same_lines (l ∷ ls) [] tail h k n e = absurd (nothing_left l (text_of_lines ls ++ tail) (sym (feed_end l (text_of_lines ls) tail) ∙ e))
same_lines (l ∷ ls) (m ∷ ms) tail h k n e =
    let left = and_parts (is_line l) (list_all is_line ls) h in
    let right = and_parts (is_line m) (list_all is_line ms) k in
    let one = same_first l m (text_of_lines ls ++ tail) (text_of_lines ms) left.0 right.0
    (sym (feed_end l (text_of_lines ls) tail) ∙ e ∙ append_assoc m (10 ∷ []) (text_of_lines ms)) in
    let rest = same_lines ls ms tail left.1 right.1 n one.1 in
    ((λ i. one.0 i ∷ rest.0 i), rest.1)

pub text_append : (ls ms : List (List ℕ)) → text_of_lines (ls ++ ms) ≡ text_of_lines ls ++ text_of_lines ms
text_append [] ms = refl
text_append (l ∷ ls) ms = ap (λ zs. (l ++ 10 ∷ []) ++ zs) (text_append ls ms)
    ∙ sym (append_assoc (l ++ 10 ∷ []) (text_of_lines ls) (text_of_lines ms))

pub all_front : {A : Type 0} (p : A → Bool) (xs ys : List A) → list_all p (xs ++ ys) ≡ true → list_all p xs ≡ true
all_front p [] ys h = refl
all_front p (x ∷ xs) ys h =
    let parts = and_parts (p x) (list_all p (xs ++ ys)) h in and_from (p x) (list_all p xs) parts.0 (all_front p xs ys parts.1)

all_back : {A : Type 0} (p : A → Bool) (xs ys : List A) → list_all p (xs ++ ys) ≡ true → list_all p ys ≡ true
all_back p [] ys h = h
all_back p (x ∷ xs) ys h = all_back p xs ys (and_parts (p x) (list_all p (xs ++ ys)) h).1

-- one line more of the same text
pub one_more_line : (ls ms : List (List ℕ)) (u w : List ℕ) → list_all is_line ls ≡ true → list_all is_line ms ≡ true →
    length ms ≡ suc (length ls) → text_of_lines ms ++ u ≡ text_of_lines ls ++ w →
    (m : List ℕ) × (is_line m ≡ true) × (ms ≡ ls ++ m ∷ []) × (w ≡ m ++ 10 ∷ u)
one_more_line ls [] u w h k n e = absurd (omega (arith, n))
one_more_line [] (m ∷ []) u w h k n e = (m, (and_parts (is_line m) true k).0, refl, sym e ∙ feed_end m [] u)
one_more_line [] (m ∷ o ∷ ms) u w h k n e = absurd (omega (arith, n))
one_more_line (l ∷ ls) (m ∷ ms) u w h k n e =
    let left = and_parts (is_line l) (list_all is_line ls) h in
    let right = and_parts (is_line m) (list_all is_line ms) k in
    let one = same_first m l (text_of_lines ms ++ u) (text_of_lines ls ++ w) right.0 left.0
    (sym (feed_end m (text_of_lines ms) u) ∙ e ∙ feed_end l (text_of_lines ls) w) in
    let rest = one_more_line ls ms u w left.1 right.1 (omega (arith, n)) one.1 in
    (rest.0, rest.1, (λ i. one.0 i ∷ rest.2 i), rest.3)

-- the lines of a text that begins with these lines
pub lines_begin : (ms ls : List (List ℕ)) (w : List ℕ) → list_all is_line ms ≡ true → list_all is_line ls ≡ true →
    text_of_lines ls ≡ text_of_lines ms ++ w → (more : List (List ℕ)) × (ls ≡ ms ++ more)
lines_begin [] ls w h k e = (ls, refl)
lines_begin (m ∷ ms) [] w h k e = absurd (nothing_left m (text_of_lines ms ++ w) (sym (feed_end m (text_of_lines ms) w) ∙ sym e))
lines_begin (m ∷ ms) (l ∷ ls) w h k e =
    let left = and_parts (is_line m) (list_all is_line ms) h in
    let right = and_parts (is_line l) (list_all is_line ls) k in
    let one = same_first l m (text_of_lines ls) (text_of_lines ms ++ w) right.0 left.0
    (sym (append_assoc l (10 ∷ []) (text_of_lines ls)) ∙ e ∙ feed_end m (text_of_lines ms) w) in
    let rest = lines_begin ms ls w left.1 right.1 one.1 in
    (rest.0, (λ i. one.0 i ∷ rest.1 i))

-- ---- the walk along the lines

abbrev is_nil : List ℕ → Bool
is_nil [] = true
is_nil (b ∷ bs) = false

module _ {S : Type 0} (step : S → List ℕ → Option S) (whole : S → Bool) where
  abbrev walk : S → ℕ → List (List ℕ) → Bool → Result S ℕ
  walk s n [] closed = where_ended closed n (where_ended (whole s) n (Ok s))
  walk s n (l ∷ ls) closed = or_wrong n (step s l) (λ t. walk t (suc n) ls closed)

  or_wrong_same : (n : ℕ) (o : Option S) (f g : S → Result S ℕ) → ((t : S) → f t ≡ g t) → or_wrong n o f ≡ or_wrong n o g
  or_wrong_same n None f g h = refl
  or_wrong_same n (Some t) f g h = h t

  open_tail : (s : S) (n : ℕ) (o : Option S) (f : S → Result S ℕ) → where_ended false n (or_wrong n o f) ≡ Err n
  open_tail s n o f = refl

  walk_is : (ls : List (List ℕ)) (tail : List ℕ) → list_all is_line ls ≡ true → is_line tail ≡ true → (s : S) (n : ℕ) →
      read_from step whole s n (lines_from n (text_of_lines ls ++ tail)) ≡ walk s n ls (is_nil tail)
  walk_is [] [] h k s n = refl
  walk_is [] (b ∷ bs) h k s n = ap (read_from step whole s n) (from_cut n b bs k)
  walk_is (l ∷ ls) tail h k s n =
      let parts = and_parts (is_line l) (list_all is_line ls) h in
      let more : List ℕ = text_of_lines ls ++ tail in
      let next : n + 1 ≡ suc n = omega arith in
      ap (λ zs. read_from step whole s n (lines_from n zs)) (feed_end l (text_of_lines ls) tail)
      ∙ ap (read_from step whole s n) (from_feed n l more parts.0)
      ∙ or_wrong_same n (step s l) (λ t. read_from step whole t (n + 1) (lines_from (suc n) more)) (λ t. walk t (suc n) ls (is_nil tail))
      (λ t. ap (λ m. read_from step whole t m (lines_from (suc n) more)) next ∙ walk_is ls tail parts.1 k t (suc n))

  pub steps_append : (s t : S) (ls ms : List (List ℕ)) → steps step s ls ≡ Some t → steps step s (ls ++ ms) ≡ steps step t ms
  steps_append s t [] ms h = let same : s ≡ t = cc in ap (λ z. steps step z ms) same
  steps_append s t (l ∷ ls) ms h = by (step s l) (λ u. steps_append u t ls ms) h where
    by : (o : Option S) → ((u : S) → steps step u ls ≡ Some t → steps step u (ls ++ ms) ≡ steps step t ms) →
        option_and_then (λ u. steps step u ls) o ≡ Some t → option_and_then (λ u. steps step u (ls ++ ms)) o ≡ steps step t ms
    by None rest k = absurd cc
    by (Some u) rest k = rest u k

  -- where the walk ends well
  record Went (s t : S) (ls : List (List ℕ)) (closed : Bool) : Type 0 where
    says : steps step s ls ≡ Some t
    done : whole t ≡ true
    closes : closed ≡ true

  went : (ls : List (List ℕ)) (closed : Bool) (s : S) (n : ℕ) (t : S) → walk s n ls closed ≡ Ok t → Went s t ls closed
  went [] closed s n t h = by closed (whole s) refl refl h where
    by : (c w : Bool) → closed ≡ c → whole s ≡ w → where_ended c n (where_ended w n (Ok s)) ≡ Ok t → Went s t [] closed
    by false w e f k = absurd cc
    by true false e f k = absurd cc
    by true true e f k =
        let same : s ≡ t = cc in
        record { says = ap (λ z. Some z) same; done = ap whole (sym same) ∙ f; closes = e }
  went (l ∷ ls) closed s n t h = by (step s l) refl (λ u. went ls closed u (suc n) t) h where
    by : (o : Option S) → step s l ≡ o → ((u : S) → walk u (suc n) ls closed ≡ Ok t → Went u t ls closed) →
        or_wrong n o (λ u. walk u (suc n) ls closed) ≡ Ok t → Went s t (l ∷ ls) closed
    by None e rest k = absurd cc
    by (Some u) e rest k =
        let more = rest u k in
        record { says = ap (option_and_then (λ v. steps step v ls)) e ∙ more.says; done = more.done; closes = more.closes }

  -- where it stops: no line is left, or the next one may not stand there
  abbrev Stuck : S → List (List ℕ) → Bool → Type 0
  Stuck t [] closed = (closed ≡ false) ⊎ (whole t ≡ false)
  Stuck t (l ∷ ls) closed = step t l ≡ None

  record Stopped (s : S) (n k : ℕ) (ls : List (List ℕ)) (closed : Bool) : Type 0 where
    front : List (List ℕ)
    back : List (List ℕ)
    at : S
    split : ls ≡ front ++ back
    says : steps step s front ≡ Some at
    number : k ≡ n + length front
    stuck : Stuck at back closed

  stopped : (ls : List (List ℕ)) (closed : Bool) (s : S) (n k : ℕ) → walk s n ls closed ≡ Err k → Stopped s n k ls closed
  stopped [] closed s n k h = by closed (whole s) refl refl h where
    here : (closed ≡ false) ⊎ (whole s ≡ false) → n ≡ k → Stopped s n k [] closed
    here stuck e = record { front = []; back = []; at = s; split = refl; says = refl; number = omega (arith, e); stuck = stuck }

    by : (c w : Bool) → closed ≡ c → whole s ≡ w → where_ended c n (where_ended w n (Ok s)) ≡ Err k → Stopped s n k [] closed
    by false w e f g = let same : n ≡ k = cc in here (inl e) same
    by true false e f g = let same : n ≡ k = cc in here (inr f) same
    by true true e f g = absurd cc
  stopped (l ∷ ls) closed s n k h = by (step s l) refl (λ u. stopped ls closed u (suc n) k) h where
    by : (o : Option S) → step s l ≡ o → ((u : S) → walk u (suc n) ls closed ≡ Err k → Stopped u (suc n) k ls closed) →
        or_wrong n o (λ u. walk u (suc n) ls closed) ≡ Err k → Stopped s n k (l ∷ ls) closed
    by None e rest g =
        let same : n ≡ k = cc in
        record { front = []; back = l ∷ ls; at = s; split = refl; says = refl; number = omega (arith, same); stuck = e }
    by (Some u) e rest g =
        let more = rest u g in
        record {
          front = l ∷ more.front;
          back = more.back;
          at = more.at;
          split = ap (λ zs. l ∷ zs) more.split;
          says = ap (option_and_then (λ v. steps step v more.front)) e ∙ more.says;
          number = omega (arith, more.number);
          stuck = more.stuck;
        }

  -- ---- what is read, and what is at fault

  pub read_is_text : (text : List ℕ) (s t : S) → read_from step whole s 1 (lines_from 1 text) ≡ Ok t →
      (ls : List (List ℕ)) × (text ≡ text_of_lines ls) × IsText step whole s ls t
  read_is_text text s t h =
      let d = divided text in
      let w = went d.lines (is_nil d.tail) s 1 t (sym (walk_is d.lines d.tail d.are_lines d.no_feed s 1)
      ∙ ap (λ zs. read_from step whole s 1 (lines_from 1 zs)) (sym d.split) ∙ h) in (
        d.lines,
        d.split ∙ ap (λ zs. text_of_lines d.lines ++ zs) (nil_is d.tail w.closes) ∙ append-nil (text_of_lines d.lines),
        record { lines = d.are_lines; says = w.says; done = w.done },
      )
    where
      nil_is : (tail : List ℕ) → is_nil tail ≡ true → tail ≡ []
      nil_is [] e = refl
      nil_is (b ∷ bs) e = absurd cc

  walk_whole : (ls : List (List ℕ)) (s t : S) (n : ℕ) → steps step s ls ≡ Some t → whole t ≡ true → walk s n ls true ≡ Ok t
  walk_whole [] s t n h k =
      let same : s ≡ t = cc in
      ap (λ (z : S). where_ended (whole z) n (Ok z)) same ∙ ap (λ b. where_ended b n (Ok t)) k
  walk_whole (l ∷ ls) s t n h k = by (step s l) (λ u g. walk_whole ls u t (suc n) g k) h where
    by : (o : Option S) → ((u : S) → steps step u ls ≡ Some t → walk u (suc n) ls true ≡ Ok t) →
        option_and_then (λ u. steps step u ls) o ≡ Some t → or_wrong n o (λ u. walk u (suc n) ls true) ≡ Ok t
    by None rest g = absurd cc
    by (Some u) rest g = rest u g

  -- what is written is read back
  pub text_is_read : (ls : List (List ℕ)) (s t : S) → IsText step whole s ls t →
      read_from step whole s 1 (lines_from 1 (text_of_lines ls)) ≡ Ok t
  text_is_read ls s t h =
      ap (λ zs. read_from step whole s 1 (lines_from 1 zs)) (sym (append-nil (text_of_lines ls)))
      ∙ walk_is ls [] h.lines refl s 1 ∙ walk_whole ls s t 1 h.says h.done

  pub holds_after : (start : S) (Holds : S → Type 0) → ((s t : S) (l : List ℕ) → Holds s → step s l ≡ Some t → Holds t) →
      (ls : List (List ℕ)) (t : S) → Holds start → steps step start ls ≡ Some t → Holds t
  holds_after start Holds kept [] t h e = let same : start ≡ t = cc in subst Holds same h
  holds_after start Holds kept (l ∷ ls) t h e = by (step start l) refl (λ u. holds_after u Holds kept ls t) e where
    by : (o : Option S) → step start l ≡ o → ((u : S) → Holds u → steps step u ls ≡ Some t → Holds t) →
        option_and_then (λ u. steps step u ls) o ≡ Some t → Holds t
    by None f rest g = absurd cc
    by (Some u) f rest g = rest u (kept start u l h f) g

  pub fault_is_first : (start : S) (Holds : S → Type 0) → IsLive step whole start Holds → (text : List ℕ) (k : ℕ) →
      read_from step whole start 1 (lines_from 1 text) ≡ Err k → IsFirstWrong step whole start text k
  fault_is_first start Holds live text k h =
      let d = divided text in
      let w = stopped d.lines (is_nil d.tail) start 1 k (sym (walk_is d.lines d.tail d.are_lines d.no_feed start 1)
      ∙ ap (λ zs. read_from step whole start 1 (lines_from 1 zs)) (sym d.split) ∙ h) in
      let fine : list_all is_line (w.front ++ w.back) ≡ true = ap (list_all is_line) (sym w.split) ∙ d.are_lines in
      let front = all_front is_line w.front w.back fine in
      let back = all_back is_line w.front w.back fine in
      let later = live.ends w.at (holds_after start Holds live.kept w.front w.at live.first w.says) in
      let parts : text ≡ text_of_lines w.front ++ (text_of_lines w.back ++ d.tail) =
      d.split ∙ ap (λ ls. text_of_lines ls ++ d.tail) w.split ∙ ap (λ zs. zs ++ d.tail) (text_append w.front w.back)
      ∙ append_assoc (text_of_lines w.front) (text_of_lines w.back) d.tail in
      record {
        before = w.front;
        after = text_of_lines w.back ++ d.tail;
        split = parts;
        number = omega (arith, w.number);
        ending = later.0;
        end = later.1;
        goes_on = record {
          lines = list_all_joined is_line w.front later.0 front later.2.lines;
          says = steps_append start w.at w.front later.0 w.says ∙ later.2.says;
          done = later.2.done;
        };
        here = λ l rest more t e line is. never w.back back w.at d.tail w.stuck d.no_feed l rest more t e line
            (sym (steps_append start w.at w.front (l ∷ more) w.says) ∙ is.says);
        none = λ ls t is e.
            let same = same_lines d.lines ls d.tail d.are_lines is.lines d.no_feed (sym d.split ∙ e) in
            no_end w.back w.at d.tail w.stuck same.1 t
            (sym (steps_append start w.at w.front w.back w.says) ∙ ap (steps step start) (sym w.split ∙ same.0) ∙ is.says) is.done;
      }
    where
      never : (back : List (List ℕ)) → list_all is_line back ≡ true → (s : S) (tail : List ℕ) → Stuck s back (is_nil tail) →
          is_line tail ≡ true → (l rest : List ℕ) (more : List (List ℕ)) (t : S) → text_of_lines back ++ tail ≡ l ++ 10 ∷ rest →
          is_line l ≡ true → steps step s (l ∷ more) ≡ Some t → ⊥
      never [] h s tail stuck n l rest more t e line says = no_feed_in tail l rest n e
      never (b ∷ bs) h s tail stuck n l rest more t e line says =
          let first = same_first b l (text_of_lines bs ++ tail) rest (and_parts (is_line b) (list_all is_line bs) h).0 line
          (sym (feed_end b (text_of_lines bs) tail) ∙ e) in
          let none : step s l ≡ None = ap (step s) (sym first.0) ∙ stuck in
          let some : option_and_then (λ u. steps step u more) None ≡ Some t =
          ap (option_and_then (λ u. steps step u more)) (sym none) ∙ says in
          absurd cc

      no_end : (back : List (List ℕ)) → (s : S) (tail : List ℕ) → Stuck s back (is_nil tail) → tail ≡ [] → (t : S) →
          steps step s back ≡ Some t → whole t ≡ true → ⊥
      no_end [] s tail (inl open') e t says done =
          let closed : true ≡ false = ap is_nil (sym e) ∙ open' in absurd cc
      no_end [] s tail (inr missing) e t says done =
          let same : s ≡ t = cc in
          let both : false ≡ true = sym missing ∙ ap whole same ∙ done in absurd cc
      no_end (b ∷ bs) s tail stuck e t says done =
          let some : option_and_then (λ u. steps step u bs) None ≡ Some t =
          ap (option_and_then (λ u. steps step u bs)) (sym stuck) ∙ says in
          absurd cc

  -- ---- how to show what the laws ask for

  -- a state that is not whole has a line with which less is left to do
  pub record Goes (Holds : S → Type 0) (measure : S → ℕ) (s : S) : Type 0 where
    pub line : List ℕ
    pub next : S
    pub is : is_line line ≡ true
    pub steps_to : step s line ≡ Some next
    pub less : measure next < measure s

  pub ends_by : (Holds : S → Type 0) (measure : S → ℕ) → ((s t : S) (l : List ℕ) → Holds s → step s l ≡ Some t → Holds t) →
      ((s : S) → Holds s → (whole s ≡ true) ⊎ Goes Holds measure s) →
      (room : ℕ) (s : S) → measure s < room → Holds s → (ls : List (List ℕ)) × (t : S) × IsText step whole s ls t
  ends_by Holds measure kept goes zero s few h = absurd (omega (arith, few))
  ends_by Holds measure kept goes (suc room) s few h = by (goes s h) (ends_by Holds measure kept goes room) where
    by : (whole s ≡ true) ⊎ Goes Holds measure s →
        ((u : S) → measure u < room → Holds u → (ls : List (List ℕ)) × (t : S) × IsText step whole u ls t) →
        (ls : List (List ℕ)) × (t : S) × IsText step whole s ls t
    by (inl done) rest = ([], s, record { lines = refl; says = refl; done = done })
    by (inr g) rest =
        let more = rest g.next (omega (arith, g.less, few)) (kept s g.next g.line h g.steps_to) in (
          g.line ∷ more.0,
          more.1,
          record {
            lines = and_from (is_line g.line) (list_all is_line more.0) g.is more.2.lines;
            says = ap (option_and_then (λ u. steps step u more.0)) g.steps_to ∙ more.2.says;
            done = more.2.done;
          },
        )

  -- where each line is the last one of what is written of the state after it, a state is reached by what is written of it alone
  pub says_written : (written : S → List (List ℕ)) (Holds : S → Type 0) →
      ((s t : S) (l : List ℕ) → Holds s → step s l ≡ Some t → Holds t) →
      ((s t : S) (l : List ℕ) → Holds s → step s l ≡ Some t → written t ≡ written s ++ l ∷ []) →
      (ls : List (List ℕ)) (s t : S) → Holds s → steps step s ls ≡ Some t → written t ≡ written s ++ ls
  says_written written Holds kept one [] s t h e =
      let same : s ≡ t = cc in ap written (sym same) ∙ sym (append-nil (written s))
  says_written written Holds kept one (l ∷ ls) s t h e = by (step s l) refl (λ u. says_written written Holds kept one ls u t) e where
    by : (o : Option S) → step s l ≡ o → ((u : S) → Holds u → steps step u ls ≡ Some t → written t ≡ written u ++ ls) →
        option_and_then (λ u. steps step u ls) o ≡ Some t → written t ≡ written s ++ l ∷ ls
    by None f rest g = absurd cc
    by (Some u) f rest g =
        rest u (kept s u l h f) g ∙ ap (λ zs. zs ++ ls) (one s u l h f) ∙ append_assoc (written s) (l ∷ []) ls
