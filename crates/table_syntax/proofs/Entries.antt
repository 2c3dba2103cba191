-- Entries that their first words decide, and whole texts of entries.
use Rattle.std.proofs.Common.{◌≡◌, ℕ, suc, ◌≤◌, Bool, true, false, List, [], ◌∷◌, ◌++◌, refl, ap, sym, ◌∙◌}
use Rattle.std.proofs.lemmas.List.{append-nil}
use Rattle.std.specs.Prelude.{Option, Some, None, option_map, option_and_then, is_some, codes}
use Rattle.tsl_terms.specs.declared.names.NameKind.{NameKind}
use Rattle.reader_combinators.specs.Readers.{Answer, Reader, value_or_wrong, taking, and_then, map_read, members, at_end}
use Rattle.reader_combinators.specs.Exact.{Grammar, Before, Begins, Exact}
use Rattle.reader_combinators.proofs.Runs.{exact_as}
use Rattle.reader_combinators.proofs.Then.{Any}
use Rattle.reader_combinators.proofs.Terminals.{turn_of}
use Rattle.reader_combinators.proofs.Taken.{HasExample, IsOne, taken_begins, taken_exact, IsEnd, Never, end_exact, end_begins}
use Rattle.reader_combinators.proofs.Sequels.{
  IsMapped,
  mapped_exact,
  mapped_begins,
  Then,
  then_begins,
  then_exact,
  then_before,
  nothing_follows,
  after_one,
}
use Rattle.reader_combinators.proofs.Lists.{AreAll, none, some, Member, members_exact}
use Rattle.reader_combinators.proofs.WholeTexts.{Ends, ends_at_end, ends_map, ends_then}
use Rattle.table_syntax.specs.Syntax.{TextToken, is_name_token, is_word, is_numeral, number_at}
use Rattle.table_syntax.specs.internal.Reading.{word_at, numeral_at, from_one, positive_at, kind_at, member_by, headed_text}
use Rattle.table_syntax.proofs.Terminals.{word_is, word_taken, numeral_is, numeral_taken, from_one_is, from_one_taken, word_is_name, word_of_kind}
use Rattle.table_syntax.proofs.Terminals.{kind_is, has_kind, has_one, has_positive}

-- ---- forms one after another

module _ {T V W : Type 0} where
  pub then_of : {Is : List T → V → Type 0} {Next : V → Grammar T W} {r : ℕ} {w : W} (front tail : List T) (v : V) → Is front v →
      Next v r tail w → Then Is Next r (front ++ tail) w
  then_of front tail v h k = record { value = v; front = front; tail = tail; split = refl; first = h; second = k }

  -- one terminal before a form
  pub one_then : {value : T → Option V} {Next : V → Grammar T W} {r : ℕ} {tail : List T} {v : V} {w : W} (x : T) → value x ≡ Some v →
      Next v r tail w → Then (IsOne value) Next r (x ∷ tail) w
  one_then x e k = then_of (x ∷ []) _ _ (x, refl, e) k

  -- the same at another level
  pub elsewhere : {Is : List T → V → Type 0} {Next : V → Grammar T W} {r s : ℕ} {xs : List T} {w : W} →
      ((v : V) (ys : List T) → Next v r ys w → Next v s ys w) → Then Is Next r xs w → Then Is Next s xs w
  elsewhere lift h = record {
    value = h.value;
    front = h.front;
    tail = h.tail;
    split = h.split;
    first = h.first;
    second = lift h.value h.tail h.second;
  }

-- ---- forms that are read exactly, and that some terminals are

pub record Form {T V : Type 0} (Is : Grammar T V) (ends : T → Type 0) (levels_left : ℕ) (reader : Reader T V) : Type 0 where
  pub exact : Exact Is ends levels_left reader
  pub begins : (r : ℕ) → Begins (Is r) []

pub one_terminal : {T V : Type 0} (value : T → Option V) (levels_left : ℕ) → HasExample value →
    Form (λ r. IsOne value) Any levels_left (taking value)
one_terminal value levels_left e = record { exact = taken_exact value e levels_left; begins = λ r. taken_begins value e 0 }

module _ {T V W : Type 0} where
  pub mapped_form : {Is : Grammar T V} {ends : T → Type 0} {levels_left : ℕ} {reader : Reader T V} (make : V → W) →
      Form Is ends levels_left reader → Form (IsMapped make Is) ends levels_left (λ xs. map_read make (reader xs))
  mapped_form {Is = Is} make k = record { exact = mapped_exact make k.exact; begins = λ r. mapped_begins make Is r (k.begins r) }

  pub then_form : {Is : List T → V → Type 0} {Next : V → Grammar T W} {ends : T → Type 0} {levels_left : ℕ} {reader : Reader T V}
      {next : V → Reader T W} → Form (λ r. Is) Any levels_left reader → ((v : V) → Form (Next v) ends levels_left (next v)) →
      Form (Then Is Next) ends levels_left (λ xs. and_then (reader xs) next)
  then_form {Is = Is} {Next = Next} k second = record {
    exact = then_exact (λ r v. (second v).begins r) k.exact (λ v. (second v).exact);
    begins = λ r. then_begins Is Next r (k.begins r) (λ v. (second v).begins r);
  }

  -- before some terminals, with which each further form begins
  pub before_form : {Is : List T → V → Type 0} {Next : V → Grammar T W} {firsts ends : T → Type 0} {levels_left : ℕ} {reader : Reader T V}
      {next : V → Reader T W} →
      ((r : ℕ) (v : V) (xs : List T) (w : W) → Next v r xs w → (rest : List T) → Before ends rest → Before firsts (xs ++ rest)) →
      Form (λ r. Is) firsts levels_left reader → ((v : V) → Form (Next v) ends levels_left (next v)) →
      Form (Then Is Next) ends levels_left (λ xs. and_then (reader xs) next)
  before_form {Is = Is} {Next = Next} follow k second = record {
    exact = then_before (λ r v. (second v).begins r) follow k.exact (λ v. (second v).exact);
    begins = λ r. then_begins Is Next r (k.begins r) (λ v. (second v).begins r);
  }

-- the same in other words
pub other_form : {T V : Type 0} {Is Others : Grammar T V} {ends fewer : T → Type 0} {levels_left : ℕ} {reader : Reader T V} →
    ((r : ℕ) (xs : List T) (v : V) → Is r xs v → Others r xs v) → ((r : ℕ) (xs : List T) (v : V) → Others r xs v → Is r xs v) →
    ((x : T) → fewer x → ends x) → Form Is ends levels_left reader → Form Others fewer levels_left reader
other_form to from weaker k = record {
  exact = exact_as to from weaker k.exact;
  begins = λ r. record {
    ending = (k.begins r).ending;
    value = (k.begins r).value;
    derives = to r (k.begins r).ending (k.begins r).value (k.begins r).derives;
  };
}

-- a list of members
module _ {T V : Type 0} {Is : Grammar T V} {Are : List T → List V → Type 0} where
  pub listed_form : Are [] [] → ((r : ℕ) (f g : List T) (v : V) (vs : List V) → Is r f v → Are g vs → Are (f ++ g) (v ∷ vs)) →
      ((r : ℕ) (xs : List T) (vs : List V) → Are xs vs → AreAll Is r xs vs) →
      {each ends : T → Type 0} {levels_left : ℕ} {member : List T → Option (Answer T V)} {starts : T → Bool} {reader : Reader T V} →
      Member Is each ends levels_left member starts reader → Form (λ r. Are) ends levels_left (members member)
  listed_form nothing more all k = record {
    exact = exact_as are all (λ x e. e) (members_exact k);
    begins = λ r. record { ending = []; value = []; derives = nothing };
  } where
    are : (r : ℕ) (xs : List T) (vs : List V) → AreAll Is r xs vs → Are xs vs
    are r xs vs none = nothing
    are r xs vs (some {f = f} {g = g} {v = v} {vs = ws} h rest) = more r f g v ws h (are r g ws rest)

-- ---- entries

-- the first word of an entry, and what it decides
abbrev pub IsByKind : {E : Type 0} → (NameKind → Grammar TextToken E) → Grammar TextToken E
IsByKind IsForm = Then (IsOne kind_at) IsForm

module _ {E : Type 0} (read : NameKind → Reader TextToken E) (IsForm : NameKind → Grammar TextToken E) {each : TextToken → Type 0}
    (form : (kind : NameKind) (levels_left : ℕ) → Form (IsForm kind) each levels_left (read kind))
    (lift_form : (kind : NameKind) (r : ℕ) (xs : List TextToken) (e : E) → IsForm kind r xs e → IsForm kind (suc (suc r)) xs e)
    (named : (x : TextToken) → is_name_token x ≡ true → each x) where
  whole_exact : (levels_left : ℕ) → Exact (IsByKind IsForm) each levels_left (λ xs. and_then (taking kind_at xs) read)
  whole_exact levels_left = (then_form (one_terminal kind_at levels_left has_kind) (λ kind. form kind levels_left)).exact

  pub by_kind : (levels_left : ℕ) → Member (IsByKind IsForm) each Never levels_left (member_by read) (λ x. is_some (kind_at x))
      (λ xs. and_then (taking kind_at xs) read)
  unfolding taking
  by_kind levels_left = record {
    at_end = refl;
    none = λ x rest e. none_here (kind_at x) rest e;
    some = λ x rest e. some_here (kind_at x) x rest e;
    begins = begins;
    lift = λ r xs e h. elsewhere (λ kind ys k. lift_form kind r ys e k) h;
    follows = λ x e. follows x (kind_at x) refl e;
    stops = λ x e. absurd e;
    weaker = λ x e. absurd e;
    turn = λ x e. turn_of (whole_exact levels_left) x;
  } where
    none_here : (o : Option NameKind) (rest : List TextToken) → is_some o ≡ false →
        option_map (λ (f : NameKind × List TextToken). read f.0 f.1) (option_map (λ kind. (kind, rest)) o) ≡ None
    none_here None rest e = refl
    none_here (Some kind) rest e = cc

    some_here : (o : Option NameKind) (x : TextToken) (rest : List TextToken) → is_some o ≡ true →
        option_map (λ (f : NameKind × List TextToken). read f.0 f.1) (option_map (λ kind. (kind, rest)) o)
        ≡ Some (and_then (value_or_wrong o x rest) read)
    some_here None x rest e = cc
    some_here (Some kind) x rest e = refl

    begins : (r : ℕ) (xs : List TextToken) (e : E) → IsByKind IsForm r xs e →
        (x : TextToken) × (ys : List TextToken) × (xs ≡ x ∷ ys) × (is_some (kind_at x) ≡ true)
    begins r xs e h =
        (h.first.0, h.tail, h.split ∙ ap (λ front. front ++ h.tail) h.first.1, ap is_some h.first.2)

    follows : (x : TextToken) (o : Option NameKind) → kind_at x ≡ o → is_some o ≡ true → each x
    follows x None is e = cc
    follows x (Some kind) is e = named x (word_is_name (word_of_kind kind) x (kind_is x kind is))

-- ---- whole texts

-- a first word, "1", another word, a number from 1 on, and entries
abbrev pub IsHeaded : {E V : Type 0} → List ℕ → List ℕ → (List TextToken → List E → Type 0) → (ℕ → List E → V) → Grammar TextToken V
IsHeaded head word Are made =
    Then (IsOne (word_at head)) (λ _. Then (IsOne (numeral_at (codes "1"))) (λ _. Then (IsOne (word_at word)) (λ _.
    Then (IsOne positive_at) (λ n. Then Are (λ es. IsMapped (λ _. made n es) IsEnd)))))

module _ {E V : Type 0} {head word : List ℕ} {Are : List TextToken → List E → Type 0} {made : ℕ → List E → V}
    (Is : List TextToken → V → Type 0)
    (build : (xs : List TextToken) (es : List E) (a b c d : TextToken) (n : ℕ) → is_word head a ≡ true → is_numeral (codes "1") b ≡ true →
    is_word word c ≡ true → number_at d ≡ Some n → 1 ≤ n → Are xs es → Is (a ∷ b ∷ c ∷ d ∷ xs) (made n es)) where
  -- such a text, by its parts
  pub built : (r : ℕ) (xs : List TextToken) (v : V) → IsHeaded head word Are made r xs v → Is xs v
  built r xs v a =
      let b = a.second in
      let c = b.second in
      let d = c.second in
      let e = d.second in
      let positive = from_one_is (number_at d.first.0) d.value d.first.2 in
      let tail : d.tail ≡ e.front = e.split ∙ ap (λ ys. e.front ++ ys) e.second.1 ∙ append-nil e.front in
      rw (after_one a, after_one b, after_one c, after_one d, tail, e.second.2)
      (build e.front e.value a.first.0 b.first.0 c.first.0 d.first.0 d.value (word_is head a.first.0 a.first.2)
      (numeral_is (codes "1") b.first.0 b.first.2) (word_is word c.first.0 c.first.2) positive.0 positive.1 e.first)

module _ {E V : Type 0} {head word : List ℕ} {Are : List TextToken → List E → Type 0} {made : ℕ → List E → V} where
  pub of_parts : {xs : List TextToken} (es : List E) (r : ℕ) (a b c d : TextToken) (n : ℕ) → is_word head a ≡ true →
      is_numeral (codes "1") b ≡ true → is_word word c ≡ true → number_at d ≡ Some n → 1 ≤ n → Are xs es →
      IsHeaded head word Are made r (a ∷ b ∷ c ∷ d ∷ xs) (made n es)
  of_parts {xs = xs} es r a b c d n first one second number positive entries =
      one_then a (word_taken head a first) (one_then b (numeral_taken (codes "1") b one) (one_then c (word_taken word c second)
      (one_then d (ap (option_and_then from_one) number ∙ from_one_taken n positive) (record {
        value = es;
        front = xs;
        tail = [];
        split = sym (append-nil xs);
        first = entries;
        second = (tt, refl, refl);
      }))))

pub at_the_end : (levels_left : ℕ) → Form (IsEnd {T = TextToken}) Never levels_left at_end
at_the_end levels_left = record { exact = end_exact levels_left; begins = λ r. end_begins }

module _ {E V : Type 0} {head word : List ℕ} (has_head : HasExample (word_at head)) (has_second : HasExample (word_at word))
    {Are : List TextToken → List E → Type 0} {read : Reader TextToken (List E)}
    (form : (levels_left : ℕ) → Form (λ r. Are) Never levels_left read) (made : ℕ → List E → V) where
  pub headed_exact : (levels_left : ℕ) → Exact (IsHeaded head word Are made) Never levels_left (headed_text head word read made)
  headed_exact levels_left =
      (then_form (one_terminal (word_at head) levels_left has_head) (λ _.
      then_form (one_terminal (numeral_at (codes "1")) levels_left has_one) (λ _.
      then_form (one_terminal (word_at word) levels_left has_second) (λ _.
      then_form (one_terminal positive_at levels_left has_positive) (λ n.
      before_form (λ r es xs v h rest b. nothing_follows Never (λ _. made n es) r xs v h rest b) (form levels_left)
      (λ es. mapped_form (λ _. made n es) (at_the_end levels_left))))))).exact

pub headed_end : {E V : Type 0} (head word : List ℕ) (read : Reader TextToken (List E)) (made : ℕ → List E → V) →
    Ends (headed_text head word read made)
headed_end head word read made =
    ends_then (taking (word_at head)) (λ _. ends_then (taking (numeral_at (codes "1"))) (λ _.
    ends_then (taking (word_at word)) (λ _. ends_then (taking positive_at) (λ n.
    ends_then read (λ es. ends_map (λ _. made n es) ends_at_end)))))
