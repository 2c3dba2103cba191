-- Terms are read exactly: what follows a name, arguments, brackets.
use Rattle.std.proofs.Common.{◌≡◌, ℕ, zero, suc, ◌<◌, true, false, List, [], ◌∷◌, ◌++◌, refl, ap, sym, ◌∙◌, append_assoc, arith}
use Rattle.std.proofs.lemmas.List.{append-nil}
use Rattle.std.specs.Prelude.{Option, Some, None, codes}
use Rattle.tsl_text.specs.declared.TokenKind.TheVariants.{OpenRound, CloseRound, CloseSquare, CloseBrace, And, Or, Arrow, BothArrow, Equals}
use Rattle.tsl_text.specs.declared.TokenKind.TheVariants.{Semicolon}
use Rattle.reader_combinators.specs.Readers.{Reader, closed_by}
use Rattle.reader_combinators.specs.Exact.{Grammar, Begins, Exact}
use Rattle.reader_combinators.proofs.Runs.{exact_map, exact_as}
use Rattle.reader_combinators.proofs.Then.{Any, Tells, IsClosed, lift_closed, closed_exact}
use Rattle.reader_combinators.proofs.Terminals.{Turn, by_first, end_wrong, end_as, turn_of, turn_wrong, turn_deep, turn_alone, turn_takes}
use Rattle.reader_combinators.proofs.Terminals.{turn_as}
use Rattle.reader_combinators.proofs.Levels.{Below, Up, lift_up, exact_up, turn_below}
use Rattle.reader_combinators.proofs.Iterates.{Steps, stop, more, At, stays, goes, Stepping, iterate_exact}
use Rattle.reader_combinators.proofs.Lists.{AreAll, none, some}
use Rattle.spec_syntax.specs.declared.syntax.Word.TheVariants.{U, W, R}
use Rattle.spec_syntax.specs.Syntax.{Terminal, free, word, mark, TermSyntax, alone, applied, grouped_term, no_terms}
use Rattle.spec_syntax.specs.Grammar.{IsTerm, signal, constant, application, brackets, AreArguments, one_argument, more_arguments}
use Rattle.spec_syntax.specs.Grammar.{IsArgument, signal_argument, constant_argument, brackets_argument, in_brackets}
use Rattle.spec_syntax.specs.declared.syntax.Closer.{Closer}
use Rattle.spec_syntax.specs.declared.syntax.Closer.TheVariants.{Round, Square, Brace, Equals as EqualsAfter, Semicolon as SemicolonAfter}
use Rattle.spec_syntax.specs.Reading.{closes, Level, bracketed_term, begins_term, opened, Arguments, fresh, empty, name_last, term_last}
use Rattle.spec_syntax.specs.Reading.{complete, with_name, with_term, with_brackets, argument, argument_wanted, arguments_of, after_name}
use Rattle.spec_syntax.specs.Reading.{term_named, term_with}
use Rattle.spec_syntax.proofs.MoreLevels.{term_more}

-- how strongly a terminal ties to the form before it: an argument most, and what ends a form not at all
abbrev pub tie : Terminal → ℕ
tie (free x) = 6
tie (mark OpenRound) = 6
tie (mark And) = 5
tie (mark Or) = 4
tie (mark Arrow) = 3
tie (mark BothArrow) = 2
tie (word U) = 1
tie (word W) = 1
tie (word R) = 1
tie _ = 0

abbrev pub Below_tie : ℕ → Terminal → Type 0
Below_tie n x = tie x < n

abbrev pub TermExact : ℕ → Level → Type 0
TermExact levels_left l = Exact IsTerm (Below_tie 6) levels_left l.term

-- the terminals that close a form
abbrev pub closer_mark : Closer → Terminal
closer_mark Round = mark CloseRound
closer_mark Square = mark CloseSquare
closer_mark Brace = mark CloseBrace
closer_mark EqualsAfter = mark Equals
closer_mark SemicolonAfter = mark Semicolon

pub tells : (closer : Closer) → Tells (closes closer) (closer_mark closer)
tells closer = record { yes = yes closer; only = only closer } where
  yes : (c : Closer) → closes c (closer_mark c) ≡ true
  yes Round = refl
  yes _ = refl

  only : (c : Closer) (x : Terminal) → closes c x ≡ true → x ≡ closer_mark c
  only Round (mark CloseRound) e = refl
  only Square (mark CloseSquare) e = refl
  only Brace (mark CloseBrace) e = refl
  only EqualsAfter (mark Equals) e = refl
  only SemicolonAfter (mark Semicolon) e = refl
  only _ _ e = cc

lift_terms : (r : ℕ) (xs : List Terminal) (t : TermSyntax) → IsTerm r xs t → IsTerm (suc (suc r)) xs t
lift_terms r xs t h = term_more (term_more h)

-- a term and what closes it
pub closed_term : (closer : Closer) → tie (closer_mark closer) < 6 → {levels_left : ℕ} {reader : Reader Terminal TermSyntax} →
    Exact IsTerm (Below_tie 6) levels_left reader →
    Exact (IsClosed (closer_mark closer) IsTerm) Any levels_left (closed_by (closes closer) reader)
closed_term closer ends = closed_exact (tells closer) ends lift_terms

-- a term of the level below and its closing bracket
abbrev pub IsBracketed : Grammar Terminal TermSyntax
IsBracketed = Up (IsClosed (mark CloseRound) IsTerm)

brackets_exact : (k : ℕ) (l : Level) → TermExact k l → Exact (IsClosed (mark CloseRound) IsTerm) Any k (bracketed_term l)
brackets_exact k l = closed_term Round (omega arith)

lift_brackets : (r : ℕ) (xs : List Terminal) (t : TermSyntax) → IsBracketed r xs t → IsBracketed (suc (suc r)) xs t
lift_brackets = lift_up (IsClosed (mark CloseRound) IsTerm) (lift_closed (mark CloseRound) IsTerm lift_terms)

term_begins : {r : ℕ} {xs : List Terminal} {t : TermSyntax} → IsTerm r xs t → (ys : List Terminal) → begins_term (xs ++ ys) ≡ true
term_begins (signal x) ys = refl
term_begins _ ys = refl

bracketed_begins : (r : ℕ) (xs : List Terminal) (t : TermSyntax) → IsBracketed r xs t → begins_term xs ≡ true
bracketed_begins zero xs t h = absurd h
bracketed_begins (suc r) xs t h = rw h.1 (term_begins h.2 (mark CloseRound ∷ []))

-- ---- after a name and an opening bracket

abbrev IsOpened : Grammar Terminal (Option TermSyntax)
IsOpened r (mark CloseRound ∷ ys) o = (ys ≡ []) × (o ≡ None)
IsOpened r xs o = (t : TermSyntax) × IsBracketed r xs t × (o ≡ Some t)

some_opened : (levels_left : ℕ) → Begins (IsOpened levels_left) []
some_opened levels_left = record { ending = mark CloseRound ∷ []; value = None; derives = (refl, refl) }

not_opened : (r : ℕ) (xs : List Terminal) (t : TermSyntax) → begins_term xs ≡ false → IsBracketed r xs t → ⊥
not_opened r xs t e h = let begins : begins_term xs ≡ true = bracketed_begins r xs t h in cc

as_opened : (r : ℕ) (xs : List Terminal) (t : TermSyntax) → IsBracketed r xs t → IsOpened r xs (Some t)
as_opened r (mark CloseRound ∷ ys) t h = absurd (not_opened r (mark CloseRound ∷ ys) t refl h)
as_opened r _ t h = (t, h, refl)

needs_room : (r : ℕ) (xs : List Terminal) (t : TermSyntax) → IsBracketed r xs t → 0 < r
needs_room zero xs t h = absurd h
needs_room (suc r) xs t h = omega arith

abbrev pub a : Terminal
a = free (codes "a")

opened_exact : (levels_left : ℕ) (low : Option Level) → Below TermExact levels_left low → Exact IsOpened Any levels_left (opened low)
unfolding opened
opened_exact zero (Some l) h = absurd h
opened_exact (suc k) None h = absurd h
opened_exact zero None h = by_first (end_wrong refl (some_opened 0) (λ r o e. not_opened r [] e.0 refl e.1)) turn where
  turn : (x : Terminal) → Turn IsOpened Any 0 (opened None) x
  turn (mark CloseRound) = turn_alone None (λ rest. refl) (λ r. (refl, refl)) (λ r ys o e. e)
  turn (mark OpenRound) =
      let in_two = grouped_term (alone (codes "a")) in
      let ending = a ∷ mark CloseRound ∷ mark CloseRound ∷ [] in
      turn_deep (λ rest. refl) (some_opened 0)
      (record {
        ending = ending;
        value = Some in_two;
        derives =
            (in_two, (in_brackets (a ∷ []), refl, brackets (signal (codes "a"))), refl);
      })
      (λ r ys o e. needs_room r (mark OpenRound ∷ ys) e.0 e.1)
  turn (free x) =
      turn_deep (λ rest. refl) (some_opened 0)
      (record { ending = mark CloseRound ∷ []; value = Some (alone x); derives = (alone x, (free x ∷ [], refl, signal x), refl) })
      (λ r ys o e. needs_room r (free x ∷ ys) e.0 e.1)
  turn _ = turn_wrong (λ rest. refl) (some_opened 0) (λ r ys o e. not_opened r _ e.0 refl e.1)
opened_exact (suc k) (Some l) h =
    by_first (end_as (λ t. Some t) (bracketed_term l) refl (λ y e. e) as_opened (λ r o e. e)
    (λ r o e. absurd (not_opened r [] e.0 refl e.1)) inner) turn where
      inner : Exact IsBracketed Any (suc k) (bracketed_term l)
      inner = exact_up (brackets_exact k l h)

      turn : (x : Terminal) → Turn IsOpened Any (suc k) (opened (Some l)) x
      turn (mark CloseRound) = turn_alone None (λ rest. refl) (λ r. (refl, refl)) (λ r ys o e. e)
      turn _ = turn_as (λ t. Some t) (bracketed_term l) (λ rest. refl) (λ y e. e) as_opened (λ r ys o e. e) (turn_of inner _)

-- ---- arguments

-- a name or brackets, where arguments go on
abbrev IsArgumentStep : Arguments → Grammar Terminal Arguments
IsArgumentStep empty r xs t = ⊥
IsArgumentStep s r (free x ∷ ys) t = (ys ≡ []) × (t ≡ with_name s x)
IsArgumentStep (term_last ts) r (mark OpenRound ∷ ys) t = (u : TermSyntax) × IsBracketed r ys u × (t ≡ with_term (term_last ts) u)
IsArgumentStep s r (mark OpenRound ∷ ys) t = (o : Option TermSyntax) × IsOpened r ys o × (t ≡ with_brackets o s)
IsArgumentStep s r _ t = ⊥

-- a term is there with the levels that are left below
low_term : (levels_left : ℕ) → Begins (IsClosed (mark CloseRound) IsTerm (suc levels_left)) []
low_term levels_left =
    record { ending = a ∷ mark CloseRound ∷ []; value = alone (codes "a"); derives = (a ∷ [], refl, signal (codes "a")) }

lift_opened : (r : ℕ) (xs : List Terminal) (o : Option TermSyntax) → IsOpened r xs o → IsOpened (suc (suc r)) xs o
lift_opened r (mark CloseRound ∷ ys) o h = h
lift_opened r _ o h = (h.0, lift_brackets r _ h.0 h.1, h.2)

pub stepping : (levels_left : ℕ) (low : Option Level) → Below TermExact levels_left low →
    Stepping IsArgumentStep (λ s. Any) (Below_tie 6) levels_left (argument low)
unfolding argument
stepping levels_left low b = record {
  at_end = at_end;
  nothing = nothing;
  at = at;
  lift = lift;
  follows = λ s r xs t h x ys u k. tt;
  stops = stops;
  weaker = λ s x h. tt;
} where
  at_end : (s : Arguments) → argument low s [] ≡ None
  at_end empty = refl
  at_end _ = refl

  nothing : (s : Arguments) (r : ℕ) (t : Arguments) → IsArgumentStep s r [] t → ⊥
  nothing empty r t h = h
  nothing _ r t h = h

  at : (s : Arguments) (x : Terminal) → At (IsArgumentStep s) Any levels_left (argument low s) x
  at empty x = stays (λ rest. refl) (λ r ys t h. h)
  at (term_last ts) (mark OpenRound) = goes (argument_wanted low (term_last ts)) (λ rest. refl)
      (turn_below {Holds = TermExact} (with_term (term_last ts)) low bracketed_term brackets_exact b (λ rest. refl) (λ y e. e)
      (record { ending = a ∷ []; value = with_name (term_last ts) (codes "a"); derives = (refl, refl) }) (low_term levels_left)
      (λ r ys u e. (u, e, refl)) (λ r ys t e. e))
  at s (free x) =
      goes (argument_wanted low s) (λ rest. refl) (turn_alone (with_name s x) (λ rest. refl) (λ r. (refl, refl)) (λ r ys t e. e))
  at s (mark OpenRound) = goes (argument_wanted low s) (λ rest. refl)
      (turn_takes (λ o. with_brackets o s) (opened low) (λ rest. refl) (λ y e. e) (λ r ys o e. (o, e, refl)) (λ r ys t e. e)
      (opened_exact levels_left low b))
  at s x = stays (λ rest. refl) (λ r ys t h. h)

  lift : (s : Arguments) (r : ℕ) (xs : List Terminal) (t : Arguments) → IsArgumentStep s r xs t → IsArgumentStep s (suc (suc r)) xs t
  lift empty r xs t h = h
  lift (term_last ts) r (mark OpenRound ∷ ys) t h = (h.0, lift_brackets r ys h.0 h.1, h.2)
  lift s r (free x ∷ ys) t h = h
  lift s r (mark OpenRound ∷ ys) t h = (h.0, lift_opened r ys h.0 h.1, h.2)
  lift s r xs t h = h

  stops : (s : Arguments) (x : Terminal) → tie x < 6 → (rest : List Terminal) → argument low s (x ∷ rest) ≡ None
  stops empty x h rest = refl
  stops s (free x) h rest = absurd (omega (arith, h))
  stops s (mark OpenRound) h rest = absurd (omega (arith, h))
  stops s x h rest = refl

-- ---- the grammar of arguments

-- nothing, `()`, or arguments
pub data AreAfterName (r : ℕ) : List Terminal → Option (List TermSyntax) → Type 0 where
  nothing : AreAfterName r [] None
  no_arguments : AreAfterName r (mark OpenRound ∷ mark CloseRound ∷ []) (Some [])
  some_arguments : {xs : List Terminal} {t : TermSyntax} {ts : List TermSyntax} → AreArguments r xs (t ∷ ts) →
      AreAfterName r xs (Some (t ∷ ts))

are_arguments : (r : ℕ) (xs : List Terminal) (t : TermSyntax) (ts : List TermSyntax) → AreAll IsArgument r xs (t ∷ ts) →
    AreArguments r xs (t ∷ ts)
are_arguments r xs t ts (some {f = f} {g = g} h none) = rw (append-nil f) (one_argument h)
are_arguments r xs t ts (some h (some k rest)) = more_arguments h (are_arguments r _ _ _ (some k rest))

all_arguments : {r : ℕ} {xs : List Terminal} {ts : List TermSyntax} → AreArguments r xs ts → AreAll IsArgument r xs ts
all_arguments (one_argument {xs = xs} h) = rw (← append-nil xs) (some h none)
all_arguments (more_arguments h k) = some h (all_arguments k)

in_order : (r : ℕ) (xs : List Terminal) (ts : List TermSyntax) → AreAll IsArgument r xs ts → (o : Option (List TermSyntax)) → o ≡ Some ts →
    (xs ≡ [] → ⊥) → AreAfterName r xs o
in_order r xs [] none o e some_xs = absurd (some_xs refl)
in_order r xs (t ∷ ts) h o e some_xs = rw e (some_arguments (are_arguments r xs t ts h))

-- what steps from a state derive from, with the name that is still open
abbrev Decoded : Arguments → (r : ℕ) → List Terminal → Option (List TermSyntax) → Type 0
Decoded fresh r xs o = AreAfterName r xs o
Decoded empty r xs o = (xs ≡ []) × (o ≡ Some [])
Decoded (name_last ts x) r xs o = (us : List TermSyntax) × AreAll IsArgument r (free x ∷ xs) us × (o ≡ Some (ts ++ us))
Decoded (term_last ts) r xs o = (us : List TermSyntax) × AreAll IsArgument r xs us × (o ≡ Some (ts ++ us))

bracket_argument : (r : ℕ) (xs : List Terminal) (t : TermSyntax) → IsBracketed r xs t → IsArgument r (mark OpenRound ∷ xs) (grouped_term t)
bracket_argument zero xs t h = absurd h
bracket_argument (suc r) xs t h = rw h.1 (brackets_argument h.2)

opened_bracket : (r : ℕ) (xs : List Terminal) (t : TermSyntax) → IsOpened r xs (Some t) → IsBracketed r xs t
opened_bracket r (mark CloseRound ∷ ys) t h = let never = h.1 in cc
opened_bracket r _ t h = let same : h.0 ≡ t = (let both = h.2 in cc) in rw (← same) h.1

opened_empty : (r : ℕ) (xs : List Terminal) → IsOpened r xs None → xs ≡ mark CloseRound ∷ []
opened_empty r (mark CloseRound ∷ ys) h = ap (λ zs. mark CloseRound ∷ zs) h.0
opened_empty r _ h = let never = h.2 in cc

-- further arguments after one
one_more : (r : ℕ) (ts : List TermSyntax) (t : TermSyntax) (xs ys : List Terminal) (o : Option (List TermSyntax)) → IsArgument r xs t →
    Decoded (term_last (ts ++ t ∷ [])) r ys o →
    (us : List TermSyntax) × AreAll IsArgument r (xs ++ ys) us × (o ≡ Some (ts ++ us))
one_more r ts t xs ys o h k = (t ∷ k.0, some h k.1, k.2 ∙ ap (λ us. Some us) (append_assoc ts (t ∷ []) k.0))

by_brackets : (r : ℕ) (ts : List TermSyntax) (x : List ℕ) (xs ys : List Terminal) (found : Option TermSyntax)
    (o : Option (List TermSyntax)) → IsOpened r xs found →
    Decoded (with_brackets found (name_last ts x)) r ys o → Decoded (name_last ts x) r (mark OpenRound ∷ (xs ++ ys)) o
by_brackets r ts x xs ys None o h k =
    rw (opened_empty r xs h)
    (one_more r ts (applied x no_terms) (free x ∷ mark OpenRound ∷ mark CloseRound ∷ []) ys o (constant_argument x) k)
by_brackets r ts x xs ys (Some t) o h k =
    one_more r ts (alone x) (free x ∷ []) (mark OpenRound ∷ (xs ++ ys)) o (signal_argument x)
    (one_more r (ts ++ alone x ∷ []) (grouped_term t) (mark OpenRound ∷ xs) ys o (bracket_argument r xs t (opened_bracket r xs t h)) k)

first_brackets : (r : ℕ) (xs ys : List Terminal) (found : Option TermSyntax) (o : Option (List TermSyntax)) → IsOpened r xs found →
    Decoded (with_brackets found fresh) r ys o → AreAfterName r (mark OpenRound ∷ (xs ++ ys)) o
first_brackets r xs ys None o h k = rw (opened_empty r xs h, k.0, k.1) no_arguments
first_brackets r xs ys (Some t) o h k =
    let further = one_more r [] (grouped_term t) (mark OpenRound ∷ xs) ys o (bracket_argument r xs t (opened_bracket r xs t h)) k in
    in_order r (mark OpenRound ∷ (xs ++ ys)) further.0 further.1 o further.2 (λ e. cc)

after : (r : ℕ) (s t : Arguments) (f g : List Terminal) (o : Option (List TermSyntax)) → IsArgumentStep s r f t → Decoded t r g o →
    Decoded s r (f ++ g) o
after r fresh t (free x ∷ ys) g o h k =
    let named : Decoded (name_last [] x) r g o = rw h.1 at k in
    rw h.0 (in_order r (free x ∷ g) named.0 named.1 o named.2 (λ e. cc))
after r (name_last ts y) t (free x ∷ ys) g o h k =
    rw h.0 (one_more r ts (alone y) (free y ∷ []) (free x ∷ g) o (signal_argument y) (rw h.1 at k))
after r (term_last ts) t (free x ∷ ys) g o h k = let named : Decoded (name_last ts x) r g o = rw h.1 at k in rw h.0 named
after r (term_last ts) t (mark OpenRound ∷ ys) g o h k =
    one_more r ts (grouped_term h.0) (mark OpenRound ∷ ys) g o (bracket_argument r ys h.0 h.1) (rw h.2 at k)
after r fresh t (mark OpenRound ∷ ys) g o h k = first_brackets r ys g h.0 o h.1 (rw h.2 at k)
after r (name_last ts x) t (mark OpenRound ∷ ys) g o h k = by_brackets r ts x ys g h.0 o h.1 (rw h.2 at k)
after r _ t _ g o h k = absurd h

decode : (r : ℕ) (s : Arguments) (xs : List Terminal) (u : Arguments) → Steps IsArgumentStep r s xs u → Decoded s r xs (arguments_of u)
decode r fresh xs u stop = nothing
decode r empty xs u stop = (refl, refl)
decode r (name_last ts x) xs u stop = (alone x ∷ [], some (signal_argument x) none, refl)
decode r (term_last ts) xs u stop = ([], none, ap (λ us. Some us) (sym (append-nil ts)))
decode r s xs u (more {t = t} {f = f} {g = g} h m) = after r s t f g (arguments_of u) h (decode r t g u m)

-- arguments may follow
abbrev GoesOn : Arguments → Type 0
GoesOn empty = ⊥
GoesOn _ = Unit {0}

name_step : (r : ℕ) (s : Arguments) (x : List ℕ) → GoesOn s → IsArgumentStep s r (free x ∷ []) (with_name s x)
name_step r empty x h = h
name_step r _ x h = (refl, refl)

term_step : (r : ℕ) (s : Arguments) (xs : List Terminal) (t : TermSyntax) → GoesOn s → IsTerm r xs t →
    IsArgumentStep s (suc r) (in_brackets xs) (with_term s t)
term_step r empty xs t h k = h
term_step r (term_last ts) xs t h k = (t, (xs, refl, k), refl)
term_step r _ xs t h k = (Some t, as_opened (suc r) (xs ++ mark CloseRound ∷ []) t (xs, refl, k), refl)

-- the steps that read some arguments
encode : (r : ℕ) (s : Arguments) → GoesOn s → (xs : List Terminal) (us : List TermSyntax) → AreAll IsArgument r xs us →
    (u : Arguments) × Steps IsArgumentStep r s xs u × GoesOn u × (complete u ≡ complete s ++ us)
encode r s ok xs us none = (s, stop, ok, sym (append-nil (complete s)))
encode r s ok xs us (some {g = g} {vs = vs} (signal_argument x) k) =
    let e = encode r (with_name s x) tt g vs k in
    (e.0, more (name_step r s x ok) e.1, e.2, e.3 ∙ append_assoc (complete s) (alone x ∷ []) vs)
encode r s ok xs us (some {g = g} {vs = vs} (constant_argument c) k) =
    let called = term_last (complete s ++ applied c no_terms ∷ []) in
    let e = encode r called tt g vs k in
    let call : IsArgumentStep (with_name s c) r (mark OpenRound ∷ mark CloseRound ∷ []) called = (None, (refl, refl), refl) in
    let both = more (name_step r s c ok) (more {f = mark OpenRound ∷ mark CloseRound ∷ []} call e.1) in
    (e.0, both, e.2, e.3 ∙ append_assoc (complete s) (applied c no_terms ∷ []) vs)
encode r s ok xs us (some {g = g} {vs = vs} (brackets_argument {levels_left = low} {xs = inner} {t = t} h) k) =
    let e = encode r (with_term s t) tt g vs k in
    (e.0, more (term_step low s inner t ok h) e.1, e.2, e.3 ∙ append_assoc (complete s) (grouped_term t ∷ []) vs)

some_complete : (s : Arguments) (t : TermSyntax) (ts : List TermSyntax) → GoesOn s → complete s ≡ t ∷ ts → Some (t ∷ ts) ≡ arguments_of s
some_complete fresh t ts ok e = cc
some_complete empty t ts ok e = absurd ok
some_complete _ t ts ok e = ap (λ vs. Some vs) (sym e)

steps_after_name : (r : ℕ) (xs : List Terminal) (o : Option (List TermSyntax)) → AreAfterName r xs o →
    (s : Arguments) × Steps IsArgumentStep r fresh xs s × (o ≡ arguments_of s)
steps_after_name r xs o nothing = (fresh, stop, refl)
steps_after_name r xs o no_arguments =
    let call : IsArgumentStep fresh r (mark OpenRound ∷ mark CloseRound ∷ []) empty = (None, (refl, refl), refl) in
    (empty, more {f = mark OpenRound ∷ mark CloseRound ∷ []} call stop, refl)
steps_after_name r xs o (some_arguments {t = t} {ts = ts} h) =
    let e = encode r fresh tt xs (t ∷ ts) (all_arguments h) in
    (e.0, e.1, some_complete e.0 t ts e.2 e.3)

pub after_name_exact : (levels_left : ℕ) (low : Option Level) → Below TermExact levels_left low →
    Exact AreAfterName (Below_tie 6) levels_left (after_name low)
unfolding after_name
after_name_exact levels_left low b =
    exact_map arguments_of (λ r xs u h. decode r fresh xs u h) steps_after_name (iterate_exact (stepping levels_left low b) fresh)

-- ---- terms

-- how a term goes on after its first terminal
abbrev TermCase : Grammar Terminal TermSyntax
TermCase r [] t = ⊥
TermCase r (free f ∷ ys) t = (o : Option (List TermSyntax)) × AreAfterName r ys o × (t ≡ term_named f o)
TermCase r (mark OpenRound ∷ ys) t = (u : TermSyntax) × IsBracketed r ys u × (t ≡ grouped_term u)
TermCase r _ t = ⊥

term_case : {r : ℕ} {xs : List Terminal} {t : TermSyntax} → IsTerm r xs t → TermCase r xs t
term_case (signal x) = (None, nothing, refl)
term_case (constant c) = (Some [], no_arguments, refl)
term_case (application {t = t} {ts = ts} f h) = (Some (t ∷ ts), some_arguments h, refl)
term_case (brackets {xs = xs} {t = t} h) = (t, (xs, refl, h), refl)

term_of_name : (r : ℕ) (f : List ℕ) (xs : List Terminal) (o : Option (List TermSyntax)) → AreAfterName r xs o →
    IsTerm r (free f ∷ xs) (term_named f o)
term_of_name r f xs o nothing = signal f
term_of_name r f xs o no_arguments = constant f
term_of_name r f xs o (some_arguments h) = application f h

case_term : (r : ℕ) (xs : List Terminal) (t : TermSyntax) → TermCase r xs t → IsTerm r xs t
case_term r (free f ∷ ys) t h = rw h.2 (term_of_name r f ys h.0 h.1)
case_term zero (mark OpenRound ∷ ys) t h = absurd h.1
case_term (suc r) (mark OpenRound ∷ ys) t h = rw (h.2, h.1.1) (brackets h.1.2)
case_term r _ t h = absurd h

-- a term is read exactly
pub term_exact : (levels_left : ℕ) (low : Option Level) → Below TermExact levels_left low →
    Exact IsTerm (Below_tie 6) levels_left (term_with low)
unfolding term_with
term_exact levels_left low b =
    exact_as case_term (λ r xs t h. term_case h) (λ x h. h) (by_first (end_wrong refl some_term (λ r t h. h)) turn) where
      some_term : Begins (TermCase levels_left) []
      some_term = record { ending = a ∷ []; value = alone (codes "a"); derives = (None, nothing, refl) }

      turn : (x : Terminal) → Turn TermCase (Below_tie 6) levels_left (term_with low) x
      turn (free f) = turn_takes (term_named f) (after_name low) (λ rest. refl) (λ y h. h) (λ r ys o h. (o, h, refl)) (λ r ys t h. h)
          (after_name_exact levels_left low b)
      turn (mark OpenRound) =
          turn_below {Holds = TermExact} grouped_term low bracketed_term brackets_exact b (λ rest. refl)
          (λ y h. tt) some_term (low_term levels_left)
          (λ r ys t h. (t, h, refl)) (λ r ys t h. h)
      turn _ = turn_wrong (λ rest. refl) some_term (λ r ys t h. h)
