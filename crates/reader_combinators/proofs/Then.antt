-- One reader after another, and a form that a terminal closes.
use Rattle.std.proofs.Common.{◌≡◌, ℕ, suc, Bool, true, false, List, [], ◌∷◌, ◌++◌, refl, ap, sym, ◌∙◌, append_assoc}
use Rattle.std.specs.Prelude.{Ok, Err, if◌then◌else◌}
use Rattle.reader_combinators.specs.Readers.{form, deep, Answer, Reader, form_at, and_then, closing, closed_by}
use Rattle.reader_combinators.specs.Exact.{Grammar, SameFirst, Before, Ending, gives, wrong, too_deep, ends_with, Begins, Says, Run, Agrees}
use Rattle.reader_combinators.specs.Exact.{Exact}
use Rattle.reader_combinators.proofs.Runs.{same_first, same_split, exact_map, exact_as, Same}
use Rattle.reader_combinators.proofs.Terminals.{Turn, by_first, end_wrong, turn_wrong, turn_alone}

module _ {T V W : Type 0} where
  -- a value of the first grammar, and then one of the second
  pub record IsThen (Is : Grammar T V) (Next : V → Grammar T W) (r : ℕ) (xs : List T) (w : W) : Type 0 where
    pub value : V
    pub front : List T
    pub tail : List T
    pub split : xs ≡ front ++ tail
    pub first : Is r front value
    pub second : Next value r tail w

  pub lift_then : (Is : Grammar T V) (Next : V → Grammar T W) → ((r : ℕ) (xs : List T) (v : V) → Is r xs v → Is (suc (suc r)) xs v) →
      ((v : V) (r : ℕ) (xs : List T) (w : W) → Next v r xs w → Next v (suc (suc r)) xs w) → (r : ℕ) (xs : List T) (w : W) →
      IsThen Is Next r xs w → IsThen Is Next (suc (suc r)) xs w
  lift_then Is Next lift further r xs w h = record {
    value = h.value;
    front = h.front;
    tail = h.tail;
    split = h.split;
    first = lift r h.front h.value h.first;
    second = further h.value r h.tail w h.second;
  }

  -- the first grammar needs no more levels than there are, and something derives after each of its values
  pub record Fits (Is : Grammar T V) (Next : V → Grammar T W) : Type 0 where
    pub lift : (r : ℕ) (xs : List T) (v : V) → Is r xs v → Is (suc (suc r)) xs v
    pub default : (r : ℕ) (v : V) → Begins (Next v r) []

  module _ {Is : Grammar T V} {Next : V → Grammar T W} (fits : Fits Is Next) where
    first_begins : (r : ℕ) (front : List T) → Begins (Is r) front → Begins (IsThen Is Next r) front
    first_begins r front b =
        let second : Begins (Next b.value r) [] = fits.default r b.value in
        record {
          ending = b.ending ++ second.ending;
          value = second.value;
          derives = record {
            value = b.value;
            front = front ++ b.ending;
            tail = second.ending;
            split = sym (append_assoc front b.ending second.ending);
            first = b.derives;
            second = second.derives;
          };
        }

    second_begins : (r : ℕ) (f front : List T) (v : V) → Is r f v → Begins (Next v r) front → Begins (IsThen Is Next r) (f ++ front)
    second_begins r f front v h b = record {
      ending = b.ending;
      value = b.value;
      derives =
          record { value = v; front = f; tail = front ++ b.ending; split = append_assoc f front b.ending; first = h; second = b.derives };
    }

    says_then : (levels_left : ℕ) (f : List T) (v : V) → Is levels_left f v → (outcome : Ending W) (front rest : List T) →
        Says (Next v) levels_left outcome front rest → Says (IsThen Is Next) levels_left outcome (f ++ front) rest
    says_then levels_left f v h (gives w) front rest k = record { value = v; front = f; tail = front; split = refl; first = h; second = k }
    says_then levels_left f v h wrong front rest k = second_begins levels_left f front v h k
    says_then levels_left f v h too_deep front [] k = absurd k
    says_then levels_left f v h too_deep front (x ∷ rest) k = (
      second_begins levels_left f front v h k.0,
      rw append_assoc (second_begins (suc (suc levels_left)) f (front ++ x ∷ []) v (fits.lift levels_left f v h) k.1),
    )

    -- a run of the first reader, and one of the second where the first gives a value
    pub run_then : (levels_left : ℕ) (reader : Reader T V) (next : V → Reader T W) (xs : List T) → Run Is levels_left reader xs →
        ((v : V) (rest : List T) → reader xs ≡ Ok (v, rest) → Run (Next v) levels_left (next v) rest) →
        Run (IsThen Is Next) levels_left (λ ys. and_then (reader ys) next) xs
    run_then levels_left reader next xs k second = by k.front k.rest k.outcome k.split k.reads k.says where
      run_second : (front rest : List T) (v : V) → xs ≡ front ++ rest →
          ((other : List T) → SameFirst rest other → reader (front ++ other) ≡ Ok (v, other)) → Is levels_left front v →
          Run (Next v) levels_left (next v) rest → Run (IsThen Is Next) levels_left (λ ys. and_then (reader ys) next) xs
      run_second front rest v split reads h m = record {
        front = front ++ m.front;
        rest = m.rest;
        outcome = m.outcome;
        split = split ∙ ap (λ ys. front ++ ys) m.split ∙ sym (append_assoc front m.front m.rest);
        reads = λ other same.
            ap (λ ys. and_then (reader ys) next) (append_assoc front m.front other)
            ∙ ap (λ answer. and_then answer next) (reads (m.front ++ other) (same_split m.front m.rest rest other m.split same))
            ∙ m.reads other same;
        says = says_then levels_left front v h m.outcome m.front m.rest m.says;
      }

      by : (front rest : List T) (outcome : Ending V) → xs ≡ front ++ rest →
          ((other : List T) → SameFirst rest other → reader (front ++ other) ≡ ends_with outcome other) →
          Says Is levels_left outcome front rest → Run (IsThen Is Next) levels_left (λ ys. and_then (reader ys) next) xs
      by front rest (gives v) split reads says =
          run_second front rest v split reads says (second v rest (ap reader split ∙ reads rest (same_first rest)))
      by front rest wrong split reads says = record {
        front = front;
        rest = rest;
        outcome = wrong;
        split = split;
        reads = λ other same. ap (λ answer. and_then answer next) (reads other same);
        says = first_begins levels_left front says;
      }
      by front [] too_deep split reads says = absurd says
      by front (x ∷ rest) too_deep split reads says = record {
        front = front;
        rest = x ∷ rest;
        outcome = too_deep;
        split = split;
        reads = λ other same. ap (λ answer. and_then answer next) (reads other same);
        says = (first_begins levels_left front says.0, first_begins (suc (suc levels_left)) (front ++ x ∷ []) says.1);
      }

  pub agrees_then : (levels_left needed : ℕ) (v : V) (w : W) (ys rest : List T) (answer : Answer T V) (next : V → Reader T W) →
      Agrees levels_left needed v ys answer →
      Agrees levels_left needed w rest (next v ys) → Agrees levels_left needed w rest (and_then answer next)
  agrees_then levels_left needed v w ys rest (Ok (u, left)) next h k = rw (h.0, h.1) k
  agrees_then levels_left needed v w ys rest (Err (form left)) next h k = h
  agrees_then levels_left needed v w ys rest (Err (deep left)) next h k = h

  -- one reader after another
  pub exact_then : {Is : Grammar T V} {Next : V → Grammar T W} {firsts ends : T → Type 0} {levels_left : ℕ} {reader : Reader T V}
      {next : V →
      Reader T W} → Fits Is Next →
      ((r : ℕ) (v : V) (xs : List T) (w : W) → Next v r xs w → (rest : List T) → Before ends rest → Before firsts (xs ++ rest)) →
      Exact Is firsts levels_left reader → ((v : V) → Exact (Next v) ends levels_left (next v)) →
      Exact (IsThen Is Next) ends levels_left (λ xs. and_then (reader xs) next)
  exact_then {levels_left = levels_left} {reader = reader} {next = next} fits follow k second = record {
    run = λ xs. run_then fits levels_left reader next xs (k.run xs) (λ v rest e. (second v).run rest);
    complete = λ r xs w h rest b. rw (h.split, append_assoc)
        (agrees_then levels_left r h.value w (h.tail ++ rest) rest (reader (h.front ++ (h.tail ++ rest))) next
        (k.complete r h.front h.value h.first (h.tail ++ rest) (follow r h.value h.tail w h.second rest b))
        ((second h.value).complete r h.tail w h.second rest b));
  }

-- any terminal may follow
abbrev pub Any : {T : Type 0} → T → Type 0
Any x = Unit {0}

pub before_any : {T : Type 0} (xs : List T) → Before Any xs
before_any [] = tt
before_any (x ∷ xs) = tt

-- the one terminal that passes a test
pub record Tells {T : Type 0} (is : T → Bool) (mark : T) : Type 0 where
  pub yes : is mark ≡ true
  pub only : (x : T) → is x ≡ true → x ≡ mark

-- this terminal
abbrev pub IsMark : {T : Type 0} → T → Grammar T (Unit {0})
IsMark mark r xs w = xs ≡ mark ∷ []

-- a terminal that closes a form
pub closing_exact : {T : Type 0} {is : T → Bool} {mark : T} → Tells is mark → (levels_left : ℕ) →
    Exact (IsMark mark) Any levels_left (closing is)
unfolding closing
closing_exact {T = T} {is = is} {mark = mark} tells levels_left =
    by_first (end_wrong refl closer (λ r w h. cc)) (λ x. by x (is x) refl) where
      closer : Begins (IsMark mark levels_left) []
      closer = record { ending = mark ∷ []; value = tt; derives = refl }

      by : (x : T) (b : Bool) → is x ≡ b → Turn (IsMark mark) Any levels_left (closing is) x
      by x true e = turn_alone tt (λ rest. ap (λ b. if b then Ok (tt {0}, rest) else form_at (x ∷ rest)) e)
          (λ r. ap (λ y. y ∷ []) (tells.only x e)) (λ r ys w h. (cc, refl))
      by x false e = turn_wrong (λ rest. ap (λ b. if b then Ok (tt {0}, rest) else form_at (x ∷ rest)) e) closer
          (λ r ys w h. let same : x ≡ mark = cc in let both : false ≡ is mark = rw (← same) (sym e) in let yes_it = tells.yes in cc)

module _ {T V : Type 0} where
  -- this terminal, and the same value
  abbrev pub IsClosing : T → V → Grammar T V
  IsClosing mark v r xs w = (xs ≡ mark ∷ []) × (w ≡ v)

  -- a form and the terminal that closes it
  abbrev pub IsClosed : T → Grammar T V → Grammar T V
  IsClosed mark Is r xs v = (inner : List T) × (xs ≡ inner ++ mark ∷ []) × Is r inner v

  pub lift_closed : (mark : T) (Is : Grammar T V) → ((r : ℕ) (xs : List T) (v : V) → Is r xs v → Is (suc (suc r)) xs v) →
      (r : ℕ) (xs : List T) (v : V) → IsClosed mark Is r xs v → IsClosed mark Is (suc (suc r)) xs v
  lift_closed mark Is lift r xs v h = (h.0, h.1, lift r h.0 v h.2)

  module _ {is : T → Bool} {mark : T} (tells : Tells is mark) where
    pub closed_exact : {Is : Grammar T V} {ends : T → Type 0} {levels_left : ℕ} {reader : Reader T V} → ends mark →
        ((r : ℕ) (xs : List T) (v : V) → Is r xs v → Is (suc (suc r)) xs v) → Exact Is ends levels_left reader →
        Exact (IsClosed mark Is) Any levels_left (closed_by is reader)
    closed_exact {Is = Is} {ends = ends} {levels_left = levels_left} follows lift k =
        exact_as to from (λ x h. h) (exact_then (record { lift = lift; default = closer }) follow k
        (λ v. exact_map (λ u. v) (λ r xs u h. (h, refl)) (λ r xs w h. (tt, h.0, h.1)) (closing_exact tells levels_left))) where
          closer : (r : ℕ) (v : V) → Begins (IsClosing mark v r) []
          closer r v = record { ending = mark ∷ []; value = v; derives = (refl, refl) }

          follow : (r : ℕ) (v : V) (xs : List T) (w : V) → IsClosing mark v r xs w → (rest : List T) → Before Any rest →
              Before ends (xs ++ rest)
          follow r v xs w h rest b = rw h.0 follows

          to : (r : ℕ) (xs : List T) (v : V) → IsThen Is (IsClosing mark) r xs v → IsClosed mark Is r xs v
          to r xs v h = (h.front, h.split ∙ ap (λ ys. h.front ++ ys) h.second.0, rw h.second.1 h.first)

          from : (r : ℕ) (xs : List T) (v : V) → IsClosed mark Is r xs v → IsThen Is (IsClosing mark) r xs v
          from r xs v h = record { value = v; front = h.0; tail = mark ∷ []; split = h.1; first = h.2; second = (refl, refl) }

module _ {T U V W : Type 0} {X : Grammar T W} {Y : Grammar T V} {A : Grammar T U} {B : U → Grammar T V} {C : V → Grammar T W} where
  -- three forms one after another, by the last one or by the first one
  pub regroup : Same X (IsThen Y C) → Same Y (IsThen A B) → Same X (IsThen A (λ u. IsThen (B u) C))
  regroup outer inner =
      record { to = λ r xs w h. to r xs w (outer.to r xs w h); from = λ r xs w h. outer.from r xs w (from r xs w h) } where
        to : (r : ℕ) (xs : List T) (w : W) → IsThen Y C r xs w → IsThen A (λ u. IsThen (B u) C) r xs w
        to r xs w h =
            let first = inner.to r h.front h.value h.first in
            record {
              value = first.value;
              front = first.front;
              tail = first.tail ++ h.tail;
              split = h.split ∙ ap (λ ys. ys ++ h.tail) first.split ∙ append_assoc first.front first.tail h.tail;
              first = first.first;
              second = record { value = h.value; front = first.tail; tail = h.tail; split = refl; first = first.second; second = h.second };
            }

        from : (r : ℕ) (xs : List T) (w : W) → IsThen A (λ u. IsThen (B u) C) r xs w → IsThen Y C r xs w
        from r xs w h =
            let rest = h.second in
            record {
              value = rest.value;
              front = h.front ++ rest.front;
              tail = rest.tail;
              split = h.split ∙ ap (λ ys. h.front ++ ys) rest.split ∙ sym (append_assoc h.front rest.front rest.tail);
              first = inner.from r (h.front ++ rest.front) rest.value
                  (record { value = h.value; front = h.front; tail = rest.front; split = refl; first = h.first; second = rest.first });
              second = rest.second;
            }
