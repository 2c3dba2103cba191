-- A list of members.
use Rattle.std.proofs.Common.{◌≡◌, ℕ, suc, Bool, true, false, List, [], ◌∷◌, ◌++◌, refl, ap, sym, ◌∙◌, append_assoc}
use Rattle.std.proofs.lemmas.List.{append-nil}
use Rattle.std.specs.Prelude.{Option, Some, None, if◌then◌else◌}
use Rattle.reader_combinators.specs.Readers.{Answer, Reader, form_at, after, map_read, push, push_read, members}
use Rattle.reader_combinators.specs.Exact.{Grammar, Begins, Exact}
use Rattle.reader_combinators.proofs.Runs.{exact_as}
use Rattle.reader_combinators.proofs.Terminals.{Turn, turn_of, turn_as, IsAfter, after_exact}
use Rattle.reader_combinators.proofs.Then.{Any}
use Rattle.reader_combinators.proofs.Taken.{Never}
use Rattle.reader_combinators.proofs.Iterates.{Steps, stop, more, At, stays, goes, Stepping, iterate_exact}

module _ {T V : Type 0} where
  -- members one after another
  pub data AreAll (Is : Grammar T V) (r : ℕ) : List T → List V → Type 0 where
    none : AreAll Is r [] []
    some : {f g : List T} {v : V} {vs : List V} → Is r f v → AreAll Is r g vs → AreAll Is r (f ++ g) (v ∷ vs)

  -- A member is decided by the first terminal, and read exactly.
  pub record Member (Is : Grammar T V) (each ends : T → Type 0) (levels_left : ℕ) (member : List T → Option (Answer T V)) (starts : T →
      Bool) (reader : Reader T V) : Type 0 where
    pub at_end : member [] ≡ None
    pub none : (x : T) (rest : List T) → starts x ≡ false → member (x ∷ rest) ≡ None
    pub some : (x : T) (rest : List T) → starts x ≡ true → member (x ∷ rest) ≡ Some (reader (x ∷ rest))
    pub begins : (r : ℕ) (xs : List T) (v : V) → Is r xs v → (x : T) × (ys : List T) × (xs ≡ x ∷ ys) × (starts x ≡ true)
    pub lift : (r : ℕ) (xs : List T) (v : V) → Is r xs v → Is (suc (suc r)) xs v
    pub follows : (x : T) → starts x ≡ true → each x
    pub stops : (x : T) → ends x → starts x ≡ false
    pub weaker : (x : T) → ends x → each x
    pub turn : (x : T) → starts x ≡ true → Turn Is each levels_left reader x

  -- a member after those that were read
  abbrev IsPushed : Grammar T V → List V → Grammar T (List V)
  IsPushed Is vs r xs ws = (v : V) × Is r xs v × (ws ≡ vs ++ v ∷ [])

  module _ {Is : Grammar T V} {each ends : T → Type 0} {levels_left : ℕ} {member : List T → Option (Answer T V)} {starts : T →
      Bool} {reader : Reader T V} (k : Member Is each ends levels_left member starts reader) where
    pub stepping : Stepping (IsPushed Is) (λ vs. each) ends levels_left (push member)
    stepping = record {
      at_end = λ vs. ap (push_read vs) k.at_end;
      nothing = λ vs r ws h. let first = k.begins r [] h.0 h.1 in let same = first.2 in cc;
      at = λ vs x. by vs x (starts x) refl;
      lift = λ vs r xs ws h. (h.0, k.lift r xs h.0 h.1, h.2);
      follows = λ vs r xs ws h x ys us i. k.follows x (begun r x ys i.0 i.1);
      stops = λ vs x h rest. ap (push_read vs) (k.none x rest (k.stops x h));
      weaker = λ vs. k.weaker;
    } where
      begun : (r : ℕ) (x : T) (ys : List T) (v : V) → Is r (x ∷ ys) v → starts x ≡ true
      begun r x ys v h = let first = k.begins r (x ∷ ys) v h in let same : x ≡ first.0 = (let whole = first.2 in cc) in rw same first.3

      by : (vs : List V) (x : T) (b : Bool) → starts x ≡ b → At (IsPushed Is vs) each levels_left (push member vs) x
      by vs x true e = goes (λ xs. map_read (λ v. vs ++ v ∷ []) (reader xs)) (λ rest. ap (push_read vs) (k.some x rest e))
          (turn_as (λ v. vs ++ v ∷ []) reader (λ rest. refl) (λ y h. h) (λ r ys v h. (v, h, refl)) (λ r ys ws h. h) (k.turn x e))
      by vs x false e = stays (λ rest. ap (push_read vs) (k.none x rest e)) (λ r ys ws h. let yes = begun r x ys h.0 h.1 in cc)

  listed : (Is : Grammar T V) (r : ℕ) (vs : List V) (xs : List T) (ws : List V) → Steps (IsPushed Is) r vs xs ws →
      (us : List V) × AreAll Is r xs us × (ws ≡ vs ++ us)
  listed Is r vs xs ws stop = ([], none, sym (append-nil vs))
  listed Is r vs xs ws (more {t = ts} {f = f} {g = g} h m) =
      let further = listed Is r ts g ws m in
      (h.0 ∷ further.0, some h.1 further.1, further.2 ∙ ap (λ us. us ++ further.0) h.2 ∙ append_assoc vs (h.0 ∷ []) further.0)

  stepped : (Is : Grammar T V) (r : ℕ) (vs : List V) (xs : List T) (us : List V) → AreAll Is r xs us →
      Steps (IsPushed Is) r vs xs (vs ++ us)
  stepped Is r vs xs us none = rw append-nil stop
  stepped Is r vs xs us (some {f = f} {g = g} {v = v} {vs = ws} h k) =
      let further : Steps (IsPushed Is) r (vs ++ v ∷ []) g ((vs ++ v ∷ []) ++ ws) = stepped Is r (vs ++ v ∷ []) g ws k in
      more (v, h, refl) (rw append_assoc at further)

  -- a list of members
  pub members_exact : {Is : Grammar T V} {each ends : T → Type 0} {levels_left : ℕ} {member : List T → Option (Answer T V)} {starts : T →
      Bool} {reader : Reader T V} →
      Member Is each ends levels_left member starts reader → Exact (AreAll Is) ends levels_left (members member)
  members_exact {Is = Is} k =
      exact_as (λ r xs ws h. let is = listed Is r [] xs ws h in
      rw is.2 is.1) (λ r xs us h. stepped Is r [] xs us h) (λ x h. h) (iterate_exact (stepping k) [])

module _ {T V : Type 0} where
  -- members that each begin with a terminal that passes the test
  pub marked_member : (is : T → Bool) (opener : T) → is opener ≡ true → {Is : Grammar T V} {each ends : T → Type 0} {levels_left : ℕ}
      {member : List T → Option (Answer T V)} {reader : Reader T V} → Begins (Is levels_left) [] →
      ((r : ℕ) (xs : List T) (v : V) → Is r xs v → Is (suc (suc r)) xs v) → member [] ≡ None →
      ((x : T) (rest : List T) → is x ≡ false → member (x ∷ rest) ≡ None) →
      ((x : T) (rest : List T) → is x ≡ true → member (x ∷ rest) ≡ Some (reader rest)) → ((x : T) → is x ≡ true → each x) →
      ((x : T) → ends x → is x ≡ false) → ((x : T) → ends x → each x) → Exact Is each levels_left reader →
      Member (IsAfter is Is) each ends levels_left member is (after is reader)
  unfolding after
  marked_member is opener opens {Is = Is} {reader = reader} some_form lift_form at_end none_here some_here follows stops weaker k = record {
    at_end = at_end;
    none = none_here;
    some = λ x rest e. some_here x rest e ∙ ap (λ b. Some (if b then reader rest else form_at (x ∷ rest))) (sym e);
    begins = begins;
    lift = lift;
    follows = follows;
    stops = stops;
    weaker = weaker;
    turn = λ x e. turn_of (after_exact is opener opens some_form k) x;
  } where
    begins : (r : ℕ) (xs : List T) (v : V) → IsAfter is Is r xs v → (x : T) × (ys : List T) × (xs ≡ x ∷ ys) × (is x ≡ true)
    begins r [] v h = absurd h
    begins r (x ∷ ys) v h = (x, ys, refl, h.0)

    lift : (r : ℕ) (xs : List T) (v : V) → IsAfter is Is r xs v → IsAfter is Is (suc (suc r)) xs v
    lift r [] v h = h
    lift r (x ∷ ys) v h = (h.0, lift_form r ys v h.1)

  -- a member at any terminal that is left
  pub each_member : {Is : Grammar T V} {levels_left : ℕ} {member : List T → Option (Answer T V)} {reader : Reader T V} → member [] ≡ None →
      ((x : T) (rest : List T) → member (x ∷ rest) ≡ Some (reader (x ∷ rest))) → ((r : ℕ) (v : V) → Is r [] v → ⊥) →
      ((r : ℕ) (xs : List T) (v : V) → Is r xs v → Is (suc (suc r)) xs v) → Exact Is Any levels_left reader →
      Member Is Any Never levels_left member (λ x. true) reader
  each_member {Is = Is} at_end some_here nothing lift k = record {
    at_end = at_end;
    none = λ x rest e. cc;
    some = λ x rest e. some_here x rest;
    begins = begins;
    lift = lift;
    follows = λ x e. tt;
    stops = λ x h. absurd h;
    weaker = λ x h. tt;
    turn = λ x e. turn_of k x;
  } where
    begins : (r : ℕ) (xs : List T) (v : V) → Is r xs v → (x : T) × (ys : List T) × (xs ≡ x ∷ ys) × (true ≡ true)
    begins r [] v h = absurd (nothing r v h)
    begins r (x ∷ ys) v h = (x, ys, refl, refl)
