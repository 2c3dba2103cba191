-- Levels: a reader of the level below, after a terminal that opens it.
use Rattle.std.proofs.Common.{◌≡◌, ℕ, zero, suc, ◌<◌, Bool, true, false, List, [], ◌∷◌, ◌++◌, refl, arith}
use Rattle.std.specs.Prelude.{Option, Some, None, Ok, Err}
use Rattle.reader_combinators.specs.Readers.{form, deep, Answer, Reader, map_read, below}
use Rattle.reader_combinators.specs.Exact.{Grammar, Before, Ending, gives, wrong, too_deep, Begins, Says, Run, Agrees, Exact}
use Rattle.reader_combinators.proofs.Then.{Tells}
use Rattle.reader_combinators.proofs.Terminals.{Turn, turn_deep, turn_takes, turn_gives, by_first, end_gives}

-- there is a level below exactly where one is left, and then this holds of it
abbrev pub Below : {L : Type 0} → (ℕ → L → Type 0) → ℕ → Option L → Type 0
Below Holds zero None = Unit {0}
Below Holds zero (Some l) = ⊥
Below Holds (suc levels_left) None = ⊥
Below Holds (suc levels_left) (Some l) = Holds levels_left l

-- what derives one level further down
abbrev pub Up : {T V : Type 0} → Grammar T V → Grammar T V
Up Is zero xs v = ⊥
Up Is (suc r) xs v = Is r xs v

module _ {T V : Type 0} where
  pub lift_up : (Is : Grammar T V) → ((r : ℕ) (xs : List T) (v : V) → Is r xs v → Is (suc (suc r)) xs v) → (r : ℕ) (xs : List T) (v : V) →
      Up Is r xs v → Up Is (suc (suc r)) xs v
  lift_up Is lift zero xs v h = absurd h
  lift_up Is lift (suc r) xs v h = lift r xs v h

  says_up : (Is : Grammar T V) (levels_left : ℕ) (outcome : Ending V) (front rest : List T) → Says Is levels_left outcome front rest →
      Says (Up Is) (suc levels_left) outcome front rest
  says_up Is levels_left (gives v) front rest h = h
  says_up Is levels_left wrong front rest h = h
  says_up Is levels_left too_deep front [] h = h
  says_up Is levels_left too_deep front (x ∷ rest) h = h

  agrees_up : (levels_left r : ℕ) (v : V) (rest : List T) (answer : Answer T V) → Agrees levels_left r v rest answer →
      Agrees (suc levels_left) (suc r) v rest answer
  agrees_up levels_left r v rest (Ok (w, left)) h = h
  agrees_up levels_left r v rest (Err (form left)) h = h
  agrees_up levels_left r v rest (Err (deep left)) h = omega (arith, h)

  pub exact_up : {Is : Grammar T V} {ends : T → Type 0} {levels_left : ℕ} {reader : Reader T V} → Exact Is ends levels_left reader →
      Exact (Up Is) ends (suc levels_left) reader
  exact_up {Is = Is} {ends = ends} {levels_left = levels_left} {reader = reader} k =
      record { run = λ xs. run xs (k.run xs); complete = complete } where
        run : (xs : List T) → Run Is levels_left reader xs → Run (Up Is) (suc levels_left) reader xs
        run xs h = record {
          front = h.front;
          rest = h.rest;
          outcome = h.outcome;
          split = h.split;
          reads = h.reads;
          says = says_up Is levels_left h.outcome h.front h.rest h.says;
        }

        complete : (r : ℕ) (xs : List T) (v : V) → Up Is r xs v → (rest : List T) → Before ends rest →
            Agrees (suc levels_left) r v rest (reader (xs ++ rest))
        complete zero xs v h rest b = absurd h
        complete (suc r) xs v h rest b = agrees_up levels_left r v rest (reader (xs ++ rest)) (k.complete r xs v h rest b)

module _ {L T U V : Type 0} {Low : Grammar T U} {Is : Grammar T V} {lows ends : T → Type 0} {Holds : ℕ → L → Type 0} {levels_left : ℕ}
    {reader : Reader T V} {x : T} where
  -- The terminal opens a form of the level below. Where there is none, it is a level too many.
  pub turn_below : (make : U → V) (low : Option L) (pick : L → Reader T U) → ((k : ℕ) (l : L) → Holds k l → Exact Low lows k (pick l)) →
      Below Holds levels_left low → ((rest : List T) → reader (x ∷ rest) ≡ map_read make (below low pick (x ∷ rest))) →
      ((y : T) → ends y → lows y) → Begins (Is levels_left) [] → Begins (Low (suc levels_left)) [] →
      ((r : ℕ) (ys : List T) (u : U) → Low r ys u → Is (suc r) (x ∷ ys) (make u)) →
      ((r : ℕ) (ys : List T) (v : V) → Is r (x ∷ ys) v → (u : U) × Up Low r ys u × (v ≡ make u)) →
      Turn Is ends levels_left reader x
  turn_below make low pick of h e weaker some some_low to from =
      by levels_left low h e some some_low where
        up : (r : ℕ) (ys : List T) (u : U) → Up Low r ys u → Is r (x ∷ ys) (make u)
        up zero ys u k = absurd k
        up (suc r) ys u k = to r ys u k

        more : (r : ℕ) (ys : List T) (v : V) → Is r (x ∷ ys) v → 0 < r
        more zero ys v k = absurd ((from zero ys v k).1)
        more (suc r) ys v k = omega arith

        by : (levels_left : ℕ) (low : Option L) → Below Holds levels_left low →
            ((rest : List T) → reader (x ∷ rest) ≡ map_read make (below low pick (x ∷ rest))) →
            Begins (Is levels_left) [] → Begins (Low (suc levels_left)) [] → Turn Is ends levels_left reader x
        by zero None h e some some_low =
            let opened = to 1 some_low.ending some_low.value some_low.derives in
            turn_deep e some (record { ending = some_low.ending; value = make some_low.value; derives = opened }) more
        by zero (Some l) h e some some_low = absurd h
        by (suc k) None h e some some_low = absurd h
        by (suc k) (Some l) h e some some_low = turn_takes make (pick l) e weaker up from (exact_up (of k l h))

module _ {T V : Type 0} (mark : T) (make : V → V) (Low : Grammar T V) where
  -- the value that was read before, or this terminal and a form of the level below
  pub data IsTail (v : V) (r : ℕ) : List T → V → Type 0 where
    alone : IsTail v r [] v
    with_right : {ys : List T} {u : V} → Up Low r ys u → IsTail v r (mark ∷ ys) (make u)

module _ {L T V : Type 0} {is : T → Bool} {mark : T} (tells : Tells is mark) (make : V → V) {Low : Grammar T V} where
  pub tail_exact : {lows ends : T → Type 0} {Holds : ℕ → L → Type 0} {levels_left : ℕ} {reader : Reader T V} (v : V) (low : Option L)
      (pick : L → Reader T V) → ((k : ℕ) (l : L) → Holds k l → Exact Low lows k (pick l)) → Below Holds levels_left low →
      reader [] ≡ Ok (v, []) →
      ((x : T) (rest : List T) → is x ≡ true → reader (x ∷ rest) ≡ map_read make (below low pick (x ∷ rest))) →
      ((x : T) (rest : List T) → is x ≡ false → reader (x ∷ rest) ≡ Ok (v, x ∷ rest)) → ((x : T) → ends x → is x ≡ false) →
      ((x : T) → ends x → lows x) →
      Begins (Low (suc levels_left)) [] → Exact (IsTail mark make Low v) ends levels_left reader
  tail_exact {ends = ends} {Holds = Holds} {levels_left = levels_left} {reader = reader} v low pick of h at_end goes stays stops weaker
      some_low =
      by_first (end_gives v at_end alone only (λ x rest e. stays x rest (stops x e))) (λ x. by x (is x) refl) where
        only : (r : ℕ) (w : V) → IsTail mark make Low v r [] w → w ≡ v
        only r w alone = refl

        never : (x : T) → is x ≡ false → (r : ℕ) (ys : List T) (w : V) → IsTail mark make Low v r (x ∷ ys) w → ⊥
        never x e r ys w (with_right h) = let yes_it = tells.yes in cc

        from : (x : T) (r : ℕ) (ys : List T) (w : V) → IsTail mark make Low v r (x ∷ ys) w → (u : V) × Up Low r ys u × (w ≡ make u)
        from x r ys w (with_right {u = u} h) = (u, h, refl)

        by : (x : T) (b : Bool) → is x ≡ b → Turn (IsTail mark make Low v) ends levels_left reader x
        by x true e =
            turn_below {Holds = Holds} make low pick of h (λ rest. goes x rest e) weaker
            (record { ending = []; value = v; derives = alone }) some_low
            (λ r ys u k. rw (tells.only x e) (with_right k)) (from x)
        by x false e = turn_gives v (λ rest. stays x rest e) alone (never x e)
