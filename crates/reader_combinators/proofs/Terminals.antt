-- A reader that decides by its first terminal.
use Rattle.std.proofs.Common.{◌≡◌, ℕ, suc, ◌<◌, Bool, true, false, List, [], ◌∷◌, ◌++◌, refl, ap, sym, ◌∙◌}
use Rattle.std.specs.Prelude.{Ok, if◌then◌else◌}
use Rattle.reader_combinators.specs.Readers.{Reader, form_at, deep_at, after, map_read}
use Rattle.reader_combinators.specs.Exact.{Grammar, SameFirst, both_end, both_begin, Before, Ending, gives, wrong, too_deep, ends_with, Begins}
use Rattle.reader_combinators.specs.Exact.{Says, Run}
use Rattle.reader_combinators.specs.Exact.{Agrees, Exact}
use Rattle.reader_combinators.proofs.Runs.{before_map, run_after, agrees_map, map_same}

module _ {T V : Type 0} where
  -- what is read where this terminal is the first
  pub record Turn (Is : Grammar T V) (ends : T → Type 0) (levels_left : ℕ) (reader : Reader T V) (x : T) : Type 0 where
    pub run : (rest : List T) → Run Is levels_left reader (x ∷ rest)
    pub complete : (r : ℕ) (ys : List T) (v : V) → Is r (x ∷ ys) v → (rest : List T) → Before ends rest →
        Agrees levels_left r v rest (reader (x ∷ (ys ++ rest)))

  -- what is read where no terminal is left, and of what derives from none
  pub record AtEnd (Is : Grammar T V) (ends : T → Type 0) (levels_left : ℕ) (reader : Reader T V) : Type 0 where
    pub run : Run Is levels_left reader []
    pub complete : (r : ℕ) (v : V) → Is r [] v → (rest : List T) → Before ends rest → Agrees levels_left r v rest (reader rest)

module _ {T V : Type 0} {Is : Grammar T V} {levels_left : ℕ} {reader : Reader T V} where
  -- reading ends before the first terminal
  pub run_here : (outcome : Ending V) (x : T) → ((rest : List T) → reader (x ∷ rest) ≡ ends_with outcome (x ∷ rest)) →
      ((rest : List T) → Says Is levels_left outcome [] (x ∷ rest)) → (rest : List T) → Run Is levels_left reader (x ∷ rest)
  run_here outcome x e says rest =
      record { front = []; rest = x ∷ rest; outcome = outcome; split = refl; reads = reads; says = says rest } where
        reads : (other : List T) → SameFirst (x ∷ rest) other → reader other ≡ ends_with outcome other
        reads other (both_begin y xs ys) = e ys

  -- or where there is none
  pub run_end : (outcome : Ending V) → reader [] ≡ ends_with outcome [] → Says Is levels_left outcome [] [] → Run Is levels_left reader []
  run_end outcome e says = record { front = []; rest = []; outcome = outcome; split = refl; reads = reads; says = says } where
    reads : (other : List T) → SameFirst [] other → reader other ≡ ends_with outcome other
    reads other both_end = e

module _ {T V : Type 0} {Is : Grammar T V} {ends : T → Type 0} {levels_left : ℕ} {reader : Reader T V} where
  pub by_first : AtEnd Is ends levels_left reader → ((x : T) → Turn Is ends levels_left reader x) → Exact Is ends levels_left reader
  by_first end turn = record { run = run; complete = complete } where
    run : (xs : List T) → Run Is levels_left reader xs
    run [] = end.run
    run (x ∷ rest) = (turn x).run rest

    complete : (r : ℕ) (xs : List T) (v : V) → Is r xs v → (rest : List T) → Before ends rest →
        Agrees levels_left r v rest (reader (xs ++ rest))
    complete r [] v h rest b = end.complete r v h rest b
    complete r (x ∷ ys) v h rest b = (turn x).complete r ys v h rest b

  pub turn_of : Exact Is ends levels_left reader → (x : T) → Turn Is ends levels_left reader x
  turn_of k x = record { run = λ rest. k.run (x ∷ rest); complete = λ r ys v h rest b. k.complete r (x ∷ ys) v h rest b }

  -- something is wanted at the end
  pub end_wrong : reader [] ≡ form_at [] → Begins (Is levels_left) [] → ((r : ℕ) (v : V) → Is r [] v → ⊥) → AtEnd Is ends levels_left reader
  end_wrong e some none = record { run = run_end wrong e some; complete = λ r v h rest b. absurd (none r v h) }

  -- nothing is read as this value, before the end and before each terminal that may follow
  pub end_gives : (v : V) → reader [] ≡ Ok (v, []) → Is levels_left [] v →
      ((r : ℕ) (w : V) → Is r [] w → w ≡ v) → ((x : T) (rest : List T) → ends x → reader (x ∷ rest) ≡ Ok (v, x ∷ rest)) →
      AtEnd Is ends levels_left reader
  end_gives v e derived one stays = record { run = run_end (gives v) e derived; complete = complete } where
    complete : (r : ℕ) (w : V) → Is r [] w → (rest : List T) → Before ends rest → Agrees levels_left r w rest (reader rest)
    complete r w h [] b = rw e (sym (one r w h), refl)
    complete r w h (x ∷ rest) b = rw (stays x rest b) (sym (one r w h), refl)

  module _ {x : T} where
    -- no form begins with the terminal
    pub turn_wrong : ((rest : List T) → reader (x ∷ rest) ≡ form_at (x ∷ rest)) → Begins (Is levels_left) [] →
        ((r : ℕ) (ys : List T) (v : V) → Is r (x ∷ ys) v → ⊥) → Turn Is ends levels_left reader x
    turn_wrong e some none =
        record { run = run_here wrong x e (λ rest. some); complete = λ r ys v h rest b. absurd (none r ys v h) }

    -- only forms with more levels begin with the terminal
    pub turn_deep : ((rest : List T) → reader (x ∷ rest) ≡ deep_at (x ∷ rest)) → Begins (Is levels_left) [] →
        Begins (Is (suc (suc levels_left))) (x ∷ []) → ((r : ℕ) (ys : List T) (v : V) → Is r (x ∷ ys) v → levels_left < r) →
        Turn Is ends levels_left reader x
    turn_deep e some higher more = record {
      run = run_here too_deep x e (λ rest. (some, higher));
      complete = λ r ys v h rest b. rw (e (ys ++ rest)) (more r ys v h);
    }

    -- the terminal is left, and nothing before it has this value
    pub turn_gives : (v : V) → ((rest : List T) → reader (x ∷ rest) ≡ Ok (v, x ∷ rest)) → Is levels_left [] v →
        ((r : ℕ) (ys : List T) (w : V) → Is r (x ∷ ys) w → ⊥) → Turn Is ends levels_left reader x
    turn_gives v e derived none =
        record { run = run_here (gives v) x e (λ rest. derived); complete = λ r ys w h rest b. absurd (none r ys w h) }

    -- the terminal alone has this value
    pub turn_alone : (v : V) → ((rest : List T) → reader (x ∷ rest) ≡ Ok (v, rest)) → ((r : ℕ) → Is r (x ∷ []) v) →
        ((r : ℕ) (ys : List T) (w : V) → Is r (x ∷ ys) w → (ys ≡ []) × (w ≡ v)) → Turn Is ends levels_left reader x
    turn_alone v e derived only = record {
      run = λ rest. record {
        front = x ∷ [];
        rest = rest;
        outcome = gives v;
        split = refl;
        reads = λ other same. e other;
        says = derived levels_left;
      };
      complete = λ r ys w h rest b. let is = only r ys w h in rw (is.0, is.1, e rest) (refl, refl);
    }

module _ {T U V : Type 0} {Others : Grammar T U} {Is : Grammar T V} {others ends : T → Type 0} {levels_left : ℕ} {reader : Reader T V}
    (make : U → V) (other : Reader T U) where
  -- the terminal is taken, and another reader goes on
  pub turn_takes : {x : T} → ((rest : List T) → reader (x ∷ rest) ≡ map_read make (other rest)) → ((y : T) → ends y → others y) →
      ((r : ℕ) (ys : List T) (u : U) → Others r ys u → Is r (x ∷ ys) (make u)) →
      ((r : ℕ) (ys : List T) (v : V) → Is r (x ∷ ys) v → (u : U) × Others r ys u × (v ≡ make u)) →
      Exact Others others levels_left other → Turn Is ends levels_left reader x
  turn_takes {x = x} e weaker to from k = record {
    run = λ rest. run_after Is make (x ∷ []) to reader (λ ys same. e ys) (k.run rest);
    complete = λ r ys v h rest b.
        let is = from r ys v h in
        rw (is.2, e (ys ++ rest))
        (agrees_map make levels_left r is.0 rest (other (ys ++ rest))
        (k.complete r ys is.0 is.1 rest (before_map ends others weaker rest b)));
  }

  -- another reader begins with the terminal
  pub turn_as : {x : T} → ((rest : List T) → reader (x ∷ rest) ≡ map_read make (other (x ∷ rest))) → ((y : T) → ends y → others y) →
      ((r : ℕ) (ys : List T) (u : U) → Others r ys u → Is r ys (make u)) →
      ((r : ℕ) (ys : List T) (v : V) → Is r (x ∷ ys) v → (u : U) × Others r (x ∷ ys) u × (v ≡ make u)) →
      Turn Others others levels_left other x → Turn Is ends levels_left reader x
  turn_as {x = x} e weaker to from k = record {
    run = λ rest. run_after Is make [] to reader (agree rest) (k.run rest);
    complete = λ r ys v h rest b.
        let is = from r ys v h in
        rw (is.2, e (ys ++ rest))
        (agrees_map make levels_left r is.0 rest (other (x ∷ (ys ++ rest)))
        (k.complete r ys is.0 is.1 rest (before_map ends others weaker rest b)));
  } where
    agree : (rest ys : List T) → SameFirst (x ∷ rest) ys → reader ys ≡ map_read make (other ys)
    agree rest ys (both_begin y xs zs) = e zs

  -- at the end it reads as another reader
  pub end_as : reader [] ≡ map_read make (other []) → ((y : T) → ends y → others y) →
      ((r : ℕ) (ys : List T) (u : U) → Others r ys u → Is r ys (make u)) →
      ((r : ℕ) (v : V) → Is r [] v → (u : U) × Others r [] u × (v ≡ make u)) →
      ((r : ℕ) (v : V) → Is r [] v → (y : T) (rest : List T) → ends y → reader (y ∷ rest) ≡ map_read make (other (y ∷ rest))) →
      Exact Others others levels_left other → AtEnd Is ends levels_left reader
  end_as e weaker to from stays k = record { run = run_after Is make [] to reader agree (k.run []); complete = complete } where
    agree : (ys : List T) → SameFirst [] ys → reader ys ≡ map_read make (other ys)
    agree ys both_end = e

    same : (r : ℕ) (v : V) → Is r [] v → (rest : List T) → Before ends rest → reader rest ≡ map_read make (other rest)
    same r v h [] b = e
    same r v h (y ∷ rest) b = stays r v h y rest b

    complete : (r : ℕ) (v : V) → Is r [] v → (rest : List T) → Before ends rest → Agrees levels_left r v rest (reader rest)
    complete r v h rest b =
        let is = from r v h in
        rw (same r v h rest b, is.2)
        (agrees_map make levels_left r is.0 rest (other rest) (k.complete r [] is.0 is.1 rest (before_map ends others weaker rest b)))

module _ {T V : Type 0} {Others Is : Grammar T V} {others ends : T → Type 0} {levels_left : ℕ} {reader : Reader T V} {x : T} where
  -- the terminal is taken, and another reader gives the value
  pub turn_goes_on : (other : Reader T V) → ((rest : List T) → reader (x ∷ rest) ≡ other rest) → ((y : T) → ends y → others y) →
      ((r : ℕ) (ys : List T) (v : V) → Others r ys v → Is r (x ∷ ys) v) →
      ((r : ℕ) (ys : List T) (v : V) → Is r (x ∷ ys) v → Others r ys v) → Exact Others others levels_left other →
      Turn Is ends levels_left reader x
  turn_goes_on other e weaker to from =
      turn_takes (λ v. v) other (λ rest. e rest ∙ sym (map_same (other rest))) weaker to (λ r ys v h. (v, from r ys v h, refl))

module _ {T V : Type 0} where
  -- a terminal that passes the test, and then a form
  abbrev pub IsAfter : (T → Bool) → Grammar T V → Grammar T V
  IsAfter is Is r [] v = ⊥
  IsAfter is Is r (x ∷ ys) v = (is x ≡ true) × Is r ys v

  pub after_exact : (is : T → Bool) (opener : T) → is opener ≡ true →
      {Is : Grammar T V} {ends : T → Type 0} {levels_left : ℕ} {reader : Reader T V} → Begins (Is levels_left) [] →
      Exact Is ends levels_left reader → Exact (IsAfter is Is) ends levels_left (after is reader)
  unfolding after
  after_exact is opener opens {Is = Is} {ends = ends} {levels_left = levels_left} {reader = reader} some k =
      by_first (end_wrong refl begins (λ r v h. h)) (λ x. by x (is x) refl) where
        begins : Begins (IsAfter is Is levels_left) []
        begins = record { ending = opener ∷ some.ending; value = some.value; derives = (opens, some.derives) }

        never : (x : T) → is x ≡ false → (r : ℕ) (ys : List T) (v : V) → IsAfter is Is r (x ∷ ys) v → ⊥
        never x e r ys v h = let yes_it : is x ≡ true = h.0 in cc

        by : (x : T) (b : Bool) → is x ≡ b → Turn (IsAfter is Is) ends levels_left (after is reader) x
        by x true e =
            turn_goes_on reader (λ rest. ap (λ b. if b then reader rest else form_at (x ∷ rest)) e) (λ y h. h) (λ r ys v h. (e, h))
            (λ r ys v h. h.1) k
        by x false e = turn_wrong (λ rest. ap (λ b. if b then reader rest else form_at (x ∷ rest)) e) begins (never x e)
