-- What an exact reader says of a whole text: one value, each value read, and each fault the first.
use Rattle.std.proofs.Common.{◌≡◌, ℕ, suc, ◌<◌, ◌≤◌, List, [], ◌∷◌, ◌++◌, length, refl, ap, sym, ◌∙◌, length-append, arith}
use Rattle.std.proofs.lemmas.List.{append-nil, append_cancel_right}
use Rattle.std.specs.Prelude.{Ok, Err}
use Rattle.reader_combinators.specs.Readers.{form, deep, Answer, Reader}
use Rattle.reader_combinators.specs.Exact.{Grammar, SameFirst, both_begin, Before, Ending, gives, wrong, too_deep, ends_with, Begins, Says}
use Rattle.reader_combinators.specs.Exact.{Run, Agrees, Exact}
use Rattle.reader_combinators.proofs.Runs.{same_first, same_read}
use Rattle.reader_combinators.proofs.Iterates.{taken}

-- one list splits in one way
pub one_split : {T : Type 0} (f front r rest : List T) → f ++ r ≡ front ++ rest → length r ≡ length rest → (f ≡ front) × (r ≡ rest)
one_split [] [] r rest e same = (refl, e)
one_split [] (x ∷ front) r rest e same = absurd (omega (arith, ap length e, same, length-append (x ∷ front) rest))
one_split (x ∷ f) [] r rest e same = absurd (omega (arith, ap length e, same, length-append (x ∷ f) r))
one_split (x ∷ f) (y ∷ front) r rest e same =
    let tails = one_split f front r rest (cc) same in
    let first : x ≡ y = cc in
    (ap (λ z. z ∷ f) first ∙ ap (λ zs. y ∷ zs) tails.0, tails.1)

module _ {T V : Type 0} where
  -- Where a form fault stands: something derives from terminals that begin with those before it, and nothing from
  -- terminals that agree up to and with it, however many levels are left.
  pub record FirstForm (Is : Grammar T V) (levels_left : ℕ) (front rest : List T) : Type 0 where
    pub begins : Begins (Is levels_left) front
    pub stops : (other : List T) → SameFirst rest other → (r : ℕ) (v : V) → Is r (front ++ other) v → ⊥

  -- Where a level too many stands: nothing derives with these levels left from terminals that begin with those up to and with
  -- it, and with two levels more something does.
  pub record FirstDeep (Is : Grammar T V) (levels_left : ℕ) (front : List T) (at : T) : Type 0 where
    pub begins : Begins (Is levels_left) front
    pub stops : (other : List T) (v : V) → Is levels_left (front ++ at ∷ other) v → ⊥
    pub goes_on : Begins (Is (suc (suc levels_left))) (front ++ at ∷ [])

  -- where among these terminals such a fault stands, with so many left from it on
  abbrev pub HasFirstForm : Grammar T V → ℕ → List T → ℕ → Type 0
  HasFirstForm Is levels_left xs left =
      (front : List T) × (rest : List T) × (xs ≡ front ++ rest) × (left ≡ length rest) × FirstForm Is levels_left front rest

  abbrev pub HasFirstDeep : Grammar T V → ℕ → List T → ℕ → Type 0
  HasFirstDeep Is levels_left xs left =
      (front : List T) × (at : T) × (rest : List T) × (xs ≡ front ++ at ∷ rest) × (left ≡ suc (length rest))
      × FirstDeep Is levels_left front at

  no_form : (levels_left r : ℕ) (v : V) (answer : Answer T V) (left : ℕ) → answer ≡ Err (form left) → Agrees levels_left r v [] answer → ⊥
  no_form levels_left r v answer left e h = rw e at h

  no_deep : (levels_left : ℕ) (v : V) (answer : Answer T V) (left : ℕ) → answer ≡ Err (deep left) →
      Agrees levels_left levels_left v [] answer → ⊥
  no_deep levels_left v answer left e h = let less : levels_left < levels_left = rw e at h in omega (arith, less)

  module _ {Is : Grammar T V} {ends : T → Type 0} {levels_left : ℕ} {reader : Reader T V} (k : Exact Is ends levels_left reader) where
    whole : (r : ℕ) (xs : List T) (v : V) → Is r xs v → Agrees levels_left r v [] (reader xs)
    whole r xs v h = rw append-nil at (k.complete r xs v h [] tt)

    -- what derives is read, before what may follow it
    pub reads_on : (r : ℕ) → r ≤ levels_left → (xs : List T) (v : V) → Is r xs v → (rest : List T) → Before ends rest →
        reader (xs ++ rest) ≡ Ok (v, rest)
    reads_on r few xs v h rest b = by (reader (xs ++ rest)) (k.complete r xs v h rest b) where
      by : (answer : Answer T V) → Agrees levels_left r v rest answer → answer ≡ Ok (v, rest)
      by (Ok (w, left)) h = rw (h.0, h.1) refl
      by (Err (form left)) h = absurd h
      by (Err (deep left)) h = absurd (omega (arith, h, few))

    pub reads_all : (r : ℕ) → r ≤ levels_left → (xs : List T) (v : V) → Is r xs v → reader xs ≡ Ok (v, [])
    reads_all r few xs v h = rw append-nil at (reads_on r few xs v h [] tt)

    -- so terminals begin with one form at most
    pub one_front : (xs ys rest left : List T) (v w : V) → Is levels_left xs v → Is levels_left ys w → Before ends rest → Before ends left →
        xs ++ rest ≡ ys ++ left → (xs ≡ ys) × (rest ≡ left)
    one_front xs ys rest left v w h i b c e =
        let first = reads_on levels_left (omega arith) xs v h rest b in
        let second = ap reader e ∙ reads_on levels_left (omega arith) ys w i left c in
        let same : rest ≡ left = (same_read (reader (xs ++ rest)) v w rest left first second).1 in
        (append_cancel_right xs ys rest (e ∙ ap (λ zs. ys ++ zs) (sym same)), same)

    -- and only one value is
    pub one_value : (xs : List T) (v w : V) → Is levels_left xs v → Is levels_left xs w → v ≡ w
    one_value xs v w h i =
        (same_read (reader xs) v w [] [] (reads_all levels_left (omega arith) xs v h) (reads_all levels_left (omega arith) xs w i)).0

    -- what is read to the end derives
    pub derives_all : (xs : List T) (v : V) (rest : List T) → reader xs ≡ Ok (v, rest) → rest ≡ [] → Is levels_left xs v
    derives_all xs v rest h none =
        let front = taken xs (k.run xs) v rest h in
        rw (front.1 ∙ ap (λ r. front.0 ++ r) none ∙ append-nil front.0) front.2

    -- so what derives does so with more levels
    pub lifted : (r : ℕ) → r ≤ levels_left → (xs : List T) (v : V) → Is r xs v → Is levels_left xs v
    lifted r few xs v h = derives_all xs v [] (reads_all r few xs v h) refl

    -- a form fault is the first
    pub first_form : (xs : List T) (left : ℕ) → reader xs ≡ Err (form left) → HasFirstForm Is levels_left xs left
    first_form xs left h = by run.outcome (ap reader run.split ∙ run.reads run.rest (same_first run.rest)) run.reads run.says where
      run : Run Is levels_left reader xs
      run = k.run xs

      by : (outcome : Ending V) → reader xs ≡ ends_with outcome run.rest →
          ((other : List T) → SameFirst run.rest other → reader (run.front ++ other) ≡ ends_with outcome other) →
          Says Is levels_left outcome run.front run.rest → HasFirstForm Is levels_left xs left
      by (gives v) e reads says = cc
      by too_deep e reads says = cc
      by wrong e reads says = (
        run.front,
        run.rest,
        run.split,
        cc,
        record {
          begins = says;
          stops = λ other same r v derived. no_form levels_left r v (reader (run.front ++ other)) (length other) (reads other same)
              (whole r (run.front ++ other) v derived);
        },
      )

    -- and a level too many is
    pub first_deep : (xs : List T) (left : ℕ) → reader xs ≡ Err (deep left) → HasFirstDeep Is levels_left xs left
    first_deep xs left h =
        by run.outcome run.rest (ap reader run.split ∙ run.reads run.rest (same_first run.rest)) run.split run.reads run.says where
          run : Run Is levels_left reader xs
          run = k.run xs

          by : (outcome : Ending V) (rest : List T) → reader xs ≡ ends_with outcome rest → xs ≡ run.front ++ rest →
              ((other : List T) → SameFirst rest other → reader (run.front ++ other) ≡ ends_with outcome other) →
              Says Is levels_left outcome run.front rest → HasFirstDeep Is levels_left xs left
          by (gives v) rest e split reads says = cc
          by wrong rest e split reads says = cc
          by too_deep [] e split reads says = absurd says
          by too_deep (x ∷ rest) e split reads says = (
            run.front,
            x,
            rest,
            split,
            cc,
            record {
              begins = says.0;
              stops = λ other v derived.
                  no_deep levels_left v (reader (run.front ++ x ∷ other)) (suc (length other)) (reads (x ∷ other) (both_begin x rest other))
                  (whole levels_left (run.front ++ x ∷ other) v derived);
              goes_on = says.1;
            },
          )
