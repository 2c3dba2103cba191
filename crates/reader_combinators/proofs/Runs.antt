-- From one reader to the next: other values, other grammars, terminals in front.
use Rattle.std.proofs.Common.{◌≡◌, ℕ, suc, List, [], ◌∷◌, ◌++◌, refl, ap, sym, ◌∙◌, append_assoc}
use Rattle.std.specs.Prelude.{Ok, Err}
use Rattle.reader_combinators.specs.Readers.{form, deep, Answer, Reader, map_read}
use Rattle.reader_combinators.specs.Exact.{Grammar, SameFirst, both_end, both_begin, Before, Ending, gives, wrong, too_deep, ends_with, Begins}
use Rattle.reader_combinators.specs.Exact.{Says, Run, Agrees, Exact}

module _ {T : Type 0} where
  pub same_first : (xs : List T) → SameFirst xs xs
  same_first [] = both_end
  same_first (x ∷ xs) = both_begin x xs xs

  pub same_after : (front xs ys : List T) → SameFirst xs ys → SameFirst (front ++ xs) (front ++ ys)
  same_after [] xs ys h = h
  same_after (x ∷ front) xs ys h = both_begin x (front ++ xs) (front ++ ys)

  -- so do lists of which one begins with a front and what is left of the other
  pub same_split : (front rest xs other : List T) → xs ≡ front ++ rest → SameFirst rest other → SameFirst xs (front ++ other)
  same_split front rest xs other e h = rw e (same_after front rest other h)

  pub before_join : (Holds : T → Type 0) (xs ys : List T) → Before Holds xs → Before Holds ys → Before Holds (xs ++ ys)
  before_join Holds [] ys h k = k
  before_join Holds (x ∷ xs) ys h k = h

  pub before_map : (A B : T → Type 0) → ((x : T) → A x → B x) → (xs : List T) → Before A xs → Before B xs
  before_map A B follows [] h = tt
  before_map A B follows (x ∷ xs) h = follows x h

module _ {T V : Type 0} where
  value_or : V → Answer T V → V
  value_or default (Ok (v, rest)) = v
  value_or default (Err fault) = default

  rest_of : Answer T V → List T
  rest_of (Ok (v, rest)) = rest
  rest_of (Err fault) = []

  -- an answer has one value and leaves one list
  pub same_read : (answer : Answer T V) (v w : V) (xs ys : List T) → answer ≡ Ok (v, xs) → answer ≡ Ok (w, ys) → (v ≡ w) × (xs ≡ ys)
  unfolding value_or rest_of
  same_read answer v w xs ys h k = (sym (ap (value_or v) h) ∙ ap (value_or v) k, sym (ap rest_of h) ∙ ap rest_of k)

  pub map_same : (answer : Answer T V) → map_read (λ v. v) answer ≡ answer
  map_same (Ok (v, rest)) = refl
  map_same (Err fault) = refl

abbrev pub map_outcome : {V W : Type 0} → (V → W) → Ending V → Ending W
map_outcome make (gives v) = gives (make v)
map_outcome make wrong = wrong
map_outcome make too_deep = too_deep

module _ {T V W : Type 0} where
  map_ends : (make : V → W) (outcome : Ending V) (xs : List T) →
      map_read make (ends_with outcome xs) ≡ ends_with (map_outcome make outcome) xs
  map_ends make (gives v) xs = refl
  map_ends make wrong xs = refl
  map_ends make too_deep xs = refl

  module _ {Is : Grammar T V} (Made : Grammar T W) (make : V → W) (first : List T)
      (to : (r : ℕ) (ys : List T) (v : V) → Is r ys v → Made r (first ++ ys) (make v)) where
    begins_after : (r : ℕ) (front : List T) → Begins (Is r) front → Begins (Made r) (first ++ front)
    begins_after r front b =
        let derived : Made r (first ++ (front ++ b.ending)) (make b.value) = to r (front ++ b.ending) b.value b.derives in
        record { ending = b.ending; value = make b.value; derives = rw append_assoc derived }

    says_after : (levels_left : ℕ) (outcome : Ending V) (front rest : List T) → Says Is levels_left outcome front rest →
        Says Made levels_left (map_outcome make outcome) (first ++ front) rest
    says_after levels_left (gives v) front rest h = to levels_left front v h
    says_after levels_left wrong front rest h = begins_after levels_left front h
    says_after levels_left too_deep front [] h = absurd h
    says_after levels_left too_deep front (x ∷ rest) h =
        (begins_after levels_left front h.0, rw append_assoc (begins_after (suc (suc levels_left)) (front ++ x ∷ []) h.1))

    -- A run of a reader gives one of another that reads the same after these first terminals, with another value.
    pub run_after : {levels_left : ℕ} {reader : Reader T V} {xs : List T} (other : Reader T W) →
        ((ys : List T) → SameFirst xs ys → other (first ++ ys) ≡ map_read make (reader ys)) → Run Is levels_left reader xs →
        Run Made levels_left other (first ++ xs)
    run_after {levels_left = levels_left} {xs = xs} other agree k = record {
      front = first ++ k.front;
      rest = k.rest;
      outcome = map_outcome make k.outcome;
      split = ap (λ ys. first ++ ys) k.split ∙ sym (append_assoc first k.front k.rest);
      reads = λ ys same.
          ap other (append_assoc first k.front ys) ∙ agree (k.front ++ ys) (same_split k.front k.rest xs ys k.split same)
          ∙ ap (map_read make) (k.reads ys same) ∙ map_ends make k.outcome ys;
      says = says_after levels_left k.outcome k.front k.rest k.says;
    }

  pub agrees_map : (make : V → W) (levels_left needed : ℕ) (v : V) (rest : List T) (answer : Answer T V) →
      Agrees levels_left needed v rest answer →
      Agrees levels_left needed (make v) rest (map_read make answer)
  agrees_map make levels_left needed v rest (Ok (w, left)) h = (ap make h.0, h.1)
  agrees_map make levels_left needed v rest (Err (form left)) h = h
  agrees_map make levels_left needed v rest (Err (deep left)) h = h

  -- another value of what is read
  pub exact_map : {Is : Grammar T V} {Made : Grammar T W} {ends : T → Type 0} {levels_left : ℕ} {reader : Reader T V} (make : V → W) →
      ((r : ℕ) (xs : List T) (v : V) → Is r xs v → Made r xs (make v)) →
      ((r : ℕ) (xs : List T) (w : W) → Made r xs w → (v : V) × Is r xs v × (w ≡ make v)) →
      Exact Is ends levels_left reader → Exact Made ends levels_left (λ xs. map_read make (reader xs))
  exact_map {levels_left = levels_left} {reader = reader} make to from k = record {
    run = λ xs. run_after _ make [] to (λ ys. map_read make (reader ys)) (λ ys same. refl) (k.run xs);
    complete = λ r xs w h rest b.
        let is = from r xs w h in
        rw is.2 (agrees_map make levels_left r is.0 rest (reader (xs ++ rest)) (k.complete r xs is.0 is.1 rest b));
  }

module _ {T V : Type 0} where
  -- the same reader for another form of its grammar, before fewer terminals
  pub exact_as : {Is Others : Grammar T V} {ends fewer : T → Type 0} {levels_left : ℕ} {reader : Reader T V} →
      ((r : ℕ) (xs : List T) (v : V) → Is r xs v → Others r xs v) → ((r : ℕ) (xs : List T) (v : V) → Others r xs v → Is r xs v) →
      ((x : T) → fewer x → ends x) → Exact Is ends levels_left reader → Exact Others fewer levels_left reader
  exact_as {ends = ends} {fewer = fewer} {reader = reader} to from weaker k = record {
    run = λ xs. run_after _ (λ v. v) [] to reader (λ ys same. sym (map_same (reader ys))) (k.run xs);
    complete = λ r xs v h rest b. k.complete r xs v (from r xs v h) rest (before_map fewer ends weaker rest b);
  }

  -- two grammars that derive the same
  pub record Same (Is Others : Grammar T V) : Type 0 where
    pub to : (r : ℕ) (xs : List T) (v : V) → Is r xs v → Others r xs v
    pub from : (r : ℕ) (xs : List T) (v : V) → Others r xs v → Is r xs v

  pub exact_same : {Is Others : Grammar T V} {ends : T → Type 0} {levels_left : ℕ} {reader : Reader T V} → Same Is Others →
      Exact Others ends levels_left reader → Exact Is ends levels_left reader
  exact_same same k = exact_as same.from same.to (λ x h. h) k
