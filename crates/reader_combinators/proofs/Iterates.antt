-- A step as often as it goes on.
use Rattle.std.proofs.Common.{◌≡◌, ℕ, zero, suc, ◌<◌, List, [], ◌∷◌, ◌++◌, length, refl, ap, sym, ◌∙◌, append_assoc, length-append, arith}
use Rattle.std.specs.Prelude.{Option, Some, None, Ok, Err}
use Rattle.reader_combinators.specs.Readers.{Fault, Answer, Reader, and_then, go_on, iterate_most, iterate, map_read}
use Rattle.reader_combinators.specs.Exact.{Grammar, SameFirst, both_begin, Before, Ending, gives, wrong, too_deep, ends_with, Says, Run, Agrees}
use Rattle.reader_combinators.specs.Exact.{Exact}
use Rattle.reader_combinators.proofs.Runs.{same_first, before_map, run_after, map_same, same_read}
use Rattle.reader_combinators.proofs.Terminals.{Turn, run_here, run_end}
use Rattle.reader_combinators.proofs.Then.{IsThen, run_then, agrees_then}

module _ {T V : Type 0} where
  -- what a reader that gives a value has taken
  pub taken : {Is : Grammar T V} {levels_left : ℕ} {reader : Reader T V} (xs : List T) → Run Is levels_left reader xs →
      (v : V) (rest : List T) →
      reader xs ≡ Ok (v, rest) →
      (front : List T) × (xs ≡ front ++ rest) × Is levels_left front v
  taken {Is = Is} {levels_left = levels_left} {reader = reader} xs k v rest h =
      by k.outcome (ap reader k.split ∙ k.reads k.rest (same_first k.rest)) k.says where
        by : (outcome : Ending V) → reader xs ≡ ends_with outcome k.rest → Says Is levels_left outcome k.front k.rest →
            (front : List T) × (xs ≡ front ++ rest) × Is levels_left front v
        by (gives u) e says =
            let same = same_read (reader xs) u v k.rest rest e h in
            (k.front, k.split ∙ ap (λ ys. k.front ++ ys) same.1, rw (← same.0) says)
        by wrong e says = cc
        by too_deep e says = cc

module _ {T S : Type 0} where
  -- each step takes a terminal at least
  abbrev pub Shrinks : (S → List T → Option (Answer T S)) → Type 0
  Shrinks step = (s : S) (xs : List T) (t : S) (rest : List T) → step s xs ≡ Some (Ok (t, rest)) → length rest < length xs

  go_on_alike : (s : S) (xs : List T) (found : Option (Answer T S)) (f g : S → Reader T S) →
      ((t : S) (rest : List T) → found ≡ Some (Ok (t, rest)) → f t rest ≡ g t rest) → go_on s xs found f ≡ go_on s xs found g
  go_on_alike s xs None f g alike = refl
  go_on_alike s xs (Some (Err fault)) f g alike = refl
  go_on_alike s xs (Some (Ok (t, rest))) f g alike = alike t rest refl

  -- it does not matter how many steps there may be, if there are more than terminals
  enough : (step : S → List T → Option (Answer T S)) → Shrinks step → (m n : ℕ) (s : S) (xs : List T) → length xs < m → length xs < n →
      iterate_most m step s xs ≡ iterate_most n step s xs
  unfolding iterate_most
  enough step shrinks zero n s xs a b = absurd (omega (arith, a))
  enough step shrinks (suc m) zero s xs a b = absurd (omega (arith, b))
  enough step shrinks (suc m) (suc n) s xs a b =
      go_on_alike s xs (step s xs) (iterate_most m step) (iterate_most n step) (λ t rest e.
      let less : length rest < length xs = shrinks s xs t rest e in
      enough step shrinks m n t rest (omega (arith, less, a)) (omega (arith, less, b)))

  -- a step, and then further steps
  pub one_step : (step : S → List T → Option (Answer T S)) → Shrinks step → (s : S) (xs : List T) →
      iterate step s xs ≡ go_on s xs (step s xs) (iterate step)
  unfolding iterate iterate_most
  one_step step shrinks s xs =
      go_on_alike s xs (step s xs) (iterate_most (length xs) step) (iterate step) (λ t rest e.
      let less : length rest < length xs = shrinks s xs t rest e in
      enough step shrinks (length xs) (suc (length rest)) t rest less (omega arith))

  module _ {step : S → List T → Option (Answer T S)} (shrinks : Shrinks step) where
    -- no step is left
    pub no_step : (s : S) (xs : List T) → step s xs ≡ None → iterate step s xs ≡ Ok (s, xs)
    no_step s xs h = one_step step shrinks s xs ∙ ap (λ found. go_on s xs found (iterate step)) h

    -- one step was read
    pub next_step : (s : S) (xs : List T) (t : S) (rest : List T) → step s xs ≡ Some (Ok (t, rest)) →
        iterate step t rest ≡ iterate step s xs
    next_step s xs t rest h = sym (one_step step shrinks s xs ∙ ap (λ found. go_on s xs found (iterate step)) h)

    -- a step has a fault
    pub wrong_step : (s : S) (xs : List T) (fault : Fault) → step s xs ≡ Some (Err fault) → iterate step s xs ≡ Err fault
    wrong_step s xs fault h = one_step step shrinks s xs ∙ ap (λ found. go_on s xs found (iterate step)) h

    left_most : (most : ℕ) (s : S) (xs : List T) → length xs < most → (t : S) (rest : List T) → iterate step s xs ≡ Ok (t, rest) →
        step t rest ≡ None
    left_most zero s xs few t rest h = absurd (omega (arith, few))
    left_most (suc most) s xs few t rest h =
        by (step s xs) refl (sym (one_step step shrinks s xs)
        ∙ h) (λ u left e. left_most most u left (omega (arith, few, shrinks s xs u left e)) t rest)
      where
        by : (found : Option (Answer T S)) → step s xs ≡ found → go_on s xs found (iterate step) ≡ Ok (t, rest) →
            ((u : S) (left : List T) → step s xs ≡ Some (Ok (u, left)) → iterate step u left ≡ Ok (t, rest) → step t rest ≡ None) →
            step t rest ≡ None
        by None e g further =
            let same = same_read (Ok (s, xs)) s t xs rest refl g in
            rw (← same.0, ← same.1) e
        by (Some (Err fault)) e g further = cc
        by (Some (Ok (u, left))) e g further = further u left e g

    -- where steps end there is none
    pub no_step_left : (s : S) (xs : List T) (t : S) (rest : List T) → iterate step s xs ≡ Ok (t, rest) → step t rest ≡ None
    no_step_left s xs t rest h = left_most (suc (length xs)) s xs (omega arith) t rest h

  -- some steps, each from the state that the one before it left
  pub data Steps (IsStep : S → Grammar T S) (r : ℕ) : S → List T → S → Type 0 where
    stop : {s : S} → Steps IsStep r s [] s
    more : {s t u : S} {f g : List T} → IsStep s r f t → Steps IsStep r t g u → Steps IsStep r s (f ++ g) u

  abbrev pub AreSteps : (S → Grammar T S) → S → Grammar T S
  AreSteps IsStep s r xs t = Steps IsStep r s xs t

  as_then : (further : S → Reader T S) (s : S) (xs : List T) (answer : Answer T S) →
      go_on s xs (Some answer) further ≡ and_then answer further
  as_then further s xs (Ok (t, rest)) = refl
  as_then further s xs (Err fault) = refl

  joined : (IsStep : S → Grammar T S) (s : S) (r : ℕ) (xs : List T) (t : S) → IsThen (IsStep s) (AreSteps IsStep) r xs t →
      AreSteps IsStep s r xs t
  joined IsStep s r xs t h = rw h.split (more h.first h.second)

  -- what a step is where this terminal is the first: none, or what a reader gives
  pub data At (IsStep : Grammar T S) (ends : T → Type 0) (levels_left : ℕ) (step : List T → Option (Answer T S)) (x : T) : Type 0 where
    stays : ((rest : List T) → step (x ∷ rest) ≡ None) → ((r : ℕ) (ys : List T) (t : S) → IsStep r (x ∷ ys) t → ⊥) →
        At IsStep ends levels_left step x
    goes : (reader : Reader T S) → ((rest : List T) → step (x ∷ rest) ≡ Some (reader (x ∷ rest))) → Turn IsStep ends levels_left reader x →
        At IsStep ends levels_left step x

  -- A step is decided by the first terminal, and read exactly.
  pub record Stepping (IsStep : S → Grammar T S) (steps : S → T → Type 0) (ends : T → Type 0) (levels_left : ℕ) (step : S → List T →
      Option (Answer T S)) : Type 0 where
    pub at_end : (s : S) → step s [] ≡ None
    pub nothing : (s : S) (r : ℕ) (t : S) → IsStep s r [] t → ⊥
    pub at : (s : S) (x : T) → At (IsStep s) (steps s) levels_left (step s) x
    pub lift : (s : S) (r : ℕ) (xs : List T) (t : S) → IsStep s r xs t → IsStep s (suc (suc r)) xs t
    pub follows : (s : S) (r : ℕ) (xs : List T) (t : S) → IsStep s r xs t → (x : T) (ys : List T) (u : S) → IsStep t r (x ∷ ys) u →
        steps s x
    pub stops : (s : S) (x : T) → ends x → (rest : List T) → step s (x ∷ rest) ≡ None
    pub weaker : (s : S) (x : T) → ends x → steps s x

  module _ {IsStep : S → Grammar T S} {steps : S → T → Type 0} {ends : T → Type 0} {levels_left : ℕ} {step : S → List T →
      Option (Answer T S)} (k : Stepping IsStep steps ends levels_left step) where
    pub step_shrinks : Shrinks step
    step_shrinks s [] t rest h = let none : step s [] ≡ None = k.at_end s in cc
    step_shrinks s (x ∷ xs) t rest h = by (k.at s x) where
      longer : (front : List T) → x ∷ xs ≡ front ++ rest → IsStep s levels_left front t → length rest < suc (length xs)
      longer [] split derived = absurd (k.nothing s levels_left t derived)
      longer (y ∷ front) split derived =
          let whole : suc (length xs) ≡ suc (length (front ++ rest)) = ap length split in
          omega (arith, whole, length-append front rest)

      by : At (IsStep s) (steps s) levels_left (step s) x → length rest < suc (length xs)
      by (stays none never) = let same : step s (x ∷ xs) ≡ None = none xs in cc
      by (goes reader some turn) =
          let same : step s (x ∷ xs) ≡ Some (reader (x ∷ xs)) = some xs in
          let front = taken (x ∷ xs) (turn.run xs) t rest (cc) in
          longer front.0 front.1 front.2

    -- nothing is left to do before these terminals
    ended : (s : S) (xs : List T) → step s xs ≡ None → iterate step s xs ≡ Ok (s, xs)
    ended = no_step step_shrinks

    -- a step and the further ones are one reader after another
    stepped : (s : S) (x : T) (rest : List T) (reader : Reader T S) → step s (x ∷ rest) ≡ Some (reader (x ∷ rest)) →
        iterate step s (x ∷ rest) ≡ and_then (reader (x ∷ rest)) (iterate step)
    stepped s x rest reader e =
        one_step step step_shrinks s (x ∷ rest) ∙ ap (λ found. go_on s (x ∷ rest) found (iterate step)) e
        ∙ as_then (iterate step) s (x ∷ rest) (reader (x ∷ rest))

    -- a run from this terminal on, by runs after the first step
    run_first : (s : S) (x : T) (rest : List T) →
        ((t : S) (left : List T) → length left < suc (length rest) → Run (AreSteps IsStep t) levels_left (iterate step t) left) →
        Run (AreSteps IsStep s) levels_left (iterate step s) (x ∷ rest)
    run_first s x rest further = by (k.at s x) where
      by : At (IsStep s) (steps s) levels_left (step s) x → Run (AreSteps IsStep s) levels_left (iterate step s) (x ∷ rest)
      by (stays none never) = run_here (gives s) x (λ ys. ended s (x ∷ ys) (none ys)) (λ ys. stop) rest
      by (goes reader some turn) =
          run_after (AreSteps IsStep s) (λ t. t) [] (joined IsStep s) (iterate step s) read
          (run_then (record { lift = k.lift s; default = λ r t. record { ending = []; value = t; derives = stop } }) levels_left reader
          (iterate step) (x ∷ rest)
          (turn.run rest) (λ t left h. further t left (step_shrinks s (x ∷ rest) t left (some rest ∙ ap Some h)))) where
            read : (other : List T) → SameFirst (x ∷ rest) other →
                iterate step s other ≡ map_read (λ t. t) (and_then (reader other) (iterate step))
            read other (both_begin y ys zs) = stepped s x zs reader (some zs) ∙ sym (map_same (and_then (reader (x ∷ zs)) (iterate step)))

    run_most : (most : ℕ) (s : S) (xs : List T) → length xs < most → Run (AreSteps IsStep s) levels_left (iterate step s) xs
    run_most zero s xs few = absurd (omega (arith, few))
    run_most (suc most) s [] few = run_end (gives s) (ended s [] (k.at_end s)) stop
    run_most (suc most) s (x ∷ rest) few = run_first s x rest (λ t left less. run_most most t left (omega (arith, less, few)))

    -- what follows a step: further steps, or terminals after which there are none
    before_steps : (r : ℕ) (s t : S) (f : List T) → IsStep s r f t → (xs : List T) (u : S) → Steps IsStep r t xs u → (rest : List T) →
        Before ends rest → Before (steps s) (xs ++ rest)
    before_steps r s t f h xs u stop rest b = before_map ends (steps s) (k.weaker s) rest b
    before_steps r s t f h xs u (more {t = v} {f = []} i m) rest b = absurd (k.nothing t r v i)
    before_steps r s t f h xs u (more {t = v} {f = x ∷ g} i m) rest b = k.follows s r f t h x g v i

    ends_here : (s : S) (rest : List T) → Before ends rest → iterate step s rest ≡ Ok (s, rest)
    ends_here s [] b = ended s [] (k.at_end s)
    ends_here s (x ∷ rest) b = ended s (x ∷ rest) (k.stops s x b rest)

    steps_again : (r : ℕ) (s : S) (xs : List T) (t : S) → Steps IsStep r s xs t → (rest : List T) → Before ends rest →
        Agrees levels_left r t rest (iterate step s (xs ++ rest))
    steps_again r s xs t stop rest b = rw (ends_here s rest b) (refl, refl)
    steps_again r s xs u (more {t = t} {f = []} h m) rest b = absurd (k.nothing s r t h)
    steps_again r s xs u (more {t = t} {f = x ∷ f} {g = g} h m) rest b =
        by (k.at s x) (steps_again r t g u m rest b) (before_steps r s t (x ∷ f) h g u m rest b) where
          by : At (IsStep s) (steps s) levels_left (step s) x → Agrees levels_left r u rest (iterate step t (g ++ rest)) →
              Before (steps s) (g ++ rest) → Agrees levels_left r u rest (iterate step s (x ∷ ((f ++ g) ++ rest)))
          by (stays none never) further before = absurd (never r f t h)
          by (goes reader some turn) further before =
              rw (append_assoc, stepped s x (f ++ (g ++ rest)) reader (some (f ++ (g ++ rest))))
              (agrees_then levels_left r t u (g ++ rest) rest (reader (x ∷ (f ++ (g ++ rest)))) (iterate step)
              (turn.complete r f t h (g ++ rest) before) further)

    -- as many steps as there are
    pub iterate_exact : (s : S) → Exact (AreSteps IsStep s) ends levels_left (iterate step s)
    iterate_exact s = record {
      run = λ xs. run_most (suc (length xs)) s xs (omega arith);
      complete = λ r xs t h rest b. steps_again r s xs t h rest b;
    }
