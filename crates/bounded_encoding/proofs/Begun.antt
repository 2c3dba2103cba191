-- What is there where adding clauses was cut off.
use Rattle.std.specs.Prelude.{Result, OnErr}
use Rattle.std.proofs.Common.{◌≡◌, ◌∙◌, ◌<◌, ◌≤◌, ◌+◌, ℕ, List, [], ◌++◌, Ok, Err, refl, sym, ap, subst, append_assoc}
use Rattle.clause_core.specs.Literals.{Lit}
use Rattle.bounded_encoding.specs.ClauseLists.{each}
use Rattle.bounded_encoding.specs.Made.{Made, with_clauses, IsBeyond}
use Rattle.bounded_encoding.specs.Begun.{IsBegun}
use Rattle.bounded_encoding.proofs.Adding.{with_both, with_none, each_more, step, stop, end}

-- nothing was added
pub begun_none : (m n : Made) (more : List (List Lit)) → n ≡ m → IsBegun m more n
begun_none m n more same = ([], more, refl, same ∙ sym (with_none m))

-- it was cut off in the first of two lists, and in the second
pub begun_first : (m n : Made) (xs ys : List (List Lit)) → IsBegun m xs n → IsBegun m (xs ++ ys) n
begun_first m n xs ys begun =
    (begun.0, begun.1 ++ ys, ap (λ (zs : List (List Lit)). zs ++ ys) begun.2 ∙ append_assoc begun.0 begun.1 ys, begun.3)

pub begun_second : (m k n : Made) (xs ys : List (List Lit)) → k ≡ with_clauses m xs → IsBegun k ys n → IsBegun m (xs ++ ys) n
begun_second m k n xs ys added begun = (
  xs ++ begun.0,
  begun.1,
  ap (λ (zs : List (List Lit)). xs ++ zs) begun.2 ∙ sym (append_assoc xs begun.0 begun.1),
  begun.3 ∙ (ap (λ (x : Made). with_clauses x begun.0) added ∙ with_both m xs begun.0),
)

-- What a loop that adds clauses keeps: what is still to come gives the whole, and where it is cut off, so is the whole.
pub record LeadsOn (now : Made) (left : List (List Lit)) (start : Made) (whole : List (List Lit)) : Type 0 where
  pub all : with_clauses now left ≡ with_clauses start whole
  pub cut : (n : Made) → IsBegun now left n → IsBegun start whole n

pub leads_first : (m : Made) (xs : List (List Lit)) → LeadsOn m xs m xs
leads_first m xs = record { all = refl; cut = λ n begun. begun }

module _ (m start : Made) (whole : List (List Lit)) (a b : ℕ) (f : ℕ → List (List Lit)) (leads : LeadsOn m (each a b f) start whole) where
  pub leads_end : b ≤ a → m ≡ with_clauses start whole
  leads_end past = end (with_clauses start whole) m a b f past leads.all

  module _ (below : a < b) (xs : List (List Lit)) (turn : xs ≡ f a) where
    whole_turn : f a ++ each (a + 1) b f ≡ each a b f
    whole_turn = sym (each_more a b f below)

    pub leads_next : (k : Made) → k ≡ with_clauses m xs → LeadsOn k (each (a + 1) b f) start whole
    leads_next k added = record {
      all = step (with_clauses start whole) m k a b f below leads.all (added ∙ ap (with_clauses m) turn);
      cut = λ n begun.
          leads.cut n (subst (λ (ys : List (List Lit)). IsBegun m ys n) whole_turn
          (begun_second m k n (f a) (each (a + 1) b f) (added ∙ ap (with_clauses m) turn) begun));
    }

    pub leads_refused : IsBeyond (with_clauses m xs) → IsBeyond (with_clauses start whole)
    leads_refused beyond =
        stop (with_clauses start whole) m a b f below leads.all (subst (λ (ys : List (List Lit)). IsBeyond (with_clauses m ys)) turn beyond)

    pub leads_cut : (n : Made) → IsBegun m xs n → IsBegun start whole n
    leads_cut n begun =
        leads.cut n (subst (λ (ys : List (List Lit)). IsBegun m ys n) whole_turn
        (begun_first m n (f a) (each (a + 1) b f) (subst (λ (ys : List (List Lit)). IsBegun m ys n) turn begun)))

-- what follows where a call was cut off
pub where_cut : {T E : Type 0} (r : Result T E) (P Q : Type 0) → (P → Q) → OnErr r P → OnErr r Q
where_cut (Ok x) P Q follows h = tt
where_cut (Err e) P Q follows h = follows h
