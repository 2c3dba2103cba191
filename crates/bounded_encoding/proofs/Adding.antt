-- Steps of loops that add clauses, and rows of tables.
use Rattle.std.proofs.lemmas.Result.{err_from_is_err_and}
use Rattle.std.specs.Prelude.{Result, IfErr}
use Rattle.std.specs.Result.{IsErrAnd}
use Rattle.bounded_encoding.specs.declared.errors.EncodeError.{EncodeError}
use Rattle.std.proofs.Common.{◌≡◌, ◌∙◌, ◌<◌, ◌≤◌, ◌+◌, ℕ, suc, List, [], ◌∷◌, ◌++◌, map, filter, not, length, sym, ap, subst, append_assoc, append-nil, arith, length-append}
use Rattle.std.specs.List.{flat_map}
use Rattle.std.proofs.Common.{◌*◌, get_or, drop}
use Rattle.std.proofs.Math.Nat.{mul-le-mul_right}
use Rattle.std.proofs.lemmas.List.{map-append, drop_more}
use Rattle.std.proofs.lemmas.List.Elements.{filter-append}
use Rattle.clause_core.specs.Literals.{Lit}
use Rattle.clause_core.specs.Clauses.{in_order, has_pair}
use Rattle.bounded_encoding.specs.Made.{Made, with_clauses, IsBeyond}
use Rattle.bounded_encoding.proofs.Between.{between_more, between_none}
use Rattle.bounded_encoding.specs.ClauseLists.{kept, between, each}

-- what is kept of two lists
pub kept_both : (xs ys : List (List Lit)) → kept (xs ++ ys) ≡ kept xs ++ kept ys
kept_both xs ys = ap (filter (λ c. not (has_pair c))) (map-append in_order xs ys)
    ∙ filter-append (λ c. not (has_pair c)) (map in_order xs) (map in_order ys)

-- clauses added in two turns
pub with_both : (m : Made) (xs ys : List (List Lit)) → with_clauses (with_clauses m xs) ys ≡ with_clauses m (xs ++ ys)
with_both m xs ys = λ i. record {
  clauses = (append_assoc m.clauses (kept xs) (kept ys) ∙ ap (λ (zs : List (List Lit)). m.clauses ++ zs) (sym (kept_both xs ys))) i;
  most = m.most;
}

-- nothing added
pub with_none : (m : Made) → with_clauses m [] ≡ m
with_none m = λ i. record { clauses = append-nil m.clauses i; most = m.most }

-- what is too many stays too many
pub beyond_more : (m : Made) (xs ys : List (List Lit)) → IsBeyond (with_clauses m xs) → IsBeyond (with_clauses m (xs ++ ys))
beyond_more m xs ys h = rw (kept_both xs ys)
    (omega (arith, h, length-append m.clauses (kept xs), length-append m.clauses (kept xs ++ kept ys), length-append (kept xs) (kept ys)))

-- the clauses of each number
pub each_more : (a b : ℕ) (f : ℕ → List (List Lit)) → a < b → each a b f ≡ f a ++ each (a + 1) b f
each_more a b f h = ap (flat_map f) (between_more a b h)

-- a loop's step, its refusal and its end
pub step : (whole m n : Made) (a b : ℕ) (f : ℕ → List (List Lit)) → a < b → with_clauses m (each a b f) ≡ whole → n
    ≡ with_clauses m (f a) → with_clauses n (each (a + 1) b f) ≡ whole
step whole m n a b f h e g = ap (λ (x : Made). with_clauses x (each (a + 1) b f)) g
    ∙ (with_both m (f a) (each (a + 1) b f) ∙ (ap (with_clauses m) (sym (each_more a b f h)) ∙ e))

pub stop : (whole m : Made) (a b : ℕ) (f : ℕ → List (List Lit)) → a < b → with_clauses m (each a b f) ≡ whole
    → IsBeyond (with_clauses m (f a)) → IsBeyond whole
stop whole m a b f h e o = subst IsBeyond (ap (with_clauses m) (sym (each_more a b f h)) ∙ e) (beyond_more m (f a) (each (a + 1) b f) o)

pub end : (whole m : Made) (a b : ℕ) (f : ℕ → List (List Lit)) → b ≤ a → with_clauses m (each a b f) ≡ whole → m ≡ whole
end whole m a b f h e = sym (with_none m) ∙ (ap (λ (xs : List ℕ). with_clauses m (flat_map f xs)) (sym (between_none a b h)) ∙ e)

-- a loop that collects literals
pub collected : (whole xs ys : List Lit) (a b : ℕ) (f : ℕ → Lit) → a < b → xs ++ map f (between a b) ≡ whole → ys ≡ xs ++ f a ∷ []
    → ys ++ map f (between (a + 1) b) ≡ whole
collected whole xs ys a b f h e g = ap (λ (zs : List Lit). zs ++ map f (between (a + 1) b)) g
    ∙ (append_assoc xs (f a ∷ []) (map f (between (a + 1) b)) ∙ (ap (λ (ns : List ℕ). xs ++ map f ns) (sym (between_more a b h)) ∙ e))

pub collected_all : (whole xs : List Lit) (a b : ℕ) (f : ℕ → Lit) → b ≤ a → xs ++ map f (between a b) ≡ whole → xs ≡ whole
collected_all whole xs a b f h e = sym (append-nil xs) ∙ (ap (λ (ns : List ℕ). xs ++ map f ns) (sym (between_none a b h)) ∙ e)

-- an error handed on
pub passed_on : {T : Type 0} (r : Result T EncodeError) (e : EncodeError) (P : EncodeError → Type 0) → IsErrAnd r (λ d. d ≡ e) → P e
    → IfErr r P
passed_on r e P h k = let p = err_from_is_err_and r h in rw (p.1, p.2) k

-- the same for a loop over a slice
pub step_at : (whole m n : Made) {X : Type 0} (xs : List X) (i : ℕ) (d : X) (f : X → List (List Lit)) → i < length xs
    → with_clauses m (flat_map f (drop i xs)) ≡ whole → n ≡ with_clauses m (f (get_or xs i d))
    → with_clauses n (flat_map f (drop (i + 1) xs)) ≡ whole
step_at whole m n xs i d f h e g = ap (λ (x : Made). with_clauses x (flat_map f (drop (i + 1) xs))) g
    ∙ (with_both m (f (get_or xs i d)) (flat_map f (drop (i + 1) xs))
    ∙ (ap (λ (ys : List _). with_clauses m (flat_map f ys)) (sym (drop_more xs i d h)) ∙ e))

pub stop_at : (whole m : Made) {X : Type 0} (xs : List X) (i : ℕ) (d : X) (f : X → List (List Lit)) → i < length xs
    → with_clauses m (flat_map f (drop i xs)) ≡ whole → IsBeyond (with_clauses m (f (get_or xs i d))) → IsBeyond whole
stop_at whole m xs i d f h e o = subst IsBeyond (ap (λ (ys : List _). with_clauses m (flat_map f ys)) (sym (drop_more xs i d h)) ∙ e)
    (beyond_more m (f (get_or xs i d)) (flat_map f (drop (i + 1) xs)) o)

-- a row lies within the table
pub in_table : (m n s q : ℕ) → s < m → q < n → s * n + q + 1 ≤ m * n
in_table m n s q h g = let e : suc s * n ≤ m * n = mul-le-mul_right n h in let d : suc s * n
    ≡ s * n + n = grind arith in omega (arith, rw d at e, g)

pub row : (m n k s q : ℕ) → s < m → q < n → (s * n + q) * k + k ≤ m * n * k
row m n k s q h g = let e : (s * n + q + 1) * k ≤ m * n * k = mul-le-mul_right k (in_table m n s q h g) in let d : (s * n + q + 1) * k
    ≡ (s * n + q) * k + k = grind arith in rw d at e

-- the same where the member is a value of its own
pub step_item : (whole m n : Made) {X : Type 0} (xs : List X) (i : ℕ) (x : X) (f : X → List (List Lit)) → i < length xs → x ≡ get_or xs i x
    → with_clauses m (flat_map f (drop i xs)) ≡ whole → n ≡ with_clauses m (f x) → with_clauses n (flat_map f (drop (i + 1) xs)) ≡ whole
step_item whole m n xs i x f h is e g = step_at whole m n xs i x f h e (g ∙ ap (λ (y : _). with_clauses m (f y)) is)

pub stop_item : (whole m : Made) {X : Type 0} (xs : List X) (i : ℕ) (x : X) (f : X → List (List Lit)) → i < length xs → x ≡ get_or xs i x
    → with_clauses m (flat_map f (drop i xs)) ≡ whole → IsBeyond (with_clauses m (f x)) → IsBeyond whole
stop_item whole m xs i x f h is e o = stop_at whole m xs i x f h e (subst (λ (y : _). IsBeyond (with_clauses m (f y))) is o)

-- all that a loop over numbers needs but its turns
pub ruleset adding = (step, stop, end, with_both, beyond_more)
