-- What entries without a cause of refusal give is an interpretation.
use Rattle.std.proofs.Common.{◌≡◌, ◌∙◌, ℕ, ◌+◌, ◌-◌, ◌*◌, ◌%◌, ◌<◌, ◌≤◌, ◌==◌, ◌^◌, true, false, not, Bool, List, [], ◌∷◌}
use Rattle.std.proofs.Common.{length, map, Option, Some, None, sym, ap, subst, arith}
use Rattle.std.specs.Prelude.{option_map, slice_get, flat_map, nat_lt, nat_le, All}
use Rattle.std.specs.List.{find, AllByRecursion}
use Rattle.std.specs.Int.Bits.{and_lt}
use Rattle.std.proofs.Math.Pow.{ones_lt}
use Rattle.std.proofs.Math.Nat.{mod-lt}
use Rattle.std.proofs.lemmas.Nat.{or_lt, xor_lt, pow_pos}
use Rattle.std.proofs.lemmas.Bool.{and_parts, eqb-true, not-false}
use Rattle.std.proofs.lemmas.List.{length-map}
use Rattle.std.proofs.lemmas.Option.{slice_get-map, slice_get_within}
use Rattle.std.proofs.lemmas.List.Elements.{All-from_recursion}
use Rattle.base_library.specs.Numbers.{is_among, numbers_from}
use Rattle.base_library.specs.Options.{passes}
use Rattle.base_library.proofs.Each.{each_joined, each_at, each_unmapped}
use Rattle.base_library.proofs.Finds.{each_fails, found_has, found_passes}
use Rattle.base_library.proofs.Numbers.{numbers_at, numbers_below}
use Rattle.tsl_terms.specs.declared.names.NameKind.TheVariants.{Function, Predicate}
use Rattle.tsl_terms.specs.Name.{Name, same_kind}
use Rattle.tsl_terms.specs.Equality.{is_equality}
use Rattle.tsl_meaning.specs.Interpretation.{Interpretation, IsInterpretation, IsTable}
use Rattle.table_syntax.specs.declared.words.Operation.{Operation as WordOperation}
use Rattle.table_syntax.specs.declared.words.Operation.TheVariants as operation
use Rattle.table_syntax.specs.declared.words.Test.{Test as WordTest}
use Rattle.table_syntax.specs.declared.words.Test.TheVariants as test
use Rattle.table_syntax.specs.declared.words.Given.{Given}
use Rattle.table_syntax.specs.declared.words.Given.TheVariants.{Operation, Test, Value}
use Rattle.table_syntax.specs.Syntax.{WordEntry, WordsSyntax, has_table, kind_of}
use Rattle.entry_names.specs.Needed.{needed, is_for, number_for}
use Rattle.entry_names.specs.Entries.{word_subject_of, is_needed_as, is_known, has_no_entry}
use Rattle.entry_names.proofs.Locate.{found_entry}
use Rattle.entry_names.proofs.NeededNames.{symbol_needed, symbol_is, no_function}
use Rattle.word_interp.specs.Operations.{WordFunction, constant, unary, binary, entries_of, operation_of, test_of, entry_for}
use Rattle.word_interp.specs.Operations.{arity_given, table_given, value_given}
use Rattle.word_interp.specs.Words.{domain_of, subjects_of, given_for, takes_others, has_other_arity, AreInRange, Gives}
use Rattle.word_interp.proofs.Tabled.{entries_many}

-- ---- the values are words, and truths are 0 and 1

-- every value of the function is below a limit, at words
abbrev IsBelow : ℕ → ℕ → WordFunction → Type 0
IsBelow domain limit (constant n) = n < limit
IsBelow domain limit (unary f) = (x : ℕ) → x < domain → f x < limit
IsBelow domain limit (binary f) = (x y : ℕ) → x < domain → y < domain → f x y < limit

mapped_below : (domain limit : ℕ) (f : ℕ → ℕ) → ((x : ℕ) → x < domain → f x < limit) → (ns : List ℕ) →
    AllByRecursion (λ n. n < domain) ns → AllByRecursion (λ v. v < limit) (map f ns)
mapped_below domain limit f below [] each = tt
mapped_below domain limit f below (n ∷ ns) each = (below n each.0, mapped_below domain limit f below ns each.1)

rows_below : (domain limit : ℕ) (f : ℕ → ℕ → ℕ) → ((x y : ℕ) → x < domain → y < domain → f x y < limit) → (ns : List ℕ) →
    AllByRecursion (λ n. n < domain) ns →
    AllByRecursion (λ v. v < limit) (flat_map (λ x. map (f x) (numbers_from 0 domain)) ns)
rows_below domain limit f below [] each = tt
rows_below domain limit f below (n ∷ ns) each =
    each_joined (λ v. v < limit) (map (f n) (numbers_from 0 domain)) (flat_map (λ x. map (f x) (numbers_from 0 domain)) ns)
    (mapped_below domain limit (f n) (λ y less. below n y each.0 less) (numbers_from 0 domain) (numbers_below 0 domain domain (omega arith)))
    (rows_below domain limit f below ns each.1)

entries_below : (domain limit : ℕ) (f : WordFunction) → IsBelow domain limit f → AllByRecursion (λ v. v < limit) (entries_of domain f)
entries_below domain limit (constant n) below = (below, tt)
entries_below domain limit (unary f) below =
    mapped_below domain limit f below (numbers_from 0 domain) (numbers_below 0 domain domain (omega arith))
entries_below domain limit (binary f) below =
    rows_below domain limit f below (numbers_from 0 domain) (numbers_below 0 domain domain (omega arith))

module _ (bits : ℕ) where
  left : (n : ℕ) → n % (2 ^ bits) < 2 ^ bits
  left n = mod-lt n (pow_pos bits)

  values_below : (o : WordOperation) → IsBelow (2 ^ bits) (2 ^ bits) (operation_of (2 ^ bits) o)
  values_below operation.Add = λ x y a b. left (x + y)
  values_below operation.Sub = λ x y a b. left (x + 2 ^ bits - y)
  values_below operation.Mul = λ x y a b. left (x * y)
  values_below operation.And = λ x y a b. and_lt bits x y a b
  values_below operation.Or = λ x y a b. or_lt bits x y a b
  values_below operation.Xor = λ x y a b. xor_lt bits x y a b
  values_below operation.Not = λ x a. xor_lt bits x (2 ^ bits - 1) a (ones_lt bits)
  values_below operation.Inc = λ x a. left (x + 1)
  values_below operation.Dec = λ x a. left (x + 2 ^ bits - 1)
  values_below operation.Shl = λ x a. left (2 * x)
  values_below operation.Shr = λ x a. omega (arith, a)
  values_below (operation.Const n) = left n

truth_below : (b : Bool) → entry_for b < 2
truth_below true = omega arith
truth_below false = omega arith

truths_below : (domain : ℕ) (t : WordTest) → IsBelow domain 2 (test_of t)
truths_below domain test.Less = λ x y a b. truth_below (nat_lt x y)
truths_below domain test.AtMost = λ x y a b. truth_below (nat_le x y)
truths_below domain test.Zero = λ x a. truth_below (x == 0)
truths_below domain test.Odd = λ x a. truth_below (x % 2 == 1)
truths_below domain test.Nonzero = λ x a. truth_below (not (x == 0))

-- ---- the entry of a needed name

passes_is : (id : ℕ) (o : Option ℕ) → passes (λ n. n == id) o ≡ true → o ≡ Some id
passes_is id None h = cc
passes_is id (Some n) h = ap (λ m. Some m) (eqb-true n id h)

-- what is given for a name: something of its kind, which takes as many arguments
pub record IsGiven (names : List Name) (given : WordsSyntax) (id : ℕ) (name : Name) : Type 0 where
  pub what : Given
  pub is : given_for names given.entries id ≡ Some what
  pub kind : same_kind name.kind (kind_of what) ≡ true
  pub many : arity_given (domain_of given) what ≡ name.arity

module _ (names : List Name) (cells : List ℕ) (given : WordsSyntax) (h : AreInRange names cells given) where
  has_given : (id place : ℕ) (name : Name) → slice_get (needed names cells) place ≡ Some id → slice_get names id ≡ Some name →
      IsGiven names given id name
  has_given id place name stands there = record {
    what = entry.0.given;
    is = ap (option_map (λ (e : WordEntry). e.given)) entry.1;
    kind = ap (passes (λ n. same_kind n.kind (kind_of entry.0.given))) (sym there) ∙ needed_as.0;
    many = eqb-true _ _ (not-false _ fits);
  } where
    none : has_no_entry names (subjects_of given) id ≡ false
    none =
        each_at (λ i. has_no_entry names (subjects_of given) i ≡ false) (needed names cells) place id
        (each_fails (has_no_entry names (subjects_of given)) (needed names cells) h.so_far.so_far.whole) stands

    entry : (e : WordEntry) × (find (λ d. is_for names id d.name) given.entries ≡ Some e)
    entry = found_entry names id word_subject_of given.entries none

    known : not (is_known names (needed names cells) (word_subject_of entry.0)) ≡ false
    known =
        found_has (λ d. is_for names id d.name) (λ d. not (is_known names (needed names cells) (word_subject_of d)) ≡ false) given.entries
        entry.0
        (each_unmapped (λ e. not (is_known names (needed names cells) e) ≡ false) word_subject_of given.entries
        (each_fails (λ e. not (is_known names (needed names cells) e)) (subjects_of given) h.so_far.so_far.so_far.known))
        entry.1

    number : number_for names entry.0.name ≡ Some id
    number = passes_is id (number_for names entry.0.name) (found_passes (λ d. is_for names id d.name) given.entries entry.0 entry.1)

    needed_as : (passes (λ n. same_kind n.kind (kind_of entry.0.given)) (slice_get names id) ≡ true)
        × (is_among (needed names cells) id ≡ true)
    needed_as =
        and_parts (passes (λ n. same_kind n.kind (kind_of entry.0.given)) (slice_get names id)) (is_among (needed names cells) id)
        (sym (ap (passes (is_needed_as names (needed names cells) (kind_of entry.0.given))) number)
        ∙ not-false (is_known names (needed names cells) (word_subject_of entry.0)) known)

    fits : not (arity_given (domain_of given) entry.0.given == name.arity) ≡ false
    fits =
        sym (ap (takes_others (domain_of given) names id) (ap (option_map (λ (e : WordEntry). e.given)) entry.1)
        ∙ ap (passes (λ (n : Name). not (arity_given (domain_of given) entry.0.given == n.arity))) there)
        ∙ each_at (λ i. has_other_arity names given i ≡ false) (needed names cells) place id
        (each_fails (has_other_arity names given) (needed names cells) h.so_far.fitting) stands

  symbol_given : (id : ℕ) (name : Name) → slice_get names id ≡ Some name → has_table name.kind ≡ true → is_equality names id ≡ false →
      IsGiven names given id name
  symbol_given id name there kind other =
      let place = symbol_needed names cells id (symbol_is names id name there kind other) in
      has_given id place.0 name place.1 there

-- ---- the tables

function_table : (bits arity : ℕ) (g : Given) → same_kind Function (kind_of g) ≡ true → arity_given (2 ^ bits) g ≡ arity →
    IsTable (2 ^ bits) arity (2 ^ bits) (table_given (2 ^ bits) (Some g))
function_table bits arity (Operation o) kind many = (
  entries_many (2 ^ bits) (operation_of (2 ^ bits) o) ∙ ap (λ n. (2 ^ bits) ^ n) many,
  All-from_recursion (λ v. v < 2 ^ bits) (entries_of (2 ^ bits) (operation_of (2 ^ bits) o))
      (entries_below (2 ^ bits) (2 ^ bits) (operation_of (2 ^ bits) o) (values_below bits o)),
)
function_table bits arity (Test t) kind many = cc
function_table bits arity (Value n) kind many = cc

predicate_table : (domain arity : ℕ) (g : Given) → same_kind Predicate (kind_of g) ≡ true → arity_given domain g ≡ arity →
    IsTable domain arity 2 (table_given domain (Some g))
predicate_table domain arity (Test t) kind many = (
  entries_many domain (test_of t) ∙ ap (λ n. domain ^ n) many,
  All-from_recursion (λ v. v < 2) (entries_of domain (test_of t)) (entries_below domain 2 (test_of t) (truths_below domain t)),
)
predicate_table domain arity (Operation o) kind many = cc
predicate_table domain arity (Value n) kind many = cc

value_below : (bits : ℕ) (g : Option Given) → value_given (2 ^ bits) g < 2 ^ bits
value_below bits None = pow_pos bits
value_below bits (Some (Operation o)) = pow_pos bits
value_below bits (Some (Test t)) = pow_pos bits
value_below bits (Some (Value n)) = left bits n

all_below : (bits : ℕ) (f : ℕ → Option Given) (cells : List ℕ) →
    AllByRecursion (λ v. v < 2 ^ bits) (map (λ s. value_given (2 ^ bits) (f s)) cells)
all_below bits f [] = tt
all_below bits f (s ∷ cells) = (value_below bits (f s), all_below bits f cells)

module _ (names : List Name) (cells : List ℕ) (given : WordsSyntax) (interpretation : Interpretation)
    (gives : Gives names cells given interpretation) where
  table_at : (id : ℕ) (g : Given) → id < length names → given_for names given.entries id ≡ Some g →
      slice_get interpretation.tables id ≡ Some (table_given (domain_of given) (Some g))
  table_at id g inside is =
      ap (λ ts. slice_get ts id) gives.tables
      ∙ slice_get-map (λ i. table_given (domain_of given) (given_for names given.entries i)) (numbers_from 0 (length names)) id
      ∙ ap (option_map (λ i. table_given (domain_of given) (given_for names given.entries i))) (numbers_at 0 (length names) id inside
      ∙ ap (λ n. Some n) (omega arith))
      ∙ ap (λ o. Some (table_given (domain_of given) o)) is

  pub interprets : IsInterpretation names cells interpretation
  interprets = record {
    domain = (let some : 1 ≤ 2 ^ given.bits = pow_pos given.bits in omega (arith, some, gives.domain));
    functions = λ f name there kind.
        let g = symbol_given names cells given gives.in_range f name there (ap has_table kind) (no_function names f name there kind) in (
          table_given (domain_of given) (Some g.what),
          table_at f g.what (slice_get_within names f name there) g.is,
          subst (λ (d : ℕ). IsTable d name.arity d (table_given (domain_of given) (Some g.what))) (sym gives.domain)
              (function_table given.bits name.arity g.what (ap (λ k. same_kind k (kind_of g.what)) (sym kind) ∙ g.kind) g.many),
        );
    predicates = λ p name there kind other.
        let g = symbol_given names cells given gives.in_range p name there (ap has_table kind) other in (
          table_given (domain_of given) (Some g.what),
          table_at p g.what (slice_get_within names p name there) g.is,
          subst (λ (d : ℕ). IsTable d name.arity 2 (table_given (domain_of given) (Some g.what))) (sym gives.domain)
              (predicate_table (domain_of given) name.arity g.what (ap (λ k. same_kind k (kind_of g.what)) (sym kind) ∙ g.kind) g.many),
        );
    initial = (
      ap length gives.initial ∙ length-map cells (λ s. value_given (domain_of given) (given_for names given.entries s)),
      subst (λ (d : ℕ). All (λ v. v < d) interpretation.initial) (sym gives.domain)
          (subst (λ (vs : List ℕ). All (λ v. v < domain_of given) vs) (sym gives.initial)
          (All-from_recursion (λ v. v < domain_of given) (map (λ s. value_given (domain_of given) (given_for names given.entries s)) cells)
          (all_below given.bits (given_for names given.entries) cells))),
    );
  }
