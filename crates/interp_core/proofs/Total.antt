-- Where meanings give each symbol a value on all arguments, a term has one where its signals do.
use Rattle.std.proofs.Common.{◌≡◌, ℕ, ◌==◌, ◌||◌, Bool, true, false, cond, List, [], ◌∷◌, length, map, Option, Some, refl, sym, subst, arith}
use Rattle.std.specs.Prelude.{option_map, IsSome}
use Rattle.std.proofs.lemmas.Bool.{and_parts, false≢true}
use Rattle.std.proofs.lemmas.List.{length-map}
use Rattle.base_library.specs.Numbers.{is_among}
use Rattle.base_library.proofs.Options.{then_there, map_there}
use Rattle.tsl_terms.specs.TermTree.{TermTree, signal, apply, TermTrees, no_terms, more_terms, ProbeTree}
use Rattle.tsl_terms.specs.OnlyThese.{reads_only, read_only}
use Rattle.tsl_terms.specs.Value.{Meanings, value, values, truth, beside}
use Rattle.interp_core.specs.declared.leaves.Leaves.{Leaves}
use Rattle.interp_core.specs.LeafValue.{leaf_value}
use Rattle.interp_core.specs.Wheel.{wheel}

-- each symbol has a value, or a truth, on all arguments, and each cell a value at first
pub record IsTotal {V : Type 0} (meanings : Meanings V) : Type 0 where
  pub function : (f : ℕ) (vs : List V) → IsSome (meanings.function f vs)
  pub predicate : (p : ℕ) (vs : List V) → IsSome (meanings.predicate p vs)
  pub initial : (s : ℕ) → IsSome (meanings.initial s)

pub wheel_is_total : (size : ℕ) → IsTotal (wheel size)
wheel_is_total size = record { function = λ f vs. refl; predicate = λ p vs. refl; initial = λ s. refl }

-- a member of a list has something beside it in one as long
pub beside_some : {V : Type 0} (s : ℕ) (rs : List ℕ) (vs : List V) → length vs ≡ length rs → is_among rs s ≡ true → IsSome (beside s rs vs)
beside_some s [] vs long among = absurd (false≢true among)
beside_some s (r ∷ rs) [] long among = absurd (omega (arith, long))
beside_some s (r ∷ rs) (v ∷ vs) long among = by (r == s) among (λ rest. beside_some s rs vs (omega (arith, long)) rest)
  where
    by : (b : Bool) → (b || is_among rs s) ≡ true → (is_among rs s ≡ true → IsSome (beside s rs vs)) →
        IsSome (cond b (Some v) (beside s rs vs))
    by true among rest = refl
    by false among rest = rest among

-- leaves give a value to each of their signals
pub leaf_there : {V S : Type 0} (seen : V → S) (leaves : Leaves V) (signals : List ℕ) → leaves.signals ≡ signals → (s : ℕ) →
    is_among signals s ≡ true → IsSome (leaf_value seen leaves s)
leaf_there seen leaves signals same s among =
    beside_some s leaves.signals (map seen leaves.values) (omega (arith, length-map leaves.values seen, leaves.paired))
    (subst (λ rs. is_among rs s ≡ true) (sym same) among)

module _ {V : Type 0} (meanings : Meanings V) (total : IsTotal meanings) (readable : List ℕ) (at : ℕ → Option V)
    (known : (s : ℕ) → is_among readable s ≡ true → IsSome (at s)) where
  mutual
    pub value_there : (t : TermTree) → reads_only readable t ≡ true → IsSome (value meanings at t)
    value_there (signal s) reads = known s reads
    value_there (apply f arguments) reads =
        then_there (meanings.function f) (values meanings at arguments) (values_there arguments reads) (total.function f)

    pub values_there : (ts : TermTrees) → read_only readable ts ≡ true → IsSome (values meanings at ts)
    values_there no_terms reads = refl
    values_there (more_terms t ts) reads =
        let parts = and_parts (reads_only readable t) (read_only readable ts) reads in
        then_there (λ v. option_map (λ vs. v ∷ vs) (values meanings at ts)) (value meanings at t) (value_there t parts.0)
        (λ v. map_there (λ vs. v ∷ vs) (values meanings at ts) (values_there ts parts.1))

  pub truth_there : (p : ProbeTree) → read_only readable p.arguments ≡ true → IsSome (truth meanings at p)
  truth_there p reads =
      then_there (meanings.predicate p.predicate) (values meanings at p.arguments) (values_there p.arguments reads)
      (total.predicate p.predicate)
