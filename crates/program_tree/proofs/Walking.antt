-- A walk, node by node.
use Rattle.std.proofs.Common.{◌≡◌, ◌∙◌, ℕ, zero, suc, ◌<◌, Bool, true, false, cond, List, length, map, get_or, Option, Some}
use Rattle.std.proofs.Common.{slice_get, refl, sym, ap, subst, arith}
use Rattle.std.specs.Prelude.{option_and_then, option_map, IsSome}
use Rattle.std.proofs.lemmas.List.{length-map}
use Rattle.std.proofs.lemmas.Option.{slice_get-map, slice_get_within, slice_get_read, slice_get-get_or}
use Rattle.base_library.proofs.Options.{there_before, none_never_there}
use Rattle.tsl_terms.specs.TermTree.{TermTree, ProbeTree}
use Rattle.program_tree.specs.declared.node.Node.{Node}
use Rattle.program_tree.specs.NodeTree.{NodeTree, branch, assign, node_tree}
use Rattle.program_tree.specs.ProgramTree.{ProgramTree}
use Rattle.program_tree.specs.Walk.{Action, done_at, walk_from, walk}

pub cond_below : (holds : Bool) (a b i : ℕ) → a < i → b < i → cond holds a b < i
cond_below true a b i left right = left
cond_below false a b i left right = right

-- the node that a state names
pub state_read : (states members : List ℕ) (f : ℕ → Option Action) (i d : ℕ) → states ≡ members →
    IsSome (option_and_then f (slice_get members i)) →
    slice_get members i ≡ Some (get_or states i d)
state_read states members f i d same some =
    let at = there_before f (slice_get members i) some in
    rw same (slice_get-get_or members i d (slice_get_within members i at.0 at.1))

-- the tree of the node that was read
pub node_read : (nodes members : List Node) (i : ℕ) (n m : Node) → nodes ≡ members → i < length (map node_tree members) →
    n ≡ get_or nodes i n → n ≡ m →
    slice_get (map node_tree members) i ≡ Some (node_tree m)
node_read nodes members i n m same within is matched =
    subst (λ k. slice_get (map node_tree members) i ≡ Some (node_tree k)) matched
    (subst (λ ns. slice_get (map node_tree ns) i ≡ Some (node_tree n)) same
    (slice_get-map node_tree nodes i
    ∙ ap (λ o. option_map node_tree o) (slice_get_read nodes (length nodes) i n refl (omega (
      arith,
      within,
      length-map members node_tree,
      ap length same,
    )) is)))

module _ (nodes : List NodeTree) (truths : ProbeTree → Option Bool) (whole : Option Action) where
  -- from a node on, through some number of nodes at most, the walk is the whole one
  abbrev pub IsOn : ℕ → Type 0
  IsOn i = (n : ℕ) × (walk_from nodes truths n i ≡ whole)

  pub node_within : (i : ℕ) → IsSome whole → IsOn i → i < length nodes
  node_within i some (zero, is) = absurd (none_never_there whole is some)
  node_within i some (suc n, is) =
      let node = there_before (done_at truths (walk_from nodes truths n)) (slice_get nodes i) (subst IsSome (sym is) some) in
      slice_get_within nodes i node.0 node.1

  pub test_there : (i a b : ℕ) (t : ProbeTree) → IsSome whole → IsOn i → slice_get nodes i ≡ Some (branch t a b) → IsSome (truths t)
  test_there i a b t some (zero, is) node = absurd (none_never_there whole is some)
  test_there i a b t some (suc n, is) node =
      let done : IsSome (option_and_then (λ holds. walk_from nodes truths n (cond holds a b)) (truths t)) =
      subst IsSome (sym is ∙ ap (option_and_then (done_at truths (walk_from nodes truths n))) node) some in
      let truth = there_before (λ holds. walk_from nodes truths n (cond holds a b)) (truths t) done in
      rw truth.1 refl

  pub branch_taken : (i a b : ℕ) (t : ProbeTree) (holds : Bool) → IsSome whole → IsOn i → slice_get nodes i ≡ Some (branch t a b) →
      truths t ≡ Some holds → IsOn (cond holds a b)
  branch_taken i a b t holds some (zero, is) node truth = absurd (none_never_there whole is some)
  branch_taken i a b t holds some (suc n, is) node truth = (
    n,
    sym (ap (option_and_then (λ holds. walk_from nodes truths n (cond holds a b))) truth)
        ∙ sym (ap (option_and_then (done_at truths (walk_from nodes truths n))) node) ∙ is,
  )

  pub end_reached : (i go : ℕ) (ts : List TermTree) → IsSome whole → IsOn i → slice_get nodes i ≡ Some (assign ts go) →
      whole ≡ Some (record { updates = ts; go = go })
  end_reached i go ts some (zero, is) node = absurd (none_never_there whole is some)
  end_reached i go ts some (suc n, is) node = sym is ∙ ap (option_and_then (done_at truths (walk_from nodes truths n))) node

-- a walk begins at the state's node
pub begins : (program : ProgramTree) (truths : ProbeTree → Option Bool) (state node : ℕ) → slice_get program.states state ≡ Some node →
    IsOn program.nodes truths (walk program truths state) node
begins program truths state node at =
    (length program.nodes, sym (ap (option_and_then (walk_from program.nodes truths (length program.nodes))) at))
