-- What is refused has one cause. Causes that come in an order, each of which speaks of what passes those before it, are put
-- together of simple ones.
use Rattle.std.proofs.Common.{◌≡◌, ◌∙◌, ℕ, ◌<◌, ◌≤◌, Option, Some, None, refl, sym, ap, subst, arith, ◌⊎◌, inl, inr}
use Rattle.base_library.proofs.Options.{none_never_some, one_value}

-- what passes and what has a cause: nothing does both, and there is one cause
pub record Causes (E : Type 0) : Type 1 where
  pub Passes : Type 0
  pub Has : E → Type 0
  pub refuses : (e : E) → Has e → Passes → ⊥
  pub one : (a b : E) → Has a → Has b → a ≡ b

-- ---- simple causes

-- something is found
abbrev pub found : {X : Type 0} → Option X → Causes X
found o = record {
  Passes = o ≡ None;
  Has = λ x. o ≡ Some x;
  refuses = λ x is none. none_never_some o x none is;
  one = one_value o;
}

-- a number is too large
abbrev pub above : ℕ → ℕ → Causes (Unit {0})
above most n = record {
  Passes = n ≤ most;
  Has = λ e. most < n;
  refuses = λ e many few. omega (arith, many, few);
  one = λ a b h k. refl;
}

-- ---- causes made of causes

-- a cause, and what a look-up finds for it
abbrev pub told_with : {X Y : Type 0} → Causes X → (X → Option Y) → Causes (X × Y)
told_with c f = record {
  Passes = c.Passes;
  Has = λ p. c.Has p.0 × (f p.0 ≡ Some p.1);
  refuses = λ p h pass. c.refuses p.0 h.0 pass;
  one = λ p q h k.
      let same : p.0 ≡ q.0 = c.one p.0 q.0 h.0 k.0 in
      let beside : p.1 ≡ q.1 = one_value (f q.0) p.1 q.1 (sym (ap f same) ∙ h.1) k.1 in
      λ i. (same i, beside i);
}

-- causes in other words
abbrev pub told : {X E : Type 0} → (X → E) → Causes X → Causes E
told {X = X} f c = record {
  Passes = c.Passes;
  Has = λ e. (x : X) × c.Has x × (f x ≡ e);
  refuses = λ e h pass. c.refuses h.0 h.1 pass;
  one = λ a b h k. sym h.2 ∙ ap f (c.one h.0 k.0 h.1 k.1) ∙ k.2;
}

module _ {E V : Type 0} (first : Causes E) (at : first.Passes → V) (one_at : (p q : first.Passes) → at p ≡ at q) (rest : V → Causes E) where
  abbrev pub HasOneOf : E → Type 0
  HasOneOf e = first.Has e ⊎ ((p : first.Passes) × (rest (at p)).Has e)

  moved : (p q : first.Passes) (e : E) → (rest (at p)).Has e → (rest (at q)).Has e
  moved p q e h = subst (λ v. (rest v).Has e) (one_at p q) h

  pub refused : (e : E) → HasOneOf e → (p : first.Passes) → (rest (at p)).Passes → ⊥
  refused e (inl h) p pass = first.refuses e h p
  refused e (inr h) p pass = (rest (at p)).refuses e (moved h.0 p e h.1) pass

  pub same_cause : (a b : E) → HasOneOf a → HasOneOf b → a ≡ b
  same_cause a b (inl h) (inl k) = first.one a b h k
  same_cause a b (inl h) (inr k) = absurd (first.refuses a h k.0)
  same_cause a b (inr h) (inl k) = absurd (first.refuses b k h.0)
  same_cause a b (inr h) (inr k) = (rest (at k.0)).one a b (moved h.0 k.0 a h.1) k.1

  -- those of one kind, and then those of what passes, of which one thing is given on
  abbrev pub after : Causes E
  after = record {
    Passes = (p : first.Passes) × (rest (at p)).Passes;
    Has = HasOneOf;
    refuses = λ e h p. refused e h p.0 p.1;
    one = same_cause;
  }

abbrev pub and_then : {E : Type 0} → Causes E → Causes E → Causes E
and_then first rest = after {V = Unit {0}} first (λ p. tt) (λ p q. refl) (λ v. rest)
