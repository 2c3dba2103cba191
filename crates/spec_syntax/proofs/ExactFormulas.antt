-- Formulas are read exactly: chains of operands, and the right sides of operators.
use Rattle.std.proofs.Common.{◌≡◌, ℕ, zero, suc, ◌<◌, ◌≤◌, Bool, true, false, List, [], ◌∷◌, ◌++◌, refl, ap, sym, ◌∙◌, arith}
use Rattle.std.proofs.lemmas.List.{append-nil}
use Rattle.std.specs.Prelude.{Option, Some, None, codes}
use Rattle.tsl_text.specs.declared.TokenKind.TheVariants.{And, Or, Arrow, BothArrow}
use Rattle.reader_combinators.specs.Readers.{Reader, and_then, after}
use Rattle.reader_combinators.specs.Exact.{Grammar, Before, Begins, Exact}
use Rattle.reader_combinators.proofs.Runs.{map_same, exact_map, before_join, before_map, Same, exact_same}
use Rattle.reader_combinators.proofs.Then.{IsThen, lift_then, exact_then, regroup, Tells}
use Rattle.reader_combinators.proofs.Terminals.{Turn, by_first, end_as, turn_of, turn_takes, turn_as, IsAfter}
use Rattle.reader_combinators.proofs.Levels.{Below, lift_up, IsTail, alone, with_right, tail_exact}
use Rattle.reader_combinators.proofs.Lists.{AreAll, none, some, Member, marked_member, members_exact}
use Rattle.spec_syntax.specs.declared.syntax.Word.TheVariants.{U, W, R}
use Rattle.tsl_terms.specs.declared.operator.BinaryOperator.{BinaryOperator}
use Rattle.tsl_terms.specs.declared.operator.ManyOperator.{ManyOperator}
use Rattle.tsl_terms.specs.declared.operator.ManyOperator.TheVariants.{Conjunction, Disjunction}
use Rattle.spec_syntax.specs.declared.syntax.ArrowKind.{ArrowKind}
use Rattle.spec_syntax.specs.declared.syntax.ArrowKind.TheVariants.{Single, Double}
use Rattle.spec_syntax.specs.Syntax.{Terminal, word, mark, FormulaSyntax, bare}
use Rattle.spec_syntax.specs.Syntax.{between, join}
use Rattle.spec_syntax.specs.Grammar.{temporal_of, IsFormula, temporal, chain as chained, IsIff, no_iff, iff}
use Rattle.spec_syntax.specs.Grammar.{IsImp, no_imp, imp, IsOr, disjunction, AreDisjuncts, no_disjunct, more_disjuncts, IsAnd, conjunction}
use Rattle.spec_syntax.specs.Grammar.{AreConjuncts, no_conjunct, more_conjuncts, IsPrefix}
use Rattle.spec_syntax.specs.Reading.{Level}
use Rattle.spec_syntax.specs.Reading.{prefix_with, is_sign, further_from, further, chain_after, and_with}
use Rattle.spec_syntax.specs.Reading.{or_after}
use Rattle.spec_syntax.specs.Reading.{is_arrow, operator_of, arrow_from, arrow_after, imp_after, iff_after, right_with, formula_from}
use Rattle.spec_syntax.specs.Reading.{formula_after, formula_with, above, lower}
use Rattle.spec_syntax.proofs.MoreLevels.{iff_more, imp_more, and_more}
use Rattle.spec_syntax.proofs.ExactTerms.{tie, Below_tie, a, term_exact}
use Rattle.spec_syntax.proofs.ExactPrefixes.{IsRight, IsLeft, arrow_tie, LevelExact, terms_below, lift_prefixes, a_prefix, an_and}
use Rattle.spec_syntax.proofs.ExactPrefixes.{a_right, prefix_exact}

-- ---- what may follow a form

-- such a tie, and less than that
abbrev Between : ℕ → ℕ → Terminal → Type 0
Between low high x = (low ≤ tie x) × (tie x < high)

-- A reader of what may follow a formula: it begins with a terminal that ties so strongly, and ends before a weaker one.
record Tail (low high levels_left : ℕ) (Is : FormulaSyntax → Grammar Terminal FormulaSyntax)
    (reader : FormulaSyntax → Reader Terminal FormulaSyntax) : Type 0 where
  pub ordered : low ≤ high
  pub exact : (a : FormulaSyntax) → Exact (Is a) (Below_tie low) levels_left (reader a)
  pub ties : (a : FormulaSyntax) (r : ℕ) (xs : List Terminal) (f : FormulaSyntax) → Is a r xs f → Before (Between low high) xs
  pub lift : (a : FormulaSyntax) (r : ℕ) (xs : List Terminal) (f : FormulaSyntax) → Is a r xs f → Is a (suc (suc r)) xs f
  pub none : (a : FormulaSyntax) (r : ℕ) → Is a r [] a

module _ {low high levels_left : ℕ} {Is : FormulaSyntax → Grammar Terminal FormulaSyntax}
    {reader : FormulaSyntax → Reader Terminal FormulaSyntax}
    (t : Tail low high levels_left Is reader) where
  follow : (a : FormulaSyntax) (r : ℕ) (xs : List Terminal) (f : FormulaSyntax) → Is a r xs f → (n : ℕ) → n ≤ high →
      (rest : List Terminal) →
      Before (Below_tie n) rest → Before (Below_tie high) (xs ++ rest)
  follow a r xs f h n few rest b =
      before_join (Below_tie high) xs rest (before_map (Between low high) (Below_tie high) (λ x e. e.1) xs (t.ties a r xs f h))
      (before_map (Below_tie n) (Below_tie high) (λ x e. omega (arith, e, few)) rest b)

  -- a form and what may follow it
  then_tail : {First : Grammar Terminal FormulaSyntax} {first : Reader Terminal FormulaSyntax} →
      ((r : ℕ) (xs : List Terminal) (f : FormulaSyntax) → First r xs f → First (suc (suc r)) xs f) →
      Exact First (Below_tie high) levels_left first →
      Exact (IsThen First Is) (Below_tie low) levels_left (λ xs. and_then (first xs) reader)
  then_tail lift k =
      exact_then (record { lift = lift; default = λ r c. record { ending = []; value = c; derives = t.none c r } })
      (λ r c xs f h rest b. follow c r xs f h low t.ordered rest b) k t.exact

-- what may follow, and then what may follow that
tail_then : {low middle high levels_left : ℕ} {A B : FormulaSyntax → Grammar Terminal FormulaSyntax}
    {f g : FormulaSyntax → Reader Terminal FormulaSyntax} →
    Tail middle high levels_left A f → Tail low middle levels_left B g →
    Tail low high levels_left (λ a. IsThen (A a) B) (λ a xs. and_then (f a xs) g)
tail_then {low = low} {middle = middle} {high = high} {A = A} {B = B} s t = record {
  ordered = omega (arith, s.ordered, t.ordered);
  exact = λ a. then_tail t (s.lift a) (s.exact a);
  ties = λ a r xs f h. rw h.split (before_join (Between low high) h.front h.tail
      (before_map (Between middle high) (Between low high) (λ x e. (omega (arith, e, t.ordered), e.1)) h.front
      (s.ties a r h.front h.value h.first))
      (before_map (Between low middle) (Between low high) (λ x e. (e.0, omega (arith, e, s.ordered))) h.tail
      (t.ties h.value r h.tail f h.second)));
  lift = λ a. lift_then (A a) B (s.lift a) t.lift;
  none = λ a r. record { value = a; front = []; tail = []; split = refl; first = s.none a r; second = t.none a r };
}

-- ---- chains of operands

-- what is known of the operator between such operands, which ties so strongly
pub record ChainFacts (op : ManyOperator) (IsOperand : Grammar Terminal FormulaSyntax) (sign : Terminal) (n : ℕ) : Type 0 where
  pub tells : Tells (is_sign op) sign
  pub ties : tie sign ≡ n
  pub begins : (r : ℕ) → Begins (IsOperand r) []
  pub lift : (r : ℕ) (xs : List Terminal) (f : FormulaSyntax) → IsOperand r xs f → IsOperand (suc (suc r)) xs f

-- the further operands, and what they make of the first one
abbrev AreFurther : ManyOperator → Grammar Terminal FormulaSyntax → Grammar Terminal (List FormulaSyntax)
AreFurther op IsOperand = AreAll (IsAfter (is_sign op) IsOperand)

abbrev ChainTail : ManyOperator → Grammar Terminal FormulaSyntax → FormulaSyntax → Grammar Terminal FormulaSyntax
ChainTail op IsOperand a r xs f = (fs : List FormulaSyntax) × AreFurther op IsOperand r xs fs × (f ≡ join op a fs)

module _ {op : ManyOperator} {IsOperand : Grammar Terminal FormulaSyntax} {sign : Terminal} {n : ℕ} (k : ChainFacts op IsOperand sign n)
    (levels_left : ℕ) {operand : Reader Terminal FormulaSyntax} (exact : Exact IsOperand (Below_tie (suc n)) levels_left operand) where
  sign_ties : (x : Terminal) → is_sign op x ≡ true → tie x ≡ n
  sign_ties x e = ap tie (k.tells.only x e) ∙ k.ties

  pub further_member : Member (IsAfter (is_sign op) IsOperand) (Below_tie (suc n)) (Below_tie n) levels_left
      (further op operand) (is_sign op) (after (is_sign op) operand)
  unfolding further further_from
  further_member =
      marked_member (is_sign op) sign k.tells.yes (k.begins levels_left) k.lift refl
      (λ x rest e. ap (λ here. further_from here operand rest) e)
      (λ x rest e. ap (λ here. further_from here operand rest) e) (λ x e. omega (arith, sign_ties x e))
      (λ x e. stops x e (is_sign op x) refl)
      (λ x e. omega (arith, e)) exact where
        stops : (x : Terminal) → tie x < n → (here : Bool) → is_sign op x ≡ here → is_sign op x ≡ false
        stops x e true h = absurd (omega (arith, e, sign_ties x h))
        stops x e false h = h

  chain_tail : Tail n (suc n) levels_left (ChainTail op IsOperand) (chain_after op operand)
  unfolding chain_after
  chain_tail = record {
    ordered = omega arith;
    exact = λ a. exact_map (join op a) (λ r xs fs h. (fs, h, refl)) (λ r xs f h. h) (members_exact further_member);
    ties = λ a r xs f h. ties h.1;
    lift = λ a r xs f h. (h.0, lift h.1, h.2);
    none = λ a r. ([], none, refl);
  } where
    ties : {r : ℕ} {xs : List Terminal} {fs : List FormulaSyntax} → AreFurther op IsOperand r xs fs → Before (Between n (suc n)) xs
    ties none = tt
    ties (some {f = []} h m) = absurd h
    ties (some {f = x ∷ f} h m) = (omega (arith, sign_ties x h.0), omega (arith, sign_ties x h.0))

    lift : {r : ℕ} {xs : List Terminal} {fs : List FormulaSyntax} → AreFurther op IsOperand r xs fs →
        AreFurther op IsOperand (suc (suc r)) xs fs
    lift none = none
    lift (some {f = []} h m) = absurd h
    lift {r = r} (some {f = x ∷ f} {v = v} h m) = some {f = x ∷ f} (h.0, k.lift r f v h.1) (lift m)

abbrev AndTail : FormulaSyntax → Grammar Terminal FormulaSyntax
AndTail = ChainTail Conjunction IsPrefix

abbrev OrTail : FormulaSyntax → Grammar Terminal FormulaSyntax
OrTail = ChainTail Disjunction IsAnd

pub and_facts : ChainFacts Conjunction IsPrefix (mark And) 5
and_facts = record { tells = record { yes = refl; only = only }; ties = refl; begins = a_prefix; lift = lift_prefixes } where
  only : (x : Terminal) → is_sign Conjunction x ≡ true → x ≡ mark And
  only (mark And) h = refl
  only _ h = cc

pub or_facts : ChainFacts Disjunction IsAnd (mark Or) 4
or_facts = record {
  tells = record { yes = refl; only = only };
  ties = refl;
  begins = λ r. record { ending = a ∷ []; value = bare (codes "a"); derives = an_and r };
  lift = λ r xs f h. and_more (and_more h);
} where
  only : (x : Terminal) → is_sign Disjunction x ≡ true → x ≡ mark Or
  only (mark Or) h = refl
  only _ h = cc

conjuncts_of : (r : ℕ) (xs : List Terminal) (fs : List FormulaSyntax) → AreFurther Conjunction IsPrefix r xs fs → AreConjuncts r xs fs
conjuncts_of r xs fs none = no_conjunct
conjuncts_of r xs fs (some {f = []} h k) = absurd h
conjuncts_of r xs fs (some {f = x ∷ f} {g = g} {vs = vs} h k) = rw (and_facts.tells.only x h.0) (more_conjuncts h.1 (conjuncts_of r g vs k))

all_conjuncts : {r : ℕ} {xs : List Terminal} {fs : List FormulaSyntax} → AreConjuncts r xs fs → AreFurther Conjunction IsPrefix r xs fs
all_conjuncts no_conjunct = none
all_conjuncts (more_conjuncts {xs = xs} h k) = some {f = mark And ∷ xs} (refl, h) (all_conjuncts k)

disjuncts_of : (r : ℕ) (xs : List Terminal) (fs : List FormulaSyntax) → AreFurther Disjunction IsAnd r xs fs → AreDisjuncts r xs fs
disjuncts_of r xs fs none = no_disjunct
disjuncts_of r xs fs (some {f = []} h k) = absurd h
disjuncts_of r xs fs (some {f = x ∷ f} {g = g} {vs = vs} h k) = rw (or_facts.tells.only x h.0) (more_disjuncts h.1 (disjuncts_of r g vs k))

all_disjuncts : {r : ℕ} {xs : List Terminal} {fs : List FormulaSyntax} → AreDisjuncts r xs fs → AreFurther Disjunction IsAnd r xs fs
all_disjuncts no_disjunct = none
all_disjuncts (more_disjuncts {xs = xs} h k) = some {f = mark Or ∷ xs} (refl, h) (all_disjuncts k)

and_same : Same IsAnd (IsThen IsPrefix AndTail)
and_same =
    record { to = to; from = λ r xs f h. rw (h.split, h.second.2) (conjunction h.first (conjuncts_of r h.tail h.second.0 h.second.1)) }
  where
    to : (r : ℕ) (xs : List Terminal) (f : FormulaSyntax) → IsAnd r xs f → IsThen IsPrefix AndTail r xs f
    to r xs f (conjunction {xs = front} {ys = tail} {a = a} {fs = fs} h k) =
        record { value = a; front = front; tail = tail; split = refl; first = h; second = (fs, all_conjuncts k, refl) }

or_same : Same IsOr (IsThen IsAnd OrTail)
or_same =
    record { to = to; from = λ r xs f h. rw (h.split, h.second.2) (disjunction h.first (disjuncts_of r h.tail h.second.0 h.second.1)) }
  where
    to : (r : ℕ) (xs : List Terminal) (f : FormulaSyntax) → IsOr r xs f → IsThen IsAnd OrTail r xs f
    to r xs f (disjunction {xs = front} {ys = tail} {a = a} {fs = fs} h k) =
        record { value = a; front = front; tail = tail; split = refl; first = h; second = (fs, all_disjuncts k, refl) }

-- ---- the right sides of arrows

abbrev arrow_sign : ArrowKind → Terminal
arrow_sign Single = mark Arrow
arrow_sign Double = mark BothArrow

arrow_tells : (kind : ArrowKind) → Tells (is_arrow kind) (arrow_sign kind)
arrow_tells Single = record { yes = refl; only = only } where
  only : (x : Terminal) → is_arrow Single x ≡ true → x ≡ mark Arrow
  only (mark Arrow) h = refl
  only _ h = cc
arrow_tells Double = record { yes = refl; only = only } where
  only : (x : Terminal) → is_arrow Double x ≡ true → x ≡ mark BothArrow
  only (mark BothArrow) h = refl
  only _ h = cc

no_arrow : (kind : ArrowKind) (x : Terminal) → tie x < arrow_tie kind → is_arrow kind x ≡ false
no_arrow Single (mark Arrow) e = absurd (omega (arith, e))
no_arrow Double (mark BothArrow) e = absurd (omega (arith, e))
no_arrow Single _ e = refl
no_arrow Double _ e = refl

abbrev ArrowTail : ArrowKind → FormulaSyntax → Grammar Terminal FormulaSyntax
ArrowTail kind a = IsTail (arrow_sign kind) (between (operator_of kind) a) (IsRight kind) a

right_more : (kind : ArrowKind) (r : ℕ) (xs : List Terminal) (f : FormulaSyntax) → IsRight kind r xs f → IsRight kind (suc (suc r)) xs f
right_more Single r xs f h = imp_more (imp_more h)
right_more Double r xs f h = iff_more (iff_more h)

-- the left side alone, and both sides
left_alone : (kind : ArrowKind) (r : ℕ) (xs : List Terminal) (f : FormulaSyntax) → IsLeft kind r xs f → IsRight kind r xs f
left_alone Single r xs f h = no_imp h
left_alone Double r xs f h = no_iff h

both_sides : (kind : ArrowKind) (r : ℕ) (xs ys : List Terminal) (a b : FormulaSyntax) → IsLeft kind (suc r) xs a → IsRight kind r ys b →
    IsRight kind (suc r) (xs ++ arrow_sign kind ∷ ys) (between (operator_of kind) a b)
both_sides Single r xs ys a b h k = imp h k
both_sides Double r xs ys a b h k = iff h k

right_same : (kind : ArrowKind) → Same (IsRight kind) (IsThen (IsLeft kind) (ArrowTail kind))
right_same kind = record { to = to kind; from = λ r xs f h. from xs h.front h.first h.second h.split } where
  to : (kind : ArrowKind) (r : ℕ) (xs : List Terminal) (f : FormulaSyntax) → IsRight kind r xs f →
      IsThen (IsLeft kind) (ArrowTail kind) r xs f
  to Single r xs f (no_imp h) = record { value = f; front = xs; tail = []; split = sym (append-nil xs); first = h; second = alone }
  to Double r xs f (no_iff h) = record { value = f; front = xs; tail = []; split = sym (append-nil xs); first = h; second = alone }
  to Single r xs f (imp {xs = front} {ys = ys} {a = a} h k) =
      record { value = a; front = front; tail = mark Arrow ∷ ys; split = refl; first = h; second = with_right k }
  to Double r xs f (iff {xs = front} {ys = ys} {a = a} h k) =
      record { value = a; front = front; tail = mark BothArrow ∷ ys; split = refl; first = h; second = with_right k }

  from : {r : ℕ} {a f : FormulaSyntax} {tail : List Terminal} (xs front : List Terminal) → IsLeft kind r front a →
      ArrowTail kind a r tail f →
      xs ≡ front ++ tail → IsRight kind r xs f
  from xs front first alone split = rw (split, append-nil) (left_alone kind _ _ _ first)
  from {r = zero} xs front first (with_right h) split = absurd h
  from {r = suc r} xs front first (with_right h) split = rw split (both_sides kind _ _ _ _ _ first h)

-- ---- each form, by its first prefix and what follows it

abbrev ImpAfter : FormulaSyntax → Grammar Terminal FormulaSyntax
ImpAfter a = IsThen (IsThen (AndTail a) OrTail) (ArrowTail Single)

abbrev IffAfter : FormulaSyntax → Grammar Terminal FormulaSyntax
IffAfter a = IsThen (ImpAfter a) (ArrowTail Double)

imp_same : Same IsImp (IsThen IsPrefix ImpAfter)
imp_same = regroup (right_same Single) (regroup or_same and_same)

iff_same : Same IsIff (IsThen IsPrefix IffAfter)
iff_same = regroup (right_same Double) imp_same

module _ (levels_left : ℕ) (low : Option Level) (b : Below LevelExact levels_left low) where
  and_tail : Tail 5 6 levels_left AndTail (chain_after Conjunction (prefix_with low))
  and_tail = chain_tail and_facts levels_left (prefix_exact levels_left low b)

  pub and_exact : Exact IsAnd (Below_tie 5) levels_left (and_with low)
  unfolding and_with
  and_exact = exact_same and_same (then_tail and_tail lift_prefixes (prefix_exact levels_left low b))

  arrow_tail : (kind : ArrowKind) → Tail (arrow_tie kind) (suc (arrow_tie kind)) levels_left (ArrowTail kind) (arrow_after low kind)
  unfolding arrow_after arrow_from
  arrow_tail kind = record {
    ordered = omega arith;
    exact =
        λ a. tail_exact (arrow_tells kind) (between (operator_of kind) a) {Holds = LevelExact} a low (λ l. l.right kind)
        (λ k l h. h.right kind) b
        refl (λ x rest e. ap (λ here. arrow_from low kind here a (x ∷ rest)) e)
        (λ x rest e. ap (λ here. arrow_from low kind here a (x ∷ rest)) e)
        (no_arrow kind) (λ x h. h) (a_right kind (suc levels_left));
    ties = λ a r xs f h. ties kind h;
    lift = λ a r xs f h. lift h;
    none = λ a r. alone;
  } where
    ties : (kind : ArrowKind) {a f : FormulaSyntax} {r : ℕ} {xs : List Terminal} → ArrowTail kind a r xs f →
        Before (Between (arrow_tie kind) (suc (arrow_tie kind))) xs
    ties kind alone = tt
    ties Single (with_right h) = (omega arith, omega arith)
    ties Double (with_right h) = (omega arith, omega arith)

    lift : {a f : FormulaSyntax} {r : ℕ} {xs : List Terminal} → ArrowTail kind a r xs f → ArrowTail kind a (suc (suc r)) xs f
    lift alone = alone
    lift {r = r} (with_right {ys = ys} {u = u} h) = with_right (lift_up (IsRight kind) (right_more kind) r ys u h)

  or_tail : Tail 4 6 levels_left (λ a. IsThen (AndTail a) OrTail) (or_after low)
  unfolding or_after
  or_tail = tail_then and_tail (chain_tail or_facts levels_left and_exact)

  imp_tail : Tail 3 6 levels_left ImpAfter (imp_after low)
  unfolding imp_after
  imp_tail = tail_then or_tail (arrow_tail Single)

  iff_tail : Tail 2 6 levels_left IffAfter (iff_after low)
  unfolding iff_after
  iff_tail = tail_then imp_tail (arrow_tail Double)

  pub right_exact : (kind : ArrowKind) → Exact (IsRight kind) (Below_tie (arrow_tie kind)) levels_left (right_with kind low)
  unfolding right_with
  right_exact Single = exact_same imp_same (then_tail imp_tail lift_prefixes (prefix_exact levels_left low b))
  right_exact Double = exact_same iff_same (then_tail iff_tail lift_prefixes (prefix_exact levels_left low b))

-- ---- whole formulas

-- what follows the first prefix of a formula
data FormulaTail (a : FormulaSyntax) (r : ℕ) : List Terminal → FormulaSyntax → Type 0 where
  temporal_tail : {ys : List Terminal} {g : FormulaSyntax} (op : BinaryOperator) (x : Terminal) → temporal_of x ≡ Some op →
      IsPrefix r ys g →
      FormulaTail a r (x ∷ ys) (between op a g)
  chained_tail : {xs : List Terminal} {f : FormulaSyntax} → IffAfter a r xs f → FormulaTail a r xs f

not_temporal : (x : Terminal) → (tie x ≡ 1 → ⊥) → temporal_of x ≡ None
not_temporal (word U) h = absurd (h refl)
not_temporal (word W) h = absurd (h refl)
not_temporal (word R) h = absurd (h refl)
not_temporal _ h = refl

temporal_ties : (x : Terminal) (op : BinaryOperator) → temporal_of x ≡ Some op → tie x < 6
temporal_ties (word U) op h = omega arith
temporal_ties (word W) op h = omega arith
temporal_ties (word R) op h = omega arith
temporal_ties _ op h = cc

formula_same : Same IsFormula (IsThen IsPrefix FormulaTail)
formula_same = record { to = to; from = λ r xs f h. from xs h.front h.first h.second h.split } where
  to : (r : ℕ) (xs : List Terminal) (f : FormulaSyntax) → IsFormula r xs f → IsThen IsPrefix FormulaTail r xs f
  to r xs f (temporal {xs = front} {ys = ys} {a = a} op t is h k) =
      record { value = a; front = front; tail = t ∷ ys; split = refl; first = h; second = temporal_tail op t is k }
  to r xs f (chained h) =
      let p = iff_same.to r xs f h in
      record { value = p.value; front = p.front; tail = p.tail; split = p.split; first = p.first; second = chained_tail p.second }

  from : {r : ℕ} {a f : FormulaSyntax} {tail : List Terminal} (xs front : List Terminal) → IsPrefix r front a → FormulaTail a r tail f →
      xs ≡ front ++ tail → IsFormula r xs f
  from xs front first (temporal_tail op x is h) split = rw split (temporal op x is first h)
  from {r = r} {a = a} {f = f} {tail = tail} xs front first (chained_tail h) split =
      chained (iff_same.from r xs f (record { value = a; front = front; tail = tail; split = split; first = first; second = h }))

pub formula_exact : (levels_left : ℕ) (low : Option Level) → Below LevelExact levels_left low →
    Exact IsFormula (Below_tie 1) levels_left (formula_with low)
unfolding formula_with formula_after formula_from
formula_exact levels_left low b =
    exact_same formula_same (exact_then (record {
      lift = lift_prefixes;
      default = λ r c. record { ending = []; value = c; derives = chained_tail (iff.none c r) };
    }) (λ r c xs f h rest k. follows h rest k) (prefix_exact levels_left low b)
    (λ c. by_first (end_as (λ f. f) (iff_after low c) (sym (map_same _)) (λ y h. omega (arith, h)) (λ r xs f. chained_tail) (λ r f. at_end)
    (λ r f h y rest e. as_from c y None (not_temporal y (λ one. omega (arith, e, one))) rest ∙ sym (map_same _)) (iff.exact c))
    (λ x. by c x (temporal_of x) refl))) where
      iff : Tail 2 6 levels_left IffAfter (iff_after low)
      iff = iff_tail levels_left low b

      follows : {r : ℕ} {c f : FormulaSyntax} {xs : List Terminal} → FormulaTail c r xs f → (rest : List Terminal) →
          Before (Below_tie 1) rest →
          Before (Below_tie 6) (xs ++ rest)
      follows (temporal_tail op x is h) rest k = temporal_ties x op is
      follows {r = r} {c = c} {f = f} {xs = xs} (chained_tail h) rest k = follow iff c r xs f h 1 (omega arith) rest k

      at_end : {r : ℕ} {c f : FormulaSyntax} → FormulaTail c r [] f → (g : FormulaSyntax) × IffAfter c r [] g × (f ≡ g)
      at_end {f = f} (chained_tail h) = (f, h, refl)

      as_from : (c : FormulaSyntax) (x : Terminal) (found : Option BinaryOperator) → temporal_of x ≡ found → (rest : List Terminal) →
          formula_after low c (x ∷ rest) ≡ formula_from low found c (x ∷ rest)
      as_from c x found e rest = ap (λ o. formula_from low o c (x ∷ rest)) e

      further : {r : ℕ} {c f : FormulaSyntax} {x : Terminal} {ys : List Terminal} → temporal_of x ≡ None → FormulaTail c r (x ∷ ys) f →
          (g : FormulaSyntax) × IffAfter c r (x ∷ ys) g × (f ≡ g)
      further e (temporal_tail op x is h) = cc
      further {f = f} e (chained_tail h) = (f, h, refl)

      operand : {r : ℕ} {c f : FormulaSyntax} {x : Terminal} {ys : List Terminal} {op : BinaryOperator} → temporal_of x ≡ Some op →
          FormulaTail c r (x ∷ ys) f → (g : FormulaSyntax) × IsPrefix r ys g × (f ≡ between op c g)
      operand {c = c} e (temporal_tail {g = g} other x is h) = (g, h, ap (λ o. between o c g) (let same = sym is ∙ e in cc))
      operand {r = r} {c = c} {f = f} {x = x} {ys = ys} e (chained_tail h) =
          let none = not_temporal x (λ one. omega (arith, iff.ties c r (x ∷ ys) f h, one)) in cc

      by : (c : FormulaSyntax) (x : Terminal) (found : Option BinaryOperator) → temporal_of x ≡ found →
          Turn (FormulaTail c) (Below_tie 1) levels_left (formula_after low c) x
      by c x None e =
          turn_as (λ f. f) (iff_after low c) (λ rest. as_from c x None e rest ∙ sym (map_same _)) (λ y h. omega (arith, h))
          (λ r xs f. chained_tail)
          (λ r ys f. further e) (turn_of (iff.exact c) x)
      by c x (Some op) e =
          turn_takes (between op c) (prefix_with low) (as_from c x (Some op) e) (λ y h. omega (arith, h))
          (λ r ys f h. temporal_tail op x e h)
          (λ r ys f. operand e) (prefix_exact levels_left low b)

-- ---- all levels

level_exact : (levels_left : ℕ) → Below LevelExact levels_left (lower levels_left) → LevelExact levels_left (above (lower levels_left))
unfolding above
level_exact levels_left b = record {
  term = term_exact levels_left (lower levels_left) (terms_below levels_left (lower levels_left) b);
  prefix = prefix_exact levels_left (lower levels_left) b;
  right = right_exact levels_left (lower levels_left) b;
  formula = formula_exact levels_left (lower levels_left) b;
}

-- each level is read exactly
pub below_exact : (levels_left : ℕ) → Below LevelExact levels_left (lower levels_left)
unfolding lower
below_exact zero = tt
below_exact (suc levels_left) = level_exact levels_left (below_exact levels_left)
