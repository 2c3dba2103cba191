-- The loops of reading: what is read so far, and then what is read of the terminals that are left.
use Rattle.std.proofs.Common.{◌≡◌, ℕ, ◌<◌, List, [], ◌∷◌, ◌++◌, length, map, refl, ap, sym, ◌∙◌, subst, arith}
use Rattle.std.proofs.lemmas.List.{map-append, length-map}
use Rattle.std.specs.Prelude.{true, false, Option, Some, None, is_some, Ok}
use Rattle.tsl_text.specs.declared.TokenKind.TheVariants.{OpenRound, CloseBrace}
use Rattle.spec_syntax.specs.declared.trees.ReadFormula.{ReadFormula}
use Rattle.reader_combinators.specs.Readers.{form, deep, Answer, iterate, push, push_read, map_read, found_or_wrong}
use Rattle.reader_combinators.proofs.Iterates.{Shrinks, step_shrinks, no_step, next_step, wrong_step}
use Rattle.reader_combinators.proofs.Lists.{stepping as list_stepping}
use Rattle.reader_combinators.proofs.MemberLoops.{viewed_more, members_end}
use Rattle.tsl_terms.specs.declared.operator.ManyOperator.{ManyOperator}
use Rattle.tsl_terms.specs.declared.operator.ManyOperator.TheVariants.{Conjunction, Disjunction}
use Rattle.spec_syntax.specs.declared.fault.ReadFault.{ReadFault}
use Rattle.spec_syntax.specs.declared.terminal.Terminal.{Terminal as LentTerminal}
use Rattle.spec_syntax.specs.declared.fault.ReadFault.TheVariants.{Form, Deep, NoMemory}
use Rattle.spec_syntax.specs.Syntax.{Terminal, free, mark, FormulaSyntax, SectionSyntax, Declaration}
use Rattle.spec_syntax.specs.SyntaxView.{terminal_view, terminals_view, formula_syntax, HasSyntaxFault}
use Rattle.spec_syntax.specs.internal.InnerView.{HasFaultOfMember}
use Rattle.spec_syntax.specs.declared.formulas.Form.TheVariants.{Formula}
use Rattle.spec_syntax.specs.internal.Forms.{form_with}
use Rattle.spec_syntax.specs.Reading.{Level, lower, Arguments, empty, term_last, argument, argument_wanted, fresh, goes_on, arguments_of}
use Rattle.spec_syntax.specs.Reading.{further, operand_with}
use Rattle.spec_syntax.specs.Reading.{above, Items, open_items, item_last}
use Rattle.spec_syntax.specs.Reading.{items_of, item, begins_item, name_at, section, declaration}
use Rattle.spec_syntax.proofs.ReadLemmas.{map_fault}
use Rattle.spec_syntax.proofs.ExactTerms.{stepping as argument_stepping}
use Rattle.spec_syntax.proofs.ExactPrefixes.{terms_below, prefix_exact}
use Rattle.spec_syntax.proofs.ExactFormulas.{below_exact, and_exact, further_member, and_facts, or_facts}
use Rattle.spec_syntax.proofs.ExactSections.{item_shrinks, section_shrinks}
use Rattle.spec_syntax.proofs.ExactDeclarations.{name_shrinks, declaration_shrinks}

seen_shorter : (xs rest : List LentTerminal) → length (terminals_view rest) < length (terminals_view xs) → length rest < length xs
seen_shorter xs rest h = omega (arith, length-map xs terminal_view, length-map rest terminal_view, h)

module _ {S : Type 0} {step : S → List Terminal → Option (Answer Terminal S)} (shrinks : Shrinks step) where
  -- a step has a fault
  pub loop_fault : (s : S) (xs : List Terminal) (whole : Answer Terminal S) (fault : ReadFault) → iterate step s xs ≡ whole →
      HasFaultOfMember (step s xs) fault → HasSyntaxFault whole fault
  loop_fault s xs whole (Form left) e h = sym e ∙ wrong_step shrinks s xs (form left) h
  loop_fault s xs whole (Deep left) e h = sym e ∙ wrong_step shrinks s xs (deep left) h
  loop_fault s xs whole NoMemory e h = tt

module _ {V : Type 0} where
  -- a member's fault
  pub member_fault : (answer : Answer Terminal V) (fault : ReadFault) → HasSyntaxFault answer fault → HasFaultOfMember (Some answer) fault
  member_fault answer (Form left) h = ap Some h
  member_fault answer (Deep left) h = ap Some h
  member_fault answer NoMemory h = tt

  push_fault : (vs : List V) (found : Option (Answer Terminal V)) (fault : ReadFault) → HasFaultOfMember found fault →
      HasFaultOfMember (push_read vs found) fault
  push_fault vs found (Form left) h = ap (push_read vs) h
  push_fault vs found (Deep left) h = ap (push_read vs) h
  push_fault vs found NoMemory h = tt

module _ {V : Type 0} (member : List Terminal → Option (Answer Terminal V)) (shrinks : Shrinks (push member)) where
  -- a member takes terminals
  pub member_shortens : (xs rest : List LentTerminal) (v : V) → member (terminals_view xs) ≡ Some (Ok (v, terminals_view rest)) →
      length rest < length xs
  member_shortens xs rest v h = seen_shorter xs rest (shrinks [] (terminals_view xs) (v ∷ []) (terminals_view rest) (ap (push_read []) h))

  -- a member has a fault
  pub members_fault : (xs : List Terminal) (vs : List V) (whole : Answer Terminal (List V)) (fault : ReadFault) →
      iterate (push member) vs xs ≡ whole →
      HasFaultOfMember (member xs) fault → HasSyntaxFault whole fault
  members_fault xs vs whole fault h k = loop_fault shrinks vs xs whole fault h (push_fault vs (member xs) fault k)

  -- the reader of a member has one
  pub member_found_fault : (xs : List Terminal) (vs : List V) (whole : Answer Terminal (List V)) (answer : Answer Terminal V)
      (fault : ReadFault) → iterate (push member) vs xs ≡ whole →
      member xs ≡ Some answer → HasSyntaxFault answer fault → HasSyntaxFault whole fault
  member_found_fault xs vs whole answer fault h k e = members_fault xs vs whole fault h (rw k (member_fault answer fault e))

-- all that a loop over members needs but its members
pub ruleset members_read = (viewed_more, members_end, members_fault, member_found_fault)

-- a member takes terminals
pub name_shorter : (xs rest : List LentTerminal) (x : List ℕ) → name_at (terminals_view xs) ≡ Some (Ok (x, terminals_view rest)) →
    length rest < length xs
name_shorter = member_shortens name_at name_shrinks

pub section_shorter : (levels_left : ℕ) (xs rest : List LentTerminal) (s : SectionSyntax) →
    section levels_left (terminals_view xs) ≡ Some (Ok (s, terminals_view rest)) → length rest < length xs
section_shorter levels_left = member_shortens (section levels_left) (section_shrinks levels_left)

pub declaration_shorter : (levels_left : ℕ) (xs rest : List LentTerminal) (d : Declaration) →
    declaration levels_left (terminals_view xs) ≡ Some (Ok (d, terminals_view rest)) → length rest < length xs
declaration_shorter levels_left = member_shortens (declaration levels_left) (declaration_shrinks levels_left)

pub further_shrinks : (op : ManyOperator) (levels_left : ℕ) → Shrinks (push (further op (operand_with op (lower levels_left))))
further_shrinks Conjunction levels_left =
    step_shrinks (list_stepping (further_member and_facts levels_left
    (prefix_exact levels_left (lower levels_left) (below_exact levels_left))))
further_shrinks Disjunction levels_left =
    step_shrinks (list_stepping (further_member or_facts levels_left (and_exact levels_left (lower levels_left) (below_exact levels_left))))

pub further_shorter : (op : ManyOperator) (levels_left : ℕ) (xs rest : List LentTerminal) (f : FormulaSyntax) →
    further op (operand_with op (lower levels_left)) (terminals_view xs) ≡ Some (Ok (f, terminals_view rest)) → length rest < length xs
further_shorter op levels_left = member_shortens (further op (operand_with op (lower levels_left))) (further_shrinks op levels_left)

-- ---- what follows a name

arguments_shrink : (levels_left : ℕ) → Shrinks (argument (lower levels_left))
arguments_shrink levels_left =
    step_shrinks (argument_stepping levels_left (lower levels_left) (terms_below levels_left (lower levels_left) (below_exact levels_left)))

argument_found : (low : Option Level) (s : Arguments) (xs : List Terminal) → is_some (argument low s xs) ≡ goes_on s xs
unfolding argument
argument_found low empty [] = refl
argument_found low empty (x ∷ xs) = refl
argument_found low (term_last ts) (mark OpenRound ∷ xs) = refl
argument_found low s (free x ∷ xs) = refl
argument_found low s (mark OpenRound ∷ xs) = refl
argument_found low s _ = refl

some_found : {V : Type 0} (found : Option (Answer Terminal V)) (xs : List Terminal) → is_some found ≡ true →
    found ≡ Some (found_or_wrong found xs)
some_found None xs h = cc
some_found (Some answer) xs h = refl

none_found : {V : Type 0} (found : Option (Answer Terminal V)) → is_some found ≡ false → found ≡ None
none_found None h = refl
none_found (Some answer) h = cc

argument_is : (levels_left : ℕ) (s : Arguments) (xs : List Terminal) → goes_on s xs ≡ true →
    argument (lower levels_left) s xs ≡ Some (argument_wanted (lower levels_left) s xs)
argument_is levels_left s xs h = some_found _ xs (argument_found (lower levels_left) s xs ∙ h)

pub arguments_more : (levels_left : ℕ) (s t : Arguments) (xs rest : List Terminal) → goes_on s xs ≡ true →
    argument_wanted (lower levels_left) s xs ≡ Ok (t, rest) →
    iterate (argument (lower levels_left)) t rest ≡ iterate (argument (lower levels_left)) s xs
arguments_more levels_left s t xs rest h k =
    next_step (arguments_shrink levels_left) s xs t rest (argument_is levels_left s xs h ∙ ap Some k)

pub arguments_shorten : (levels_left : ℕ) (s t : Arguments) (xs rest : List LentTerminal) → goes_on s (terminals_view xs) ≡ true →
    argument_wanted (lower levels_left) s (terminals_view xs) ≡ Ok (t, terminals_view rest) → length rest < length xs
arguments_shorten levels_left s t xs rest h k =
    seen_shorter xs rest (arguments_shrink levels_left s (terminals_view xs) t (terminals_view rest)
    (argument_is levels_left s (terminals_view xs) h ∙ ap Some k))

pub arguments_end : (levels_left : ℕ) (s : Arguments) (xs : List Terminal) → goes_on s xs ≡ false →
    iterate (argument (lower levels_left)) s xs ≡ Ok (s, xs)
arguments_end levels_left s xs h = no_step (arguments_shrink levels_left) s xs (none_found _ (argument_found (lower levels_left) s xs ∙ h))

pub arguments_fault : (levels_left : ℕ) (s : Arguments) (xs ys : List Terminal) (fault : ReadFault) → goes_on s xs ≡ true →
    HasSyntaxFault (argument_wanted (lower levels_left) s xs) fault →
    iterate (argument (lower levels_left)) s xs ≡ iterate (argument (lower levels_left)) fresh ys →
    HasSyntaxFault (map_read arguments_of (iterate (argument (lower levels_left)) fresh ys)) fault
arguments_fault levels_left s xs ys fault h k e =
    map_fault arguments_of (iterate (argument (lower levels_left)) fresh ys) fault
    (loop_fault (arguments_shrink levels_left) s xs _ fault e
    (subst (λ found. HasFaultOfMember found fault) (sym (argument_is levels_left s xs h)) (member_fault _ fault k)))

-- all that the loop over arguments needs
pub ruleset arguments_read = (arguments_more, arguments_shorten, arguments_end, arguments_fault)

-- ---- the items of a section

pub item_is : (levels_left : ℕ) (fs : List FormulaSyntax) (xs : List Terminal) → begins_item xs ≡ true →
    item levels_left (open_items fs) xs ≡ Some (map_read (λ f. item_last (fs ++ f ∷ [])) (form_with Formula (lower levels_left) xs))
unfolding item above
item_is levels_left fs [] h = cc
item_is levels_left fs (mark CloseBrace ∷ xs) h = cc
item_is levels_left fs _ h = refl

pub no_item_is : (levels_left : ℕ) (fs : List FormulaSyntax) (xs : List Terminal) → begins_item xs ≡ false →
    item levels_left (open_items fs) xs ≡ None
unfolding item
no_item_is levels_left fs [] h = refl
no_item_is levels_left fs (mark CloseBrace ∷ xs) h = refl
no_item_is levels_left fs _ h = cc

-- a formula and its semicolon were read
pub items_more : (levels_left : ℕ) (fs : List ReadFormula) (f : ReadFormula) (xs rest after : List Terminal) →
    item levels_left (open_items (map formula_syntax fs)) xs ≡ Some
    (Ok (item_last (map formula_syntax fs ++ formula_syntax f ∷ []), rest)) →
    item levels_left (item_last (map formula_syntax fs ++ formula_syntax f ∷ [])) rest
    ≡ Some (Ok (open_items (map formula_syntax fs ++ formula_syntax f ∷ []), after)) →
    iterate (item levels_left) (open_items (map formula_syntax (fs ++ f ∷ []))) after ≡ iterate (item levels_left)
    (open_items (map formula_syntax fs)) xs
items_more levels_left fs f xs rest after step semicolon =
    rw map-append (next_step (item_shrinks levels_left) _ rest _ after semicolon ∙ next_step (item_shrinks levels_left) _ xs _ rest step)

-- or it was the last
pub items_last : (levels_left : ℕ) (fs : List ReadFormula) (f : ReadFormula) (xs rest : List Terminal) →
    item levels_left (open_items (map formula_syntax fs)) xs ≡ Some
    (Ok (item_last (map formula_syntax fs ++ formula_syntax f ∷ []), rest)) →
    item levels_left (item_last (map formula_syntax fs ++ formula_syntax f ∷ [])) rest ≡ None →
    iterate (item levels_left) (open_items (map formula_syntax fs)) xs ≡ Ok (item_last (map formula_syntax (fs ++ f ∷ [])), rest)
items_last levels_left fs f xs rest step none =
    rw map-append (sym (next_step (item_shrinks levels_left) _ xs _ rest step) ∙ no_step (item_shrinks levels_left) _ rest none)

-- no item is left
pub items_end : (levels_left : ℕ) (gs : List FormulaSyntax) (xs : List Terminal) → item levels_left (open_items gs) xs ≡ None →
    iterate (item levels_left) (open_items gs) xs ≡ Ok (open_items gs, xs)
items_end levels_left gs xs none = no_step (item_shrinks levels_left) (open_items gs) xs none

-- an item has a fault
pub items_fault : (levels_left : ℕ) (gs : List FormulaSyntax) (xs ys : List Terminal) (fault : ReadFault) →
    HasFaultOfMember (item levels_left (open_items gs) xs) fault →
    iterate (item levels_left) (open_items gs) xs ≡ iterate (item levels_left) (open_items []) ys →
    HasSyntaxFault (map_read items_of (iterate (item levels_left) (open_items []) ys)) fault
items_fault levels_left gs xs ys fault h e =
    map_fault items_of _ fault (loop_fault (item_shrinks levels_left) (open_items gs) xs _ fault e h)

-- a formula takes terminals, and so does a semicolon
pub items_shorten : (levels_left : ℕ) (gs : List FormulaSyntax) (t : Items) (xs rest after : List LentTerminal) →
    item levels_left (open_items gs) (terminals_view xs) ≡ Some (Ok (t, terminals_view rest)) → length after < length rest →
    length after < length xs
items_shorten levels_left gs t xs rest after step few =
    let less = seen_shorter xs rest (item_shrinks levels_left (open_items gs) (terminals_view xs) t (terminals_view rest) step) in
    omega (arith, less, few)
