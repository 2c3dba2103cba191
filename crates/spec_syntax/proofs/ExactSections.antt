-- Sections and whole texts are read exactly.
use Rattle.std.proofs.Common.{◌≡◌, ℕ, suc, ◌<◌, ◌+◌, true, List, [], ◌∷◌, ◌++◌, refl, sym, ◌∙◌, append_assoc, arith}
use Rattle.std.proofs.lemmas.List.{append-nil}
use Rattle.std.specs.Prelude.{None, Ok}
use Rattle.tsl_text.specs.declared.TokenKind.TheVariants.{OpenBrace, CloseBrace, Semicolon}
use Rattle.reader_combinators.specs.Readers.{Reader, form_at, closed_by, push, found_or_wrong}
use Rattle.reader_combinators.specs.Exact.{Grammar, Begins, Exact}
use Rattle.reader_combinators.proofs.Runs.{map_same, exact_map, exact_as}
use Rattle.reader_combinators.proofs.Then.{Any, IsClosed, closed_exact}
use Rattle.reader_combinators.proofs.Terminals.{Turn, by_first, end_wrong, turn_of, turn_wrong, turn_alone, turn_takes, turn_as, turn_goes_on}
use Rattle.reader_combinators.proofs.Iterates.{Shrinks, Steps, stop, more, At, stays, goes, Stepping, step_shrinks, iterate_exact}
use Rattle.reader_combinators.proofs.Whole.{reads_all, one_value, lifted}
use Rattle.reader_combinators.proofs.WholeTexts.{ends_members, whole_derives}
use Rattle.reader_combinators.proofs.Taken.{Never}
use Rattle.reader_combinators.proofs.Lists.{AreAll, none, some, Member, stepping, members_exact, each_member}
use Rattle.spec_syntax.specs.declared.syntax.Word.TheVariants.{Assume, Guarantee, Always, Initially}
use Rattle.spec_syntax.specs.declared.syntax.Part.{Part}
use Rattle.spec_syntax.specs.declared.syntax.Part.TheVariants.{AssumeFirst, AssumeAlways, GuaranteeFirst, GuaranteeAlways}
use Rattle.spec_syntax.specs.Syntax.{Terminal, word, mark, FormulaSyntax, SectionSyntax}
use Rattle.spec_syntax.specs.declared.syntax.Closer.TheVariants.{Brace}
use Rattle.spec_syntax.specs.Grammar.{IsFormula, AreItems, nothing, last_item, item as item_of, IsHead, assume, guarantee, initially_assume}
use Rattle.spec_syntax.specs.Grammar.{initially_guarantee, always_assume, always_guarantee, IsSection, braces, AreSections, no_section}
use Rattle.spec_syntax.specs.Grammar.{section as section_of}
use Rattle.spec_syntax.specs.Reading.{is_close_brace, prefix_from, prefix_with, atom_with, formula_with, lower, Items, open_items}
use Rattle.spec_syntax.specs.Reading.{item_last, items_of, item, formulas, section_made, items, side, section_at, section, sections}
use Rattle.spec_syntax.proofs.MoreLevels.{formula_more, items_more, section_more}
use Rattle.spec_syntax.proofs.ExactTerms.{tie, Below_tie, tells}
use Rattle.spec_syntax.proofs.ExactFormulas.{formula_exact, below_exact}

-- ---- items

formula : (levels_left : ℕ) → Exact IsFormula (Below_tie 1) levels_left (formula_with (lower levels_left))
formula levels_left = formula_exact levels_left (lower levels_left) (below_exact levels_left)

-- what is not read as a formula is none
no_formula : (r : ℕ) (xs : List Terminal) (f : FormulaSyntax) → formula_with (lower r) xs ≡ form_at xs → IsFormula r xs f → ⊥
no_formula r xs f wrong h = let read = reads_all (formula r) r (omega arith) xs f h in cc

-- a formula or a semicolon, where items go on
abbrev IsItemStep : Items → Grammar Terminal Items
IsItemStep (open_items fs) r xs t = (f : FormulaSyntax) × IsFormula r xs f × (t ≡ item_last (fs ++ f ∷ []))
IsItemStep (item_last fs) r (mark Semicolon ∷ ys) t = (ys ≡ []) × (t ≡ open_items fs)
IsItemStep (item_last fs) r _ t = ⊥

-- the terminals before which a step ends
abbrev Ends : Items → Terminal → Type 0
Ends (open_items fs) x = tie x < 1
Ends (item_last fs) x = Unit {0}

-- the brace that closes the items
abbrev IsCloseBrace : Terminal → Type 0
IsCloseBrace x = x ≡ mark CloseBrace

item_stepping : (levels_left : ℕ) → Stepping IsItemStep Ends IsCloseBrace levels_left (item levels_left)
unfolding item formula_with prefix_with prefix_from atom_with
item_stepping levels_left = record {
  at_end = at_end;
  nothing = nothing_here;
  at = at;
  lift = lift;
  follows = follows;
  stops = stops;
  weaker = weaker;
} where
  at_end : (s : Items) → item levels_left s [] ≡ None
  at_end (open_items fs) = refl
  at_end (item_last fs) = refl

  nothing_here : (s : Items) (r : ℕ) (t : Items) → IsItemStep s r [] t → ⊥
  nothing_here (open_items fs) r t h = no_formula r [] h.0 refl h.1
  nothing_here (item_last fs) r t h = h

  wanted : Items → Reader Terminal Items
  wanted s xs = found_or_wrong (item levels_left s xs) xs

  at : (s : Items) (x : Terminal) → At (IsItemStep s) (Ends s) levels_left (item levels_left s) x
  at (open_items fs) (mark CloseBrace) = stays (λ rest. refl) (λ r ys t h. no_formula r (mark CloseBrace ∷ ys) h.0 refl h.1)
  at (open_items fs) x = goes (wanted (open_items fs)) (λ rest. refl)
      (turn_as (λ f. item_last (fs ++ f ∷ [])) (formula_with (lower levels_left)) (λ rest. refl) (λ y h. h) (λ r ys f h. (f, h, refl))
      (λ r ys t h. h) (turn_of (formula levels_left) x))
  at (item_last fs) (mark Semicolon) = goes (wanted (item_last fs)) (λ rest. refl)
      (turn_alone (open_items fs) (λ rest. refl) (λ r. (refl, refl)) (λ r ys t h. h))
  at (item_last fs) x = stays (λ rest. refl) (λ r ys t h. h)

  lift : (s : Items) (r : ℕ) (xs : List Terminal) (t : Items) → IsItemStep s r xs t → IsItemStep s (suc (suc r)) xs t
  lift (open_items fs) r xs t h = (h.0, formula_more (formula_more h.1), h.2)
  lift (item_last fs) r (mark Semicolon ∷ ys) t h = h
  lift (item_last fs) r _ t h = absurd h

  loose : (fs : List FormulaSyntax) (r : ℕ) (x : Terminal) (ys : List Terminal) (u : Items) → IsItemStep (item_last fs) r (x ∷ ys) u →
      tie x < 1
  loose fs r (mark Semicolon) ys u k = omega arith
  loose fs r _ ys u k = absurd k

  follows : (s : Items) (r : ℕ) (xs : List Terminal) (t : Items) → IsItemStep s r xs t → (x : Terminal) (ys : List Terminal) (u : Items) →
      IsItemStep t r (x ∷ ys) u → Ends s x
  follows (open_items fs) r xs t h x ys u k = loose (fs ++ h.0 ∷ []) r x ys u (rw h.2 at k)
  follows (item_last fs) r xs t h x ys u k = tt

  stops : (s : Items) (x : Terminal) → IsCloseBrace x → (rest : List Terminal) → item levels_left s (x ∷ rest) ≡ None
  stops (open_items fs) x e rest = rw e refl
  stops (item_last fs) x e rest = rw e refl

  weaker : (s : Items) (x : Terminal) → IsCloseBrace x → Ends s x
  weaker (open_items fs) x e = rw e (omega arith)
  weaker (item_last fs) x e = tt

pub item_shrinks : (levels_left : ℕ) → Shrinks (item levels_left)
item_shrinks levels_left = step_shrinks (item_stepping levels_left)

-- what follows a formula among items
data AreFurther (r : ℕ) : List Terminal → List FormulaSyntax → Type 0 where
  no_further : AreFurther r [] []
  further : {xs : List Terminal} {fs : List FormulaSyntax} → AreItems r xs fs → AreFurther r (mark Semicolon ∷ xs) fs

-- what steps from a state derive from
abbrev Decoded : Items → (r : ℕ) → List Terminal → List FormulaSyntax → Type 0
Decoded (open_items fs) r xs gs = (us : List FormulaSyntax) × AreItems r xs us × (gs ≡ fs ++ us)
Decoded (item_last fs) r xs gs = (us : List FormulaSyntax) × AreFurther r xs us × (gs ≡ fs ++ us)

with_first : (r : ℕ) (f : FormulaSyntax) (xs ys : List Terminal) (us : List FormulaSyntax) → IsFormula r xs f → AreFurther r ys us →
    AreItems r (xs ++ ys) (f ∷ us)
with_first r f xs ys us h no_further = rw append-nil (last_item h)
with_first r f xs ys us h (further k) = item_of h k

after_step : (r : ℕ) (s t : Items) (f g : List Terminal) (gs : List FormulaSyntax) → IsItemStep s r f t → Decoded t r g gs →
    Decoded s r (f ++ g) gs
after_step r (open_items fs) t f g gs h k =
    let rest : Decoded (item_last (fs ++ h.0 ∷ [])) r g gs = rw h.2 at k in
    (h.0 ∷ rest.0, with_first r h.0 f g rest.0 h.1 rest.1, rest.2 ∙ append_assoc fs (h.0 ∷ []) rest.0)
after_step r (item_last fs) t (mark Semicolon ∷ ys) g gs h k =
    let rest : Decoded (open_items fs) r g gs = rw h.1 at k in
    rw h.0 (rest.0, further rest.1, rest.2)
after_step r (item_last fs) t _ g gs h k = absurd h

decode : (r : ℕ) (s : Items) (xs : List Terminal) (u : Items) → Steps IsItemStep r s xs u → Decoded s r xs (items_of u)
decode r (open_items fs) xs u stop = ([], nothing, sym (append-nil fs))
decode r (item_last fs) xs u stop = ([], no_further, sym (append-nil fs))
decode r s xs u (more {t = t} {f = f} {g = g} h m) = after_step r s t f g (items_of u) h (decode r t g u m)

encode : {r : ℕ} {xs : List Terminal} {us : List FormulaSyntax} → AreItems r xs us → (fs : List FormulaSyntax) →
    (s : Items) × Steps IsItemStep r (open_items fs) xs s × (items_of s ≡ fs ++ us)
encode nothing fs = (open_items fs, stop, sym (append-nil fs))
encode {r = r} (last_item {xs = xs} {f = f} h) fs =
    let step : IsItemStep (open_items fs) r xs (item_last (fs ++ f ∷ [])) = (f, h, refl) in
    (item_last (fs ++ f ∷ []), rw (← append-nil xs) (more step stop), refl)
encode {r = r} (item_of {xs = xs} {ys = ys} {f = f} {fs = gs} h k) fs =
    let rest = encode k (fs ++ f ∷ []) in
    let step : IsItemStep (open_items fs) r xs (item_last (fs ++ f ∷ [])) = (f, h, refl) in
    let semicolon : IsItemStep (item_last (fs ++ f ∷ [])) r (mark Semicolon ∷ []) (open_items (fs ++ f ∷ [])) = (refl, refl) in
    (rest.0, more step (more {f = mark Semicolon ∷ []} semicolon rest.1), rest.2 ∙ append_assoc fs (f ∷ []) gs)

formulas_exact : (levels_left : ℕ) → Exact AreItems IsCloseBrace levels_left (formulas levels_left)
unfolding formulas
formulas_exact levels_left = exact_map items_of to from (iterate_exact (item_stepping levels_left) (open_items [])) where
  to : (r : ℕ) (xs : List Terminal) (s : Items) → Steps IsItemStep r (open_items []) xs s → AreItems r xs (items_of s)
  to r xs s h = let is = decode r (open_items []) xs s h in rw is.2 is.1

  from : (r : ℕ) (xs : List Terminal) (fs : List FormulaSyntax) → AreItems r xs fs →
      (s : Items) × Steps IsItemStep r (open_items []) xs s × (fs ≡ items_of s)
  from r xs fs h = let is = encode h [] in (is.0, is.1, sym is.2)

-- ---- sections

-- the items between braces, a section after its first word, and a section
abbrev pub ItemsCase : Part → Grammar Terminal SectionSyntax
ItemsCase part r (mark OpenBrace ∷ ys) s =
    (fs : List FormulaSyntax) × IsClosed (mark CloseBrace) AreItems r ys fs × (s ≡ section_made part fs)
ItemsCase part r _ s = ⊥

abbrev pub SideCase : Part → Part → Grammar Terminal SectionSyntax
SideCase assumed guaranteed r (word Assume ∷ ys) s = ItemsCase assumed r ys s
SideCase assumed guaranteed r (word Guarantee ∷ ys) s = ItemsCase guaranteed r ys s
SideCase assumed guaranteed r _ s = ⊥

abbrev pub SectionCase : Grammar Terminal SectionSyntax
SectionCase r (word Always ∷ ys) s = SideCase AssumeAlways GuaranteeAlways r ys s
SectionCase r (word Initially ∷ ys) s = SideCase AssumeFirst GuaranteeFirst r ys s
SectionCase r xs s = SideCase AssumeFirst GuaranteeFirst r xs s

no_items : (levels_left : ℕ) (part : Part) → Begins (ItemsCase part levels_left) []
no_items levels_left part =
    record { ending = mark OpenBrace ∷ mark CloseBrace ∷ []; value = section_made part []; derives = ([], ([], refl, nothing), refl) }

items_exact : (levels_left : ℕ) (part : Part) → Exact (ItemsCase part) Any levels_left (items levels_left part)
unfolding items
items_exact levels_left part = by_first (end_wrong refl (no_items levels_left part) (λ r s h. h)) turn where
  turn : (x : Terminal) → Turn (ItemsCase part) Any levels_left (items levels_left part) x
  turn (mark OpenBrace) =
      turn_takes (section_made part) (closed_by is_close_brace (formulas levels_left)) (λ rest. refl) (λ y h. h)
      (λ r ys fs h. (fs, h, refl))
      (λ r ys s h. h) (closed_exact (tells Brace) refl (λ r xs fs h. items_more (items_more h)) (formulas_exact levels_left))
  turn _ = turn_wrong (λ rest. refl) (no_items levels_left part) (λ r ys s h. h)

side_exact : (levels_left : ℕ) (assumed guaranteed : Part) →
    Exact (SideCase assumed guaranteed) Any levels_left (side levels_left assumed guaranteed)
unfolding side
side_exact levels_left assumed guaranteed = by_first (end_wrong refl some_side (λ r s h. h)) turn where
  some_side : Begins (SideCase assumed guaranteed levels_left) []
  some_side =
      let none = no_items levels_left assumed in record { ending = word Assume ∷ none.ending; value = none.value; derives = none.derives }

  turn : (x : Terminal) → Turn (SideCase assumed guaranteed) Any levels_left (side levels_left assumed guaranteed) x
  turn (word Assume) =
      turn_goes_on (items levels_left assumed) (λ rest. refl) (λ y h. h) (λ r ys s h. h) (λ r ys s h. h) (items_exact levels_left assumed)
  turn (word Guarantee) =
      turn_goes_on (items levels_left guaranteed) (λ rest. refl) (λ y h. h) (λ r ys s h. h) (λ r ys s h. h)
      (items_exact levels_left guaranteed)
  turn _ = turn_wrong (λ rest. refl) some_side (λ r ys s h. h)

as_section : (r : ℕ) (xs : List Terminal) (s : SectionSyntax) → SideCase AssumeFirst GuaranteeFirst r xs s → SectionCase r xs s
as_section r (word Always ∷ ys) s h = absurd h
as_section r (word Initially ∷ ys) s h = absurd h
as_section r [] s h = h
as_section r _ s h = h

section_at_exact : (levels_left : ℕ) → Exact SectionCase Any levels_left (section_at levels_left)
unfolding section_at side
section_at_exact levels_left = by_first (end_wrong refl some_section (λ r s h. h)) turn where
  some_section : Begins (SectionCase levels_left) []
  some_section = let none = no_items levels_left AssumeFirst in
      record { ending = word Assume ∷ none.ending; value = none.value; derives = none.derives }

  turn : (x : Terminal) → Turn SectionCase Any levels_left (section_at levels_left) x
  turn (word Always) =
      turn_goes_on (side levels_left AssumeAlways GuaranteeAlways) (λ rest. refl) (λ y h. h) (λ r ys s h. h) (λ r ys s h. h)
      (side_exact levels_left AssumeAlways GuaranteeAlways)
  turn (word Initially) =
      turn_goes_on (side levels_left AssumeFirst GuaranteeFirst) (λ rest. refl) (λ y h. h) (λ r ys s h. h) (λ r ys s h. h)
      (side_exact levels_left AssumeFirst GuaranteeFirst)
  turn _ =
      turn_as (λ s. s) (side levels_left AssumeFirst GuaranteeFirst) (λ rest. sym (map_same _)) (λ y h. h) as_section
      (λ r ys s h. (s, h, refl))
      (turn_of (side_exact levels_left AssumeFirst GuaranteeFirst) _)

pub section_case : {r : ℕ} {xs : List Terminal} {s : SectionSyntax} → IsSection r xs s → SectionCase r xs s
section_case (braces {ys = ys} {fs = fs} assume k) = (fs, (ys, refl, k), refl)
section_case (braces {ys = ys} {fs = fs} _ k) = (fs, (ys, refl, k), refl)

with_items : (r : ℕ) (head : List Terminal) (part : Part) → IsHead head part → (xs : List Terminal) (s : SectionSyntax) →
    ItemsCase part r xs s → IsSection r (head ++ xs) s
with_items r head part is (mark OpenBrace ∷ ys) s h = rw (h.1.1, h.2) (braces is h.1.2)
with_items r head part is _ s h = absurd h

case_section : (r : ℕ) (xs : List Terminal) (s : SectionSyntax) → SectionCase r xs s → IsSection r xs s
case_section r (word Assume ∷ ys) s h = with_items r (word Assume ∷ []) AssumeFirst assume ys s h
case_section r (word Guarantee ∷ ys) s h = with_items r (word Guarantee ∷ []) GuaranteeFirst guarantee ys s h
case_section r (word Initially ∷ word Assume ∷ ys) s h =
    with_items r (word Initially ∷ word Assume ∷ []) AssumeFirst initially_assume ys s h
case_section r (word Initially ∷ word Guarantee ∷ ys) s h =
    with_items r (word Initially ∷ word Guarantee ∷ []) GuaranteeFirst initially_guarantee ys s h
case_section r (word Always ∷ word Assume ∷ ys) s h = with_items r (word Always ∷ word Assume ∷ []) AssumeAlways always_assume ys s h
case_section r (word Always ∷ word Guarantee ∷ ys) s h =
    with_items r (word Always ∷ word Guarantee ∷ []) GuaranteeAlways always_guarantee ys s h
case_section r _ s h = absurd h

pub section_exact : (levels_left : ℕ) → Exact IsSection Any levels_left (section_at levels_left)
section_exact levels_left = exact_as case_section (λ r xs s h. section_case h) (λ y h. h) (section_at_exact levels_left)

-- ---- whole texts

section_member : (levels_left : ℕ) → Member IsSection Any Never levels_left (section levels_left) (λ x. true) (section_at levels_left)
unfolding section
section_member levels_left =
    each_member refl (λ x rest. refl) (λ r s h. section_case h) (λ r xs s h. section_more (section_more h)) (section_exact levels_left)

pub section_shrinks : (levels_left : ℕ) → Shrinks (push (section levels_left))
section_shrinks levels_left = step_shrinks (stepping (section_member levels_left))

sections_of : (r : ℕ) (xs : List Terminal) (ss : List SectionSyntax) → AreAll IsSection r xs ss → AreSections r xs ss
sections_of r xs ss none = no_section
sections_of r xs ss (some {g = g} {vs = rs} h k) = section_of h (sections_of r g rs k)

all_sections : {r : ℕ} {xs : List Terminal} {ss : List SectionSyntax} → AreSections r xs ss → AreAll IsSection r xs ss
all_sections no_section = none
all_sections (section_of h k) = some h (all_sections k)

-- a whole text is read exactly
pub sections_exact : (levels_left : ℕ) → Exact AreSections (λ x. ⊥) levels_left (sections levels_left)
unfolding sections
sections_exact levels_left = exact_as sections_of (λ r xs ss h. all_sections h) (λ x h. h) (members_exact (section_member levels_left))

-- what derives as a whole text is read so
pub sections_read : (levels_left : ℕ) (xs : List Terminal) (ss : List SectionSyntax) → AreSections levels_left xs ss →
    sections levels_left xs ≡ Ok (ss, [])
sections_read levels_left = reads_all (sections_exact levels_left) levels_left (omega arith)

-- a text derives in one way
pub one_tree : (levels_left : ℕ) (xs : List Terminal) (ss rs : List SectionSyntax) → AreSections levels_left xs ss →
    AreSections levels_left xs rs → ss ≡ rs
one_tree levels_left = one_value (sections_exact levels_left)

-- what is a text is one with more levels
pub more_room : (extra levels_left : ℕ) (xs : List Terminal) (ss : List SectionSyntax) → AreSections levels_left xs ss →
    AreSections (extra + levels_left) xs ss
more_room extra levels_left = lifted (sections_exact (extra + levels_left)) levels_left (omega arith)

-- what is read as a whole text derives so, and nothing is left
pub sections_derive : (levels_left : ℕ) (xs : List Terminal) (ss : List SectionSyntax) (rest : List Terminal) →
    sections levels_left xs ≡ Ok (ss, rest) →
    (rest ≡ []) × AreSections levels_left xs ss
unfolding sections
sections_derive levels_left = whole_derives (sections_exact levels_left) (ends_members (section_member levels_left))
