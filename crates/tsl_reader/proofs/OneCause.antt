-- A text has at most one cause of refusal, and none where it spells a specification.
use Rattle.std.proofs.Common.{◌≡◌, ℕ, Bool, List, [], ◌∷◌, ◌++◌, refl, ap, sym, ◌∙◌, subst, inl, inr, ⊎_elim, append_assoc, arith}
use Rattle.std.proofs.lemmas.Bool.{cases_lt}
use Rattle.std.proofs.lemmas.List.{map-append, append-nil}
use Rattle.std.proofs.lemmas.Option.{same_Some}
use Rattle.std.specs.Prelude.{None, Err, slice_get, position}
use Rattle.base_library.proofs.Causes.{Causes, after, and_then}
use Rattle.base_library.proofs.FirstStops.{one_stop}
use Rattle.base_library.proofs.Options.{none_never_some}
use Rattle.base_library.proofs.Places.{slice_get_one}
use Rattle.tsl_text.specs.declared.Token.{Token}
use Rattle.tsl_text.specs.declared.TextError.{TextError}
use Rattle.tsl_text.specs.declared.TextError.TheVariants.{Byte, OpenComment, NoMemory}
use Rattle.tsl_text.specs.Division.{AreTokens, IsAnswer}
use Rattle.tsl_text.proofs.OneAnswer.{one_list, no_tokens, one_text_fault}
use Rattle.tsl_terms.specs.SpecTree.{SpecTree}
use Rattle.tsl_reader.specs.declared.SpecError.{SpecError}
use Rattle.tsl_reader.specs.declared.SpecError.TheVariants as error
use Rattle.spec_syntax.specs.Syntax.{Terminal, Definition, Declaration}
use Rattle.spec_syntax.specs.Texts.{terminal_at, terminals, IsText, SomeDeclarationsBegin, NoDeclarationsBegin}
use Rattle.definition_expansion.specs.Uses.{IsFirstOnCycle}
use Rattle.name_resolution.specs.Heads.{definitions_in}
use Rattle.name_resolution.specs.Occurrences.{Occurrence}
use Rattle.name_resolution.specs.Faults.{is_redefined, is_head_of, has_kind_fault, has_arity_fault}
use Rattle.name_resolution.specs.WellDeclared.{heads_of, names_in, NoneOnCycle, is_use_too_deep}
use Rattle.name_resolution.proofs.Expanded.{no_deep_use}
use Rattle.tsl_reader.specs.Spells.{deepest_level, Derives, IsDerived, Spells, HasFormFault, HasDeepFault, name_tokens, IsFirstName}
use Rattle.tsl_reader.specs.Spells.{HasTooManyNodes, HasCause, SpellsNoSpec, IsOfText}
use Rattle.tsl_reader.proofs.Causes.{one_derivation, nodes_refuse}
use Rattle.tsl_reader.proofs.NamePlaces.{none_there}

-- ---- the bytes

abbrev of_text : TextError → SpecError
of_text (Byte at) = error.Byte at
of_text (OpenComment at) = error.OpenComment at
of_text NoMemory = error.NoMemory

abbrev byte_faults : List ℕ → Causes SpecError
byte_faults text = record {
  Passes = (tokens : List Token) × AreTokens text tokens;
  Has = λ e. (fault : TextError) × IsAnswer text (Err fault) × (of_text fault ≡ e);
  refuses = λ e h read. no_tokens text h.0 h.1 read.0 read.1;
  one = λ a b h k. sym h.2 ∙ ap of_text (one_text_fault text h.0 k.0 h.1 k.1) ∙ k.2;
}

-- ---- the first token that no text goes on with

module _ (text : List ℕ) where
  abbrev Begins : List Token → Type 0
  Begins tokens = SomeDeclarationsBegin deepest_level (terminals text tokens)

  abbrev Stops : List Token → Type 0
  Stops tokens = NoDeclarationsBegin deepest_level (terminals text tokens)

  -- with fewer tokens some text begins too
  shorter : (p q : List Token) → Begins (p ++ q) → Begins p
  shorter p q begins = (
    terminals text q ++ begins.0,
    begins.1,
    subst (λ xs. IsText deepest_level xs begins.1)
        (ap (λ xs. xs ++ begins.0) (map-append (terminal_at text) p q) ∙ append_assoc (terminals text p) (terminals text q) begins.0)
        begins.2,
  )

  one_token : {b c : List Token} {t u : Token} (a e : List Token) → AreTokens text (b ++ t ∷ a) → AreTokens text (c ++ u ∷ e) →
      Begins b → Stops (b ++ t ∷ []) → Begins c → Stops (c ++ u ∷ []) → (b ≡ c) × (t ≡ u)
  one_token {b = b} {c = c} {t = t} {u = u} a e are also first stops second ends =
      one_stop Begins shorter b c t u a e (one_list text (b ++ t ∷ a) (c ++ u ∷ e) are also) first (λ k. stops k.0 k.1 k.2) second
      (λ k. ends k.0 k.1 k.2)

  -- tokens with which some text begins have none that stops it
  no_stop : {tokens : List Token} (before : List Token) (token : Token) (after : List Token) → AreTokens text tokens →
      AreTokens text (before ++ token ∷ after) → Begins tokens → Stops (before ++ token ∷ []) → ⊥
  no_stop {tokens = tokens} before token after are also begins stops =
      let same : tokens ≡ (before ++ token ∷ []) ++ after =
      one_list text tokens (before ++ token ∷ after) are also ∙ sym (append_assoc before (token ∷ []) after) in
      let k = shorter (before ++ token ∷ []) after (subst Begins same begins) in
      stops k.0 k.1 k.2

  one_form : (x y : ℕ) → HasFormFault text x → HasFormFault text y → x ≡ y
  one_form x y (inl h) (inl k) =
      let same = one_token h.after k.after h.tokens_are k.tokens_are h.begins (h.stops deepest_level) k.begins (k.stops deepest_level) in
      h.place ∙ ap (λ (t : Token). t.start) same.1 ∙ sym k.place
  one_form x y (inl h) (inr k) = absurd (no_stop h.before h.token h.after k.tokens_are h.tokens_are k.begins (h.stops deepest_level))
  one_form x y (inr h) (inl k) = absurd (no_stop k.before k.token k.after h.tokens_are k.tokens_are h.begins (k.stops deepest_level))
  one_form x y (inr h) (inr k) = h.place ∙ sym k.place

  -- where a token is wrong for any number of levels, none is too deep
  no_form_and_deep : (x y : ℕ) → HasFormFault text x → HasDeepFault text y → ⊥
  no_form_and_deep x y (inl h) k =
      let same = one_token h.after k.after h.tokens_are k.tokens_are h.begins (h.stops deepest_level) k.begins k.stops in
      let on : SomeDeclarationsBegin k.levels_left (terminals text (h.before ++ h.token ∷ [])) = rw (same.0, same.1) k.goes_on in
      h.stops k.levels_left on.0 on.1 on.2
  no_form_and_deep x y (inr h) k = no_stop k.before k.token k.after h.tokens_are k.tokens_are h.begins k.stops

  abbrev HasFault : SpecError → Type 0
  HasFault (error.Form at) = HasFormFault text at
  HasFault (error.Deep at) = HasDeepFault text at
  HasFault _ = ⊥

  one_fault : (a b : SpecError) → HasFault a → HasFault b → a ≡ b
  one_fault (error.Form x) (error.Form y) h k = ap error.Form (one_form x y h k)
  one_fault (error.Form x) (error.Deep y) h k = absurd (no_form_and_deep x y h k)
  one_fault (error.Deep x) (error.Form y) h k = absurd (no_form_and_deep y x k h)
  one_fault (error.Deep x) (error.Deep y) h k =
      let same = one_token h.after k.after h.tokens_are k.tokens_are h.begins h.stops k.begins k.stops in
      ap error.Deep (h.place ∙ ap (λ (t : Token). t.start) same.1 ∙ sym k.place)
  one_fault (error.Form x) b h k = absurd k
  one_fault (error.Deep x) b h k = absurd k
  one_fault a b h k = absurd h

  abbrev IsRead : List Token → List Declaration → Type 0
  IsRead tokens ds = (own : List Terminal) × Derives text tokens own ds

  begun : (tokens : List Token) (ds : List Declaration) → IsRead tokens ds → Begins tokens
  begun tokens ds d = ([], ds, (d.0, rw (append-nil (terminals text tokens)) d.1.derived))

  no_fault : (tokens : List Token) (ds : List Declaration) → IsRead tokens ds → (e : SpecError) → HasFault e → ⊥
  no_fault tokens ds d (error.Form at) (inl h) =
      no_stop h.before h.token h.after d.1.tokens_are h.tokens_are (begun tokens ds d) (h.stops deepest_level)
  no_fault tokens ds d (error.Form at) (inr h) =
      h.no_text deepest_level ds (d.0, rw (one_list text h.tokens tokens h.tokens_are d.1.tokens_are) d.1.derived)
  no_fault tokens ds d (error.Deep at) h = no_stop h.before h.token h.after d.1.tokens_are h.tokens_are (begun tokens ds d) h.stops
  no_fault tokens ds d e h = absurd h

  abbrev form_faults : Causes SpecError
  form_faults = record {
    Passes = (tokens : List Token) × (ds : List Declaration) × IsRead tokens ds;
    Has = HasFault;
    refuses = λ e h read. no_fault read.0 read.1 read.2 e h;
    one = one_fault;
  }

-- ---- the first name that is wrong, or definition that reaches itself

one_number : (ds : List Definition) (i j : ℕ) → IsFirstOnCycle ds i → IsFirstOnCycle ds j → i ≡ j
one_number ds i j h k =
    ⊎_elim (λ less. absurd (k.first i h.definition less h.here h.reaches))
    (λ back. ⊎_elim (λ less. absurd (h.first j k.definition less k.here k.reaches))
    (λ forth. omega (arith, back, forth)) (cases_lt j i))
    (cases_lt i j)

one_cycle : (ds : List Definition) (i j : ℕ) → (h : IsFirstOnCycle ds i) → (k : IsFirstOnCycle ds j) → h.definition ≡ k.definition
one_cycle ds i j h k = slice_get_one ds j h.definition k.definition (sym (ap (slice_get ds) (one_number ds i j h k)) ∙ h.here) k.here

module _ (text : List ℕ) (tokens : List Token) (ds : List Declaration) where
  -- the first name that is such is told
  abbrev Told : (ℕ → ℕ → SpecError) → (Occurrence → Bool) → SpecError → Type 0
  Told refusal is_such e = (s : ℕ) × (x : ℕ) × IsFirstName is_such text tokens ds s x × (refusal s x ≡ e)

  one_told : (refusal : ℕ → ℕ → SpecError) (is_such : Occurrence → Bool) (a b : SpecError) → Told refusal is_such a →
      Told refusal is_such b → a ≡ b
  one_told refusal is_such a b h k =
      let at = same_Some h.2.at k.2.at (sym h.2.first ∙ k.2.first) in
      let token = same_Some h.2.token k.2.token (sym h.2.there ∙ ap (slice_get (name_tokens text tokens)) at ∙ k.2.there) in
      let start = h.2.starts ∙ ap (λ (t : Token). t.start) token ∙ sym k.2.starts in
      let end = h.2.ends ∙ ap (λ (t : Token). t.end) token ∙ sym k.2.ends in
      sym h.3 ∙ (λ i. refusal (start i) (end i)) ∙ k.3

  abbrev named : (ℕ → ℕ → SpecError) → (Occurrence → Bool) → Causes SpecError
  named refusal is_such = record {
    Passes = position is_such (names_in ds) ≡ None;
    Has = Told refusal is_such;
    refuses = λ e h none. none_never_some (position is_such (names_in ds)) h.2.at none h.2.first;
    one = one_told refusal is_such;
  }

  abbrev cycles : Causes SpecError
  cycles = record {
    Passes = NoneOnCycle (definitions_in ds);
    Has = λ e. (number : ℕ) × (cycle : IsFirstOnCycle (definitions_in ds) number) × Told error.Cycle (is_head_of cycle.definition.name) e;
    refuses = λ e h none. none h.0 h.1.definition h.1.here h.1.reaches;
    one = λ a b h k.
        one_told error.Cycle (is_head_of k.1.definition.name) a b
        (subst (λ (d : Definition). Told error.Cycle (is_head_of d.name) a) (one_cycle (definitions_in ds) h.0 k.0 h.1 k.1) h.2) k.2;
  }

  abbrev too_many : Causes SpecError
  too_many = record {
    Passes = (spec : SpecTree) × Spells text spec;
    Has = λ e. HasTooManyNodes text × (error.Nodes ≡ e);
    refuses = λ e h spelled. nodes_refuse text h.0 spelled.0 spelled.1;
    one = λ a b h k. sym h.1 ∙ k.1;
  }

  abbrev name_faults : Causes SpecError
  name_faults =
      and_then (named error.Defined (λ o. is_redefined o.role)) (and_then cycles
      (and_then (named error.Kind (has_kind_fault (names_in ds)))
      (and_then (named error.Arity (has_arity_fault (heads_of ds) (names_in ds)))
      (and_then (named error.DeepUse (is_use_too_deep (definitions_in ds))) too_many))))

-- ---- a text

one_reading : (text : List ℕ) (p q : (form_faults text).Passes) → ◌≡◌ {A = List Token × List Declaration} (p.0, p.1) (q.0, q.1)
one_reading text p q =
    let tokens = one_list text p.0 q.0 p.2.1.tokens_are q.2.1.tokens_are in
    let ds = (one_derivation text p.0 q.0 p.2.0 q.2.0 p.1 q.1 p.2.1 q.2.1).0 in
    λ i. (tokens i, ds i)

abbrev text_causes : List ℕ → Causes SpecError
text_causes text =
    and_then (byte_faults text)
    (after (form_faults text) (λ p. (p.0, p.1)) (one_reading text) (λ v. name_faults text v.0 v.1))

-- no use is too deep where the text derives a specification
none_deep : (text : List ℕ) (spec : SpecTree) → (d : IsDerived text spec) →
    position (is_use_too_deep (definitions_in d.declarations)) (names_in d.declarations) ≡ None
none_deep text spec d =
    none_there (is_use_too_deep (definitions_in d.declarations)) (names_in d.declarations)
    (no_deep_use d.declarations d.named_well d.derives.derived d.expanded d.sections d.expands d.sections_are)

passes : (text : List ℕ) (spec : SpecTree) → Spells text spec → (text_causes text).Passes
passes text spec spelled =
    let d = spelled.derived in
    let w = d.named_well in (
      (d.tokens, d.derives.tokens_are),
      (
        (d.tokens, d.declarations, (d.own, d.derives)),
        (w.once, (w.acyclic, (w.kinds, (w.arities, (none_deep text spec d, (spec, spelled)))))),
      ),
    )

-- a cause of a text that is read
behind : {text : List ℕ} {tokens : List Token} {own : List Terminal} {ds : List Declaration} {e : SpecError} → Derives text tokens own ds →
    (name_faults text tokens ds).Has e → (text_causes text).Has e
behind {tokens = tokens} {own = own} {ds = ds} d h = inr ((tokens, d.tokens_are), inr ((tokens, ds, (own, d)), h))

has : (text : List ℕ) (e : SpecError) → IsOfText e → HasCause text e → (text_causes text).Has e
has text (error.Byte at) of h = inl (Byte at, h, refl)
has text (error.OpenComment at) of h = inl (OpenComment at, h, refl)
has text (error.Form at) of (inl h) = inr ((h.before ++ h.token ∷ h.after, h.tokens_are), inl (inl h))
has text (error.Form at) of (inr h) = inr ((h.tokens, h.tokens_are), inl (inr h))
has text (error.Deep at) of h = inr ((h.before ++ h.token ∷ h.after, h.tokens_are), inl h)
has text (error.Defined s e) of h = behind h.derives (inl (s, e, h.named, refl))
has text (error.Cycle s e) of h = behind h.derives (inr (h.once, inl (h.number, h.cycle, (s, e, h.named, refl))))
has text (error.Kind s e) of h = behind h.derives (inr (h.once, inr (h.acyclic, inl (s, e, h.named, refl))))
has text (error.Arity s e) of h = behind h.derives (inr (h.once, inr (h.acyclic, inr (h.kinds, inl (s, e, h.named, refl)))))
has text (error.DeepUse s e) of h =
    let w = h.named_well in
    behind h.derives (inr (w.once, inr (w.acyclic, inr (w.kinds, inr (w.arities, inl (s, e, h.named, refl))))))
has text error.Nodes of h =
    let w = h.derived.named_well in
    behind h.derived.derives
    (inr (w.once, inr (w.acyclic, inr (w.kinds, inr (w.arities, inr (none_deep text h.spec h.derived, (h, refl)))))))
has text error.NoMemory of h = absurd of

pub one_cause : (text : List ℕ) (a b : SpecError) → IsOfText a → IsOfText b → HasCause text a → HasCause text b → a ≡ b
one_cause text a b of also h k = (text_causes text).one a b (has text a of h) (has text b also k)

-- where a refusal has its cause, the text spells no specification
pub cause_refuses : (text : List ℕ) (e : SpecError) → HasCause text e → SpellsNoSpec text e
cause_refuses text error.NoMemory h = tt
cause_refuses text e h = λ spec spelled. (text_causes text).refuses e (has text e tt h) (passes text spec spelled)
