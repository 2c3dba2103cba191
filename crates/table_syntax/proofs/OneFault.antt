-- A text has one fault.
use Rattle.std.proofs.Common.{◌≡◌, ◌∙◌, ℕ, List, [], ◌∷◌, ◌++◌, Err, refl, sym, ap, subst, inl, inr, append_assoc}
use Rattle.std.specs.Prelude.{◌≢◌}
use Rattle.std.proofs.lemmas.List.{map-append, append-nil}
use Rattle.base_library.proofs.FirstStops.{one_stop}
use Rattle.tsl_text.specs.declared.Token.{Token}
use Rattle.tsl_text.specs.declared.TextError.{TextError}
use Rattle.tsl_text.specs.declared.TextError.TheVariants as bytes
use Rattle.tsl_text.specs.Division.{AreTokens, IsAnswer}
use Rattle.tsl_text.proofs.OneAnswer.{one_list, no_tokens, one_text_fault}
use Rattle.table_syntax.specs.Syntax.{TextToken, text_token_at, text_tokens}
use Rattle.table_syntax.specs.Forms.{IsRead, SomeTextBegins, HasFormFault, HasTextFault}
use Rattle.table_syntax.specs.declared.forms.TextFault.{TextFault}
use Rattle.table_syntax.specs.declared.forms.TextFault.TheVariants as fault

module _ {V : Type 0} (Is : List TextToken → V → Type 0) (text : List ℕ) where
  -- with fewer tokens some text begins too
  shorter : (p q : List Token) → SomeTextBegins Is (text_tokens text (p ++ q)) → SomeTextBegins Is (text_tokens text p)
  shorter p q begins = (
    text_tokens text q ++ begins.0,
    begins.1,
    subst (λ xs. Is xs begins.1)
        (ap (λ xs. xs ++ begins.0) (map-append (text_token_at text) p q)
        ∙ append_assoc (text_tokens text p) (text_tokens text q) begins.0) begins.2,
  )

  -- tokens with which some text begins have none that stops it
  no_stop : (tokens before : List Token) (token : Token) (after : List Token) → AreTokens text tokens →
      AreTokens text (before ++ token ∷ after) → SomeTextBegins Is (text_tokens text tokens) →
      (SomeTextBegins Is (text_tokens text (before ++ token ∷ [])) → ⊥) → ⊥
  no_stop tokens before token after are k begins stops =
      let same : tokens ≡ (before ++ token ∷ []) ++ after =
      one_list text tokens (before ++ token ∷ after) are k ∙ sym (append_assoc before (token ∷ []) after) in
      stops (shorter (before ++ token ∷ []) after (subst (λ ts. SomeTextBegins Is (text_tokens text ts)) same begins))

  -- a fault of the form leaves nothing
  form_refuses : (at : ℕ) → HasFormFault Is text at → (v : V) → IsRead Is text v → ⊥
  form_refuses at (inl h) v k =
      no_stop k.tokens h.before h.token h.after k.tokens_are h.tokens_are ([], v, rw append-nil k.derived) (λ b. h.stops b.0 b.1 b.2)
  form_refuses at (inr h) v k =
      h.no_text v (subst (λ tokens. Is (text_tokens text tokens) v) (one_list text k.tokens h.tokens k.tokens_are h.tokens_are) k.derived)

  pub one_form : (x y : ℕ) → HasFormFault Is text x → HasFormFault Is text y → x ≡ y
  one_form x y (inl h) (inl k) =
      let same = one_stop (λ ts. SomeTextBegins Is (text_tokens text ts)) shorter h.before k.before h.token k.token h.after k.after
      (one_list text (h.before ++ h.token ∷ h.after) (k.before ++ k.token ∷ k.after) h.tokens_are k.tokens_are)
      h.begins (λ b. h.stops b.0 b.1 b.2) k.begins (λ b. k.stops b.0 b.1 b.2) in
      h.place ∙ ap (λ (t : Token). t.start) same.1 ∙ sym k.place
  one_form x y (inl h) (inr k) =
      absurd (no_stop k.tokens h.before h.token h.after k.tokens_are h.tokens_are k.begins (λ b. h.stops b.0 b.1 b.2))
  one_form x y (inr h) (inl k) =
      absurd (no_stop h.tokens k.before k.token k.after h.tokens_are k.tokens_are h.begins (λ b. k.stops b.0 b.1 b.2))
  one_form x y (inr h) (inr k) = h.place ∙ sym k.place

-- ---- a fault of the bytes

-- a fault of the bytes, as it is told of a text
abbrev told : TextError → TextFault
told (bytes.Byte at) = fault.Byte at
told (bytes.OpenComment at) = fault.OpenComment at
told bytes.NoMemory = fault.NoMemory

-- ---- a fault

-- the tokens of a text that has a fault of its form
form_tokens : {V : Type 0} (Is : List TextToken → V → Type 0) (text : List ℕ) (at : ℕ) → HasFormFault Is text at →
    (tokens : List Token) × AreTokens text tokens
form_tokens Is text at (inl h) = (h.before ++ h.token ∷ h.after, h.tokens_are)
form_tokens Is text at (inr h) = (h.tokens, h.tokens_are)

module _ {V : Type 0} (Is : List TextToken → V → Type 0) (text : List ℕ) where
  -- a fault of the bytes leaves no tokens, so none of the form
  no_form : (error : TextError) → IsAnswer text (Err error) → (at : ℕ) → HasFormFault Is text at → ⊥
  no_form error h at k =
      let are = form_tokens Is text at k in
      no_tokens text error h are.0 are.1

  pub one_fault : (a b : TextFault) → a ≢ fault.NoMemory → b ≢ fault.NoMemory → HasTextFault Is text a → HasTextFault Is text b → a ≡ b
  one_fault (fault.Byte x) (fault.Byte y) m n h k = ap told (one_text_fault text (bytes.Byte x) (bytes.Byte y) h k)
  one_fault (fault.Byte x) (fault.OpenComment y) m n h k = ap told (one_text_fault text (bytes.Byte x) (bytes.OpenComment y) h k)
  one_fault (fault.OpenComment x) (fault.Byte y) m n h k = ap told (one_text_fault text (bytes.OpenComment x) (bytes.Byte y) h k)
  one_fault (fault.OpenComment x) (fault.OpenComment y) m n h k =
      ap told (one_text_fault text (bytes.OpenComment x) (bytes.OpenComment y) h k)
  one_fault (fault.Byte x) (fault.Form y) m n h k = absurd (no_form (bytes.Byte x) h y k)
  one_fault (fault.OpenComment x) (fault.Form y) m n h k = absurd (no_form (bytes.OpenComment x) h y k)
  one_fault (fault.Form x) (fault.Byte y) m n h k = absurd (no_form (bytes.Byte y) k x h)
  one_fault (fault.Form x) (fault.OpenComment y) m n h k = absurd (no_form (bytes.OpenComment y) k x h)
  one_fault (fault.Form x) (fault.Form y) m n h k = ap (λ z. fault.Form z) (one_form Is text x y h k)
  one_fault a fault.NoMemory m n h k = absurd (n refl)
  one_fault fault.NoMemory b m n h k = absurd (m refl)

  -- and derives from nothing
  pub fault_refuses : (a : TextFault) → a ≢ fault.NoMemory → HasTextFault Is text a → (given : V) → IsRead Is text given → ⊥
  fault_refuses (fault.Byte at) m h given k = no_tokens text (bytes.Byte at) h k.tokens k.tokens_are
  fault_refuses (fault.OpenComment at) m h given k = no_tokens text (bytes.OpenComment at) h k.tokens k.tokens_are
  fault_refuses (fault.Form at) m h given k = form_refuses Is text at h given k
  fault_refuses fault.NoMemory m h given k = absurd (m refl)
