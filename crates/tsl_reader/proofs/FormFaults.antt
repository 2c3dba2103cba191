-- What the answers of the reader of declarations say of a text with these tokens.
use Rattle.std.proofs.Common.{◌≡◌, ℕ, suc, ◌-◌, ◌≤◌, List, [], ◌∷◌, ◌++◌, length, take, drop, ap, sym, ◌∙◌, subst, inl, inr, arith}
use Rattle.std.proofs.Common.{length-append, length-drop}
use Rattle.std.proofs.lemmas.List.{map-append, append-nil, length-map, take-append-drop}
use Rattle.std.proofs.lemmas.Option.{slice_get_past}
use Rattle.std.specs.Prelude.{Ok, Err, slice_get, MatchOption}
use Rattle.base_library.proofs.Places.{slice_get-behind}
use Rattle.tsl_text.specs.declared.Token.{Token}
use Rattle.tsl_text.specs.Division.{AreTokens}
use Rattle.reader_combinators.specs.Readers.{form, deep}
use Rattle.spec_syntax.specs.Syntax.{Terminal, Declaration}
use Rattle.spec_syntax.specs.Reading.{declarations}
use Rattle.spec_syntax.specs.Texts.{terminal_at, terminals}
use Rattle.spec_syntax.proofs.ExactDeclarations.{declarations_exact, declarations_derive}
use Rattle.spec_syntax.proofs.FirstFaults as first
use Rattle.tsl_reader.specs.Spells.{deepest_level, HasFormFault, HasDeepFault}
use Rattle.tsl_reader.specs.ReadText.{AreDeclared}

-- where the first of these tokens begins; where there is none, the text's length
abbrev start_of : List ℕ → List Token → ℕ
start_of text [] = length text
start_of text (token ∷ rest) = token.start

module _ {text : List ℕ} {tokens : List Token} (are : AreTokens text tokens) where
  abbrev all : List Terminal
  all = terminals text tokens

  pub derives : {ds : List Declaration} {rest : List Terminal} → declarations deepest_level all ≡ Ok (ds, rest) → AreDeclared text tokens ds
  derives {ds = ds} {rest = rest} h =
      let read = declarations_derive deepest_level all ds rest h in
      (read.0, record { tokens_are = are; derived = read.1 })

  module _ (left : ℕ) where
    -- the place that is told is the start of the tokens that are left
    abbrev IsPlace : ℕ → Type 0
    IsPlace at = MatchOption (slice_get tokens (length tokens - left)) (at ≡ length text) (λ token. at ≡ token.start)

    starts : {at : ℕ} (before after : List Token) → tokens ≡ before ++ after → left ≡ length after → IsPlace at → at ≡ start_of text after
    starts before [] split count place = rw (slice_get_past tokens (length tokens - left) (omega (arith, count))) at place
    starts before (token ∷ after) split count place =
        let here : length tokens - left ≡ length before =
        omega (arith, count, ap length split, length-append before (token ∷ after)) in
        rw (ap (slice_get tokens) here ∙ ap (λ ts. slice_get ts (length before)) split ∙ slice_get-behind before token after) at place

    -- the terminals around the first token that is left
    around : (before : List Token) (token : Token) (after : List Token) → tokens ≡ before ++ token ∷ after → left ≡ suc (length after) →
        (all ≡ terminals text before ++ terminal_at text token ∷ terminals text after) × (left ≡ suc (length (terminals text after)))
    around before token after split count = (
      ap (terminals text) split ∙ map-append (terminal_at text) before (token ∷ after),
      omega (arith, count, length-map after (terminal_at text)),
    )

    module _ (h : declarations deepest_level all ≡ Err (form left)) where
      pub form_left : left ≤ length tokens
      form_left = omega (arith, first.form_within (declarations_exact deepest_level) all left h, length-map tokens (terminal_at text))

      form_fault : {at : ℕ} (before after : List Token) → tokens ≡ before ++ after → left ≡ length after → at ≡ start_of text after →
          HasFormFault text at
      form_fault before [] split count place =
          inr (record {
            tokens = tokens;
            tokens_are = are;
            place = place;
            begins = first.form_begins (declarations_exact deepest_level) all left h all [] (sym (append-nil all)) count;
            no_text = first.no_value (declarations_exact deepest_level) all left h;
          })
      form_fault before (token ∷ after) split count place =
          let here = around before token after split count in
          inl (record {
            before = before;
            token = token;
            after = after;
            tokens_are = subst (AreTokens text) split are;
            place = place;
            begins = first.form_begins (declarations_exact deepest_level) all left h (terminals text before)
                (terminals text (token ∷ after)) here.0 here.1;
            stops = rw (map-append (terminal_at text) before (token ∷ []))
                (first.form_stops (declarations_exact deepest_level) all left h (terminals text before) (terminal_at text token)
                (terminals text after) here.0 here.1);
          })

    module _ (h : declarations deepest_level all ≡ Err (deep left)) where
      pub deep_left : left ≤ length tokens
      deep_left = omega (arith, (first.deep_within (declarations_exact deepest_level) all left h).1, length-map tokens (terminal_at text))

      deep_fault : {at : ℕ} (before after : List Token) → tokens ≡ before ++ after → left ≡ length after → at ≡ start_of text after →
          HasDeepFault text at
      deep_fault before [] split count place =
          absurd (omega (arith, (first.deep_within (declarations_exact deepest_level) all left h).0, count))
      deep_fault before (token ∷ after) split count place =
          let here = around before token after split count in
          let x = terminal_at text token in
          let more = terminals text after in
          record {
            before = before;
            token = token;
            after = after;
            tokens_are = subst (AreTokens text) split are;
            place = place;
            begins = first.deep_begins (declarations_exact deepest_level) all left h (terminals text before) x more here.0 here.1;
            stops = rw (map-append (terminal_at text) before (token ∷ []))
                (first.deep_stops (declarations_exact deepest_level) all left h (terminals text before) x more here.0 here.1);
            levels_left = suc (suc deepest_level);
            goes_on = rw (map-append (terminal_at text) before (token ∷ []))
                (first.deep_goes_on (declarations_exact deepest_level) all left h (terminals text before) x more here.0 here.1);
          }

    -- the tokens before and those that are left
    split : left ≤ length tokens → (before : List Token) × (after : List Token) × (tokens ≡ before ++ after) × (left ≡ length after)
    split few =
        let at = length tokens - left in
        (take at tokens, drop at tokens, sym (take-append-drop at tokens), omega (arith, few, length-drop at tokens))

    pub form_told : {at : ℕ} → declarations deepest_level all ≡ Err (form left) → IsPlace at → HasFormFault text at
    form_told h place =
        let s = split (form_left h) in
        form_fault h s.0 s.1 s.2 s.3 (starts s.0 s.1 s.2 s.3 place)

    pub deep_told : {at : ℕ} → declarations deepest_level all ≡ Err (deep left) → IsPlace at → HasDeepFault text at
    deep_told h place =
        let s = split (deep_left h) in
        deep_fault h s.0 s.1 s.2 s.3 (starts s.0 s.1 s.2 s.3 place)
