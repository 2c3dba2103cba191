-- An entry of a parse has a text that its parser took.
use Rattle.std.proofs.Common.{◌≡◌, ◌∙◌, ◌<◌, ◌≤◌, ℕ, Bool, cond, true, false, zero, suc, refl, sym, ap, subst, inl, inr, arith, List}
use Rattle.std.proofs.Common.{[], ◌∷◌, length, Option, Some, None, is_some, true≢false}
use Rattle.std.specs.Prelude.{pos, find, option_map}
use Rattle.std.specs.List.{All, slice_index_or}
use Rattle.std.specs.Str.{bytes_eq}
use Rattle.std.specs.Borrow.{Bor}
use Rattle.std.proofs.lemmas.List.Elements.{All-get_or}
use Rattle.std.proofs.lemmas.Slice.Eq.{bytes_eq-Decides}
use Rattle.clap.specs.Lexer.{without_minus}
use Rattle.clap.specs.Facts.{Entry, EntryPasses, EntryValuesPass, HasIn, IsFilledEntry, IsGroupEntry, ReadsByParser, PassesArg}
use Rattle.clap.specs.Facts.{args_of, groups_of, least_values, parser_of, parser_of_value}
use Rattle.clap.specs.Built.{SameRules}
use Rattle.clap.specs.Matches.{matched_of, one_text}
use Rattle.clap.specs.Values.{Accepts, IsSignedIn, read_as, reading_of}
use Rattle.clap.specs.Walk.{Text}
use Rattle.clap.specs.declared.builder.action.ArgAction.TheVariants.{Count, Set}
use Rattle.clap.specs.declared.builder.arg.Arg.{Arg}
use Rattle.clap.specs.declared.builder.command.Command.{Command}
use Rattle.clap.specs.declared.builder.value_parser.Reading.{Reading}
use Rattle.clap.specs.declared.builder.value_parser.ValueParser.{ValueParser}
use Rattle.clap.specs.declared.builder.value_parser.ValueParser.TheVariants as vp
use Rattle.clap.specs.declared.parser.matches.Found.{Found}
use Rattle.clap.specs.declared.parser.matches.MatchedArg.{MatchedArg}
use Rattle.clap.proofs.CallerLemmas.{entry_by_id}

first_read : (f : Found) (id : Text) (x : MatchedArg) (how : Reading) (P : Text → Type 0) → matched_of f id ≡ Some x → x.reading ≡ how
    → (vs : List (Bor Text)) → x.vals.items ≡ vs → 0 < length vs → All (λ v. P v.now) vs
    → (t : Text) × (one_text f id ≡ Some (read_as how t)) × P t
first_read f id x how P found is [] vals some all = absurd (omega arith)
first_read f id x how P found is (v ∷ vs) vals some all =
    (v.now, rw (found, is, vals) refl, All-get_or (λ v. P v.now) (v ∷ vs) 0 v (omega arith) all)

-- each argument of the built command with this name has the rules of the caller's argument
abbrev pub Keeps : Command → Arg → Text → Type 0
Keeps c a id = (j : ℕ) (y : Arg) → j < length (args_of c) → slice_index_or (args_of c) j y ≡ y → bytes_eq y.id.now id ≡ true
    → SameRules a y

no_group : (c : Command) (e : Entry) → groups_of c ≡ [] → (e.0.now ≡ [] → ⊥) → IsGroupEntry c e → e.1.is_group ≡ true → ⊥
no_group c e none named only g = elim (only g) [
  | inl empty ↦ named empty
  | inr lots ↦
      let bad : 0 < 0 = rw none at lots in
      omega arith
]

has_values : (c : Command) (a : Arg) (e : Entry) → Keeps c a e.0.now → (e.1.is_group ≡ true → ⊥)
    → a.action ≡ Some Set → a.val_delim ≡ None → 1 ≤ least_values a → IsFilledEntry c e → 0 < length e.1.vals.items
has_values c a e keeps not_group set delim least filled = elim filled [
  | inl h ↦ absurd (not_group h.0)
  | inr (inl v) ↦ v
  | inr (inr (inl h)) ↦
      let any = h.1 in
      let s = keeps any.0 any.1 any.2 any.3 any.4.0 in
      let is_set : any.1.action ≡ Some Set = s.action Set set in
      let bad : Set ≡ Count = rw is_set at any.4.1 in
      cc
  | inr (inr (inr h)) ↦
      let s = keeps h.0 h.1 h.2 h.3 h.4.0 in
      elim h.4.1 [
        | inl zero_values ↦
            let one = s.least set least in
            absurd (omega arith)
        | inr has ↦
            let bad : false ≡ true = rw (s.val_delim, delim) at has in
            cc
      ]
]

value_read : (c : Command) (a : Arg) (id : Text) (q : ValueParser) → Keeps c a id → a.value_parser ≡ Some q
    → (v : Text) → PassesArg c id v → (b : Bool) × Accepts b q v
value_read c a id q keeps parser v pass =
    let s = keeps pass.0 pass.1 pass.2 pass.3 pass.4.0 in
    let is_q : parser_of pass.1 ≡ q = ap parser_of_value (s.parser q parser) in
    (pass.1.ignore_case, subst (λ (w : ValueParser). Accepts pass.1.ignore_case w v) is_q pass.4.1)

values_read : (c : Command) (a : Arg) (e : Entry) (low high : ℕ) → Keeps c a e.0.now → (e.1.is_group ≡ true → ⊥)
    → a.value_parser ≡ Some (vp.Signed (pos low) (pos high)) → EntryValuesPass c e
    → All (λ v. IsSignedIn (pos low) (pos high) v.now) e.1.vals.items
values_read c a e low high keeps not_group parser (inl g) = absurd (not_group g)
values_read c a e low high keeps not_group parser (inr all) =
    λ i d lt. (value_read c a e.0.now (vp.Signed (pos low) (pos high)) keeps parser (slice_index_or e.1.vals.items i d).now
    (all i d lt)).1

is_read : (c : Command) (a : Arg) (e : Entry) (q : ValueParser) → Keeps c a e.0.now → (e.1.is_group ≡ true → ⊥)
    → a.value_parser ≡ Some q → ReadsByParser c e → e.1.reading ≡ reading_of q
is_read c a e q keeps not_group parser (inl g) = absurd (not_group g)
is_read c a e q keeps not_group parser (inr h) =
    let s = keeps h.0 h.1 h.2 h.3 h.4.0 in
    let is_q : parser_of h.1 ≡ q = ap parser_of_value (s.parser q parser) in
    sym h.4.1 ∙ ap reading_of is_q

-- what an entry under the name gives
entry_read : (c : Command) (a : Arg) (f : Found) (e : Entry) (low high : ℕ) → Keeps c a e.0.now → groups_of c ≡ [] → (e.0.now ≡ [] → ⊥)
    → a.action ≡ Some Set → a.val_delim ≡ None → 1 ≤ least_values a → a.value_parser ≡ Some (vp.Signed (pos low) (pos high))
    → EntryPasses c e → matched_of f e.0.now ≡ Some e.1
    → (t : Text) × (one_text f e.0.now ≡ Some (without_minus t)) × IsSignedIn (pos low) (pos high) t
entry_read c a f e low high keeps none named set delim least parser pass found =
    let not_group = no_group c e none named pass.3 in
    first_read f e.0.now e.1 (reading_of (vp.Signed (pos low) (pos high))) (λ (t : Text). IsSignedIn (pos low) (pos high) t) found
    (is_read c a e (vp.Signed (pos low) (pos high)) keeps not_group parser pass.4) e.1.vals.items refl
    (has_values c a e keeps not_group set delim least pass.1) (values_read c a e low high keeps not_group parser pass.0)

-- an argument with an entry has a text that its parser took
pub found_read : (c : Command) (a : Arg) (f : Found) (id : Text) (low high : ℕ) → Keeps c a id → groups_of c ≡ [] → (id ≡ [] → ⊥)
    → a.action ≡ Some Set → a.val_delim ≡ None → 1 ≤ least_values a → a.value_parser ≡ Some (vp.Signed (pos low) (pos high))
    → All (EntryPasses c) f.entries.items → (o : Option MatchedArg) → matched_of f id ≡ o → is_some o ≡ true
    → (t : Text) × (one_text f id ≡ Some (without_minus t)) × IsSignedIn (pos low) (pos high) t
found_read c a f id low high keeps none named set delim least parser all None e some = cc
found_read c a f id low high keeps none named set delim least parser all (Some x) e some =
    let got = entry_by_id (EntryPasses c) f.entries.items id x all e in
    let key : got.0.0.now ≡ id = (bytes_eq-Decides _ _).0 got.2 in
    at_key got.0 key (e ∙ ap (λ (y : MatchedArg). Some y) (sym got.1)) got.3
  where
    at_key : (g : Entry) → g.0.now ≡ id → matched_of f id ≡ Some g.1 → EntryPasses c g
        → (t : Text) × (one_text f id ≡ Some (without_minus t)) × IsSignedIn (pos low) (pos high) t
    at_key g key found pass =
        subst (λ (w : Text). (t : Text) × (one_text f w ≡ Some (without_minus t)) × IsSignedIn (pos low) (pos high) t) key
        (entry_read c a f g low high (subst (λ (w : Text). Keeps c a w) (sym key) keeps) none (λ empty. named (sym key ∙ empty)) set
        delim least parser pass
        (subst (λ (w : Text). matched_of f w ≡ Some g.1) (sym key) found))

pub has_entry : (xs : List Entry) (id : Text) → HasIn xs id → is_some (option_map (λ e. e.1) (find (λ e. bytes_eq e.0.now id) xs)) ≡ true
has_entry [] id h = absurd (omega (arith, h.1))
has_entry (x ∷ xs) id h = go (bytes_eq x.0.now id) refl (λ in_rest. has_entry xs id in_rest)
  where
    rest : bytes_eq x.0.now id ≡ false → (i : ℕ) → i < length (x ∷ xs) → ((d : Entry)
        → bytes_eq (slice_index_or (x ∷ xs) i d).0.now id ≡ true) → HasIn xs id
    rest other zero lt is = absurd (true≢false (sym (is x) ∙ other))
    rest other (suc i) lt is = (i, omega arith, is)

    go : (b : Bool) → bytes_eq x.0.now id ≡ b
        → (HasIn xs id → is_some (option_map (λ e. e.1) (find (λ e. bytes_eq e.0.now id) xs)) ≡ true)
        → is_some (option_map (λ e. e.1) (cond b (Some x) (find (λ e. bytes_eq e.0.now id) xs))) ≡ true
    go true e later = refl
    go false e later = later (rest e h.0 h.1 h.2)
