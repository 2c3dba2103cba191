-- Each argument of a parse that succeeded has a number in its range.
use Rattle.std.proofs.Common.{◌≡◌, ◌∙◌, ◌<◌, ◌≤◌, ◌^◌, ℕ, true, false, not, refl, sym, ap, subst, rules, inl, inr, arith, List, []}
use Rattle.std.proofs.Common.{◌∷◌, map, length, Option, Some, None, is_some, codes}
use Rattle.std.specs.Prelude.{pos, option_and_then, slice_get}
use Rattle.std.specs.List.{All, list_all, slice_index_or}
use Rattle.std.specs.Str.{bytes_eq}
use Rattle.std.specs.Borrow.{Bor}
use Rattle.clap.specs.Lexer.{without_minus}
use Rattle.clap.specs.Facts.{HasId, WantsDefault, args_of, groups_of, least_values, unwrap_or_range}
use Rattle.clap.specs.declared.builder.range.ValueRange.{ValueRange}
use Rattle.clap.specs.Texts.{items_of}
use Rattle.clap.specs.Built.{IsAuto, IsParsedFrom, IsPlainArg, NamesNoGroup}
use Rattle.clap.specs.Matches.{found_of, matched_of, one_text}
use Rattle.clap.specs.Walk.{Rule, Text, rule_of, texts}
use Rattle.clap.specs.Simple.{App, IsSimple, Shape, app_of, has_simple_rules, is_ready, is_ready_leaf, shape_of}
use Rattle.clap.specs.declared.builder.action.ArgAction.TheVariants.{Set}
use Rattle.clap.specs.declared.builder.arg.Arg.{Arg}
use Rattle.clap.specs.declared.builder.command.Command.{Command}
use Rattle.clap.specs.declared.builder.command.Command.TheViews.{out-Command}
use Rattle.clap.specs.declared.builder.value_parser.ValueParser.TheVariants as vp
use Rattle.clap.specs.declared.parser.matches.ArgMatches.{ArgMatches}
use Rattle.clap.proofs.CallerLemmas.{default_present, present_has_entry, required_present, same_rules_by_id}
use Rattle.clap.proofs.SimpleLemmas.{ready_simple, simple_groups}
use Rattle.clap.proofs.TakesLemmas.{each_rule, free_arg}
use Rattle.clap.proofs.WalkLemmas.{both}
use Rattle.command_words.specs.Arguments.{command_with, number_option, number_positional, written_number}
use Rattle.command_words.specs.internal.Matches.{ParsedBy, matched_number}
use Rattle.command_words.proofs.TextNumbers.{IsIn, unsigned_in, number_from}
use Rattle.command_words.proofs.ArgumentPlaces.{rule_at, only_at, only_one, is_own, is_not}
use Rattle.command_words.proofs.EntryTexts.{Keeps, found_read, has_entry}

-- the facts of a command that is a `command_with`
pub record IsWith (c : Command) (rules : List Rule) : Type 0 where
  pub simple : IsSimple c
  pub names_no_group : NamesNoGroup c
  pub negates : (out-Command c).subcommand_negates_reqs ≡ false
  pub are : map rule_of (args_of c) ≡ rules

is_with : (c : Command) (name : Text) (rules : List Rule) → app_of c ≡ command_with name rules
    → is_ready (command_with name rules).top ≡ true → IsWith c rules
is_with c name rules is ready =
    let top : shape_of c ≡ (command_with name rules).top = ap (λ (a : App). a.top) is in
    let here : is_ready (shape_of c) ≡ true = ap is_ready top ∙ ready in
    record {
      simple = ready_simple c here (ap (λ (a : App). list_all is_ready_leaf a.subs) is);
      names_no_group = simple_groups c (both _ _ (both (has_simple_rules (shape_of c)) _ here).0).1;
      negates = ap (λ (s : Shape). s.subcommand_negates_reqs) top;
      are = ap (λ (s : Shape). s.rules) top;
    }

-- the argument at place k has a number where it has an entry
with_entry : (c : Command) (m : ArgMatches) (p : IsParsedFrom c m) (rules : List Rule) → IsWith c rules
    → (k : ℕ) (d : Arg) → k < length (args_of c) → (r : Rule) → rule_of (slice_index_or (args_of c) k d) ≡ r
    → is_own r.id ≡ true → only_at r.id rules k ≡ true → r.action ≡ Some Set → r.range ≡ None
    → (low high : ℕ) → r.parser ≡ Some (vp.Signed (pos low) (pos high)) → high < 2 ^ 63
    → is_some (matched_of (found_of m) r.id) ≡ true → IsIn low high (option_and_then written_number (one_text (found_of m) r.id))
with_entry c m p rules w k d lt r at own only set range low high parser small some =
    let a = slice_index_or (args_of c) k d in
    let id : a.id.now ≡ r.id = ap (λ (x : Rule). x.id) at in
    let num : a.num_vals ≡ None = ap (λ (x : Rule). x.range) at ∙ range in
    let one : least_values a ≡ 1 = ap (λ (o : Option ValueRange). (unwrap_or_range o).start_inclusive) num in
    let least : 1 ≤ least_values a = omega arith in
    let unique : (j : ℕ) (e : Arg) → j < length (args_of c) → bytes_eq (slice_index_or (args_of c) j e).id.now a.id.now ≡ true → j ≡ k =
    λ j e low2 same. only_one (args_of c) r.id k j e (ap (λ (rs : List Rule). only_at r.id rs k) w.are ∙ only) low2
    (subst (λ (t : Text). bytes_eq (slice_index_or (args_of c) j e).id.now t ≡ true) id same) in
    let parts = both (not (bytes_eq r.id [])) _ own in
    let more = both (not (bytes_eq r.id (codes "help"))) _ parts.1 in
    let auto : IsAuto a
    → ⊥ = λ flag. elim flag [ inl h ↦ is_not r.id _ more.0 (sym id ∙ h) | inr h ↦ is_not r.id _ more.1 (sym id ∙ h) ] in
    let keeps : Keeps p.built a r.id = λ j y lt2 at2 same. same_rules_by_id c m p k d lt unique auto j y lt2 at2
    (subst (λ (t : Text). bytes_eq y.id.now t ≡ true) (sym id) same) in
    let none : groups_of p.built ≡ [] = (p.from.same_groups w.names_no_group).1 ∙ w.simple.groups in
    let parsed = p.parsed (p.from.globals ∙ w.simple.globals) in
    let read = found_read p.built a (found_of m) r.id low high keeps none (is_not r.id [] parts.0) (ap (λ (x : Rule). x.action) at ∙ set)
    (w.simple.args k d lt).delimiter least (ap (λ (x : Rule). x.parser) at ∙ parser) parsed.values (matched_of (found_of m) r.id) refl
    some in
    subst (λ (o : Option Text). IsIn low high (option_and_then written_number o)) (sym read.1)
    (number_from low high (without_minus read.0) (unsigned_in low high read.0 small read.2))

-- an option with a default has a number in its range
pub option_number : (c : Command) (m : ArgMatches) → IsParsedFrom c m → (name : Text) (rules : List Rule)
    → app_of c ≡ command_with name rules
    → is_ready (command_with name rules).top ≡ true
    → (k : ℕ) (id : Text) (low high : ℕ) (default : Text) → slice_get rules k ≡ Some (number_option id low high default)
    → is_own id ≡ true → only_at id rules k ≡ true → high < 2 ^ 63
    → IsIn low high (option_and_then written_number (one_text (found_of m) id))
option_number c m p name rules is ready k id low high default at own only small =
    let w = is_with c name rules is ready in
    let r = number_option id low high default in
    let here = rule_at (args_of c) k r (ap (λ (rs : List Rule). slice_get rs k) w.are ∙ at) in
    let a = slice_index_or (args_of c) k here.0 in
    let id_is : a.id.now ≡ id = ap (λ (x : Rule). x.id) here.2 in
    let texts_are : texts (items_of a.default_vals) ≡ default ∷ [] = ap (λ (x : Rule). x.defaults) here.2 in
    let wants : WantsDefault a = ((w.simple.args k here.0 here.1).default_ifs, some_texts (items_of a.default_vals) default texts_are) in
    let has : HasId (found_of m) id = subst (λ (t : Text). HasId (found_of m) t) id_is
    (default_present c m p w.simple.globals k here.0 here.1 wants) in
    with_entry c m p rules w k here.0 here.1 r here.2 own only refl refl low high refl small (has_entry (found_of m).entries.items id has)
  where
    some_texts : (ts : List (Bor Text)) (t : Text) → texts ts ≡ t ∷ [] → 0 < length ts
    some_texts [] t e = cc
    some_texts (x ∷ xs) t e = omega arith

-- and so has a positional that has to be given
pub positional_number : (c : Command) (m : ArgMatches) → IsParsedFrom c m → (name : Text) (rules : List Rule)
    → app_of c ≡ command_with name rules
    → is_ready (command_with name rules).top ≡ true → list_all (λ r. r.is_free) rules ≡ true
    → (k : ℕ) (id : Text) (low high : ℕ) → slice_get rules k ≡ Some (number_positional id low high)
    → is_own id ≡ true → only_at id rules k ≡ true → high < 2 ^ 63
    → IsIn low high (option_and_then written_number (one_text (found_of m) id))
positional_number c m p name rules is ready free k id low high at own only small =
    let w = is_with c name rules is ready in
    let r = number_positional id low high in
    let here = rule_at (args_of c) k r (ap (λ (rs : List Rule). slice_get rs k) w.are ∙ at) in
    let a = slice_index_or (args_of c) k here.0 in
    let id_is : a.id.now ≡ id = ap (λ (x : Rule). x.id) here.2 in
    let all_free = each_rule (λ (x : Rule). x.is_free) (args_of c) (ap (list_all (λ (x : Rule). x.is_free)) w.are ∙ free) in
    let plain_args : All IsPlainArg (args_of c) = λ i e lt.
    let f = free_arg (slice_index_or (args_of c) i e) (w.simple.args i e lt) (all_free i e lt) in
    (f.exclusive, f.conflicts, f.overrides, w.names_no_group i e lt) in
    let present = required_present c m p (plain_args, w.simple.groups) w.simple.globals w.negates k here.0 here.1
    (ap (λ (x : Rule). x.required) here.2) in
    with_entry c m p rules w k here.0 here.1 r here.2 own only refl refl low high refl small
    (subst (λ (t : Text). is_some (matched_of (found_of m) t) ≡ true) id_is (present_has_entry (found_of m) a.id.now present))

number_here : (m : ArgMatches) (id : Text) (low high : ℕ) → high < 2 ^ 32 → (x : ℕ) → ((n : ℕ) → matched_number m id ≡ Some n
    → n < 2 ^ 32 → x ≡ n)
    → IsIn low high (matched_number m id) → (matched_number m id ≡ Some x) × (low ≤ x) × (x ≤ high)
number_here m id low high small x read n =
    let is : x ≡ n.0 = read n.0 n.1 (omega arith) in
    (n.1 ∙ ap (λ (y : ℕ). Some y) (sym is), omega arith, omega arith)

-- the number of an option
pub option_in : (name : Text) (rules : List Rule) → is_ready (command_with name rules).top ≡ true
    → (m : ArgMatches) → ParsedBy (command_with name rules) m
    → (k : ℕ) (id : Text) (low high : ℕ) (default : Text) → slice_get rules k ≡ Some (number_option id low high default)
    → is_own id ≡ true → only_at id rules k ≡ true → high < 2 ^ 32
    → (x : ℕ) → ((n : ℕ) → matched_number m id ≡ Some n → n < 2 ^ 32 → x ≡ n)
    → (matched_number m id ≡ Some x) × (low ≤ x) × (x ≤ high)
option_in name rules ready m parsed k id low high default at own only small x read =
    number_here m id low high small x read
    (option_number parsed.0 m parsed.2 name rules parsed.1 ready k id low high default at own only (omega arith))

-- and of a positional
pub positional_in : (name : Text) (rules : List Rule) → is_ready (command_with name rules).top ≡ true
    → list_all (λ r. r.is_free) rules ≡ true
    → (m : ArgMatches) → ParsedBy (command_with name rules) m
    → (k : ℕ) (id : Text) (low high : ℕ) → slice_get rules k ≡ Some (number_positional id low high)
    → is_own id ≡ true → only_at id rules k ≡ true → high < 2 ^ 32
    → (x : ℕ) → ((n : ℕ) → matched_number m id ≡ Some n → n < 2 ^ 32 → x ≡ n)
    → (matched_number m id ≡ Some x) × (low ≤ x) × (x ≤ high)
positional_in name rules ready free m parsed k id low high at own only small x read =
    number_here m id low high small x read
    (positional_number parsed.0 m parsed.2 name rules parsed.1 ready free k id low high at own only (omega arith))

-- a command takes the words where no step of a parse fails, and refuses them where one does
