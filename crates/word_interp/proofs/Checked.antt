-- What stands at the places of names is what the entries give for them.
use Rattle.std.proofs.Common.{◌≡◌, ◌∙◌, ℕ, suc, ◌+◌, ◌<◌, Bool, cond, List, [], ◌∷◌, ◌++◌, length, map}
use Rattle.std.proofs.Common.{Option, Some, refl, sym, ap, arith}
use Rattle.std.specs.Prelude.{option_map, option_and_then, is_some, All}
use Rattle.std.specs.List.{find, AllByRecursion}
use Rattle.std.proofs.lemmas.Option.{slice_get-map}
use Rattle.std.proofs.lemmas.List.{map-append}
use Rattle.std.proofs.lemmas.List.Elements.{recursion_from_All}
use Rattle.base_library.specs.Numbers.{numbers_from}
use Rattle.base_library.proofs.Numbers.{numbers_at, numbers_more}
use Rattle.base_library.proofs.Lists.{map_map}
use Rattle.base_library.proofs.Finds.{found_has}
use Rattle.base_library.proofs.Each.{each_weaker}
use Rattle.tsl_terms.specs.Name.{Name}
use Rattle.tsl_meaning.specs.Interpretation.{Interpretation}
use Rattle.table_syntax.specs.declared.words.Given.{Given}
use Rattle.table_syntax.specs.Syntax.{WordEntry, WordsSyntax}
use Rattle.entry_names.specs.Needed.{needed}
use Rattle.word_interp.specs.Operations.{table_given, value_given}
use Rattle.word_interp.specs.Words.{domain_of, given_for, takes_others, no_word, has_other_arity, too_large}
use Rattle.word_interp.specs.Words.{AreInRange, Gives}
use Rattle.word_interp.specs.internal.Applied.{given_at}

-- ---- all names

-- one more
pub mapped_more : {X : Type 0} (f : ℕ → X) (n : ℕ) (xs : List X) (x : X) → x ≡ f n → xs ≡ map f (numbers_from 0 n) →
    xs ++ x ∷ [] ≡ map f (numbers_from 0 (n + 1))
mapped_more f n xs x is h =
    (λ i. h i ++ is i ∷ []) ∙ sym (map-append f (numbers_from 0 n) (n ∷ []))
    ∙ ap (map f) (sym (ap (numbers_from 0) (let e : n + 1 ≡ suc n = omega arith in e) ∙ numbers_more 0 n n (omega arith)))

find_agree : {X : Type 0} (p q : X → Bool) (xs : List X) → AllByRecursion (λ x. p x ≡ q x) xs → find p xs ≡ find q xs
find_agree p q [] each = refl
find_agree p q (x ∷ xs) each = λ i. cond (each.0 i) (Some x) (find_agree p q xs each.1 i)

map_each : {X Y : Type 0} (f g : X → Y) (xs : List X) → AllByRecursion (λ x. f x ≡ g x) xs → map f xs ≡ map g xs
map_each f g [] each = refl
map_each f g (x ∷ xs) each = λ i. each.0 i ∷ map_each f g xs each.1 i

module _ (names : List Name) (entries : List WordEntry) (given : List (Option Given))
    (is : given ≡ map (given_for names entries) (numbers_from 0 (length names))) where
  given_here : (id : ℕ) → id < length names → given_at given id ≡ given_for names entries id
  given_here id within =
      ap (λ gs. given_at gs id) is
      ∙ ap (option_and_then (λ g. g)) (slice_get-map (given_for names entries) (numbers_from 0 (length names)) id
      ∙ ap (option_map (given_for names entries)) (numbers_at 0 (length names) id within
      ∙ ap (λ n. Some n) (let e : 0 + id ≡ id = omega arith in e)))

  -- a search by places is one by entries
  pub same_search : (test : ℕ → Option Given → Bool) (ids : List ℕ) → All (λ id. id < length names) ids →
      find (λ id. test id (given_at given id)) ids ≡ find (λ id. test id (given_for names entries id)) ids
  same_search test ids within =
      find_agree (λ id. test id (given_at given id)) (λ id. test id (given_for names entries id)) ids
      (each_weaker (λ id. id < length names) (λ id. test id (given_at given id) ≡ test id (given_for names entries id))
      (λ id inside. ap (test id) (given_here id inside)) ids (recursion_from_All (λ id. id < length names) ids within))

  pub same_tables : (domain : ℕ) → map (table_given domain) given
      ≡ map (λ id. table_given domain (given_for names entries id)) (numbers_from 0 (length names))
  same_tables domain =
      ap (map (table_given domain)) is ∙ map_map (table_given domain) (given_for names entries) (numbers_from 0 (length names))

  pub same_values : (domain : ℕ) (cells : List ℕ) → All (λ s. s < length names) cells →
      map (λ s. value_given domain (given_at given s)) cells ≡ map (λ s. value_given domain (given_for names entries s)) cells
  same_values domain cells within =
      map_each (λ s. value_given domain (given_at given s)) (λ s. value_given domain (given_for names entries s)) cells
      (each_weaker (λ id. id < length names) (λ s. value_given domain (given_at given s) ≡ value_given domain (given_for names entries s))
      (λ s inside. ap (value_given domain) (given_here s inside)) cells (recursion_from_All (λ s. s < length names) cells within))

-- ---- what the checks say

module _ (names : List Name) (cells : List ℕ) (text : WordsSyntax) (domain : ℕ) (given : List (Option Given)) (ids : List ℕ)
    (d : domain ≡ domain_of text) (is : given ≡ map (given_for names text.entries) (numbers_from 0 (length names)))
    (n : ids ≡ needed names cells) (within : All (λ id. id < length names) ids) where
  pub arities : find (λ id. takes_others domain names id (given_at given id)) ids ≡ find (has_other_arity names text) (needed names cells)
  arities =
      same_search names text.entries given is (λ id g. takes_others domain names id g) ids within
      ∙ (λ i. find (λ id. takes_others (d i) names id (given_for names text.entries id)) (n i))

  pub numbers : find (λ id. is_some (no_word domain (given_at given id))) ids
      ≡ find (λ id. is_some (too_large names text id)) (needed names cells)
  numbers =
      same_search names text.entries given is (λ id g. is_some (no_word domain g)) ids within
      ∙ (λ i. find (λ id. is_some (no_word (d i) (given_for names text.entries id))) (n i))

  pub number : (id : ℕ) → Some id ≡ find (λ i. is_some (no_word domain (given_at given i))) ids →
      no_word domain (given_at given id) ≡ too_large names text id
  number id first =
      let inside : id < length names =
      found_has (λ i. is_some (no_word domain (given_at given i))) (λ i. i < length names) ids id
      (recursion_from_All (λ i. i < length names) ids within) (sym first) in
      ap (no_word domain) (given_here names text.entries given is id inside) ∙ ap (λ m. no_word m (given_for names text.entries id)) d

-- ---- what the parts are made of

pub gives : (names : List Name) (cells : List ℕ) (text : WordsSyntax) (interpretation : Interpretation) (domain : ℕ)
    (given : List (Option Given)) (kept : List ℕ) → domain ≡ domain_of text →
    given ≡ map (given_for names text.entries) (numbers_from 0 (length names)) → kept ≡ cells → All (λ s. s < length names) cells →
    AreInRange names cells text → interpretation.domain ≡ domain → interpretation.tables ≡ map (table_given domain) given →
    interpretation.initial ≡ map (λ s. value_given domain (given_at given s)) kept → Gives names cells text interpretation
gives names cells text interpretation domain given kept d is k within range size tables initial = record {
  in_range = range;
  domain = size ∙ d;
  tables =
      tables ∙ same_tables names text.entries given is domain
      ∙ ap (λ m. map (λ id. table_given m (given_for names text.entries id)) (numbers_from 0 (length names))) d;
  initial =
      initial ∙ ap (map (λ s. value_given domain (given_at given s))) k ∙ same_values names text.entries given is domain cells within
      ∙ ap (λ m. map (λ s. value_given m (given_for names text.entries s)) cells) d;
}
