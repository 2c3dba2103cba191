-- The words of a log's line, one by one, and its lines.
use Rattle.std.proofs.Common.{◌≡◌, ℕ, zero, suc, ◌<◌, ◌≤◌, Bool, true, false, not, cond, ◌&&◌, ℤ, pos, negsuc, List, [], ◌∷◌, ◌++◌, map}
use Rattle.std.proofs.Common.{length, Option, Some, None, All, sym, ap, ◌∙◌, refl, arith}
use Rattle.std.specs.Prelude.{nat_abs, find, filter_map, option_map, option_to_list, is_some, IfSome, IfNone}
use Rattle.std.specs.List.{slice_split, onto_first, list_all, cons_option}
use Rattle.std.proofs.lemmas.Bool.{and_from, true≢false, false≢true}
use Rattle.std.proofs.lemmas.List.{append-nil, append_assoc}
use Rattle.std.proofs.lemmas.List.Elements.{All-append, All-cons, All-nil, All-head, All-tail}
use Rattle.clause_core.specs.Literals.{Lit, signed_number_of, literal_of}
use Rattle.clause_core.specs.Clauses.{in_order}
use Rattle.refutation_check.specs.declared.steps.Step.{Step}
use Rattle.refutation_check.specs.declared.lrat.Line.{Line}
use Rattle.refutation_check.specs.declared.lrat.Line.TheVariants.{Says, NoEffect, Wrong}
use Rattle.tsl_text.specs.Lines.{NumberedLine}
use Rattle.tsl_text.specs.Numbers.{signed_number_in}
use Rattle.refutation_check.specs.Numbers.{is_zero}
use Rattle.base_library.proofs.Passes.{not_all as some_fails}
use Rattle.base_library.specs.Options.{all_there, passes}
use Rattle.refutation_check.specs.LogText.{is_log, is_literal, is_hint, step_of, step_of_parts, step_of_numbers, line_answer, is_wrong}
use Rattle.refutation_check.specs.LogText.{step_in}
use Rattle.refutation_check.specs.internal.Reading.{with_literals, with_hints, with_both, log_among, log_after, HasHintsWithin}
use Rattle.refutation_check.proofs.NumberLemmas.{onto_front, onto_front-nil, has_no_zero, split_front, split_at_zero, split_behind}

literals_no_zero : (literals : List Lit) → has_no_zero (map signed_number_of literals) ≡ true
literals_no_zero [] = refl
literals_no_zero (l ∷ ls) =
    and_from (not (is_zero (signed_number_of l))) (has_no_zero (map signed_number_of ls)) (by_sign l.index l.positive) (literals_no_zero ls)
  where
    by_sign : (i : ℕ) (p : Bool) → not (is_zero (cond p (pos (suc i)) (negsuc i))) ≡ true
    by_sign i true = refl
    by_sign i false = refl

hints_pass : (test : ℤ → Bool) → ((n : ℕ) → test (pos (suc n)) ≡ true) → (hints : List ℕ) → All (λ hint. 0 < hint) hints →
    list_all test (map pos hints) ≡ true
hints_pass test each [] some = refl
hints_pass test each (zero ∷ hs) some = absurd (omega (arith, All-head (λ hint. 0 < hint) zero hs some))
hints_pass test each (suc n ∷ hs) some =
    and_from (test (pos (suc n))) (list_all test (map pos hs)) (each n)
    (hints_pass test each hs (All-tail (λ hint. 0 < hint) (suc n) hs some))

hints_no_zero : (hints : List ℕ) → All (λ hint. 0 < hint) hints → has_no_zero (map pos hints) ≡ true
hints_no_zero hints some = hints_pass (λ n. not (is_zero n)) (λ n. refl) hints some

not_all : (test : ℤ → Bool) (xs : List ℤ) (n : ℤ) (ys : List ℤ) → test n ≡ false → list_all test ((xs ++ n ∷ []) ++ ys) ≡ false
not_all test xs n ys e = ap (list_all test) (append_assoc xs (n ∷ []) ys) ∙ some_fails test xs n ys e

-- ---- parts

no_step : (name : ℕ) (literals hints : List ℤ) → list_all is_literal literals && list_all is_hint hints ≡ false →
    step_of name literals hints ≡ Wrong
no_step name literals hints e =
    ap (λ b. cond b (Says (record { number = name; clause = in_order (map literal_of literals); hints = map nat_abs hints })) Wrong) e

bad_first : (name : ℕ) (first : List ℤ) (rest : List (List ℤ)) → list_all is_literal first ≡ false →
    step_of_parts name (first ∷ rest) ≡ Wrong
bad_first name first [] e = refl
bad_first name first (second ∷ []) e = refl
bad_first name first (second ∷ [] ∷ []) e = no_step name first second (ap (λ b. b && list_all is_hint second) e)
bad_first name first (second ∷ [] ∷ fourth ∷ rest) e = refl
bad_first name first (second ∷ (n ∷ ns) ∷ rest) e = refl

bad_second : (name : ℕ) (first second : List ℤ) (rest : List (List ℤ)) → list_all is_hint second ≡ false →
    step_of_parts name (first ∷ second ∷ rest) ≡ Wrong
bad_second name first second [] e = refl
bad_second name first second ([] ∷ []) e =
    no_step name first second (ap (λ b. list_all is_literal first && b) e ∙ never (list_all is_literal first))
  where
    never : (b : Bool) → b && false ≡ false
    never true = refl
    never false = refl
bad_second name first second ([] ∷ fourth ∷ rest) e = refl
bad_second name first second ((n ∷ ns) ∷ rest) e = refl

more_behind : (name : ℕ) (first second : List ℤ) (n : ℤ) (ns : List ℤ) →
    step_of_parts name (first ∷ second ∷ slice_split is_zero (n ∷ ns)) ≡ Wrong
more_behind name first second n ns = by_test (is_zero n) (slice_split is_zero ns) (onto_front-nil ns)
  where
    by_test : (b : Bool) (parts : List (List ℤ)) → onto_front [] parts ≡ parts →
        step_of_parts name (first ∷ second ∷ cond b ([] ∷ parts) (onto_first n parts)) ≡ Wrong
    by_test true [] e = absurd cc
    by_test true (part ∷ parts) e = refl
    by_test false [] e = refl
    by_test false (part ∷ parts) e = refl

-- ---- literals

no_literal_number : (name : ℕ) (literals : List Lit) (n : ℤ) (rest : Option (List ℤ)) → is_zero n ≡ false → is_literal n ≡ false →
    step_of_numbers name (option_map (λ ns. map signed_number_of literals ++ ns) (option_map (λ ns. n ∷ ns) rest)) ≡ Wrong
no_literal_number name literals n None other none = refl
no_literal_number name literals n (Some ns) other none =
    ap (step_of_parts name) (split_behind (map signed_number_of literals) n ns (literals_no_zero literals) other)
    ∙ by_parts (slice_split is_zero ns)
  where
    by_parts : (parts : List (List ℤ)) → step_of_parts name (onto_front (map signed_number_of literals ++ n ∷ []) parts) ≡ Wrong
    by_parts [] = bad_first name (map signed_number_of literals ++ n ∷ []) []
        (ap (list_all is_literal) (sym (append-nil (map signed_number_of literals ++ n ∷ [])))
        ∙ not_all is_literal (map signed_number_of literals) n [] none)
    by_parts (part ∷ parts) =
        bad_first name ((map signed_number_of literals ++ n ∷ []) ++ part) parts
        (not_all is_literal (map signed_number_of literals) n part none)

pub no_literal : (name : ℕ) (literals : List Lit) (word : List ℕ) (words : List (List ℕ)) → passes is_zero (signed_number_in word) ≡ false →
    passes is_literal (signed_number_in word) ≡ false → with_literals name literals (word ∷ words) ≡ Wrong
no_literal name literals word words = by_number (signed_number_in word)
  where
    by_number : (o : Option ℤ) → passes is_zero o ≡ false → passes is_literal o ≡ false →
        step_of_numbers name (option_map (λ ns. map signed_number_of literals ++ ns) (all_there (o ∷ map signed_number_in words))) ≡ Wrong
    by_number None other none = refl
    by_number (Some n) other none = no_literal_number name literals n (all_there (map signed_number_in words)) other none

pub literals_end : (name : ℕ) (literals : List Lit) → with_literals name literals [] ≡ Wrong
literals_end name literals = ap (step_of_parts name) (split_front (map signed_number_of literals) [] (literals_no_zero literals))

-- ---- hints

no_hint_number : (name : ℕ) (literals : List Lit) (hints : List ℕ) (n : ℤ) (rest : Option (List ℤ)) → All (λ hint. 0 < hint) hints →
    is_zero n ≡ false → is_hint n ≡ false →
    step_of_numbers name (option_map (λ ns. map signed_number_of literals ++ pos 0 ∷ (map pos hints ++ ns))
    (option_map (λ ns. n ∷ ns) rest))
    ≡ Wrong
no_hint_number name literals hints n None some other none = refl
no_hint_number name literals hints n (Some ns) some other none =
    ap (step_of_parts name) (split_at_zero (map signed_number_of literals) (map pos hints ++ n ∷ ns) (literals_no_zero literals)
    ∙ ap (λ parts. map signed_number_of literals ∷ parts) (split_behind (map pos hints) n ns (hints_no_zero hints some) other))
    ∙ by_parts (slice_split is_zero ns)
  where
    by_parts : (parts : List (List ℤ)) → step_of_parts name (map signed_number_of literals ∷ onto_front (map pos hints ++ n ∷ []) parts)
        ≡ Wrong
    by_parts [] = bad_second name (map signed_number_of literals) (map pos hints ++ n ∷ []) []
        (ap (list_all is_hint) (sym (append-nil (map pos hints ++ n ∷ []))) ∙ not_all is_hint (map pos hints) n [] none)
    by_parts (part ∷ parts) =
        bad_second name (map signed_number_of literals) ((map pos hints ++ n ∷ []) ++ part) parts
        (not_all is_hint (map pos hints) n part none)

pub no_hint : (name : ℕ) (literals : List Lit) (hints : List ℕ) (word : List ℕ) (words : List (List ℕ)) → All (λ hint. 0 < hint) hints →
    passes is_zero (signed_number_in word) ≡ false → passes is_hint (signed_number_in word) ≡ false →
    with_hints name literals hints (word ∷ words) ≡ Wrong
no_hint name literals hints word words some = by_number (signed_number_in word)
  where
    by_number : (o : Option ℤ) → passes is_zero o ≡ false → passes is_hint o ≡ false →
        step_of_numbers name (option_map (λ ns. map signed_number_of literals ++ pos 0 ∷ (map pos hints ++ ns))
        (all_there (o ∷ map signed_number_in words))) ≡ Wrong
    by_number None other none = refl
    by_number (Some n) other none = no_hint_number name literals hints n (all_there (map signed_number_in words)) some other none

pub hints_end : (name : ℕ) (literals : List Lit) (hints : List ℕ) → All (λ hint. 0 < hint) hints → with_hints name literals hints [] ≡ Wrong
hints_end name literals hints some =
    ap (step_of_parts name) (split_at_zero (map signed_number_of literals) (map pos hints ++ []) (literals_no_zero literals)
    ∙ ap (λ parts. map signed_number_of literals ∷ parts) (split_front (map pos hints) [] (hints_no_zero hints some)))

-- ---- behind the hints

both_split : (name : ℕ) (literals : List Lit) (hints : List ℕ) (ns : List ℤ) → All (λ hint. 0 < hint) hints →
    step_of_parts name (slice_split is_zero (map signed_number_of literals ++ pos 0 ∷ (map pos hints ++ pos 0 ∷ ns)))
    ≡ step_of_parts name (map signed_number_of literals ∷ map pos hints ∷ slice_split is_zero ns)
both_split name literals hints ns some =
    ap (step_of_parts name) (split_at_zero (map signed_number_of literals) (map pos hints ++ pos 0 ∷ ns) (literals_no_zero literals)
    ∙ ap (λ parts. map signed_number_of literals ∷ parts) (split_at_zero (map pos hints) ns (hints_no_zero hints some)))

pub both_more : (name : ℕ) (literals : List Lit) (hints : List ℕ) (word : List ℕ) (words : List (List ℕ)) → All (λ hint. 0 < hint) hints →
    with_both name literals hints (word ∷ words) ≡ Wrong
both_more name literals hints word words some = by_first (signed_number_in word)
  where
    by_rest : (n : ℤ) (o : Option (List ℤ)) →
        step_of_numbers name (option_map (λ ns. map signed_number_of literals ++ pos 0 ∷ (map pos hints ++ pos 0 ∷ ns))
        (option_map (λ ns. n ∷ ns) o)) ≡ Wrong
    by_rest n None = refl
    by_rest n (Some ns) = both_split name literals hints (n ∷ ns) some
        ∙ more_behind name (map signed_number_of literals) (map pos hints) n ns

    by_first : (o : Option ℤ) →
        step_of_numbers name (option_map (λ ns. map signed_number_of literals ++ pos 0 ∷ (map pos hints ++ pos 0 ∷ ns))
        (all_there (o ∷ map signed_number_in words))) ≡ Wrong
    by_first None = refl
    by_first (Some n) = by_rest n (all_there (map signed_number_in words))

literals_again : (literals : List Lit) → map literal_of (map signed_number_of literals) ≡ literals
literals_again [] = refl
literals_again (l ∷ ls) = λ i. one l.index l.positive i ∷ literals_again ls i
  where
    one : (n : ℕ) (p : Bool) → literal_of (cond p (pos (suc n)) (negsuc n)) ≡ record { index = n; positive = p }
    one n true = refl
    one n false = refl

hints_again : (hints : List ℕ) → map nat_abs (map pos hints) ≡ hints
hints_again [] = refl
hints_again (h ∷ hs) = ap (λ ns. h ∷ ns) (hints_again hs)

pub both_end : (name : ℕ) (literals : List Lit) (hints : List ℕ) → list_all is_literal (map signed_number_of literals) ≡ true →
    All (λ hint. 0 < hint) hints →
    with_both name literals hints [] ≡ Says (record { number = name; clause = in_order literals; hints = hints })
both_end name literals hints all some =
    both_split name literals hints [] some
    ∙ (ap (λ b. cond b (Says
    (record {
      number = name;
      clause = in_order (map literal_of (map signed_number_of literals));
      hints = map nat_abs (map pos hints);
    })) Wrong)
    (and_from (list_all is_literal (map signed_number_of literals)) (list_all is_hint (map pos hints)) all
    (hints_pass is_hint (λ n. refl) hints some))
    ∙ (λ i. Says (record { number = name; clause = in_order (literals_again literals i); hints = hints_again hints i })))

-- where a first word was found
pub both_wrong : {X : Type 0} (found : Option X) (first : X → List ℕ) (later : X →
    List (List ℕ)) (name : ℕ) (literals : List Lit) (hints : List ℕ) (words : List (List ℕ)) → All (λ hint. 0 < hint) hints →
    IfSome found (λ x. words ≡ first x ∷ later x) → true ≡ is_some found → with_both name literals hints words ≡ Wrong
both_wrong None first later name literals hints words some begins there = absurd (true≢false there)
both_wrong (Some x) first later name literals hints words some begins there =
    ap (with_both name literals hints) begins ∙ both_more name literals hints (first x) (later x) some

-- and where none was
pub both_right : {X : Type 0} (found : Option X) (name : ℕ) (literals : List Lit) (hints : List ℕ) (words : List (List ℕ)) →
    list_all is_literal (map signed_number_of literals) ≡ true → All (λ hint. 0 < hint) hints → IfNone found (words ≡ []) →
    false ≡ is_some found →
    with_both name literals hints words ≡ Says (record { number = name; clause = in_order literals; hints = hints })
both_right (Some x) name literals hints words all some ends there = absurd (false≢true there)
both_right None name literals hints words all some ends there =
    ap (with_both name literals hints) ends ∙ both_end name literals hints all some

-- ---- lines

pub log_more : (lines : List NumberedLine) (line : NumberedLine) (after : List NumberedLine) (steps : List Step) → lines ≡ line ∷ after →
    is_wrong (line_answer line.bytes) ≡ false →
    log_among steps lines ≡ log_among (steps ++ option_to_list (step_in (line_answer line.bytes))) after
log_more lines line after steps first right =
    ap (log_among steps) first
    ∙ (ap (λ b. log_after steps (line ∷ after) (cond b (Some line) (find (λ l. is_wrong (line_answer l.bytes)) after))) right
    ∙ by_wrong (find (λ l. is_wrong (line_answer l.bytes)) after))
  where
    by_step : (o : Option Step) (rest : List Step) → steps ++ cons_option o rest ≡ (steps ++ option_to_list o) ++ rest
    by_step None rest = ap (λ xs. xs ++ rest) (sym (append-nil steps))
    by_step (Some s) rest = sym (append_assoc steps (s ∷ []) rest)

    by_wrong : (o : Option NumberedLine) →
        log_after steps (line ∷ after) o ≡ log_after (steps ++ option_to_list (step_in (line_answer line.bytes))) after o
    by_wrong (Some wrong) = refl
    by_wrong None = ap is_log (by_step (step_in (line_answer line.bytes)) (filter_map (λ l. step_in (line_answer l.bytes)) after))

pub few_more : (steps : List Step) (line : Line) (few most : ℕ) → few ≤ most → All (λ step. length step.hints ≤ most) steps →
    HasHintsWithin few line → All (λ step. length step.hints ≤ most) (steps ++ option_to_list (step_in line))
few_more steps (Says s) few most order all within =
    All-append (λ (step : Step). length step.hints ≤ most) steps (s ∷ []) all
    (All-cons (λ (step : Step). length step.hints ≤ most) s [] (omega (arith, within))
    (All-nil (λ (step : Step). length step.hints ≤ most)))
few_more steps NoEffect few most order all within =
    All-append (λ (step : Step). length step.hints ≤ most) steps [] all (All-nil (λ (step : Step). length step.hints ≤ most))
few_more steps Wrong few most order all within =
    All-append (λ (step : Step). length step.hints ≤ most) steps [] all (All-nil (λ (step : Step). length step.hints ≤ most))
