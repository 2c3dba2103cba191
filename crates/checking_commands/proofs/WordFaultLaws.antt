-- Where the refusals of machine words stand.
use Rattle.std.proofs.Common.{◌≡◌, ℕ, ◌<◌, ◌≤◌, true, List, length, arith}
use Rattle.std.specs.List.{list_all, AllByRecursion}
use Rattle.base_library.proofs.Each.{each_left, each_right, each_map}
use Rattle.base_library.proofs.Finds.{found_has}
use Rattle.tsl_terms.specs.declared.names.NameKind.TheVariants.{Signal}
use Rattle.tsl_terms.specs.Name.{Name, is_name}
use Rattle.table_syntax.specs.Syntax.{TextToken, text_tokens, WordEntry, WordsSyntax}
use Rattle.table_syntax.specs.Grammar.{IsWordEntry, word_function, word_predicate, word_cell, AreWordEntries, no_word_entry}
use Rattle.table_syntax.specs.Grammar.{more_word_entries, IsWords, words}
use Rattle.table_syntax.specs.Forms.{IsRead}
use Rattle.entry_names.specs.Needed.{needed}
use Rattle.entry_names.specs.Entries.{word_subject_of}
use Rattle.word_interp.specs.declared.WordError.{WordError}
use Rattle.word_interp.specs.declared.WordError.TheVariants.{Byte, OpenComment, Form, Width, Unknown, Twice, Missing, Arity, Range, NoMemory}
use Rattle.word_interp.specs.Words.{HasWordsCause, subjects_of}
use Rattle.checking_commands.specs.internal.RunFaultPlaces.{WordStandsIn}
use Rattle.checking_commands.proofs.RunFaultLaws.{form_stands, LiesIn, each_lies, unknown_stands, second_stands, needed_below}

module _ (P : TextToken → Type 0) where
  entry_name : (xs : List TextToken) (e : WordEntry) → IsWordEntry xs e → AllByRecursion P xs → P e.name
  entry_name _ _ (word_function x y word name operation) each = each.1.0
  entry_name _ _ (word_predicate x y z t word symbol test) each = each.1.0
  entry_name _ _ (word_cell x y z n word name number) each = each.1.0

  entry_names : (xs : List TextToken) (es : List WordEntry) → AreWordEntries xs es → AllByRecursion P xs → AllByRecursion (λ e. P e.name) es
  entry_names _ _ no_word_entry each = tt
  entry_names _ _ (more_word_entries {xs} {ys} {e} {es} first rest) each =
      (entry_name xs e first (each_left P xs ys each), entry_names ys es rest (each_right P xs ys each))

  word_names : (xs : List TextToken) (given : WordsSyntax) → IsWords xs given → AllByRecursion P xs →
      AllByRecursion (λ e. P e.name) given.entries
  word_names _ _ (words {xs} {es} a b c d n is_a is_b is_c is_d some entries) each = entry_names xs es entries each.1.1.1.1

entries_lie : (text : List ℕ) (given : WordsSyntax) → IsRead IsWords text given →
    AllByRecursion (λ e. LiesIn text e.name) (subjects_of given)
entries_lie text given read =
    each_map (λ e. LiesIn text e.name) word_subject_of given.entries
    (word_names (LiesIn text) (text_tokens text read.tokens) given read.derived (each_lies text read.tokens read.tokens_are))

pub word_cause_stands : (text : List ℕ) (names : List Name) (cells : List ℕ) (error : WordError) →
    list_all (λ s. is_name names s Signal 0) cells ≡ true → HasWordsCause text names cells error → WordStandsIn text names error
word_cause_stands text names cells (Byte at) named h = omega (arith, h.place)
word_cause_stands text names cells (OpenComment at) named h = omega (arith, h.place)
word_cause_stands text names cells (Form at) named h = form_stands IsWords text at h
word_cause_stands text names cells Width named h = tt
word_cause_stands text names cells (Unknown start end) named h =
    unknown_stands text names (needed names cells) (subjects_of h.given) (entries_lie text h.given h.read.read) start end h.cause
word_cause_stands text names cells (Twice start end) named h =
    second_stands text names (needed names cells) (subjects_of h.given) (entries_lie text h.given h.read.read) start end h.cause
word_cause_stands text names cells (Missing id) named h =
    found_has _ (λ i. i < length names) (needed names cells) id (needed_below names cells named) h.cause.first
word_cause_stands text names cells (Arity id) named h =
    found_has _ (λ i. i < length names) (needed names cells) id (needed_below names cells named) h.cause.first
word_cause_stands text names cells (Range id value) named h =
    found_has _ (λ i. i < length names) (needed names cells) id (needed_below names cells named) h.cause.first
word_cause_stands text names cells NoMemory named h = tt
