-- The grammars of tables, of words and of inputs, as relations on whole lists of terminals.
use Rattle.std.specs.Prelude.{◌≡◌, ℕ, ◌≤◌, true, List, [], ◌∷◌, ◌++◌, codes, Some}
use Rattle.tsl_terms.specs.declared.names.NameKind.TheVariants.{Signal, Function, Predicate}
use Rattle.table_syntax.specs.declared.words.Operation.{Operation as WordOperation}
use Rattle.table_syntax.specs.declared.words.Operation.TheVariants.{Const}
use Rattle.table_syntax.specs.declared.words.Test.{Test as WordTest}
use Rattle.table_syntax.specs.declared.words.Given.TheVariants.{Operation, Test, Value}
use Rattle.table_syntax.specs.Syntax.{TextToken, is_name_token, is_symbol, is_word, is_numeral, number_at, Entry, TablesSyntax, InputsSyntax}
use Rattle.table_syntax.specs.Syntax.{operation_at, test_at, WordEntry, WordsSyntax}

-- NUMBER*
pub data AreNumbers : List TextToken → List ℕ → Type 0 where
  no_number : AreNumbers [] []
  more_numbers : {xs : List TextToken} {ns : List ℕ} (x : TextToken) (n : ℕ) → number_at x ≡ Some n → AreNumbers xs ns →
      AreNumbers (x ∷ xs) (n ∷ ns)

pub data IsEntry : List TextToken → Entry → Type 0 where
  -- "func" (name | "?") NUMBER*
  function : {xs : List TextToken} {ns : List ℕ} (x y : TextToken) → is_word (codes "func") x ≡ true → is_symbol y ≡ true →
      AreNumbers xs ns → IsEntry (x ∷ y ∷ xs) (record { kind = Function; name = y; numbers = ns })
  -- "pred" (name | "?") NUMBER*
  predicate : {xs : List TextToken} {ns : List ℕ} (x y : TextToken) → is_word (codes "pred") x ≡ true → is_symbol y ≡ true →
      AreNumbers xs ns → IsEntry (x ∷ y ∷ xs) (record { kind = Predicate; name = y; numbers = ns })
  -- "cell" name NUMBER
  cell : (x y z : TextToken) (n : ℕ) → is_word (codes "cell") x ≡ true → is_name_token y ≡ true → number_at z ≡ Some n →
      IsEntry (x ∷ y ∷ z ∷ []) (record { kind = Signal; name = y; numbers = n ∷ [] })

-- entry*
pub data AreEntries : List TextToken → List Entry → Type 0 where
  no_entry : AreEntries [] []
  more_entries : {xs ys : List TextToken} {e : Entry} {es : List Entry} → IsEntry xs e → AreEntries ys es →
      AreEntries (xs ++ ys) (e ∷ es)

pub data IsTables : List TextToken → TablesSyntax → Type 0 where
  -- tables = "tsltables" "1" "domain" NUMBER entry*
  tables : {xs : List TextToken} {es : List Entry} (a b c d : TextToken) (n : ℕ) → is_word (codes "tsltables") a ≡ true →
      is_numeral (codes "1") b ≡ true → is_word (codes "domain") c ≡ true → number_at d ≡ Some n → 1 ≤ n → AreEntries xs es →
      IsTables (a ∷ b ∷ c ∷ d ∷ xs) (record { domain = n; entries = es })

pub data IsOperation : List TextToken → WordOperation → Type 0 where
  -- op
  by_word : (x : TextToken) (o : WordOperation) → operation_at x ≡ Some o → IsOperation (x ∷ []) o
  -- "const" NUMBER
  constant : (x y : TextToken) (n : ℕ) → is_word (codes "const") x ≡ true → number_at y ≡ Some n → IsOperation (x ∷ y ∷ []) (Const n)

pub data IsWordEntry : List TextToken → WordEntry → Type 0 where
  -- "func" name op | "func" name "const" NUMBER
  word_function : {xs : List TextToken} {o : WordOperation} (x y : TextToken) → is_word (codes "func") x ≡ true →
      is_name_token y ≡ true → IsOperation xs o → IsWordEntry (x ∷ y ∷ xs) (record { name = y; given = Operation o })
  -- "pred" (name | "?") test
  word_predicate : (x y z : TextToken) (t : WordTest) → is_word (codes "pred") x ≡ true → is_symbol y ≡ true → test_at z ≡ Some t →
      IsWordEntry (x ∷ y ∷ z ∷ []) (record { name = y; given = Test t })
  -- "cell" name NUMBER
  word_cell : (x y z : TextToken) (n : ℕ) → is_word (codes "cell") x ≡ true → is_name_token y ≡ true → number_at z ≡ Some n →
      IsWordEntry (x ∷ y ∷ z ∷ []) (record { name = y; given = Value n })

-- entry*
pub data AreWordEntries : List TextToken → List WordEntry → Type 0 where
  no_word_entry : AreWordEntries [] []
  more_word_entries : {xs ys : List TextToken} {e : WordEntry} {es : List WordEntry} → IsWordEntry xs e → AreWordEntries ys es →
      AreWordEntries (xs ++ ys) (e ∷ es)

pub data IsWords : List TextToken → WordsSyntax → Type 0 where
  -- words = "tslwords" "1" "bits" NUMBER entry*
  words : {xs : List TextToken} {es : List WordEntry} (a b c d : TextToken) (n : ℕ) → is_word (codes "tslwords") a ≡ true →
      is_numeral (codes "1") b ≡ true → is_word (codes "bits") c ≡ true → number_at d ≡ Some n → 1 ≤ n → AreWordEntries xs es →
      IsWords (a ∷ b ∷ c ∷ d ∷ xs) (record { bits = n; entries = es })

-- ("input" name)*
pub data AreColumns : List TextToken → List TextToken → Type 0 where
  no_column : AreColumns [] []
  more_columns : {xs ns : List TextToken} (x y : TextToken) → is_word (codes "input") x ≡ true → is_name_token y ≡ true → AreColumns xs ns →
      AreColumns (x ∷ y ∷ xs) (y ∷ ns)

pub data AreRows : List TextToken → List (List ℕ) → Type 0 where
  -- row*
  no_row : AreRows [] []
  -- row = "row" NUMBER*
  more_rows : {xs ys : List TextToken} {ns : List ℕ} {rows : List (List ℕ)} (x : TextToken) → is_word (codes "row") x ≡ true →
      AreNumbers xs ns → AreRows ys rows → AreRows (x ∷ (xs ++ ys)) (ns ∷ rows)

pub data IsInputs : List TextToken → InputsSyntax → Type 0 where
  -- inputs = "tslinputs" "1" ("input" name)* "stem" row* "cycle" row row*
  inputs : {xs ys zs ns : List TextToken} {stem rows : List (List ℕ)} {row : List ℕ} (a b s c : TextToken) →
      is_word (codes "tslinputs") a ≡ true → is_numeral (codes "1") b ≡ true → AreColumns xs ns → is_word (codes "stem") s ≡ true →
      AreRows ys stem → is_word (codes "cycle") c ≡ true → AreRows zs (row ∷ rows) →
      IsInputs (a ∷ b ∷ (xs ++ s ∷ (ys ++ c ∷ zs))) (record { names = ns; stem = stem; cycle = row ∷ rows })
