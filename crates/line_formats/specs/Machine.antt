-- Texts that are read line by line: what the lines so far say, a state, decides which line may come next. Each line has
-- its line feed; where the last one may lack it, the text is taken with that line feed.
use Rattle.std.specs.Prelude.{◌≡◌, ℕ, suc, ◌+◌, Bool, true, false, List, [], ◌∷◌, ◌++◌, length, Option, Some, None, option_and_then, Result}
use Rattle.std.specs.Prelude.{Ok, Err, IsTrue, if◌then◌else◌}
use Rattle.std.specs.List.{list_all}
use Rattle.tsl_text.specs.Lines.{NumberedLine, is_ended}
use Rattle.tsl_text.specs.Written.{is_line, text_of_lines}
use Rattle.line_formats.specs.declared.lines.LastLine.{LastLine}
use Rattle.line_formats.specs.declared.lines.LastLine.TheVariants.{Ended, MayLackFeed}

-- the text with the line feed that its last line lacks
abbrev pub with_last_feed : List ℕ → List ℕ
with_last_feed text = if is_ended text then text else text ++ 10 ∷ []

-- the text as it is read
abbrev pub text_taken : LastLine → List ℕ → List ℕ
text_taken Ended text = text
text_taken MayLackFeed text = with_last_feed text

module _ {S : Type 0} where
  -- the state after these lines, where this one is before them
  abbrev pub steps : (S → List ℕ → Option S) → S → List (List ℕ) → Option S
  steps step s [] = Some s
  steps step s (l ∷ ls) = option_and_then (λ t. steps step t ls) (step s l)

  abbrev pub or_wrong : ℕ → Option S → (S → Result S ℕ) → Result S ℕ
  or_wrong number None rest = Err number
  or_wrong number (Some s) rest = rest s

  abbrev pub where_ended : Bool → ℕ → Result S ℕ → Result S ℕ
  where_ended true number answer = answer
  where_ended false number answer = Err number

  -- The state after the lines that are left, the first of which has this number; or the first line at fault. Where a line
  -- is missing, it is the one after the last.
  abbrev pub read_from : (S → List ℕ → Option S) → (S → Bool) → S → ℕ → List NumberedLine → Result S ℕ
  read_from step whole s number [] = where_ended (whole s) number (Ok s)
  read_from step whole s number (l ∷ ls) =
      where_ended l.ended number (or_wrong number (step s l.bytes) (λ t. read_from step whole t (number + 1) ls))

  -- these lines are a whole text, and this is what they say
  pub record IsText (step : S → List ℕ → Option S) (whole : S → Bool) (start : S) (ls : List (List ℕ)) (end : S) : Type 0 where
    pub lines : IsTrue (list_all is_line ls)
    pub says : steps step start ls ≡ Some end
    pub done : IsTrue (whole end)

  -- The line with this number is the first at fault: some text begins with the lines before it, but none with these lines
  -- and it, and the text itself is none.
  pub record IsFirstWrong (step : S → List ℕ → Option S) (whole : S → Bool) (start : S) (text : List ℕ) (line : ℕ) : Type 0 where
    pub before : List (List ℕ)
    pub after : List ℕ
    pub split : text ≡ text_of_lines before ++ after
    pub number : line ≡ suc (length before)
    pub ending : List (List ℕ)
    pub end : S
    pub goes_on : IsText step whole start (before ++ ending) end
    pub here : (l rest : List ℕ) (more : List (List ℕ)) (t : S) → after ≡ l ++ 10 ∷ rest → IsTrue (is_line l) →
        IsText step whole start (before ++ l ∷ more) t → ⊥
    pub none : (ls : List (List ℕ)) (t : S) → IsText step whole start ls t → text ≡ text_of_lines ls → ⊥

  -- Each state that is reached can be gone on from: this holds at the start, each line keeps it, and where it holds some
  -- lines lead to the end.
  pub record IsLive (step : S → List ℕ → Option S) (whole : S → Bool) (start : S) (Holds : S → Type 0) : Type 0 where
    pub first : Holds start
    pub kept : (s t : S) (l : List ℕ) → Holds s → step s l ≡ Some t → Holds t
    pub ends : (s : S) → Holds s → (ls : List (List ℕ)) × (t : S) × IsText step whole s ls t
