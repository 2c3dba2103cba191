-- How terms, tests and updates are written: a signal is its name, a constant `c()`, an application
-- `f x (g y)`, and an argument that has arguments stands in brackets. An update is `[s <- t]`.
-- The spelling of terms is that of tsltools' specification format, in this project's profile.
use Rattle.std.specs.Prelude.{ℕ, Bool, true, ◌&&◌, nat_lt, List, [], ◌++◌, length, codes, slice_get, if◌then◌else◌}
use Rattle.std.specs.Option.{option_map_or}
use Rattle.tsl_terms.specs.Name.{Name}
use Rattle.tsl_terms.specs.TermTree.{TermTree, signal, apply, TermTrees, no_terms, more_terms, ProbeTree}
use Rattle.tsl_terms.specs.WellFormed.{is_question}

-- the text of the name with a number
abbrev pub name_text : List Name → ℕ → List ℕ
name_text names id = option_map_or (λ n. n.text) (slice_get names id) []

-- the text of an argument: one that has arguments stands in brackets
abbrev pub argument_text : TermTree → List ℕ → List ℕ
argument_text (apply f (more_terms t ts)) text = codes "(" ++ text ++ codes ")"
argument_text _ text = text

-- what follows the name of a function or a predicate: `()` where there is no argument
abbrev pub applied_text : TermTrees → List ℕ → List ℕ
applied_text no_terms text = codes "()"
applied_text (more_terms t ts) text = text

abbrev mutual
  pub term_text : List Name → TermTree → List ℕ
  term_text names (signal s) = name_text names s
  term_text names (apply f arguments) = name_text names f ++ applied_text arguments (arguments_text names arguments)

  -- a space and an argument, one after another
  pub arguments_text : List Name → TermTrees → List ℕ
  arguments_text names no_terms = []
  arguments_text names (more_terms t ts) = codes " " ++ argument_text t (term_text names t) ++ arguments_text names ts

-- a predicate applied to its arguments
abbrev pub application_text : List Name → ProbeTree → List ℕ
application_text names p =
    name_text names p.predicate ++ applied_text p.arguments (arguments_text names p.arguments)

-- a test of a Boolean signal is that signal's name
abbrev pub question_text : List Name → ProbeTree → TermTrees → List ℕ
question_text names p (more_terms (signal s) no_terms) = name_text names s
question_text names p _ = application_text names p

abbrev pub probe_text : List Name → ProbeTree → List ℕ
probe_text names p =
    if is_question names p.predicate then question_text names p p.arguments else application_text names p

abbrev pub update_text : List Name → ℕ → TermTree → List ℕ
update_text names s t = codes "[" ++ name_text names s ++ codes " <- " ++ term_text names t ++ codes "]"

-- Each number of a term is that of a name. What it stands for is not asked, so any such term can be written.
abbrev pub is_held : List Name → ℕ → Bool
is_held names id = nat_lt id (length names)

abbrev mutual
  pub term_is_held : List Name → TermTree → Bool
  term_is_held names (signal s) = is_held names s
  term_is_held names (apply f arguments) = is_held names f && terms_are_held names arguments

  pub terms_are_held : List Name → TermTrees → Bool
  terms_are_held names no_terms = true
  terms_are_held names (more_terms t ts) = term_is_held names t && terms_are_held names ts

abbrev pub probe_is_held : List Name → ProbeTree → Bool
probe_is_held names p = is_held names p.predicate && terms_are_held names p.arguments
