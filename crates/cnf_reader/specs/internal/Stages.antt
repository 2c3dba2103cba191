-- Internal: what a word or the end of a line changes in what comes next. Only private functions of this crate use these words.
use Rattle.std.specs.Prelude.{ℕ, cond, List, codes, bytes_eq}
use Rattle.std.specs.Option.{option_map_or}
use Rattle.tsl_text.specs.Numbers.{number_in}
use Rattle.cnf_reader.specs.declared.stages.Heading.{Heading}
use Rattle.cnf_reader.specs.declared.stages.Heading.TheVariants.{Kind, Form, Variables, Clauses, Ended}
use Rattle.cnf_reader.specs.declared.stages.Stage.{Stage}
use Rattle.cnf_reader.specs.declared.stages.Stage.TheVariants.{Comments, Header, Numbers, Wrong}
use Rattle.cnf_reader.specs.internal.Told.{Tells, fresh}

-- where the header's line ends
abbrev pub at_end : Heading → ℕ → Stage
at_end Ended line = Numbers
at_end _ line = Wrong line

-- where this line ends and a comment begins
abbrev pub at_comment : Stage → ℕ → Stage
at_comment (Header heading) line = at_end heading line
at_comment stage line = stage

-- where this line ends and one begins that is no comment
abbrev pub at_data_line : Stage → ℕ → Stage
at_data_line Comments line = Header Kind
at_data_line (Header heading) line = at_end heading line
at_data_line stage line = stage

-- after a part of a word on this line that is longer than any right word
abbrev pub after_long_word : Stage → ℕ → Stage
after_long_word Comments line = Comments
after_long_word (Wrong first) line = Wrong first
after_long_word _ line = Wrong line

-- after a word of the header
abbrev pub header_stage : Heading → ℕ → List ℕ → Stage
header_stage Kind line word = cond (bytes_eq word (codes "p")) (Header Form) (Wrong line)
header_stage Form line word = cond (bytes_eq word (codes "cnf")) (Header Variables) (Wrong line)
header_stage Variables line word = option_map_or (λ variables. Header (Clauses variables)) (number_in word) (Wrong line)
header_stage (Clauses variables) line word = option_map_or (λ clauses. Header Ended) (number_in word) (Wrong line)
header_stage Ended line word = Wrong line

-- what is told after a word of the header: the counts, where it is the last one
abbrev pub header_tells : Heading → Tells → List ℕ → Tells
header_tells (Clauses variables) told word =
    option_map_or (λ clauses. fresh (record { variables = variables; clauses = clauses })) (number_in word) told
header_tells _ told word = told
