-- What the words ask for.
use Rattle.std.specs.Prelude.{ℕ, nat_le, Bool, true, false, cond, ◌&&◌, List, [], ◌∷◌, codes, Option, Some, None, option_map, option_and_then}
use Rattle.std.specs.Str.{bytes_eq}
use Rattle.tsl_text.specs.Numbers.{number_in}
use Rattle.solve_tool.specs.declared.request.Request.{Request}
use Rattle.solve_tool.specs.declared.request.TheConstants.{MOST_BUDGET}

-- a budget: how many clauses may be learnt
abbrev pub as_budget : ℕ → Option ℕ
as_budget n = cond (nat_le 1 n && nat_le n MOST_BUDGET) (Some n) None

abbrev pub budget_in : List ℕ → Option ℕ
budget_in word = option_and_then as_budget (number_in word)

abbrev pub with_budget : Bool → List ℕ → Option Request
with_budget log word = option_map (λ n. record { budget = n; log = log }) (budget_in word)

-- nothing, `--log`, `--budget NUMBER`, or both of them in any order
abbrev pub request_of : List (List ℕ) → Option Request
request_of [] = Some (record { budget = MOST_BUDGET; log = false })
request_of (a ∷ []) = cond (bytes_eq a (codes "--log")) (Some (record { budget = MOST_BUDGET; log = true })) None
request_of (a ∷ b ∷ []) = cond (bytes_eq a (codes "--budget")) (with_budget false b) None
request_of (a ∷ b ∷ c ∷ []) =
    cond (bytes_eq a (codes "--budget") && bytes_eq c (codes "--log")) (with_budget true b)
    (cond (bytes_eq a (codes "--log") && bytes_eq b (codes "--budget")) (with_budget true c) None)
request_of _ = None
