-- The texts that the steps take are those of automata, so the first wrong line is the first with which none goes on.
use Rattle.std.proofs.Common.{◌≡◌, ℕ, true, List, [], ◌∷◌, ◌++◌, refl, sym, ap, subst, ◌∙◌, append_assoc, append-nil}
use Rattle.std.specs.List.{list_all}
use Rattle.std.proofs.lemmas.Bool.{and_from}
use Rattle.base_library.proofs.Passes.{list_all_joined}
use Rattle.tsl_text.specs.Written.{is_line, text_of_lines}
use Rattle.line_formats.specs.Machine.{IsText, IsFirstWrong}
use Rattle.line_formats.proofs.MachineLaws.{lines_begin, all_front, text_append}
use Rattle.cobuchi_automata.specs.Automata.{EdgeTree}
use Rattle.automaton_text.specs.HoaText.{IsHoa, hoa_lines, grouped}
use Rattle.automaton_text.specs.HoaLines.{State, fresh, step, whole}
use Rattle.automaton_text.specs.FirstWrongLine.{said_of, IsFirstWrongLine}
use Rattle.automaton_text.proofs.HoaSteps.{of_automaton}
use Rattle.automaton_text.proofs.WrittenRead.{is_text}

pub lines_of_automaton : (ls : List (List ℕ)) (end : State) → IsText step whole fresh ls end →
    (names : List (List ℕ)) × (states : ℕ) × (edges : List EdgeTree) × IsHoa names states edges × (edges ≡ grouped states edges)
    × (ls ≡ hoa_lines names states edges) × (end ≡ said_of names states edges)
lines_of_automaton ls end is =
    let of = of_automaton ls end is in
    (end.names, end.states, end.edges, of.0, of.1, of.2, of.3)

pub first_of_automata : (text : List ℕ) (line : ℕ) → IsFirstWrong step whole fresh text line → IsFirstWrongLine text line
first_of_automata text line w =
    let of = of_automaton (w.before ++ w.ending) w.end w.goes_on in
    let fine = all_front is_line w.before w.ending w.goes_on.lines in
    record {
      before = w.before;
      after = w.after;
      split = w.split;
      are_lines = fine;
      number = w.number;
      goes_on = (
        w.end.names,
        w.end.states,
        w.end.edges,
        of.0,
        text_of_lines w.ending,
        ap text_of_lines (sym of.2) ∙ text_append w.before w.ending,
      );
      here = λ next rest e is b.
          let t = is_text b.0 b.1 b.2 b.3 in
          let end = said_of b.0 b.1 (grouped b.1 b.2) in
          let lines : list_all is_line (w.before ++ next ∷ []) ≡ true =
          list_all_joined is_line w.before (next ∷ []) fine (and_from (is_line next) true is refl) in
          let text_is : text_of_lines (w.before ++ next ∷ []) ≡ text_of_lines w.before ++ (next ++ 10 ∷ []) =
          text_append w.before (next ∷ []) ∙ ap (λ zs. text_of_lines w.before ++ zs) (append-nil (next ++ 10 ∷ [])) in
          let more = lines_begin (w.before ++ next ∷ []) (hoa_lines b.0 b.1 b.2) b.4 lines t.lines
          (b.5 ∙ ap (λ zs. zs ++ b.4) (sym text_is)) in
          w.here next rest more.0 end e is
          (subst (λ ls. IsText step whole fresh ls end) (more.1 ∙ append_assoc w.before (next ∷ []) more.0) t);
      none = λ names states edges is e. w.none (hoa_lines names states edges) (said_of names states (grouped states edges))
          (is_text names states edges is) e;
    }
