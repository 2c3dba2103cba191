-- A text has at most one listing, and none where a line is at fault.
use Rattle.std.proofs.Common.{◌≡◌, ℕ, ◌<◌, ◌≤◌, List, ◌++◌, take, drop, ◌⊎◌, inl, inr, sym, ap, ◌∙◌, append_assoc, arith}
use Rattle.std.specs.List.{list_all}
use Rattle.std.proofs.lemmas.Bool.{cases_order}
use Rattle.std.proofs.lemmas.List.{take-append-drop, length-take-le}
use Rattle.std.proofs.lemmas.Option.{same_Some}
use Rattle.tsl_text.specs.Written.{is_line, text_of_lines}
use Rattle.tsl_text.proofs.LineLaws.{one_list_of_lines}
use Rattle.line_formats.specs.Machine.{steps}
use Rattle.line_formats.proofs.MachineLaws.{all_front, text_append}
use Rattle.program_listing.specs.Listing.{IsListing, BeginAlike, FormFault}
use Rattle.program_listing.specs.ListingTree.{ListingTree}
use Rattle.program_listing.specs.internal.LineOrder.{done, ListingState, start, step}
use Rattle.program_listing.proofs.TextLines.{listing_leads}

-- the text has one list of lines, and these say one thing
pub one_listing : (text : List ℕ) (l m : ListingTree) → IsListing text l → IsListing text m → l ≡ m
one_listing text l m a b =
    let left = listing_leads text l a in
    let right = listing_leads text m b in
    let same : left.lines ≡ right.lines =
    one_list_of_lines left.lines right.lines left.is_text.lines right.is_text.lines (sym left.split ∙ right.split) in
    let ends : left.end ≡ right.end =
    same_Some left.end right.end (sym left.is_text.says ∙ ap (λ (ls : List (List ℕ)). steps step start ls) same ∙ right.is_text.says) in
    done_one l m (sym left.done ∙ ap (λ (s : ListingState). s.progress) ends ∙ right.done)
  where
    done_one : (l m : ListingTree) → done l ≡ done m → l ≡ m
    done_one l m e = cc

-- a text that has a listing has no line at fault
pub no_fault : (text : List ℕ) (l : ListingTree) (line : ℕ) → IsListing text l → FormFault text line → ⊥
no_fault text l line a f = f.none l a

-- ---- one line at fault

-- texts that begin alike by more lines do so by fewer
fewer_alike : (m n : ℕ) (text other : List ℕ) → m ≤ n → BeginAlike n text other → BeginAlike m text other
fewer_alike m n text other less b =
    let fronts : take m b.lines ++ drop m b.lines ≡ b.lines = take-append-drop m b.lines in
    let rest : List ℕ = text_of_lines (drop m b.lines) in
    let whole : (u : List ℕ) → text_of_lines b.lines ++ u ≡ text_of_lines (take m b.lines) ++ (rest ++ u) =
    (λ u. ap (λ (ls : List (List ℕ)). text_of_lines ls ++ u) (sym fronts)
    ∙ ap (λ (zs : List ℕ). zs ++ u) (text_append (take m b.lines) (drop m b.lines))
    ∙ append_assoc (text_of_lines (take m b.lines)) rest u) in
    record {
      lines = take m b.lines;
      are_lines = all_front is_line (take m b.lines) (drop m b.lines) (ap (list_all is_line) fronts ∙ b.are_lines);
      number = length-take-le m b.lines (omega (arith, less, b.number));
      after_text = rest ++ b.after_text;
      text_is = b.text_is ∙ whole b.after_text;
      after_other = rest ++ b.after_other;
      other_is = b.other_is ∙ whole b.after_other;
    }

not_before : (text : List ℕ) (m n : ℕ) → FormFault text m → FormFault text n → m < n → ⊥
not_before text m n f g less =
    let few : m ≤ g.count = omega (arith, g.next) in
    f.here g.other g.listing g.is_listing (fewer_alike m g.count text g.other few g.before)

pub one_fault : (text : List ℕ) (m n : ℕ) → FormFault text m → FormFault text n → m ≡ n
one_fault text m n f g = by (cases_order m n) where
  by : (m ≡ n) ⊎ ((m < n) ⊎ (n < m)) → m ≡ n
  by (inl same) = same
  by (inr (inl less)) = absurd (not_before text m n f g less)
  by (inr (inr more)) = absurd (not_before text n m g f more)
