-- Loops that read members: what was read so far, and then what is read of the terminals that are left, is the whole.
use Rattle.std.proofs.Common.{◌≡◌, ◌∙◌, List, [], ◌∷◌, ◌++◌, map, sym, ap}
use Rattle.std.specs.Prelude.{Option, Some, None, Ok}
use Rattle.reader_combinators.specs.Readers.{Answer, form, push, iterate}
use Rattle.reader_combinators.proofs.Iterates.{Shrinks}
use Rattle.reader_combinators.proofs.MemberLoops.{viewed_more, members_end, members_wrong}
use Rattle.table_syntax.specs.Syntax.{TextToken}
use Rattle.table_syntax.specs.declared.reading.ReadFault.{ReadFault}
use Rattle.table_syntax.specs.declared.reading.ReadFault.TheVariants.{Form, NoMemory}
use Rattle.table_syntax.specs.internal.ReadFaults.{IsReadFaultOf}

module _ {U V : Type 0} (view : U → V) (member : List TextToken → Option (Answer TextToken V)) (shrinks : Shrinks (push member))
    (us : List U) {xs : List TextToken} {whole : Answer TextToken (List V)} (kept : iterate (push member) (map view us) xs ≡ whole) where
  -- a member was read
  pub still_kept : {rest : List TextToken} {u : U} {more : List U} → more ≡ us ++ u ∷ [] → member xs ≡ Some (Ok (view u, rest)) →
      iterate (push member) (map view more) rest ≡ whole
  still_kept {rest = rest} {u = u} pushed read =
      ap (λ vs. iterate (push member) (map view vs) rest) pushed ∙ viewed_more view member shrinks xs rest us u read ∙ kept

  -- no member is left
  pub kept_to_end : member xs ≡ None → whole ≡ Ok (map view us, xs)
  kept_to_end none = sym kept ∙ members_end member shrinks xs (map view us) none

  -- a member has a fault
  pub kept_fault : (answer : Answer TextToken V) (fault : ReadFault) → member xs ≡ Some answer → IsReadFaultOf answer fault →
      IsReadFaultOf whole fault
  kept_fault answer (Form left) read e = members_wrong member shrinks xs (map view us) whole answer (form left) kept read e
  kept_fault answer NoMemory read e = tt
