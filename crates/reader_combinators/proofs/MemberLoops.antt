-- A loop that reads members: what was read so far, and then what is read of the terminals that are left.
use Rattle.std.proofs.Common.{◌≡◌, List, [], ◌∷◌, ◌++◌, map, ap, sym, ◌∙◌}
use Rattle.std.proofs.lemmas.List.{map-append}
use Rattle.std.specs.Prelude.{Option, Some, None, Ok, Err}
use Rattle.reader_combinators.specs.Readers.{Fault, Answer, push, push_read, iterate}
use Rattle.reader_combinators.proofs.Iterates.{Shrinks, next_step, no_step, wrong_step}

module _ {T V : Type 0} (member : List T → Option (Answer T V)) (shrinks : Shrinks (push member)) where
  -- a member was read
  pub member_more : (xs rest : List T) (before : List V) (v : V) → member xs ≡ Some (Ok (v, rest)) →
      iterate (push member) (before ++ v ∷ []) rest ≡ iterate (push member) before xs
  member_more xs rest before v h = next_step shrinks before xs (before ++ v ∷ []) rest (ap (push_read before) h)

  -- no member is left
  pub members_end : (xs : List T) (vs : List V) → member xs ≡ None → iterate (push member) vs xs ≡ Ok (vs, xs)
  members_end xs vs h = no_step shrinks vs xs (ap (push_read vs) h)

  -- a member has a fault
  pub members_wrong : (xs : List T) (vs : List V) (whole : Answer T (List V)) (answer : Answer T V) (fault : Fault) →
      iterate (push member) vs xs ≡ whole → member xs ≡ Some answer → answer ≡ Err fault → whole ≡ Err fault
  members_wrong xs vs whole answer fault h m e = sym h ∙ wrong_step shrinks vs xs fault (ap (push_read vs) (m ∙ ap (λ a. Some a) e))

module _ {T U V : Type 0} (view : U → V) (member : List T → Option (Answer T V)) (shrinks : Shrinks (push member)) where
  -- a member was read that lies in memory
  pub viewed_more : (xs rest : List T) (before : List U) (u : U) → member xs ≡ Some (Ok (view u, rest)) →
      iterate (push member) (map view (before ++ u ∷ [])) rest ≡ iterate (push member) (map view before) xs
  viewed_more xs rest before u h =
      ap (λ vs. iterate (push member) vs rest) (map-append view before (u ∷ []))
      ∙ member_more member shrinks xs rest (map view before) (view u) h
