-- The numbers in the log of the clauses on a trail, by their places.
use Rattle.std.proofs.Common.{◌≡◌, ℕ, zero, suc, ◌+◌, ◌-◌, ◌<◌, ◌≤◌, List, ◌∷◌, [], ◌++◌, map, length, Some, slice_get, set, get_or, refl, sym, ap, ◌∙◌, arith}
use Rattle.std.specs.Vec.{with_item}
use Rattle.std.specs.Prelude.{option_map, slice_index_or}
use Rattle.std.proofs.lemmas.Option.{get_or_from_slice_get, slice_get-map}
use Rattle.std.proofs.lemmas.List.{length-append, length-map, map-append, append_assoc}
use Rattle.base_library.specs.Numbers.{numbers_from}
use Rattle.base_library.proofs.Numbers.{length-numbers, numbers_at}
use Rattle.base_library.proofs.Places.{slice_get-front, slice_get-append}
use Rattle.clause_learning.specs.declared.clause_database.ClauseUse.{ClauseUse}
use Rattle.clause_learning.specs.declared.clause_database.ClauseDatabase.{ClauseDatabase}
use Rattle.clause_learning.specs.ClauseDatabases.{numbers_of}

-- the numbers of the clauses behind the formula's
abbrev behind : List ClauseUse → List ℕ
behind learnt = map (λ (one : ClauseUse). one.number) learnt

pub numbers_long : (database : ClauseDatabase) → length (numbers_of database) ≡ database.formula + length database.learnt.items
numbers_long database = omega (
  arith,
  length-append (numbers_from 1 database.formula) (behind database.learnt.items),
  length-numbers 1 database.formula,
  length-map database.learnt.items (λ (one : ClauseUse). one.number),
)

pub number_of_formula : (database : ClauseDatabase) (place : ℕ) → place < database.formula → slice_index_or (numbers_of database) place 0 ≡ place + 1
number_of_formula database place below = get_or_from_slice_get (numbers_of database) place (place + 1) 0
    (slice_get-front (numbers_from 1 database.formula) (behind database.learnt.items) place (omega (arith, below, length-numbers 1 database.formula))
    ∙ (numbers_at 1 database.formula place below ∙ ap Some (let e : 1 + place ≡ place + 1 = omega arith in e)))

pub number_of_learnt : (database : ClauseDatabase) (place : ℕ) (one : ClauseUse) → database.formula ≤ place →
    slice_get database.learnt.items (place - database.formula) ≡ Some one → slice_index_or (numbers_of database) place 0 ≡ one.number
number_of_learnt database place one from at = get_or_from_slice_get (numbers_of database) place one.number 0
    (slice_get-append (numbers_from 1 database.formula) (behind database.learnt.items) (place - database.formula) place
    (omega (arith, from, length-numbers 1 database.formula)) ∙ (slice_get-map (λ (u : ClauseUse). u.number) database.learnt.items
    (place - database.formula) ∙ ap (option_map (λ (u : ClauseUse). u.number)) at))

-- another clause at the end
pub numbers_push : (database after : ClauseDatabase) (one : ClauseUse) → after.formula ≡ database.formula →
    after.learnt.items ≡ database.learnt.items ++ one ∷ [] → numbers_of after ≡ numbers_of database ++ one.number ∷ []
numbers_push database after one same is = ap (λ (n : ℕ). numbers_from 1 n ++ behind after.learnt.items) same
    ∙ (ap (λ (us : List ClauseUse). numbers_from 1 database.formula ++ behind us) is
    ∙ (ap (λ (ns : List ℕ). numbers_from 1 database.formula ++ ns) (map-append (λ (u : ClauseUse). u.number) database.learnt.items (one ∷ []))
    ∙ sym (append_assoc (numbers_from 1 database.formula) (behind database.learnt.items) (one.number ∷ []))))

same_behind : (items : List ClauseUse) (index : ℕ) (old new : ClauseUse) → old ≡ get_or items index old → new.number ≡ old.number →
    behind (set items index new) ≡ behind items
same_behind [] index old new read same = refl
same_behind (one ∷ items) zero old new read same = ap (λ (n : ℕ). n ∷ behind items) (same ∙ ap (λ (u : ClauseUse). u.number) read)
same_behind (one ∷ items) (suc index) old new read same = ap (λ (ns : List ℕ). one.number ∷ ns) (same_behind items index old new read same)

-- a clause is used at another time
pub numbers_used : (database : ClauseDatabase) (index used : ℕ) (old : ClauseUse) → old ≡ get_or database.learnt.items index old →
    numbers_of (record database { learnt = with_item database.learnt index (record old { used = used }) }) ≡ numbers_of database
numbers_used database index used old read = ap (λ (ns : List ℕ). numbers_from 1 database.formula ++ ns)
    (same_behind database.learnt.items index old (record old { used = used }) read refl)
