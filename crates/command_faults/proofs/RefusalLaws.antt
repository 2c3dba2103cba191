-- Where a refusal stands, and the status of its fault.
use Rattle.std.proofs.Common.{◌≡◌, ℕ, ◌≤◌, Bool, List, ◌∷◌, ◌++◌, length, arith, ⊎_elim}
use Rattle.std.specs.List.{AllByRecursion}
use Rattle.std.proofs.lemmas.List.Elements.{recursion_from_All}
use Rattle.tsl_text.specs.declared.Token.{Token}
use Rattle.tsl_text.specs.Division.{AreTokens, IsTokenOf}
use Rattle.tsl_text.proofs.Parts.{each_token}
use Rattle.tsl_reader.specs.declared.SpecError.{SpecError}
use Rattle.tsl_reader.specs.declared.SpecError.TheVariants.{Byte, OpenComment, Form, Deep, Defined, Cycle, Kind, Arity}
use Rattle.tsl_reader.specs.declared.SpecError.TheVariants.{DeepUse, Nodes, NoMemory}
use Rattle.spec_syntax.specs.Syntax.{Terminal, Declaration}
use Rattle.name_resolution.specs.Occurrences.{Occurrence}
use Rattle.tsl_reader.specs.Spells.{Derives, IsFirstName, HasCause, Spells, SpellsNoSpec, name_tokens}
use Rattle.tsl_report.specs.declared.fault.Fault.{Fault}
use Rattle.tsl_terms.specs.SpecTree.{SpecTree}
use Rattle.command_faults.specs.RefusalPlaces.{StandsIn}
use Rattle.command_faults.specs.Refusals.{IsFaultOf}
use Rattle.base_library.proofs.Each.{each_at, each_between, each_filtered}

pub each_of : (text : List ℕ) (tokens : List Token) → AreTokens text tokens → AllByRecursion (IsTokenOf text) tokens
each_of text tokens are = recursion_from_All (IsTokenOf text) tokens (each_token text tokens are)

pub token_stands : (text : List ℕ) (before : List Token) (t : Token) (after : List Token) (at : ℕ) →
    AreTokens text (before ++ t ∷ after) → at ≡ t.start → at ≤ length text
token_stands text before t after at are place =
    let token : IsTokenOf text t = each_between (IsTokenOf text) before t after (each_of text (before ++ t ∷ after) are) in
    omega (arith, place, token.not_empty, token.inside)

name_stands : (is_such : Occurrence → Bool) (text : List ℕ) (tokens : List Token) (own : List Terminal) (declarations : List Declaration)
    (start end : ℕ) → Derives text tokens own declarations → IsFirstName is_such text tokens declarations start end →
    (start ≤ end) × (end ≤ length text)
name_stands is_such text tokens own declarations start end derives h =
    let token : IsTokenOf text h.token =
    each_at (IsTokenOf text) (name_tokens text tokens) h.at h.token
    (each_filtered (IsTokenOf text) _ tokens (each_of text tokens derives.tokens_are)) h.there in
    (omega (arith, h.starts, h.ends, token.not_empty), omega (arith, h.ends, token.inside))

-- a refusal that has its cause stands in the text
pub cause_stands : (text : List ℕ) (error : SpecError) → HasCause text error → StandsIn text error
cause_stands text (Byte at) h = omega (arith, h.place)
cause_stands text (OpenComment at) h = omega (arith, h.place)
cause_stands text (Form at) h = ⊎_elim
    (λ wrong. token_stands text wrong.before wrong.token wrong.after at wrong.tokens_are wrong.place) (λ ends. omega (arith, ends.place)) h
cause_stands text (Deep at) h = token_stands text h.before h.token h.after at h.tokens_are h.place
cause_stands text (Defined start end) h = name_stands _ text h.tokens h.own h.declarations start end h.derives h.named
cause_stands text (Cycle start end) h = name_stands _ text h.tokens h.own h.declarations start end h.derives h.named
cause_stands text (Kind start end) h = name_stands _ text h.tokens h.own h.declarations start end h.derives h.named
cause_stands text (Arity start end) h = name_stands _ text h.tokens h.own h.declarations start end h.derives h.named
cause_stands text (DeepUse start end) h = name_stands _ text h.tokens h.own h.declarations start end h.derives h.named
cause_stands text Nodes h = tt
cause_stands text NoMemory h = tt

-- a text that spells a specification is not refused
pub not_refused : (bytes : List ℕ) (spec : SpecTree) (error : SpecError) (fault : Fault) → Spells bytes spec → SpellsNoSpec bytes error →
    IsFaultOf bytes error fault → ⊥
not_refused bytes spec (Byte at) fault spells none is = none spec spells
not_refused bytes spec (OpenComment at) fault spells none is = none spec spells
not_refused bytes spec (Form at) fault spells none is = none spec spells
not_refused bytes spec (Deep at) fault spells none is = none spec spells
not_refused bytes spec (Defined start end) fault spells none is = none spec spells
not_refused bytes spec (Cycle start end) fault spells none is = none spec spells
not_refused bytes spec (Kind start end) fault spells none is = none spec spells
not_refused bytes spec (Arity start end) fault spells none is = none spec spells
not_refused bytes spec (DeepUse start end) fault spells none is = none spec spells
not_refused bytes spec Nodes fault spells none is = none spec spells
not_refused bytes spec NoMemory fault spells none is = is
