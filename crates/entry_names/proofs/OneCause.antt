-- Causes by which entries are refused, each of them one.
use Rattle.std.proofs.Common.{ℕ, List, Option}
use Rattle.std.specs.Prelude.{◌≢◌, slice_get}
use Rattle.base_library.proofs.Causes.{Causes, found, told_with, told, and_then}
use Rattle.tsl_text.specs.declared.Token.{Token}
use Rattle.table_syntax.specs.Syntax.{TextToken}
use Rattle.table_syntax.specs.Forms.{IsRead, HasTextFault}
use Rattle.table_syntax.specs.declared.forms.TextFault.{TextFault}
use Rattle.table_syntax.specs.declared.forms.TextFault.TheVariants.{NoMemory}
use Rattle.table_syntax.proofs.OneFault.{one_fault, fault_refuses}
use Rattle.entry_names.specs.Needed.{IsFirstRepeat, HasNoRepeat}
use Rattle.entry_names.proofs.Repeats.{one_repeat}

-- a member stands at an earlier place too
abbrev pub repeated : {A : Type 0} → List A → Causes ℕ
repeated xs = record {
  Passes = HasNoRepeat xs;
  Has = IsFirstRepeat xs;
  refuses = λ at h once. once at h.repeat;
  one = one_repeat xs;
}

-- the text is none of the grammar
abbrev pub misread : {V : Type 0} → (List TextToken → V → Type 0) → List ℕ → Causes TextFault
misread {V = V} Is text = record {
  Passes = (v : V) × IsRead Is text v;
  Has = λ fault. HasTextFault Is text fault × (fault ≢ NoMemory);
  refuses = λ fault h read. fault_refuses Is text fault h.1 h.0 read.0 read.1;
  one = λ a b h k. one_fault Is text a b h.1 k.1 h.0 k.0;
}

-- An entry is for no needed name, or for one that has an earlier entry, or a needed name has none.
abbrev pub misnamed : {X E : Type 0} → (X → Token) → (ℕ → ℕ → E) → (ℕ → ℕ → E) → (ℕ → E) → Option X → List (Option ℕ) → List X → Option ℕ →
    Causes E
misnamed {X = X} token unknown twice missing other numbers entries lacking =
    and_then (told (λ (x : X). unknown (token x).start (token x).end) (found other))
    (and_then (told (λ (p : ℕ × X). twice (token p.1).start (token p.1).end) (told_with (repeated numbers) (slice_get entries)))
    (told missing (found lacking)))
