-- One step of reading, over plain variables.
use Rattle.std.proofs.Common.{◌≡◌, ℕ, zero, suc, ◌+◌, List, refl, arith}
use Rattle.std.proofs.lemmas.Result.{err_from_is_err_and}
use Rattle.std.specs.Prelude.{Some, None, Result}
use Rattle.std.specs.Borrow.{Bor}
use Rattle.std.specs.Result.{IsErrAnd}
use Rattle.reader_combinators.specs.Readers.{Answer, Reader, map_read}
use Rattle.spec_syntax.specs.declared.fault.ReadFault.{ReadFault}
use Rattle.spec_syntax.specs.declared.fault.ReadFault.TheVariants.{Form, Deep, NoMemory}
use Rattle.spec_syntax.specs.declared.terminal.Terminal.{Terminal as LentTerminal}
use Rattle.spec_syntax.specs.Syntax.{Terminal}
use Rattle.spec_syntax.specs.SyntaxView.{terminals_view, HasSyntaxFault, Reads}
use Rattle.spec_syntax.specs.Reading.{lower, above}

pub no_level : (levels_left : ℕ) → levels_left ≡ 0 → lower levels_left ≡ None
unfolding lower
no_level zero h = refl
no_level (suc levels_left) h = cc

pub one_level : (levels_left below : ℕ) → levels_left ≡ below + 1 → lower levels_left ≡ Some (above (lower below))
unfolding lower
one_level zero below h = absurd (omega (arith, h))
one_level (suc levels_left) below h = let e : levels_left ≡ below = omega (arith, h) in rw e refl

-- a fault that is passed on
pub passed_on : {U V : Type 0} (view : U → V) (reader : Reader Terminal V) (xs : List LentTerminal)
    (r : Result (U × Bor (List LentTerminal)) ReadFault) (fault : ReadFault) → IsErrAnd r (λ e. e ≡ fault) →
    HasSyntaxFault (reader (terminals_view xs)) fault → Reads view reader xs r
passed_on view reader xs r fault h k = let p = err_from_is_err_and r h in rw (p.1, p.2) k

module _ {V W : Type 0} where
  pub map_fault : (make : V → W) (answer : Answer Terminal V) (fault : ReadFault) → HasSyntaxFault answer fault →
      HasSyntaxFault (map_read make answer) fault
  map_fault make answer (Form left) h = rw h refl
  map_fault make answer (Deep left) h = rw h refl
  map_fault make answer NoMemory h = tt
