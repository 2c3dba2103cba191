-- The ends of runs on small examples.
use Rattle.std.proofs.Common.{inl, arith}
use Rattle.std.specs.Prelude.{ℕ, List, [], ◌∷◌, codes, Some, None, refl}
use Rattle.tsl_report.specs.declared.fault.Fault.TheVariants.{Usage as WrongWords}
use Rattle.tsl_report.specs.FaultText.{fault_text}
use Rattle.tool_io.specs.declared.status.Status.TheVariants.{Usage, WriteFault}
use Rattle.tsl_io.specs.Effects.{Effect}
use Rattle.tool_io.specs.Ends.{answered, cut_off}
use Rattle.tsl_tool.specs.Ends.{IsReplyTo, Ends}
use Rattle.tsl_tool.specs.Outcome.{usage}
use Rattle.command_faults.specs.Replies.{fault_reply}

-- a source that tells nothing and was not called, and a sink that tells its bytes
abbrev untold : Effect
untold = record { old = None; new = None; faults_old = 0; faults_new = 0 }

abbrev holds : List ℕ → List ℕ → ℕ → Effect
holds old new faults = record { old = Some old; new = Some new; faults_old = 0; faults_new = faults }

abbrev words : List (List ℕ)
words = codes "frob" ∷ []

refused : IsReplyTo words untold (fault_reply WrongWords)
refused = record { bytes = []; told = λ known is. cc; outcome = usage refl refl; count = refl }

-- other words are answered by the usage line on the second sink
usage_ends : Ends words untold (holds [] [] 0) (holds [] (fault_text WrongWords) 0) Usage
usage_ends = answered (fault_reply WrongWords) refused refl
    (record { added = refl; count = refl }) (record { bytes = refl; count = refl })

-- and where the second sink fails after seven bytes, these stand there
usage_is_cut_off : Ends words untold (holds [] [] 0) (holds [] (codes "usage: ") 1) WriteFault
usage_is_cut_off = cut_off (fault_reply WrongWords) refused refl
    (record { added = (7, refl); fault = inl (omega arith) }) (record { bytes = refl; count = refl })
