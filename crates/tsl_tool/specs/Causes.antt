-- What follows from how a run ends: when each status comes, and what a fault leads to.
use Rattle.std.specs.Prelude.{◌≡◌, ℕ, ◌<◌, ◌⊎◌, false, List}
use Rattle.command_words.specs.Commands.{are_taken}
use Rattle.tool_io.specs.declared.status.Status.{Status}
use Rattle.tool_io.specs.declared.status.Status.TheVariants.{Usage, ReadFault, WriteFault, Memory}
use Rattle.tsl_io.specs.Effects.{Effect, HasFailed, IsUntouched}

-- a fault was counted
abbrev pub Rises : Effect → Type 0
Rises device = device.faults_old < device.faults_new

pub record Causes (words : List (List ℕ)) (source out err : Effect) (result : Status) : Type 0 where
  -- usage is answered to words that `clap` refuses alone, and such words lead to nothing else
  pub usage : result ≡ Usage → are_taken words ≡ false
  pub other_words : are_taken words ≡ false → (result ≡ Usage) ⊎ ((result ≡ WriteFault) ⊎ (result ≡ Memory))
  -- a fault is answered where one was counted
  pub read_fault : result ≡ ReadFault → HasFailed source
  pub write_fault : result ≡ WriteFault → HasFailed out ⊎ HasFailed err
  -- and where one is counted, it is answered
  pub read_rise : Rises source → ((result ≡ ReadFault) ⊎ (result ≡ WriteFault)) ⊎ (result ≡ Memory)
  pub out_rise : Rises out → result ≡ WriteFault
  pub err_rise : Rises err → result ≡ WriteFault
  -- where memory runs out nothing is written
  pub memory : result ≡ Memory → IsUntouched out × IsUntouched err
