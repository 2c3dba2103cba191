-- What a run did to its source and to its sinks.
use Rattle.std.specs.Prelude.{◌≡◌, ℕ, List, Option}
use Rattle.tsl_io.specs.Told.{with_added, AddsPrefix, WhereTold}
use Rattle.tsl_io.specs.Faults.{Faulted}

-- The bytes that a source or a sink tells, and its count of faults, before a run and after it. Those of a source are the
-- bytes that are left, and those of a sink the bytes that were written.
pub record Effect : Type 0 where
  pub old : Option (List ℕ)
  pub new : Option (List ℕ)
  pub faults_old : ℕ
  pub faults_new : ℕ

-- the effect on a source or a sink, by what it tells and counts
abbrev pub effect : {D : Type 0} → (D → Option (List ℕ)) → (D → ℕ) → D → D → Effect
effect tells counts old new = record { old = tells old; new = tells new; faults_old = counts old; faults_new = counts new }

-- the count of faults rose, or it stood at its last value and stays there
abbrev pub HasFailed : Effect → Type 0
HasFailed device = Faulted device.faults_old device.faults_new

-- the count of faults is as before
abbrev pub NeverFailed : Effect → Type 0
NeverFailed device = device.faults_new ≡ device.faults_old

-- bytes and count are as before
pub record IsUntouched (device : Effect) : Type 0 where
  pub bytes : device.new ≡ device.old
  pub count : device.faults_new ≡ device.faults_old

-- the whole text was added, and the count of faults is as before
pub record IsWhole (text : List ℕ) (sink : Effect) : Type 0 where
  pub added : sink.new ≡ with_added text sink.old
  pub count : NeverFailed sink

-- some first bytes of the text were added, and a fault was counted
pub record IsCutOff (text : List ℕ) (sink : Effect) : Type 0 where
  pub added : AddsPrefix text sink.old sink.new
  pub fault : HasFailed sink

-- the bytes are those that a source tells, where it tells some
abbrev pub ContentsAre : Option (List ℕ) → List ℕ → Type 0
ContentsAre told bytes = WhereTold told (λ known. known ≡ bytes)
