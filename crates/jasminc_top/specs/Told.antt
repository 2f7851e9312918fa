-- What a source and a sink tell before a call, and what they tell after it.
use Rattle.std.specs.Prelude.{ℕ, List, Option}
use Rattle.jz_io.specs.Telling.{Telling}

-- of a source: its files, where it tells them, and its count of faults
pub record SourceTold : Type 0 where
  pub files : Option Telling
  pub files_after : Option Telling
  pub faults : ℕ
  pub faults_after : ℕ

-- of a sink: the bytes that were written, where it tells them, and its count of faults
pub record SinkTold : Type 0 where
  pub bytes : Option (List ℕ)
  pub bytes_after : Option (List ℕ)
  pub faults : ℕ
  pub faults_after : ℕ

-- what the ghost members of a source say of it, before and after
abbrev pub source_told : {S : Type 0} → (S → Option Telling) → (S → ℕ) → S → S → SourceTold
source_told files faults old new = record {
  files = files old;
  files_after = files new;
  faults = faults old;
  faults_after = faults new;
}

-- what the ghost members of a sink say of it, before and after
abbrev pub sink_told : {K : Type 0} → (K → Option (List ℕ)) → (K → ℕ) → K → K → SinkTold
sink_told bytes faults old new = record {
  bytes = bytes old;
  bytes_after = bytes new;
  faults = faults old;
  faults_after = faults new;
}
