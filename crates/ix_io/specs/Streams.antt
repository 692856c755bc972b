-- What one call of a source or a sink does.
use Rattle.std.specs.Prelude.{◌≡◌, ℕ, Bool, if◌then◌else◌, ◌+◌, ◌-◌, ◌^◌, ◌≤◌, ◌<◌, min, List, [], ◌++◌, length, take, drop, Option, Some, None, Result, Ok, Err, OnErr, OnOk}

-- a sum of counts, which stands still at 2^64 - 1
abbrev pub counted : ℕ → ℕ → ℕ
counted count more = min (count + more) (2 ^ 64 - 1)

-- the count of faults after a call that failed or not
abbrev pub noted : ℕ → Bool → ℕ
noted faults failed = if failed then counted faults 1 else faults

-- A count rose. One that stands at its end is taken as one that rose.
abbrev pub Rose : ℕ → ℕ → Type 0
Rose before now = counted before 1 ≤ now

-- The count of faults did not fall, rose where the call failed, and else is as it was.
pub record HasCause {T E : Type 0} (before now : ℕ) (result : Result T E) : Type 0 where
  pub later : before ≤ now
  pub failed : OnErr result (Rose before now)
  pub kept : OnOk result (now ≡ before)

-- The first n bytes came into the buffer, and the rest is left. None came only at the end, or into an empty buffer.
pub record ReadsFirst (bytes : List ℕ) (after : Option (List ℕ)) (n : ℕ) (buf : List ℕ) : Type 0 where
  pub within : n ≤ length bytes
  pub read : take n buf ≡ take n bytes
  pub rest : after ≡ Some (drop n bytes)
  pub end : n ≡ 0 → 0 < length buf → bytes ≡ []

-- What a read does to bytes that are told. A fault takes none.
abbrev pub ReadsTold : {E : Type 0} → List ℕ → Option (List ℕ) → Result ℕ E → List ℕ → Type 0
ReadsTold bytes after (Ok n) buf = ReadsFirst bytes after n buf
ReadsTold bytes after (Err e) buf = after ≡ Some bytes

-- What a read does to the bytes left, where these are told.
abbrev pub Reads : {E : Type 0} → Option (List ℕ) → Option (List ℕ) → Result ℕ E → List ℕ → Type 0
Reads None after result buf = Unit {0}
Reads (Some bytes) after result buf = ReadsTold bytes after result buf

-- What a write adds to bytes that are told: the first n of the piece, or none after a fault.
abbrev pub TakesTold : {E : Type 0} → List ℕ → Option (List ℕ) → Result ℕ E → List ℕ → Type 0
TakesTold taken after (Ok n) piece = after ≡ Some (taken ++ take n piece)
TakesTold taken after (Err e) piece = after ≡ Some taken

-- What a write does to the bytes taken, where these are told.
abbrev pub Takes : {E : Type 0} → Option (List ℕ) → Option (List ℕ) → Result ℕ E → List ℕ → Type 0
Takes None after result piece = Unit {0}
Takes (Some taken) after result piece = TakesTold taken after result piece
