-- What reading all of an input and writing all of a text give.
use Rattle.std.specs.Prelude.{◌≡◌, ℕ, ◌+◌, ◌<◌, ◌≤◌, true, List, [], ◌++◌, length, take, drop, Option, Some, Result, Ok, Err}
use Rattle.ix_host.specs.declared.arguments.command.Command.{Command}
use Rattle.ix_host.specs.run.Inputs.{IsReadable, reads_source}
use Rattle.ix_host.specs.declared.streams.stream.Input.{Input}
use Rattle.ix_host.specs.declared.streams.stream.Input.TheVariants as input
use Rattle.ix_host.specs.declared.streams.stream.Piece.{Piece}
use Rattle.ix_host.specs.declared.streams.stream.Piece.TheVariants as piece

-- Some first bytes were taken, at most one more than an input may have.
pub record TakesFew (most : ℕ) (bytes : List ℕ) (after : Option (List ℕ)) : Type 0 where
  pub count : ℕ
  pub few : count ≤ most + 1
  pub rest : after ≡ Some (drop count bytes)

-- The whole input, or that it has more bytes than it may have, and what is left of it.
abbrev pub Gathers : ℕ → List ℕ → Option (List ℕ) → Input → Type 0
Gathers most bytes after (input.Whole read) = (read.items ≡ bytes) × (after ≡ Some []) × (length bytes ≤ most)
Gathers most bytes after input.TooLong = (most < length bytes) × (after ≡ Some (drop (most + 1) bytes))
Gathers most bytes after input.Fault = Unit {0}
Gathers most bytes after input.NoMemory = Unit {0}

-- The whole input, or that it has more bytes than it may have.
abbrev pub IsInput : ℕ → List ℕ → Input → Type 0
IsInput most bytes (input.Whole read) = read.items ≡ bytes
IsInput most bytes input.TooLong = most < length bytes
IsInput most bytes input.Fault = Unit {0}
IsInput most bytes input.NoMemory = Unit {0}

-- What a command reads: it may fail, or be too long, only where the command reads the source.
abbrev pub IsReadFor : Command → Input → Type 0
IsReadFor c (input.Whole read) = IsReadable c read.items
IsReadFor c input.TooLong = reads_source (Some c) ≡ true
IsReadFor c input.Fault = reads_source (Some c) ≡ true
IsReadFor c input.NoMemory = Unit {0}

-- Of what was read to its end there is no more than it may have.
abbrev pub IsShort : ℕ → Input → Type 0
IsShort most (input.Whole read) = length read.items ≤ most
IsShort most input.TooLong = Unit {0}
IsShort most input.Fault = Unit {0}
IsShort most input.NoMemory = Unit {0}

-- Of these bytes, some first ones were read, and the rest is left.
pub record IsFront (all read : List ℕ) (left : Option (List ℕ)) : Type 0 where
  pub within : length read ≤ length all
  pub front : take (length read) all ≡ read
  pub rest : left ≡ Some (drop (length read) all)

-- One read more: a longer front, or the end of all.
abbrev pub GoesOn : List ℕ → List ℕ → Option (List ℕ) → Piece → Type 0
GoesOn all read after piece.More = IsFront all read after
GoesOn all read after piece.End = (read ≡ all) × (after ≡ Some [])
GoesOn all read after piece.Fault = Unit {0}
GoesOn all read after piece.NoMemory = Unit {0}

-- Of a whole text some front went out, and this is left.
pub record Sent (taken : List ℕ) (after : Option (List ℕ)) (left text : List ℕ) : Type 0 where
  pub gone : List ℕ
  pub whole : gone ++ left ≡ text
  pub front : after ≡ Some (taken ++ gone)

-- Some front of the text went out, and not what is left of it.
pub record WritesFront (taken : List ℕ) (after : Option (List ℕ)) (text : List ℕ) : Type 0 where
  pub gone : List ℕ
  pub left : List ℕ
  pub whole : gone ++ left ≡ text
  pub front : after ≡ Some (taken ++ gone)

-- The text went out, or after a fault some front of it.
abbrev pub Writes : {E : Type 0} → List ℕ → Option (List ℕ) → List ℕ → Result (Unit {0}) E → Type 0
Writes taken after text (Ok done) = after ≡ Some (taken ++ text)
Writes taken after text (Err e) = WritesFront taken after text
