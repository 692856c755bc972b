-- Refusals: their numbers, and which of them keep a raised label.
use Rattle.std.specs.Prelude.{ℕ, Bool, true, false}
use Rattle.ix_model.specs.declared.refusal.Refusal.{Refusal}
use Rattle.ix_model.specs.declared.refusal.Refusal.TheVariants as refusal

-- the number of a refusal
abbrev pub number_of : Refusal → ℕ
number_of refusal.NoProcess = 1
number_of refusal.BadFd = 2
number_of refusal.NotReadable = 3
number_of refusal.NotWritable = 4
number_of refusal.NotFound = 5
number_of refusal.NotDir = 6
number_of refusal.IsDir = 7
number_of refusal.Exists = 8
number_of refusal.NotEmpty = 9
number_of refusal.CrossFs = 10
number_of refusal.ProcFrozen = 11
number_of refusal.ProcCeiling = 12
number_of refusal.FileFrozen = 13
number_of refusal.FsCeiling = 14
number_of refusal.Trusted = 15
number_of refusal.NoCapability = 16
number_of refusal.NoLicence = 17
number_of refusal.NotAbove = 18
number_of refusal.BelowLabel = 19
number_of refusal.PexHeld = 20
number_of refusal.NotPipe = 21
number_of refusal.NotClaimed = 22
number_of refusal.NoSpace = 23
number_of refusal.NoInode = 24
number_of refusal.NoEntry = 25
number_of refusal.NoSlot = 26
number_of refusal.NoFd = 27
number_of refusal.NoOpen = 28
number_of refusal.TooBig = 29
number_of refusal.PipeFull = 30
number_of refusal.Broken = 31
number_of refusal.NoChild = 32
number_of refusal.ChildrenLive = 33
number_of refusal.LogFull = 34
number_of refusal.Again = 35
number_of refusal.EndOfList = 36
number_of refusal.IsPipe = 37
number_of refusal.InUse = 38

-- The refusals that come after a passed look: they keep the label that it raised. Every other one changes nothing.
abbrev pub keeps_label : Refusal → Bool
keeps_label refusal.NotFound = true
keeps_label refusal.NotDir = true
keeps_label refusal.IsDir = true
keeps_label refusal.Exists = true
keeps_label refusal.NotEmpty = true
keeps_label refusal.CrossFs = true
keeps_label refusal.Again = true
keeps_label refusal.EndOfList = true
keeps_label _ = false
