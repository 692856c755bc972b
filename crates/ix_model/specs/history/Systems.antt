-- What one call of a system does, whatever the system is.
use Rattle.std.specs.Prelude.{◌≡◌, ◌≤◌, ◌<◌, ℕ, ◌+◌, ◌-◌, ◌^◌, min, List, [], ◌∷◌, ◌++◌, take, drop}
use Rattle.ix_model.specs.history.Events.{Op, Event}
use Rattle.ix_model.specs.history.Events as op
use Rattle.ix_model.specs.history.Cost.{cost_of}
use Rattle.ix_model.specs.history.Made.{Made}
use Rattle.ix_model.specs.declared.reply.Reply.{Reply}
use Rattle.ix_model.specs.declared.reply.Reply.TheVariants as reply
use Rattle.ix_model.specs.declared.reply.Answer.{Answer}
use Rattle.ix_model.specs.declared.reply.Answer.TheVariants as answer

-- ---- what is made
-- the bytes that a reply gives: as many as it says, at the front of the buffer
abbrev pub bytes_in : Reply → List ℕ → List ℕ
bytes_in (reply.Bytes k) buf = take k buf
bytes_in _ buf = []

-- a call that is given a reply is one entry more, with that reply and the bytes in the buffer then; any other makes none
abbrev pub made_after : Answer → Event → List ℕ → List Made → List Made
made_after (answer.Given r) e buf made = made ++ record { event = e; reply = r; bytes = bytes_in r buf } ∷ []
made_after _ e buf made = made

-- ---- stops
-- a count with one more; it stays at its greatest value, 2^64 - 1
abbrev pub one_more : ℕ → ℕ
one_more count = min (count + 1) (2 ^ 64 - 1)

-- the count of stops: a call that isn't given a reply is one
abbrev pub stops_after : Answer → ℕ → ℕ
stops_after (answer.Given r) stops = stops
stops_after _ stops = one_more stops

-- the last stop
abbrev pub last_stop : Answer → Answer → Answer
last_stop (answer.Given r) last = last
last_stop stop last = stop

-- a full journal says what the call costs, and there is no room for that
abbrev pub FullFor : Op → Answer → Type 0
FullFor o (answer.JournalFull used need cap) = (need ≡ cost_of o) × (cap < used + need)
FullFor o _ = Unit {0}

-- ---- replies
-- there is nothing to tell
abbrev pub IsDone : Reply → Type 0
IsDone reply.Done = Unit {0}
IsDone _ = ⊥

-- a number
abbrev pub IsNumber : Reply → Type 0
IsNumber (reply.Number n) = Unit {0}
IsNumber _ = ⊥

-- a number of at most so many
abbrev pub IsUpTo : ℕ → Reply → Type 0
IsUpTo most (reply.Number n) = n ≤ most
IsUpTo most _ = ⊥

-- two descriptors; the greatest is 31
abbrev pub AreTwo : Reply → Type 0
AreTwo (reply.Two a b) = (a.0 ≤ 31) × (b.0 ≤ 31)
AreTwo _ = ⊥

-- bytes that were read: at most 4,096, and at most the count that was asked for
abbrev pub AreRead : ℕ → Reply → Type 0
AreRead count (reply.Bytes k) = (k ≤ 4096) × (k ≤ count)
AreRead count _ = ⊥

-- what an object is
abbrev pub IsStat : Reply → Type 0
IsStat (reply.Stat obj kind size links frozen cap lic) = Unit {0}
IsStat _ = ⊥

-- a label
abbrev pub IsLabel : Reply → Type 0
IsLabel (reply.Lab label) = Unit {0}
IsLabel _ = ⊥

-- an entry of a directory
abbrev pub IsNamed : Reply → Type 0
IsNamed (reply.Named name obj) = Unit {0}
IsNamed _ = ⊥

-- a claim, the other end being free or claimed
abbrev pub IsClaim : Reply → Type 0
IsClaim reply.Half = Unit {0}
IsClaim (reply.Whole pid label lic) = Unit {0}
IsClaim _ = ⊥

-- a line of the audit log
abbrev pub IsLogLine : Reply → Type 0
IsLogLine (reply.LogLine l) = Unit {0}
IsLogLine _ = ⊥

-- a child that has ended
abbrev pub IsChild : Reply → Type 0
IsChild (reply.Child pid status) = Unit {0}
IsChild _ = ⊥

-- what the row of a call passes; a call that isn't named is just done
abbrev pub IsPassed : Op → Reply → Type 0
IsPassed (op.CreateAt path) r = IsNumber r
IsPassed (op.OpenAt path mode) r = IsUpTo 31 r
IsPassed (op.ReadFd fd count) r = AreRead count r
IsPassed (op.WriteFd fd bytes) r = IsNumber r
IsPassed (op.DupFd fd) r = IsUpTo 31 r
IsPassed op.MakePipe r = AreTwo r
IsPassed (op.MakeDir path) r = IsNumber r
IsPassed (op.StatAt path) r = IsStat r
IsPassed (op.ListAt path index) r = IsNamed r
IsPassed (op.Fork keep) r = IsUpTo 4294967295 r
IsPassed op.WaitChild r = IsChild r
IsPassed (op.LabelOf path) r = IsLabel r
IsPassed op.SelfLabel r = IsLabel r
IsPassed (op.Pex fd) r = IsClaim r
IsPassed (op.ReadLog index) r = IsLogLine r
IsPassed _ r = IsDone r

-- a reply to a call is a refusal, or what the call's row passes
abbrev pub FitsCall : Op → Reply → Type 0
FitsCall o (reply.No why) = Unit {0}
FitsCall o r = IsPassed o r

-- an answer to a call has a reply that fits it, if any
abbrev pub Fits : Op → Answer → Type 0
Fits o (answer.Given r) = FitsCall o r
Fits o _ = Unit {0}

-- ---- the buffer
-- where bytes were read, what stands behind them stays; else all of it does
abbrev pub LeavesRest : Answer → List ℕ → List ℕ → Type 0
LeavesRest (answer.Given (reply.Bytes k)) before after = drop k after ≡ drop k before
LeavesRest _ before after = after ≡ before
