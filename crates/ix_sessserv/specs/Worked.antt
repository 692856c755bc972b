-- One request to the session server, worked out: what is asked for under these answers, and what comes of it.
use Rattle.std.specs.Prelude.{◌≡◌, true, List, [], ◌∷◌, ◌++◌, Some, None, codes}
use Rattle.std.specs.Fmt.{decimal}
use Rattle.ix_label.specs.Category.{bottom}
use Rattle.ix_model.specs.history.Events.{Op}
use Rattle.ix_model.specs.history.Events as op
use Rattle.ix_model.specs.declared.call.Keep.TheVariants as keep
use Rattle.ix_model.specs.declared.ids.Fd.{Fd}
use Rattle.ix_model.specs.declared.refusal.Refusal.TheVariants as refusal
use Rattle.ix_model.specs.declared.reply.Reply.TheVariants as reply
use Rattle.ix_policy.specs.declared.rule.Act.TheVariants as act
use Rattle.ix_policy.specs.declared.rule.Rule.{Rule}
use Rattle.ix_asking.specs.declared.serving.outcome.Outcome.TheVariants as outcome
use Rattle.ix_asking.specs.Asking.{Answered, Asked, Came, next}
use Rattle.ix_asking.specs.Lines.{calls_then, no_calls, plain}
use Rattle.ix_asking.specs.Runs.{entry_of}
use Rattle.ix_asking.specs.serving.Serving.{Server}
use Rattle.ix_sessserv.specs.Serving.{serves}

-- in line 11 the server is process 1, its end of the pipe descriptor 0, and a child gets descriptor 4
abbrev pub server : Server
server = record { line = 11; pid = 1; fd = 0 }

abbrev pub hand : Fd
hand = record { 0 = 4 }

-- the one rule allows `ann` sessions with LOG
abbrev pub rules : List Rule
rules = (record { act = act.Session; user = Some (codes "ann"); clear = bottom; privs = record { 0 = 16 }; allow = true }) ∷ []

-- process 2 has claimed the other end, and asks for a session of `ann`; the child is process 3, and the grant is refused
abbrev pub answers : List Answered
answers =
    plain (reply.Whole (record { 0 = 2 }) bottom (record { 0 = 0 }))
    ∷ (record { reply = reply.Bytes 9; bytes = codes "login ann" })
    ∷ plain (reply.Number 3) ∷ plain reply.Done ∷ plain reply.Done
    ∷ plain (reply.No refusal.NoCapability) ∷ plain reply.Done ∷ plain (reply.Number 10) ∷ plain reply.Done ∷ []

abbrev pub by_server : Op → Asked
by_server o = record { line = 11; pid = 1; op = o }

abbrev pub by_child : Op → Asked
by_child o = record { line = 11; pid = 3; op = o }

abbrev pub GrantIsRefused : Type 0
GrantIsRefused =
    (calls_then 0 (serves rules server hand) answers no_calls ≡ record {
      entries =
          entry_of 0 (by_server (op.Pex 0))
          ∷ entry_of 0 (by_server (op.ReadFd 0 64))
          ∷ entry_of 0 (by_server (op.Fork (keep.One hand)))
          ∷ entry_of 0 (by_child (op.DropLic (record { 0 = 31 })))
          ∷ entry_of 0 (by_server (op.SetCeiling 3 bottom))
          ∷ entry_of 0 (by_server (op.GrantLic 3 (record { 0 = 16 })))
          ∷ entry_of 0 (by_child (op.Exit 255))
          ∷ entry_of 0 (by_server (op.WriteFd 0 (codes "refused " ++ decimal 16)))
          ∷ entry_of 0 (by_server (op.Unpex 0))
          ∷ [];
      next = None;
    })
    × (next (serves rules server hand) answers ≡ Came (outcome.Refused refusal.NoCapability 7))
