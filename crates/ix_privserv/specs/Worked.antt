-- One request to the privilege server, worked out: what is asked for under these answers, and what comes of it.
use Rattle.std.specs.Prelude.{◌≡◌, true, List, [], ◌∷◌, ◌++◌, None, codes}
use Rattle.std.specs.Fmt.{decimal}
use Rattle.ix_label.specs.Category.{bottom}
use Rattle.ix_model.specs.history.Events.{Op}
use Rattle.ix_model.specs.history.Events as op
use Rattle.ix_model.specs.declared.reply.Reply.TheVariants as reply
use Rattle.ix_policy.specs.declared.rule.Act.TheVariants as act
use Rattle.ix_policy.specs.declared.rule.Rule.{Rule}
use Rattle.ix_asking.specs.declared.serving.outcome.Outcome.TheVariants as outcome
use Rattle.ix_asking.specs.Asking.{Answered, Asked, Came, next}
use Rattle.ix_asking.specs.Lines.{calls_then, no_calls, plain}
use Rattle.ix_asking.specs.Runs.{entry_of}
use Rattle.ix_asking.specs.serving.Serving.{Server}
use Rattle.ix_privserv.specs.Serving.{serves}

-- in line 11 the server is process 1, and its end of the pipe descriptor 0
abbrev pub server : Server
server = record { line = 11; pid = 1; fd = 0 }

-- the second rule allows DOWN to every process whose label is the least
abbrev pub rules : List Rule
rules =
    (record { act = act.Session; user = None; clear = bottom; privs = record { 0 = 1 }; allow = true })
    ∷ (record { act = act.Grant; user = None; clear = bottom; privs = record { 0 = 1 }; allow = true })
    ∷ []

-- process 2 has claimed the other end, wants DOWN, and gets it
abbrev pub answers : List Answered
answers =
    plain (reply.Whole (record { 0 = 2 }) bottom (record { 0 = 0 }))
    ∷ (record { reply = reply.Bytes 6; bytes = codes "want D" })
    ∷ plain reply.Done ∷ plain (reply.Number 9) ∷ plain reply.Done ∷ []

abbrev pub by_server : Op → Asked
by_server o = record { line = 11; pid = 1; op = o }

abbrev pub WantsDown : Type 0
WantsDown =
    (calls_then 0 (serves rules server) answers no_calls ≡ record {
      entries =
          entry_of 0 (by_server (op.Pex 0))
          ∷ entry_of 0 (by_server (op.ReadFd 0 64))
          ∷ entry_of 0 (by_server (op.GrantLic 2 (record { 0 = 1 })))
          ∷ entry_of 0 (by_server (op.WriteFd 0 (codes "granted " ++ decimal 2)))
          ∷ entry_of 0 (by_server (op.Unpex 0))
          ∷ [];
      next = None;
    })
    × (next (serves rules server) answers ≡ Came (outcome.Granted 2 (record { 0 = 2 }) true))
