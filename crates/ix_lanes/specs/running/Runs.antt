-- What a run of a lane stands for, and what a phase of it does.
use Rattle.std.specs.Prelude.{◌≡◌, ℕ, suc, Bool, true, List}
use Rattle.ix_model.specs.history.Made.{Made}
use Rattle.ix_model.specs.history.Systems.{FullFor}
use Rattle.ix_model.specs.declared.reply.Answer.{Answer}
use Rattle.ix_script.specs.declared.line.Line.{Line}
use Rattle.ix_asking.specs.Asking.{Next, Came, Due, next}
use Rattle.ix_asking.specs.Runs.{answers_of, AsAsked}
use Rattle.ix_lanes.specs.asking.Asked.{Names}
use Rattle.ix_lanes.specs.running.Phases.{asks_before}

-- a run of a lane: its script and the lane's seat, how many phases it has done, whether it stands between two of them, and what each name after `as`
-- stands for
pub record Ran : Type 0 where
  pub script : List Line
  pub lane : ℕ
  pub done : ℕ
  pub between : Bool
  pub names : Names

-- It stands between two phases. The entries are those that the lane's lines ask for in the phases that are done, where they are answered so. No further
-- one is asked for, and the names stand for what the replies give.
pub record StandsFor (run : Ran) (made : List Made) : Type 0 where
  pub between : run.between ≡ true
  pub asked : AsAsked run.lane (asks_before run.script run.lane run.done) made
  pub came : next (asks_before run.script run.lane run.done) (answers_of made) ≡ Came run.names

-- a call stands next, and this stop is the answer to it
abbrev pub IsStoppedBy : {R : Type 0} → Next R → Answer → Type 0
IsStoppedBy (Came r) stop = ⊥
IsStoppedBy (Due a) stop = FullFor a.op stop

-- Of the entries that the lane's lines ask for up to the end of the next phase, these are made, and this stop is the answer to the one after them.
pub record CutOff (run : Ran) (made : List Made) (stop : Answer) : Type 0 where
  pub asked : AsAsked run.lane (asks_before run.script run.lane (suc run.done)) made
  pub stopped : IsStoppedBy (next (asks_before run.script run.lane (suc run.done)) (answers_of made)) stop
