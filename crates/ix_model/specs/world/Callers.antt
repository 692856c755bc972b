-- A living process as the calls that it makes see it.
use Rattle.std.specs.Prelude.{ℕ}
use Rattle.ix_model.specs.world.World.{Process}
use Rattle.ix_model.specs.declared.ids.Pid.{Pid}
use Rattle.ix_model.specs.declared.views.Caller.{Caller}

-- the number of a pid
abbrev pub number_of : Pid → ℕ
number_of p = p.0

-- what the calls of a process see of it
abbrev pub caller_of : ℕ → Process → Caller
caller_of pid p = record {
  pid = record { 0 = pid };
  float = record { label = p.label; ceiling = p.ceiling; frozen = p.frozen };
  cap = p.cap;
  lic = p.lic;
  own =
      p.own;
  cwd = record { 0 = p.cwd };
  fds = p.fds;
}

-- the process with what a call left of its caller
abbrev pub with_caller : Caller → Process → Process
with_caller c p = record {
  parent = p.parent;
  label = c.float.label;
  ceiling = c.float.ceiling;
  frozen = c.float.frozen;
  cap = c.cap;
  lic = c.lic;
  own =
      c.own;
  cwd = c.cwd.0;
  fds = c.fds;
  ended = p.ended;
}
