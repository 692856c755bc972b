-- What the tests of a read or a write find before it looks at a label, and the calls that have nothing to look at.
use Rattle.std.specs.Prelude.{◌≡◌, ◌-◌, ℕ, true, false, not, ◌&&◌, nat_le, Some}
use Rattle.ix_model.specs.world.World.{Frame, Object, at, held, is_pipe, is_trusted, may_read, may_write, claimed_by_another}
use Rattle.ix_model.specs.rows.Outcomes.{Refuse}
use Rattle.ix_model.specs.rows.OnDescriptors.{LengthChecks, read_fd}
use Rattle.ix_model.specs.rows.Walks.{OpenFile, behind}
use Rattle.ix_model.specs.history.Events.{Op}
use Rattle.ix_model.specs.history.Events as op
use Rattle.ix_model.specs.history.Freshness.{Reading, Writing}
use Rattle.ix_model.specs.declared.refusal.Refusal.{Refusal}
use Rattle.ix_fresh.specs.Known.{Known}

-- what stands behind a descriptor may be read, as far as no label and no length tells
pub record ToRead (f : Frame) (pid fd count : ℕ) (e : OpenFile) (x : Object) : Type 0 where
  pub is_behind : behind f pid fd ≡ Some e
  pub is_object : at f.objects e.entry.object ≡ Some x
  pub reads : may_read e.entry.mode ≡ true
  pub free : claimed_by_another x e.entry.end pid ≡ false
  pub few : nat_le count 4096 ≡ true

-- a read is refused, whatever lengths tell
abbrev pub RefusesRead : Frame → ℕ → ℕ → ℕ → Refusal → Type 0
RefusesRead f pid fd count why = (t : LengthChecks) → read_fd t pid fd count f ≡ Refuse why f

-- what stands behind a descriptor may be written, as far as no label tells
pub record ToWrite (t : LengthChecks) (f : Frame) (pid fd : ℕ) (e : OpenFile) (x : Object) : Type 0 where
  pub is_behind : behind f pid fd ≡ Some e
  pub is_object : at f.objects e.entry.object ≡ Some x
  pub writes : may_write e.entry.mode ≡ true
  pub free : claimed_by_another x e.entry.end pid ≡ false
  pub small : t.too_big ≡ false
  pub untrusted : is_trusted x ≡ false
  pub whole : (is_pipe x && not (held f.opens e.entry.object (1 - e.entry.end))) ≡ false
  pub room : t.full ≡ false
  pub space : t.no_space ≡ false

-- the call is a read or a write through a descriptor of which all is known
abbrev pub IsKnown : Frame → ℕ → Op → Type 0
IsKnown f pid (op.ReadFd fd count) = Known Reading f pid fd
IsKnown f pid (op.WriteFd fd bytes) = Known Writing f pid fd
IsKnown f pid _ = ⊥
