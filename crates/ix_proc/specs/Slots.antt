-- Slots whose pids rise, and the records by pid to which they lead.
use Rattle.std.specs.Prelude.{◌≡◌, ℕ, ◌<◌, ◌==◌, Bool, false, List, [], ◌∷◌, length, map, replicate, count_by, Option, Some, None, is_some, unwrap_or, if◌then◌else◌, slice_index_or, slice_set}
use Rattle.std.specs.Option.{option_map_or}
use Rattle.std.specs.List.{range_with_len}
use Rattle.std.proofs.Common.{option_map}
use Rattle.ix_label.specs.Category.{bottom}
use Rattle.ix_model.specs.world.Callers.{number_of}
use Rattle.ix_model.specs.world.Privs.{no_privileges}
use Rattle.ix_model.specs.world.World.{Process, put}
use Rattle.ix_proc.specs.Table.{ProcTable}
use Rattle.ix_model.specs.declared.ids.Pid.{Pid}
use Rattle.ix_model.specs.declared.views.Caller.{Caller}
use Rattle.ix_proc.specs.declared.slot.Slot.{Slot}
use Rattle.ix_proc.specs.declared.slot.Record.{Record}

abbrev pub pid_in : Slot → ℕ
pid_in s = s.pid.0

-- the record that stands where no process ever stood
abbrev pub nobody : Record
nobody = record {
  who = record {
    pid = record { 0 = 0 };
    float = record { label = bottom; ceiling = bottom; frozen = false };
    cap = no_privileges;
    lic =
        no_privileges;
    own = no_privileges;
    cwd = record { 0 = 0 };
    fds = replicate 32 None;
  };
  parent = None;
  ended = None;
}

abbrev pub record_at : List Record → ℕ → Record
record_at records link = slice_index_or records link nobody

abbrev pub new_record : Caller → Option Pid → Record
new_record c parent = record { who = c; parent = parent; ended = None }

-- ---- what a record stands for
abbrev pub process_of : Record → Process
process_of r = record {
  parent = option_map number_of r.parent;
  label = r.who.float.label;
  ceiling = r.who.float.ceiling;
  frozen = r.who.float.frozen;
  cap =
      r.who.cap;
  lic = r.who.lic;
  own = r.who.own;
  cwd = r.who.cwd.0;
  fds = r.who.fds;
  ended = is_some r.ended;
}

abbrev pub process_in : Option Record → Option Process
process_in r = option_map process_of r

abbrev pub status_in : Option Record → ℕ
status_in r = option_map_or (λ x. unwrap_or x.ended 0) r 0

abbrev pub table_of : List (Option Record) → ℕ → ProcTable
table_of rs limit = record { processes = map process_in rs; statuses = map status_in rs; limit = limit }

-- the tables with that record at its pid
abbrev pub with_record : Record → ProcTable → ProcTable
with_record r t = record t { processes = put t.processes r.who.pid.0 (Some (process_of r)); statuses = slice_set t.statuses r.who.pid.0 (status_in (Some r)) }

-- ---- by pid
abbrev pub lookup : List Slot → ℕ → Option Slot
lookup [] p = None
lookup (s ∷ t) p = if pid_in s == p then Some s else lookup t p

-- the record to which a slot leads, and that of a pid
abbrev pub led : List Record → Option Slot → Option Record
led records s = option_map (λ x. record_at records x.link) s

abbrev pub found : List Slot → List Record → ℕ → Option Record
found slots records p = led records (lookup slots p)

unfoldable pub laid : List Slot → List Record → ℕ → List (Option Record)
laid slots records next = map (found slots records) (range_with_len 0 next)

-- ---- what the code keeps
-- all pids are above this one
abbrev pub Above : ℕ → List Slot → Type 0
Above p [] = Unit {0}
Above p (s ∷ t) = (p < pid_in s) × Above p t

abbrev pub Rises : List Slot → Type 0
Rises [] = Unit {0}
Rises (s ∷ t) = Above (pid_in s) t × Rises t

-- all pids are below this one
abbrev pub Below : ℕ → List Slot → Type 0
Below n [] = Unit {0}
Below n (s ∷ t) = (pid_in s < n) × Below n t

-- the pids rise to the next one, and each slot leads to a record of its own that bears its pid
pub record AreSlots (slots : List Slot) (records : List Record) (next : ℕ) : Type 0 where
  pub rises : Rises slots
  pub below : Below next slots
  pub counted : length slots ≡ count_by is_some (laid slots records next)
  pub inside : (p : ℕ) (s : Slot) → lookup slots p ≡ Some s → s.link < length records
  pub named : (p : ℕ) (s : Slot) → lookup slots p ≡ Some s → (record_at records s.link).who.pid.0 ≡ p
  pub differ : (p q : ℕ) (s t : Slot) → lookup slots p ≡ Some s → lookup slots q ≡ Some t → s.link ≡ t.link → p ≡ q

-- the place of the slot with a pid, if there is one
abbrev pub Finds : Option ℕ → List Slot → ℕ → Type 0
Finds (Some k) slots p = (k < length slots) × ((d : Slot) → pid_in (slice_index_or slots k d) ≡ p)
Finds None slots p = lookup slots p ≡ None

-- ---- children
abbrev pub is_child_record : ℕ → Record → Bool
is_child_record pid r = option_map_or (λ q. q.0 == pid) r.parent false
