-- The words that the rows of the call table are written in: tests, and changes, in order.
use Rattle.std.specs.Prelude.{ℕ, Bool, true, false, not, [], ◌∷◌, ◌++◌, Option, Some, None}
use Rattle.ix_label.specs.Category.{Categories, join, leq, same}
use Rattle.ix_model.specs.world.World.{Object, Process, Open, Frame, at, put, change, living, ceiling_of}
use Rattle.ix_model.specs.rows.Outcomes.{Outcome, Refuse, Pass, Row}
use Rattle.ix_model.specs.declared.refusal.Refusal.{Refusal}
use Rattle.ix_model.specs.declared.refusal.Refusal.TheVariants as refusal

-- ---- one after another
-- what comes after an answer; after a refusal nothing comes
unfoldable pub on_pass : {A B : Type 0} → Outcome A → (A → Frame → Outcome B) → Outcome B
on_pass (Refuse r f) k = Refuse r f
on_pass (Pass a f) k = k a f

-- a part, and then one that is told what the first answered
unfoldable pub ◌>>=◌ : {A B : Type 0} → Row A → (A → Row B) → Row B
◌>>=◌ m k = λ f. on_pass (m f) k

-- a part, and then another
unfoldable pub ◌>>◌ : {A B : Type 0} → Row A → Row B → Row B
◌>>◌ m k = λ f. on_pass (m f) (λ a. k)

-- ---- tests
-- an answer
unfoldable pub pass : {A : Type 0} → A → Row A
pass a = λ f. Pass a f

-- a refusal
unfoldable pub refuse : {A : Type 0} → Refusal → Row A
refuse r = λ f. Refuse r f

-- the test must hold, else it is refused
unfoldable pub need : Bool → Refusal → Row (Unit {0})
need true r = pass tt
need false r = refuse r

-- there must be one, else it is refused
unfoldable pub some : {A : Type 0} → Option A → Refusal → Row A
some None r = refuse r
some (Some a) r = pass a

-- the row, where the test holds
unfoldable pub only_if : Bool → Row (Unit {0}) → Row (Unit {0})
only_if true m = m
only_if false m = pass tt

-- ---- what stands
-- the frame as it stands
unfoldable pub frame : Row Frame
frame = λ f. Pass f f

-- the living process of a pid. That the caller lives was tested before the row.
unfoldable pub process : ℕ → Row Process
process pid = λ f. some (living (at f.processes pid)) refusal.NoProcess f

-- the object of a number at which one stands. In a sound world no row asks for another.
unfoldable pub object : ℕ → Row Object
object o = λ f. some (at f.objects o) refusal.BadFd f

-- the record of a process, living or ended, at which one stands
unfoldable pub record_of : ℕ → Row Process
record_of p = λ f. some (at f.processes p) refusal.NoProcess f

-- ---- changes
-- a process, an object or an open entry with a change; where nothing stands nothing changes
unfoldable pub change_process : ℕ → (Process → Process) → Row (Unit {0})
change_process pid h = λ f. Pass tt (record f { processes = change f.processes pid h })

unfoldable pub change_object : ℕ → (Object → Object) → Row (Unit {0})
change_object o h = λ f. Pass tt (record f { objects = change f.objects o h })

-- an object, a process or an open entry at a number, or nothing there
unfoldable pub put_object : ℕ → Option Object → Row (Unit {0})
put_object o x = λ f. Pass tt (record f { objects = put f.objects o x })

unfoldable pub put_process : ℕ → Option Process → Row (Unit {0})
put_process p x = λ f. Pass tt (record f { processes = put f.processes p x })

-- the next pid's
unfoldable pub add_process : Process → Row (Unit {0})
add_process p = λ f. Pass tt (record f { processes = f.processes ++ Some p ∷ [] })

unfoldable pub put_open : ℕ → Option Open → Row (Unit {0})
put_open e x = λ f. Pass tt (record f { opens = put f.opens e x })

unfoldable pub change_open : ℕ → (Open → Open) → Row (Unit {0})
change_open e h = λ f. Pass tt (record f { opens = change f.opens e h })

-- ---- the two rules of floating
-- observe: the caller's label is joined with the label of what it looks at, unless it is frozen or has to stay below its ceiling
unfoldable pub observe : ℕ → Categories → Row (Unit {0})
observe pid seen = do
  p ← process pid
  only_if (not (same (join p.label seen) p.label)) (do
    need (not p.frozen) refusal.ProcFrozen
    need (leq (join p.label seen) p.ceiling) refusal.ProcCeiling
    change_process pid (λ q. record q { label = join q.label seen }))

-- affect: the object's label is joined with the caller's, and with that of the open entry that the caller goes through, unless
-- the object is frozen or has to stay below its file system's ceiling. Where no open entry's label counts, bottom stands for it.
unfoldable pub affect : ℕ → ℕ → Categories → Row (Unit {0})
affect pid o through = do
  p ← process pid
  x ← object o
  f ← frame
  only_if (not (same (join x.label (join p.label through)) x.label)) (do
    need (not x.frozen) refusal.FileFrozen
    need (leq (join x.label (join p.label through)) (ceiling_of f.fss x)) refusal.FsCeiling
    change_object o (λ y. record y { label = join y.label (join p.label through) }))

-- Opens the words that the code steps through; those for which it has a call of its own stay closed.
unfoldable pub coding : ℕ
unfolding ◌>>=◌ ◌>>◌ on_pass need some only_if pass refuse frame process object change_process change_object change_open put_object put_process put_open add_process
coding = 0
