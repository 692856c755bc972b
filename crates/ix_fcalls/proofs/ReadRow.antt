-- The row of a read, once its tests are passed.
use Rattle.std.proofs.Common.{◌≡◌, ◌&&◌, ◌-◌, ℕ, true, false, Some, refl, sym, ap, ◌∙◌}
use Rattle.ix_label.specs.Category.{Categories, join}
use Rattle.ix_model.specs.{declared.refusal.Refusal.Refusal, world.World.{Frame, Object, Process, at, change, held, living, is_pipe}}
use Rattle.ix_model.specs.rows.{Outcomes.{Refuse, Pass}, OnDescriptors.{LengthChecks, read_fd, float_entry}, Walks.{OpenFile, opened}}
use Rattle.ix_model.specs.declared.refusal.Refusal.TheVariants as refusal
use Rattle.ix_model.specs.declared.reply.Reply.TheVariants as reply
use Rattle.ix_model.specs.rows.Rows.{◌>>=◌, ◌>>◌, on_pass, pass, need, some, only_if, refuse, frame, object, process, change_open, observe}
use Rattle.ix_fcalls.specs.Tested.{ToRead}

-- what an open entry takes in: nothing on a pipe, else the label of the process
pub floats_none : (p : Process) (x : Object) (e : OpenFile) (f : Frame) → is_pipe x ≡ true → float_entry p x e f ≡ Pass tt f
unfolding float_entry only_if pass
floats_none p x e f pipe = rw pipe refl

pub floats_in : (p : Process) (x : Object) (e : OpenFile) (f : Frame) → is_pipe x ≡ false
    → float_entry p x e f ≡ Pass tt (record f { opens = change f.opens e.id (λ y. record y { label = join y.label p.label }) })
unfolding float_entry only_if change_open
floats_in p x e f file = rw file refl

module _ (t : LengthChecks) (pid fd count : ℕ) (f : Frame) (e : OpenFile) (x : Object) (tested : ToRead f pid fd count e x) where
  pub read_refused : (s : Categories) (why : Refusal) (g : Frame) → s ≡ join x.label e.entry.label → observe pid s f ≡ Refuse why g → read_fd t pid fd count f ≡ Refuse why g
  unfolding read_fd opened frame object some ◌>>=◌ ◌>>◌ on_pass pass need refuse
  read_refused s why g is stops =
      let refused = ap (λ l. observe pid l f) (sym is) ∙ stops in
      rw (tested.is_behind, tested.reads, tested.is_object, tested.free, tested.few, refused) refl

  module _ (s : Categories) (g : Frame) (is : s ≡ join x.label e.entry.label) (looks : observe pid s f ≡ Pass tt g) where
    seen : observe pid (join x.label e.entry.label) f ≡ Pass tt g
    seen = ap (λ l. observe pid l f) (sym is) ∙ looks

    pub read_waits : (is_pipe x && t.empty && held g.opens e.entry.object (1 - e.entry.end)) ≡ true → read_fd t pid fd count f ≡ Refuse refusal.Again g
    unfolding read_fd opened frame object some ◌>>=◌ ◌>>◌ on_pass pass need refuse
    read_waits wait = rw (tested.is_behind, tested.reads, tested.is_object, tested.free, tested.few, seen, wait) refl

    pub read_passes : (p : Process) (h : Frame) → (is_pipe x && t.empty && held g.opens e.entry.object (1 - e.entry.end)) ≡ false
        → living (at g.processes pid) ≡ Some p → float_entry p x e g ≡ Pass tt h → read_fd t pid fd count f ≡ Pass (reply.Bytes 0) h
    unfolding read_fd opened frame object process some ◌>>=◌ ◌>>◌ on_pass pass need refuse
    read_passes p h wait lives floats = rw (tested.is_behind, tested.reads, tested.is_object, tested.free, tested.few, seen, wait, lives, floats) refl
