-- The rows of a read and a write that have nothing to look at.
use Rattle.std.proofs.Common.{◌≡◌, ◌&&◌, ◌-◌, ℕ, true, false, Some, refl, subst}
use Rattle.ix_label.specs.Category.{join}
use Rattle.ix_model.{specs.{world.World.{Frame, Object, at, held, is_pipe}, history.Freshness.{Way, Reading, Writing}}, proofs.words.Transfers.one_there}
use Rattle.ix_model.specs.rows.{Outcomes.{Refuse, Pass}, OnDescriptors.{LengthChecks, read_fd, write_fd}, Walks.{OpenFile, behind}}
use Rattle.ix_fresh.{specs.Known.{Known, ChangeNothing}, proofs.Nothing.known_changes_nothing}
use Rattle.ix_fcalls.{specs.Tested.{ToRead, ToWrite}, proofs.{ReadRow.{read_waits, read_passes}, WriteRow.write_passes}}
use Rattle.ix_model.specs.declared.refusal.Refusal.TheVariants as refusal
use Rattle.ix_model.specs.declared.reply.Reply.TheVariants as reply

-- what is known is known of the open entry and the object that stand there
changes_nothing : (way : Way) (f : Frame) (pid fd : ℕ) (k : Known way f pid fd) (e : OpenFile) (x : Object) → behind f pid fd ≡ Some e
    → at f.objects e.entry.object ≡ Some x → ChangeNothing way f pid k.process x e
changes_nothing way f pid fd k e x is there =
    let entry = one_there _ _ e k.is_behind is in
    let object = one_there (at f.objects e.entry.object) _ x (subst (λ b. at f.objects b.entry.object ≡ Some k.object) entry k.is_object) there in
    subst (λ y. ChangeNothing way f pid k.process y e) object (subst (λ b. ChangeNothing way f pid k.process k.object b) entry (known_changes_nothing _ f _ fd k))

module _ (t : LengthChecks) (pid fd count : ℕ) (f : Frame) (e : OpenFile) (x : Object) (k : Known Reading f pid fd) (tested : ToRead f pid fd count e x) where
  pub known_read_waits : (is_pipe x && t.empty && held f.opens e.entry.object (1 - e.entry.end)) ≡ true → read_fd t pid fd count f ≡ Refuse refusal.Again f
  known_read_waits = read_waits t _ fd _ f e x tested (join x.label e.entry.label) f refl (changes_nothing _ f _ fd k e x tested.is_behind tested.is_object).look

  pub known_read_passes : (is_pipe x && t.empty && held f.opens e.entry.object (1 - e.entry.end)) ≡ false → read_fd t pid fd count f ≡ Pass (reply.Bytes 0) f
  known_read_passes wait =
      let nothing = changes_nothing _ f _ fd k e x tested.is_behind tested.is_object in
      read_passes t _ fd _ f e x tested (join x.label e.entry.label) f refl nothing.look _ f wait k.lives nothing.float_entry

pub known_write_passes : (t : LengthChecks) (pid fd : ℕ) (f : Frame) (e : OpenFile) (x : Object) → Known Writing f pid fd → ToWrite t f pid fd e x → write_fd t pid fd f ≡ Pass (reply.Number 0) f
known_write_passes t pid fd f e x k tested =
    let nothing = changes_nothing _ f _ fd k e x tested.is_behind tested.is_object in
    write_passes t _ fd f e x tested _ k.lives f f nothing.look nothing.float_entry
