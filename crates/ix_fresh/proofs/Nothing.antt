-- The rules of labels change nothing of what is known.
use Rattle.std.proofs.Common.{◌≡◌, ℕ, Bool, true, false, not, Some, refl, ap, subst}
use Rattle.ix_label.specs.{Category.{Categories, join, leq, same}, Lattice.{same-decides, join-absorbs}}
use Rattle.ix_model.specs.{world.World.{Frame, Object, Process, Open, at, living, is_pipe}, history.Freshness.{Way, Reading, Writing}}
use Rattle.ix_model.specs.rows.{Outcomes.Pass, Rows.{observe, affect, change_open, only_if}, Walks.OpenFile, OnDescriptors.float_entry}
use Rattle.ix_model.specs.rows.Rows as rows
use Rattle.ix_model.proofs.{tables.Tables.change_same, words.{Standing.behind_is, Transfers.one_there}}
use Rattle.ix_fresh.specs.Known.{Known, ChangeNothing, look}

adds_nothing : (a b : Categories) → leq a b ≡ true → same (join b a) b ≡ true
adds_nothing a b low = (same-decides _ b).1 (join-absorbs a b low)

looks_at_nothing : (f : Frame) (pid : ℕ) (p : Process) (seen : Categories) → living (at f.processes pid) ≡ Some p → leq seen p.label ≡ true → observe pid seen f ≡ Pass tt f
unfolding observe rows.◌>>=◌ rows.on_pass rows.process rows.some rows.only_if rows.pass
looks_at_nothing f pid p seen lives low = rw (lives, adds_nothing) refl

affects_nothing : (f : Frame) (pid o : ℕ) (p : Process) (x : Object) (through : Categories) → living (at f.processes pid) ≡ Some p → at f.objects o ≡ Some x
    → leq (join p.label through) x.label ≡ true → affect pid o through f ≡ Pass tt f
unfolding affect rows.◌>>=◌ rows.on_pass rows.process rows.object rows.frame rows.some rows.only_if rows.pass
affects_nothing f pid o p x through lives is low = rw (lives, is, adds_nothing) refl

floats_nothing : (f : Frame) (p : Process) (x : Object) (b : OpenFile) → at f.opens b.id ≡ Some b.entry → (is_pipe x ≡ false → leq p.label b.entry.label ≡ true) → float_entry p x b f ≡ Pass tt f
unfolding float_entry rows.only_if rows.pass rows.change_open
floats_nothing f p x b is taken = go _ taken
  where
    joins : Open → Open
    joins y = record y { label = join y.label p.label }

    same_entry : leq p.label b.entry.label ≡ true → joins b.entry ≡ b.entry
    same_entry low = (λ i. record b.entry { label = join-absorbs _ _ low i })

    go : (pipe : Bool) → (pipe ≡ false → leq p.label b.entry.label ≡ true) → only_if (not pipe) (change_open b.id joins) f ≡ Pass tt f
    go true taken = refl
    go false taken = ap (λ t. Pass tt (record f { opens = t }))
        (change_same _ _ _ (λ y here. subst (λ z. joins z ≡ z) (one_there _ _ y is here) (same_entry (taken refl))))

looks_nothing : (way : Way) (f : Frame) (pid fd : ℕ) (k : Known way f pid fd) → look way pid k.object k.entry f ≡ Pass tt f
looks_nothing Reading f pid fd k = looks_at_nothing f _ _ _ k.lives k.level
looks_nothing Writing f pid fd k = affects_nothing f _ _ _ _ _ k.lives k.is_object k.level

pub known_changes_nothing : (way : Way) (f : Frame) (pid fd : ℕ) (k : Known way f pid fd) → ChangeNothing way f pid k.process k.object k.entry
known_changes_nothing way f pid fd k = record {
  look = looks_nothing _ f _ fd k;
  float_entry = floats_nothing f _ _ _ (behind_is f _ fd _ k.is_behind) k.taken_in;
}
