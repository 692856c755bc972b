-- Sound frames: all that is said of a sound world but its lengths. What a frame that is one but for labels and the like keeps.
use Rattle.std.proofs.Common.{◌≡◌, ◌≤◌, ℕ, List, Some, option_map, true, refl, ap, ◌∙◌, length}
use Rattle.ix_label.specs.Category.{Categories, leq}
use Rattle.ix_model.specs.{world.World.{World, Frame, Content, Object, Process, Open, at, change, ceiling_of}, declared.config.FsSpec.FsSpec, laws.Sound.{HoldingsSound, Sound}}
use Rattle.ix_model.{specs.rows.Rows.{change_object, change_process, change_open, observe, affect}, proofs.tables.SameKinds.{Kinds, kinds_itself, kinds_floats}}
use Rattle.ix_model.specs.laws.Sound.{LabelsBelow, NamesSound, LivesSound, OpensSound, ProcessesSound, ClaimsSound, WithinLimits, LengthsSound, ShapesSound}
use Rattle.ix_model.proofs.tables.{Tables.seen_changed, Labels.{labels_object, labels_process, labels_observed, labels_affected}}
use Rattle.ix_model.proofs.words.{Keeps.{Holds, Keeps}, Ends.{Ends, kept_ends}, Looks.{ends_observe, ends_affect}}
use Rattle.ix_model.proofs.frames.Floats.{Floats, object_but, process_but, open_but, floats_open, floats_itself, floats_object, floats_process}
use Rattle.ix_model.proofs.frames.Floated.{names_floated, lives_floated, opens_floated, processes_floated, claims_floated, limits_floated}

pub record FrameSound (f : Frame) : Type 0 where
  pub labels : LabelsBelow f
  pub names : NamesSound f
  pub lives : LivesSound f
  pub opens : OpensSound f
  pub processes : ProcessesSound f
  pub claims : ClaimsSound f
  pub limits : WithinLimits f

pub frame_of : (w : World) → Sound w → FrameSound w.frame
frame_of w s = search

-- sound but for what stands at a number and what it may hold
pub record Measured (w : World) : Type 0 where
  pub frame : FrameSound w.frame
  pub lengths : LengthsSound w

pub measured_of : (g : Frame) (c : Content) → FrameSound g → LengthsSound (record { frame = g; content = c }) → Measured (record { frame = g; content = c })
measured_of g c s lengths = search

pub whole_of : (w : World) → Measured w → ShapesSound w.frame → HoldingsSound w → Sound w
whole_of w m shapes holdings = let s = m.frame in
    search

-- a frame that may follow a frame: a sound one, in which what stays is of the same kind
pub record Follows (f g : Frame) : Type 0 where
  pub sound : FrameSound g
  pub kinds : Kinds f.objects g.objects

pub follows_itself : (f : Frame) → FrameSound f → Follows f f
follows_itself f s = record { sound = s; kinds = kinds_itself _ }

-- ---- one but for labels and the like
-- the working directories and the claims are as they were
pub record Steady (f g : Frame) : Type 0 where
  pub floats : Floats f g
  pub homes : (n : ℕ) → option_map (λ (q : Process). q.cwd) (at g.processes n) ≡ option_map (λ (q : Process). q.cwd) (at f.processes n)
  pub claims : (n : ℕ) → option_map (λ (x : Object). x.claims) (at g.objects n) ≡ option_map (λ (x : Object). x.claims) (at f.objects n)

pub sound_steady : (f g : Frame) → Steady f g → LabelsBelow g → length g.log ≤ g.limits.log → FrameSound f → FrameSound g
sound_steady f g r below log s = record {
  labels = below;
  names = names_floated f g r.floats s.names;
  lives = lives_floated f g r.floats s.lives;
  opens = opens_floated f g r.floats s.opens;
  processes = processes_floated f g r.floats r.homes s.processes;
  claims = claims_floated f g r.floats r.claims s.claims;
  limits = limits_floated f g r.floats log s.limits;
}

steady_object : (g : Frame) (o : ℕ) (h : Object → Object) → ((x : Object) → object_but (h x) ≡ object_but x) → ((x : Object) → (h x).claims ≡ x.claims)
    → Steady g (record g { objects = change g.objects o h })
steady_object g o h same claims = record {
  floats = floats_object g g o h same (floats_itself g);
  homes = λ n. refl;
  claims = λ n. seen_changed (option_map (λ x. x.claims)) h (λ x. ap Some (claims x)) g.objects o n;
}

steady_process : (g : Frame) (p : ℕ) (h : Process → Process) → ((q : Process) → process_but (h q) ≡ process_but q) → ((q : Process) → (h q).cwd ≡ q.cwd)
    → Steady g (record g { processes = change g.processes p h })
steady_process g p h same homes = record {
  floats = floats_process g g p h same (floats_itself g);
  homes = λ n. seen_changed (option_map (λ q. q.cwd)) h (λ q. ap Some (homes q)) g.processes p n;
  claims = λ n. refl;
}

module _ (f : Frame) where
  follows_steady : (g h : Frame) → Steady g h → LabelsBelow h → length h.log ≤ h.limits.log → Follows f g → Follows f h
  follows_steady g h r below log s = record { sound = sound_steady g h r below log s.sound; kinds = kinds_floats f.objects g.objects s.kinds h.objects r.floats.objects }

  -- ---- changes of what stands
  pub followed_object : (g : Frame) (o : ℕ) (h : Object → Object) → ((x : Object) → object_but (h x) ≡ object_but x) → ((x : Object) → (h x).claims ≡ x.claims)
      → ((x : Object) → at g.objects o ≡ Some x → leq (h x).label (ceiling_of g.fss (h x)) ≡ true) → Follows f g
      → Follows f (record g { objects = change g.objects o h })
  followed_object g o h same claims below s = follows_steady g _ (steady_object g o h same claims) (labels_object g s.sound.labels o h below) s.sound.limits.log s

  pub followed_process : (g : Frame) (p : ℕ) (h : Process → Process) → ((q : Process) → process_but (h q) ≡ process_but q) → ((q : Process) → (h q).cwd ≡ q.cwd)
      → ((q : Process) → at g.processes p ≡ Some q → leq (h q).label (h q).ceiling ≡ true) → Follows f g
      → Follows f (record g { processes = change g.processes p h })
  followed_process g p h same homes below s = follows_steady g _ (steady_process g p h same homes) (labels_process g s.sound.labels p h below) s.sound.limits.log s

  -- a change that leaves the label
  pub follows_change_object : (o : ℕ) (h : Object → Object) → ((x : Object) → object_but (h x) ≡ object_but x) → ((x : Object) → (h x).claims ≡ x.claims)
      → ((fss : List FsSpec) (x : Object) → leq (h x).label (ceiling_of fss (h x)) ≡ leq x.label (ceiling_of fss x)) → Keeps (Follows f) (change_object o h)
  unfolding change_object Holds
  follows_change_object o h same claims label = record { led = λ g s. followed_object g o h same claims (λ x is. label g.fss x ∙ s.sound.labels.objects o x is) s }

  pub follows_change_process : (p : ℕ) (h : Process → Process) → ((q : Process) → process_but (h q) ≡ process_but q) → ((q : Process) → (h q).cwd ≡ q.cwd)
      → ((q : Process) → leq (h q).label (h q).ceiling ≡ leq q.label q.ceiling) → Keeps (Follows f) (change_process p h)
  unfolding change_process Holds
  follows_change_process p h same homes label = record { led = λ g s. followed_process g p h same homes (λ q is. label q ∙ s.sound.labels.processes p q is) s }

  -- another label of an open entry
  pub follows_change_open : (e : ℕ) (h : Open → Open) → ((x : Open) → open_but (h x) ≡ open_but x) → Keeps (Follows f) (change_open e h)
  unfolding change_open Holds
  follows_change_open e h same =
      record {
        led = λ g s. follows_steady g _ (record { floats = floats_open g g e h same (floats_itself g); homes = λ n. refl; claims = λ n. refl })
            (record { objects = s.sound.labels.objects; processes = s.sound.labels.processes }) s.sound.limits.log s;
      }

  -- ---- the two rules of floating
  observe_follows : (pid : ℕ) (seen : Categories) (g : Frame) → Follows f g → Ends (observe pid seen g) (λ r h. Follows f h) (λ u h. Follows f h)
  observe_follows pid seen g s =
      ends_observe pid seen g _ _ (λ r. s) s (λ p is low. follows_steady g _ (steady_process g pid _ (λ q. refl) (λ q. refl))
      (labels_observed g pid seen p is low s.sound.labels) s.sound.limits.log s)

  affect_follows : (pid o : ℕ) (through : Categories) (g : Frame) → Follows f g → Ends (affect pid o through g) (λ r h. Follows f h) (λ u h. Follows f h)
  affect_follows pid o through g s =
      ends_affect pid o through g _ _ (λ r. s) s (λ l x is low. follows_steady g _ (steady_object g o _ (λ y. refl) (λ y. refl))
      (labels_affected g o l x is low s.sound.labels) s.sound.limits.log s)

  pub follows_observe : (pid : ℕ) (seen : Categories) → Keeps (Follows f) (observe pid seen)
  follows_observe pid seen = record { led = λ g s. kept_ends (Follows f) _ (observe_follows pid seen g s) }

  pub follows_affect : (pid o : ℕ) (through : Categories) → Keeps (Follows f) (affect pid o through)
  follows_affect pid o through = record { led = λ g s. kept_ends (Follows f) _ (affect_follows pid o through g s) }
