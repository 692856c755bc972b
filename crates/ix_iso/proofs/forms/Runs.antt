-- A step keeps to a form, and so does a run from the opening world of a config that fits.
use Rattle.std.proofs.Common.{◌≡◌, ℕ, zero, suc, ◌-◌, Bool, true, false, List, [], ◌∷◌, ◌++◌, map, replicate, take, Option, Some, None, sym, subst, arith, if◌then◌else◌}
use Rattle.std.{specs.{Prelude.{All, slice_get, unwrap_or}, Option.option_map_or}, proofs.lemmas.List.Elements.{All-nil, All-tail, All-take}}
use Rattle.ix_label.specs.{declared.form.Form.Form, Forms.Fits}
use Rattle.ix_model.specs.{world.World.{Frame, World, Object}, rows.{Outcomes.{Outcome, Refuse, Pass}, OnDescriptors.LengthChecks, Table.{Decision, row, settled, verdict}}}
use Rattle.ix_model.specs.{rows.Walks.{OpenFile, node}, history.{Events.{Op, Event}, Spelled.{AuditFits, CallFits, ConfigFits, EventsFit, ReplyFits}}, opening.Opening.opening_world}
use Rattle.ix_model.{specs.{declared.{config.{Config.Config, FsSpec.FsSpec, ObjSpec.ObjSpec}, reply.Reply.Reply}, history.Step.{step, step_of, run}}, proofs.words.Answered.step_frame}
use Rattle.ix_model.specs.opening.Opening.{root_of, bare, bare_objects, directory_of, placed, with_object, with_objects, bare_world}
use Rattle.ix_model.specs.history.Step.{plainly, read_answer, write_answer, cut_answer, seek_answer, stat_answer, exit_answer, wait_answer, pex_answer, answer}
use Rattle.ix_iso.{specs.{Forms.{FrameFits, FormsStay}, Laws.given_after}, proofs.forms.{Frames.{AllAt, fits-bottom, all_put, all_changed, all_get}, Rows.{Fit, fit_row}}}
use Rattle.ix_model.specs.history.Events as op
use Rattle.ix_model.specs.declared.refusal.Refusal.TheVariants as refusal
use Rattle.ix_model.specs.declared.reply.Kind.TheVariants as kind
use Rattle.ix_model.specs.declared.reply.Reply.TheVariants as reply

module _ (form : Form) where
  -- ---- a decision
  record DecisionFits (d : Decision) : Type 0 where
    reply : ReplyFits form d.reply
    frame : FrameFits form d.frame

  one_fits : (b : Bool) (f g : Frame) → FrameFits form f → FrameFits form g → FrameFits form (if b then g else f)
  one_fits true f g hf hg = hg
  one_fits false f g hf hg = hf

  settled_fits : (f : Frame) (o : Outcome Reply) → FrameFits form f → Fit form o → DecisionFits (settled f o)
  unfolding Fit
  settled_fits f (Refuse r g) hf h = record { reply = tt; frame = one_fits _ f g hf h }
  settled_fits f (Pass a g) hf h = search

  verdict_fits : (t : LengthChecks) (place pid : ℕ) (c : Op) (f : Frame) → CallFits form c → FrameFits form f → DecisionFits (verdict t place pid c f)
  unfolding verdict
  verdict_fits t place pid c f call h = go _
    where
      go : (b : Bool) → DecisionFits (if b then settled f (row t place pid c f) else record { reply = reply.No refusal.NoProcess; frame = f })
      go true = settled_fits f (row t _ _ c f) h ((fit_row _ t _ _ c call).led f h)
      go false = search

  -- ---- an answer
  read_fits : (w : World) (count : ℕ) (b : Option OpenFile) (r : Reply) (g : Frame) → ReplyFits form r → ReplyFits form (read_answer w count b r g).reply
  unfolding read_answer plainly
  read_fits w count (Some e) (reply.Bytes k) g h = tt
  read_fits w count _ r g h = h

  write_fits : (w : World) (new : List ℕ) (b : Option OpenFile) (r : Reply) (g : Frame) → ReplyFits form r → ReplyFits form (write_answer w new b r g).reply
  unfolding write_answer plainly
  write_fits w new (Some e) (reply.Number k) g h = tt
  write_fits w new _ r g h = h

  cut_fits : (w : World) (len : ℕ) (b : Option OpenFile) (r : Reply) (g : Frame) → ReplyFits form r → ReplyFits form (cut_answer w len b r g).reply
  unfolding cut_answer plainly
  cut_fits w len (Some e) reply.Done g h = tt
  cut_fits w len _ r g h = h

  seek_fits : (w : World) (offset : ℕ) (b : Option OpenFile) (r : Reply) (g : Frame) → ReplyFits form r → ReplyFits form (seek_answer w offset b r g).reply
  unfolding seek_answer plainly
  seek_fits w offset (Some e) reply.Done g h = tt
  seek_fits w offset _ r g h = h

  stat_fits : (w : World) (r : Reply) (g : Frame) → ReplyFits form r → ReplyFits form (stat_answer w r g).reply
  unfolding stat_answer plainly
  stat_fits w (reply.Stat o kind.File size links frozen cap lic) g h = tt
  stat_fits w r g h = h

  exit_fits : (w : World) (pid status : ℕ) (r : Reply) (g : Frame) → ReplyFits form r → ReplyFits form (exit_answer w pid status r g).reply
  unfolding exit_answer plainly
  exit_fits w pid status reply.Done g h = tt
  exit_fits w pid status r g h = h

  wait_fits : (w : World) (r : Reply) (g : Frame) → ReplyFits form r → ReplyFits form (wait_answer w r g).reply
  unfolding wait_answer plainly
  wait_fits w (reply.Child p status) g h = tt
  wait_fits w r g h = h

  pex_fits : (w : World) (b : Option OpenFile) (r : Reply) (g : Frame) → ReplyFits form r → ReplyFits form (pex_answer w b r g).reply
  unfolding pex_answer plainly
  pex_fits w (Some e) r g h = h
  pex_fits w None r g h = h

  answer_fits : (w : World) (pid : ℕ) (c : Op) (d : Decision) → ReplyFits form d.reply → ReplyFits form (answer w pid c d).reply
  unfolding answer plainly
  answer_fits w pid (op.ReadFd fd count) d h = read_fits w _ _ _ _ h
  answer_fits w pid (op.WriteFd fd bytes) d h = write_fits w _ _ _ _ h
  answer_fits w pid (op.CutFd fd len) d h = cut_fits w _ _ _ _ h
  answer_fits w pid (op.SeekFd fd offset) d h = seek_fits w _ _ _ _ h
  answer_fits w pid (op.StatAt path) d h = stat_fits w _ _ h
  answer_fits w pid (op.Exit status) d h = exit_fits w _ _ _ _ h
  answer_fits w pid op.WaitChild d h = wait_fits w _ _ h
  answer_fits w pid (op.Pex fd) d h = pex_fits w _ _ _ h
  answer_fits w pid c d h = h

  -- ---- a step
  pub step_fits : (w : World) (place pid : ℕ) (c : Op) → CallFits form c → FrameFits form w.frame → FrameFits form (step w place pid c).world.frame
  step_fits w place pid c call h = subst (FrameFits form) (sym (step_frame w _ _ c)) (verdict_fits _ _ _ c _ call h).frame

  pub step_reply_fits : (w : World) (place pid : ℕ) (c : Op) → CallFits form c → FrameFits form w.frame → ReplyFits form (step w place pid c).reply
  unfolding step
  step_reply_fits w place pid c call h = answer_fits w _ c _ (verdict_fits _ _ _ c _ call h).reply

  -- ---- a run
  pub run_fits : (w : World) (place : ℕ) (events : List Event) → EventsFit form events → FrameFits form w.frame → FrameFits form (run w place events).frame
  run_fits w place [] calls h = h
  run_fits w place (e ∷ events) calls h = run_fits (step_of w place e).world _ events (All-tail (λ (e : Event). CallFits form e.op) e events calls)
      (step_fits w _ e.pid e.op (calls 0 e (omega arith)) h)

  pub given_fits : (w : World) (place : ℕ) (events : List Event) → EventsFit form events → FrameFits form w.frame → (n : ℕ) (e : Event)
      → slice_get events n ≡ Some e → ReplyFits form (given_after w place events n e).reply
  given_fits w place events calls h n e is =
      let Fitting : Event → Type 0 = λ e. CallFits form e.op in
      step_reply_fits _ _ _ _ (all_get Fitting _ n e calls is) (run_fits w _ _ (All-take Fitting n events calls) h)

  -- ---- the opening world
  at_append : {A : Type 0} (P : A → Type 0) (t u : List (Option A)) → AllAt P t → AllAt P u → AllAt P (t ++ u)
  at_append P [] u ht hu n y here = hu n y here
  at_append P (x ∷ t) u ht hu zero y here = ht 0 y here
  at_append P (x ∷ t) u ht hu (suc n) y here = at_append P t u (λ m. ht (suc m)) hu n y here

  at_free : {A : Type 0} (P : A → Type 0) (k : ℕ) → AllAt P (replicate k None)
  at_free P zero n y here = cc
  at_free P (suc k) zero y here = cc
  at_free P (suc k) (suc n) y here = at_free P k n y here

  at_one : {A : Type 0} (P : A → Type 0) (x : A) → P x → AllAt P (Some x ∷ [])
  at_one P x h zero y here = let same : x ≡ y = cc in subst P same h
  at_one P x h (suc n) y here = cc

  at_map : {A B : Type 0} (P : B → Type 0) (h : A → B) (xs : List A) → All (λ x. P (h x)) xs → AllAt P (map (λ x. Some (h x)) xs)
  at_map P h [] all n y here = cc
  at_map P h (x ∷ xs) all zero y here = let same : h x ≡ y = cc in subst P same (all 0 x (omega arith))
  at_map P h (x ∷ xs) all (suc n) y here = at_map P h xs (All-tail (λ x. P (h x)) x xs all) n y here

  after_none : {A : Type 0} (P : A → Type 0) (t : List (Option A)) → AllAt P t → AllAt P (None ∷ t)
  after_none P t h zero y here = cc
  after_none P t h (suc n) y here = h n y here

  abbrev Labelled : Object → Type 0
  Labelled x = Fits form x.label

  bare_fits : (k : ℕ) (fss : List FsSpec) → AllAt Labelled (bare k fss)
  bare_fits k [] n y here = cc
  bare_fits k (s ∷ fss) n y here =
      at_append _ (Some (root_of k) ∷ replicate (s.inodes - 1) None) _
      (at_append _ (Some (root_of k) ∷ []) _ (at_one Labelled (root_of k) (fits-bottom form))
      (at_free _ _)) (bare_fits (suc k) fss) n y here

  bare_world_fits : (c : Config) → ConfigFits form c → FrameFits form (bare_world c).frame
  unfolding bare_objects
  bare_world_fits c h = record {
    fss = h.fss;
    objects = all_changed _ _ (at_append _ (bare 0 _) (replicate c.limits.pipes None) (bare_fits 0 c.fss) (at_free _ c.limits.pipes)) 0 _ (λ x fits. fits);
    labels = after_none _ _ (at_map _ _ _ h.labels);
    ceilings = after_none _ _ (at_map _ _ _ h.ceilings);
    opens = at_free _ _;
    log = All-nil (λ l. AuditFits form l);
  }

  placed_fits : (w : World) (spec : ObjSpec) (dir k o : ℕ) → Fits form spec.label → FrameFits form w.frame → FrameFits form (placed w spec dir k o).frame
  placed_fits w spec dir k o label h = record {
    fss = h.fss;
    objects = all_changed _ _ (all_put _ _ h.objects o _ label) _ _ (λ x fits. fits);
    labels = h.labels;
    ceilings = h.ceilings;
    opens = h.opens;
    log = h.log;
  }

  with_object_fits : (w : World) (spec : ObjSpec) → Fits form spec.label → FrameFits form w.frame → FrameFits form (with_object w spec).frame
  unfolding with_object
  with_object_fits w spec label h = go _
    where
      go : (o : Option ℕ) → FrameFits form
          (option_map_or (placed w spec (directory_of w.frame.objects 0 spec.path.names)
          (unwrap_or (node w.frame.objects (directory_of w.frame.objects 0 spec.path.names)).fs 0)) o w).frame
      go None = h
      go (Some o) = placed_fits w spec _ _ o label h

  with_objects_fits : (w : World) (specs : List ObjSpec) → All (λ (x : ObjSpec). Fits form x.label) specs → FrameFits form w.frame → FrameFits form (with_objects w specs).frame
  with_objects_fits w [] labels h = h
  with_objects_fits w (spec ∷ specs) labels h = with_objects_fits (with_object w spec) specs (All-tail (λ x. Fits form x.label) spec specs labels)
      (with_object_fits w _ (labels 0 spec (omega arith)) h)

  pub opening_fits : (c : Config) → ConfigFits form c → FrameFits form (opening_world c).frame
  unfolding opening_world
  opening_fits c h = with_objects_fits _ _ h.objects (bare_world_fits c h)

-- ---- the law
pub forms_stay : FormsStay
forms_stay form c events config calls = record {
  frames = λ n. run_fits _ _ 1 (take n _) (All-take (λ e. CallFits form e.op) n events calls) (opening_fits _ c config);
  replies = given_fits _ _ 1 events calls (opening_fits _ c config);
}
