-- What the rows have looked at where they refuse and the label is kept.
use Rattle.std.{specs.Option.option_map_or, proofs.Common.{◌≡◌, ℕ, Bool, true, false, true≢false, Option, Some, None, refl, sym, ap, ◌∙◌, subst, if◌then◌else◌}}
use Rattle.ix_label.specs.Category.{Categories, bottom, join}
use Rattle.ix_model.specs.{world.{Naming.PathOf, World.{Frame, Object, at}}, rows.{Refusals.keeps_label, Outcomes.{Outcome, Refuse, Pass}, OnDescriptors.{LengthChecks, claimed}}}
use Rattle.ix_model.specs.rows.{Rows.observe, Walks.{OpenFile, behind, object_at, spot_at, missing}, Auditing.{exercise, entitled, log_has_room}, OnLabels.{allowed, movable}}
use Rattle.ix_model.{specs.{rows.Table.{Decision, row, settled, verdict}, laws.Looked.{along, looked_at}}, proofs.words.OpenRows.open_row}
use Rattle.ix_model.specs.{history.{AuditLog.{object_of_path, label_at, is_answer}, Events.Op}, declared.{privs.PrivSet.PrivSet, reply.Reply.Reply, refusal.Refusal.Refusal}}
use Rattle.ix_model.proofs.{words.{Ends.{Ends, ending}, Endings.{ends_record_of, ends_put_object, ends_put_process, ends_add_process}, Looks.ends_float_entry}, refused.Refusing.refusing_row}
use Rattle.ix_model.proofs.refused.Seeing.{Seen, join_nothing, nothing_joined, seen_nothing, ends_seen, ends_seen_walk, ends_moved}
use Rattle.ix_model.proofs.words.RowEnds.{storing, ends_spot, ends_vacant, ends_end_process, ends_logged, ends_let_go_object, ends_let_go, ends_let_go_all}
use Rattle.ix_model.specs.history.Events as op
use Rattle.ix_model.specs.declared.reply.Reply.TheVariants as reply
use Rattle.ix_model.specs.declared.refusal.Refusal.TheVariants as refusal

-- what has been looked at where a row refuses so
pub record AsSeen (pid : ℕ) (f : Frame) (seen : Refusal → Categories) (r : Refusal) (g : Frame) : Type 0 where
  pub is : keeps_label r ≡ true → Seen pid f (seen r) g

module _ (pid : ℕ) (f : Frame) (start : Seen pid f bottom f) where
  dropped : (seen : Refusal → Categories) (r : Refusal) (g : Frame) → keeps_label r ≡ false → AsSeen pid f seen r g
  dropped seen r g h = record { is = λ k. absurd (true≢false (sym k ∙ h)) }

  kept : (seen : Refusal → Categories) (r : Refusal) (s : Categories) (g : Frame) → Seen pid f s g → seen r ≡ s → AsSeen pid f seen r g
  kept seen r s g h e = record { is = λ k. subst (λ l. Seen pid f l g) (sym e) h }

  -- what the label is at is equal to what is said
  said : (seen told : Refusal → Categories) (o : Outcome Reply) → ((r : Refusal) → told r ≡ seen r) → Ends o (AsSeen pid f seen) (λ a g. Unit {0}) → Ends o (AsSeen pid f told) (λ a g. Unit {0})
  unfolding Ends
  said seen told (Refuse r g) same h = record { is = λ k. subst (λ l. Seen pid f l g) (sym (same r)) (h.is k) }
  said seen told (Pass a g) same h = tt

  claim_answered : (other : Option ℕ) (g : Frame) (P : Refusal → Frame → Type 0) (Q : Reply → Frame → Type 0) → P refusal.NoProcess g → ((a : Reply) → Q a g) → Ends (claimed other g) P Q
  unfolding claimed
  claim_answered None g P Q h k = search (ending, k) depth 20
  claim_answered (Some q) g P Q h k = search (ending, h, k) depth 20

  -- tests alone
  module _ (g : Frame) (P : Refusal → Frame → Type 0) (Q : Unit {0} → Frame → Type 0) (refused : (r : Refusal) → keeps_label r ≡ false → P r g) (next : Q tt g) where
    entitled_or_not : (x : PrivSet) → Ends (entitled pid x g) P Q
    unfolding entitled
    entitled_or_not x = search (ending, refused, next) depth 30

    room_or_not : Ends (log_has_room g) P Q
    unfolding log_has_room
    room_or_not = search (ending, refused, next) depth 30

    exercised : (x : PrivSet) → Ends (exercise pid x g) P Q
    unfolding exercise entitled log_has_room
    exercised x = search (ending, refused, next) depth 40

  ruleset seeing = (
    storing,
    ends_let_go_object,
    ends_let_go,
    ends_let_go_all,
    ends_seen,
    ends_seen_walk,
    ends_moved,
    ends_float_entry,
    dropped,
    kept,
    claim_answered,
    entitled_or_not,
    room_or_not,
    exercised,
  )

  abbrev pub Sees : (Refusal → Categories) → Outcome Reply → Type 0
  Sees seen o = Ends o (AsSeen pid f seen) (λ a g. Unit)

  -- what a walk along one path has looked at
  abbrev one : PathOf → Refusal → Categories
  one path r = join bottom (along f pid path)

  abbrev none : Refusal → Categories
  none r = bottom

  -- ---- the rows that look at an object besides
  -- an object's label in a frame in which the caller's label alone has changed
  label_there : (s : Categories) (g : Frame) (m : Option ℕ) (o : ℕ) (x : Object) → Seen pid f s g → m ≡ Some o → at g.objects o ≡ Some x → label_at f m ≡ x.label
  unfolding label_at
  label_there s g m o x r leads is =
      let here = sym (ap (λ h. at h.objects o) r.is) ∙ is in
      rw (leads, here) refl

  -- the look at it
  look_there : (s : Categories) (m : Option ℕ) (o : ℕ) (x : Object) (g : Frame) (P : Refusal → Frame → Type 0) (Q : Unit {0} → Frame → Type 0) → Seen pid f s g
      → m ≡ Some o → at g.objects o ≡ Some x → ((r : Refusal) (h : Frame) → keeps_label r ≡ false → P r h) → ((h : Frame) → Seen pid f (join s (label_at f m)) h
      → Q tt h) → Ends (observe pid x.label g) P Q
  look_there s m o x g P Q r leads is refused next =
      ends_seen _ f s _ g P Q r refused (λ h there. next h (subst (λ l. Seen pid f (join s l) h) (sym (label_there s g m o x r leads is))
      there))

  look_at_path : (path : PathOf) (s : Categories) (o : ℕ) (x : Object) (g : Frame) (P : Refusal → Frame → Type 0) (Q : Unit {0} → Frame → Type 0)
      → Seen pid f s g → object_of_path f pid path ≡ Some o → at g.objects o ≡ Some x → ((r : Refusal) (h : Frame) → keeps_label r ≡ false → P r h)
      → ((h : Frame) → Seen pid f (join s (label_at f (object_of_path f pid path))) h → Q tt h) → Ends (observe pid x.label g) P Q
  look_at_path path s o x g P Q r leads is refused next = look_there s _ o x g P Q r leads is refused next

  -- the label of the pipe behind a descriptor, with that of its open entry
  read_label : ℕ → Categories
  read_label fd = option_map_or (λ e. join (label_at f (Some e.entry.object)) e.entry.label) (behind f pid fd) bottom

  look_behind : (fd : ℕ) (s : Categories) (e : OpenFile) (x : Object) (g : Frame) (P : Refusal → Frame → Type 0) (Q : Unit {0} → Frame → Type 0)
      → Seen pid f s g → behind f pid fd ≡ Some e → at g.objects e.entry.object ≡ Some x → ((r : Refusal) (h : Frame) → keeps_label r ≡ false → P r h)
      → ((h : Frame) → Seen pid f (join s (read_label fd)) h → Q tt h) → Ends (observe pid (join x.label e.entry.label) g) P Q
  unfolding read_label
  look_behind fd s e x g P Q r leads is refused next =
      let met =
      ap (λ b. option_map_or (λ e. join (label_at f (Some e.entry.object)) e.entry.label) b bottom) leads
      ∙ (λ i. join (label_there s g _ _ x r refl is i) e.entry.label) in
      ends_seen _ f s _ g P Q r refused (λ h there. next h (subst (λ l. Seen pid f (join s l) h) (sym met) there))

  abbrev besides : PathOf → Categories
  besides path = join (join bottom (along f pid path)) (label_at f (object_of_path f pid path))

  abbrev in_remove : PathOf → Refusal → Categories
  in_remove path refusal.NotEmpty = besides path
  in_remove path refusal.CrossFs = besides path
  in_remove path r = join bottom (along f pid path)

  abbrev in_list : PathOf → Refusal → Categories
  in_list path refusal.EndOfList = besides path
  in_list path r = join bottom (along f pid path)

  abbrev in_read : ℕ → Refusal → Categories
  in_read fd refusal.Again = join bottom (read_label fd)
  in_read fd r = bottom

  ruleset seeing_besides = (
    ending,
    ends_record_of,
    ends_spot,
    ends_vacant,
    ends_put_object,
    ends_put_process,
    ends_add_process,
    ends_end_process,
    ends_logged,
    ends_let_go_object,
    ends_seen_walk,
    ends_moved,
    ends_float_entry,
    dropped,
    kept,
  )

  -- ---- the table
  tells_none : (r : Refusal) → join bottom bottom ≡ bottom
  tells_none r = join_nothing _

  -- of one path, with an object besides or none
  tells : (path : PathOf) (l : Categories) → join (join (along f pid path) bottom) l ≡ join (join bottom (along f pid path)) l
  tells path l = (λ i. join (join_nothing (along f pid path) i) l) ∙ (λ i. join (sym (nothing_joined (along f pid path)) i) l)

  tells_one : (path : PathOf) → join (join (along f pid path) bottom) bottom ≡ join bottom (along f pid path)
  tells_one path = tells _ _ ∙ join_nothing _

  tells_remove : (path : PathOf) (r : Refusal) → looked_at f pid (op.RemoveDir path) r ≡ in_remove path r
  tells_remove path refusal.NotEmpty = tells _ _
  tells_remove path refusal.CrossFs = tells _ _
  tells_remove path _ = tells_one _

  tells_list : (path : PathOf) (index : ℕ) (r : Refusal) → looked_at f pid (op.ListAt path index) r ≡ in_list path r
  tells_list path index refusal.EndOfList = tells _ _
  tells_list path index _ = tells_one _

  tells_read : (fd count : ℕ) (r : Refusal) → looked_at f pid (op.ReadFd fd count) r ≡ in_read fd r
  unfolding read_label
  tells_read fd count refusal.Again = refl
  tells_read fd count _ = tells_none refusal.Again

  tells_link : (target path : PathOf) → join (join (along f pid target) (join (along f pid path) bottom)) bottom ≡ join (join bottom (along f pid target)) (along f pid path)
  tells_link target path =
      (λ i. join (join (along f pid target) (join_nothing (along f pid path) i)) bottom)
      ∙ join_nothing _
      ∙ (λ i. join (sym (nothing_joined (along f pid target)) i) (along f pid path))

  with_one : (path : PathOf) (o : Outcome Reply) → Sees (one path) o → Sees (λ r. join (join (along f pid path) bottom) bottom) o
  with_one path o h = said _ _ o (λ r. tells_one _) h

  with_none : (o : Outcome Reply) → Sees none o → Sees (λ r. join bottom bottom) o
  with_none o h = said _ _ o tells_none h

  pub sees_row : (t : LengthChecks) (place : ℕ) (c : Op) → Sees (looked_at f pid c) (row t place pid c f)
  unfolding open_row missing spot_at object_at allowed movable Ends
  sees_row t place (op.ReadFd fd count) = said _ _ _ (tells_read fd count) (search (seeing_besides, look_behind fd) depth 80 fits 16000)
  sees_row t place (op.RemoveDir path) = said _ _ _ (tells_remove _) (search (seeing_besides, look_at_path path) depth 80 fits 16000)
  sees_row t place (op.ListAt path index) = said _ _ _ (tells_list _ index) (search (seeing_besides, look_at_path path) depth 80 fits 16000)
  sees_row t place (op.SetLabel path label) = with_one _ _ (search seeing depth 80 fits 16000)
  sees_row t place (op.LinkAt target path) = said _ _ _
      (λ r. tells_link _ _) (search seeing depth 80 fits 16000)
  sees_row t place (op.CreateAt path) = with_one _ _ (search seeing depth 80 fits 16000)
  sees_row t place (op.OpenAt path mode) = with_one _ _ (search seeing depth 80 fits 16000)
  sees_row t place (op.MakeDir path) = with_one _ _ (search seeing depth 80 fits 16000)
  sees_row t place (op.UnlinkAt path) = with_one _ _ (search seeing depth 80 fits 16000)
  sees_row t place (op.ChangeDir path) = with_one _ _ (search seeing depth 80 fits 16000)
  sees_row t place (op.StatAt path) = with_one _ _ (search seeing depth 80 fits 16000)
  sees_row t place (op.Exec path) = with_one _ _ (search seeing depth 80 fits 16000)
  sees_row t place (op.LabelOf path) = with_one _ _ (search seeing depth 80 fits 16000)
  sees_row t place (op.Freeze path) = with_one _ _ (search seeing depth 80 fits 16000)
  sees_row t place (op.Thaw path) = with_one _ _ (search seeing depth 80 fits 16000)
  sees_row t place (op.SetPriv path cap lic) = with_one _ _ (search seeing depth 80 fits 16000)
  sees_row t place c = with_none _ (search seeing depth 80 fits 16000)

-- ---- the decision
settled_seen : (pid : ℕ) (f : Frame) (seen : Refusal → Categories) (o : Outcome Reply) (r : Refusal) → Ends o (AsSeen pid f seen) (λ a g. is_answer a ≡ true)
    → (settled f o).reply ≡ reply.No r → keeps_label r ≡ true → Seen pid f (seen r) (settled f o).frame
unfolding Ends
settled_seen pid f seen (Refuse why g) r h is keeps =
    let same : why ≡ r = cc in
    let k : keeps_label why ≡ true = ap keeps_label same ∙ keeps in
    subst (λ (x : Refusal). Seen pid f (seen x) (if keeps_label why then g else f)) same (rw k (h.is k))
settled_seen pid f seen (Pass a g) r h is keeps = absurd (true≢false (sym h ∙ ap is_answer is))

-- both of what is known where a row ends
both_end : (o : Outcome Reply) (P P2 : Refusal → Frame → Type 0) (Q : Reply → Frame → Type 0) → Ends o P (λ a g. Unit {0}) → Ends o P2 Q → Ends o P Q
unfolding Ends
both_end (Refuse r g) P P2 Q h k = h
both_end (Pass a g) P P2 Q h k = k

pub decided_seen : (t : LengthChecks) (place pid : ℕ) (c : Op) (f : Frame) (r : Refusal) → (verdict t place pid c f).reply ≡ reply.No r → keeps_label r ≡ true
    → Seen pid f (looked_at f pid c r) (verdict t place pid c f).frame
unfolding verdict
decided_seen t place pid c f r is keeps = go _ is
  where
    unknown : Decision
    unknown = record { reply = reply.No refusal.NoProcess; frame = f }

    go : (b : Bool) → (if b then settled f (row t place pid c f) else unknown).reply ≡ reply.No r → Seen pid f (looked_at f pid c r) (if b then settled f (row t place pid c f) else unknown).frame
    go true h = settled_seen _ f _ (row t place pid c f) r (both_end (row t place pid c f) _
        _ _ (sees_row _ f (seen_nothing _ f) t place c) (refusing_row t _ _ c f)) h keeps
    go false h =
        let same : refusal.NoProcess ≡ r = cc in
        absurd (true≢false (sym keeps ∙ ap keeps_label (sym same)))
