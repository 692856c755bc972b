use Rattle.std.proofs.Common.{◌≡◌, ◌∙◌, ◌&&◌, ◌==◌, ◌||◌, not, ℕ, Bool, true, false, is_some, length, option_map, sym, ap, arith, None, if◌then◌else◌}
use Rattle.ix_model.{specs.{history.{AuditLog.label_at, Calls.op_of, Events.Op, Step.{Given, step}}, world.World.{World, Frame}}, proofs.words.Fixed.fixed_step}
use Rattle.ix_fresh.specs.Touched.{label_of_entry}
use Rattle.ix_marks.specs.{Known.{Known, spot_of, has_row}, RowIndex.{RowOwners, row_of}}
use Rattle.ix_core.specs.Marking.{AreReady, has_exited, other_entry, other_object, other_process, refreshed, spot_in, unless_entry, unless_object}
use Rattle.ix_core.proofs.Marked.{can_refresh, entry_inside, object_inside, left, rows_live, still_sized, told_spot}
use Rattle.ix_core.proofs.marking.call_checked.Goals as goal

pub tell_object-requires-clause-object : goal.tell_object-requires-clause-object
tell_object-requires-clause-object g c o named moved =
    let b = c.seen_before-before.ensures in
    let low = object_inside c.args.machine.now.frame c.call-reply.new.self.frame o _ (ap (λ u. length u.frame.objects) c.call-reply.ensures.world ∙ (fixed_step c.args.machine.now _ _ _).objects)
    (b.object_label ∙ ap (label_at c.args.machine.now.frame) (sym b.object ∙ named)) moved in
    omega (arith, low, ap (λ z. z.objects) (c.tell_process.ensures.sizes ∙ c.requires.ready.sizes))

pub tell_entry-requires-clause-entry : goal.tell_entry-requires-clause-entry
tell_entry-requires-clause-entry g c e named moved =
    let b = c.seen_before-before.ensures in
    let low = entry_inside c.args.machine.now.frame c.call-reply.new.self.frame e _ (ap (λ u. length u.frame.opens) c.call-reply.ensures.world ∙ (fixed_step c.args.machine.now _ _ _).opens)
    (b.entry_label ∙ ap (label_of_entry c.args.machine.now.frame) (sym b.entry ∙ named)) moved in
    omega (arith, low, ap (λ z. z.opens) (c.tell_object.ensures.sizes ∙ c.tell_process.ensures.sizes ∙ c.requires.ready.sizes))

pub refresh-requires : goal.refresh-requires
refresh-requires g c r is =
    let w : World = c.args.machine.now in
    let o : Op = op_of c.args.call.now in
    let m : Known = c.close.new.marks in
    let seats : c.tell_entry.new.marks.owners ≡ c.args.marks.now.owners = c.tell_entry.ensures.owners ∙ c.tell_object.ensures.owners ∙ c.tell_process.ensures.owners in
    let ready : AreReady m w.frame = record {
      rows = λ q has. c.requires.ready.rows q (ap (λ (z : RowOwners). is_some (row_of q z.pids)) (sym seats) ∙ had _ _ (sym (c.close.ensures.rows q) ∙ has));
      sizes = c.close.ensures.sizes ∙ c.tell_entry.ensures.sizes ∙ c.tell_object.ensures.sizes ∙ c.tell_process.ensures.sizes ∙ c.requires.ready.sizes;
    } in
    can_refresh w c.args.place c.args.pid.0 o m c.seen_before-before.result.spot c.requires.sound ready c.room.ensures c.seen_before-before.ensures.spot r
    (ap (refreshed o) (sym c.call-reply.ensures.reply) ∙ is)
  where
    had : (a b : Bool) → (not a && b) ≡ true → b ≡ true
    had true b h = cc
    had false b h = h

pub returns-clause-told : goal.returns-clause-told
returns-clause-told g c =
    let w : World = c.args.machine.now in
    let place : ℕ = c.args.place in
    let pid : ℕ = c.args.pid.0 in
    let o : Op = op_of c.args.call.now in
    let m : Known = c.args.marks.now in
    let given : Given = step w place pid o in
    let b = c.seen_before-before.ensures in
    let after : Frame = c.call-reply.new.self.frame in
    let seats : c.tell_entry.new.marks.owners ≡ m.owners = c.tell_entry.ensures.owners ∙ c.tell_object.ensures.owners ∙ c.tell_process.ensures.owners in
    let sizes = c.refresh.ensures.sizes ∙ c.close.ensures.sizes ∙ c.tell_entry.ensures.sizes ∙ c.tell_object.ensures.sizes ∙ c.tell_process.ensures.sizes in
    let frame : after ≡ given.world.frame = ap (λ (u : World). u.frame) c.call-reply.ensures.world in
    let said : c.call-reply.result ≡ given.reply = c.call-reply.ensures.reply in
    record {
      spots = λ q d v.
          told_spot w.frame after pid o c.call-reply.result c.seen_before-before.result.spot q d v (spot_of m q d v) (spot_of c.refresh.new.marks q d v) b.spot (record {
            first = spot_of c.tell_process.new.marks q d v;
            second = spot_of c.tell_object.new.marks q d v;
            third = spot_of c.tell_entry.new.marks q d v;
            fourth = spot_of c.close.new.marks q d v;
            by_process = c.tell_process.ensures.spots q d v ∙ ap (λ l. if q == pid && other_process l after pid then None else spot_of m q d v) b.process;
            by_object = c.tell_object.ensures.spots q d v ∙ (λ i. unless_object (b.object i) (other_object (b.object_label i) after (b.object i)) (spot_of c.tell_process.new.marks q d v));
            by_entry = c.tell_entry.ensures.spots q d v ∙ (λ i. unless_entry (b.entry i) (other_entry (b.entry_label i) after (b.entry i)) (spot_of c.tell_object.new.marks q d v));
            by_close = c.close.ensures.spots q d v;
            by_refresh = c.refresh.ensures.spots q d v;
          }) ∙ (λ i. left w.frame (frame i) pid o (said i) q d v (option_map spot_in (spot_of m q d v)));
      ready = record {
        rows = rows_live w place pid o m c.close.new.marks c.refresh.new.marks c.requires.sound (omega (arith, c.requires.few)) c.requires.ready
            (λ q. c.close.ensures.rows q ∙ (λ i. not (q == pid && has_exited o (said i)) && is_some (row_of q (seats i).pids)))
            (λ q. c.refresh.ensures.rows q ∙ (λ i. q == pid && is_some (refreshed o (said i)) || has_row c.close.new.marks q));
        sizes = still_sized w place pid o m c.refresh.new.marks c.requires.ready sizes;
      };
      raised = omega (arith, c.refresh.ensures.raised, c.close.ensures.raised, c.tell_entry.ensures.raised, c.tell_object.ensures.raised, c.tell_process.ensures.raised);
    }
