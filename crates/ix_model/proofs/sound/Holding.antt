-- What objects hold after a call: a directory no bytes, and what is no pipe no second list.
use Rattle.std.proofs.Common.{◌≡◌, ◌-◌, ◌++◌, ℕ, Bool, true, false, true≢false, List, [], length, take, drop, Option, Some, None, is_some, refl, sym, ap, ◌∙◌}
use Rattle.std.proofs.{Common.{◌&&◌, if◌then◌else◌, slice_set, ◌+◌}, lemmas.Bool.{and_parts, not-true}}
use Rattle.ix_model.specs.{world.World.{World, Frame, Content, Object, Holding, at, is_dir, is_pipe}, laws.Sound.Sound, history.{Events.Op, Step.step}}
use Rattle.ix_model.specs.{rows.{Walks.{OpenFile, behind}, Table.verdict, Telling.told}, declared.reply.{Kind.Kind, Reply.Reply}}
use Rattle.ix_model.specs.world.Contents.{carried, holding_of, offset_of, holds_nothing, with_side, change_side, on_pipe, readable, after_read, after_cut}
use Rattle.ix_model.{specs.world.Contents.{after_write, after_seek, after_exit, emptied, spliced, cut_to}, proofs.words.Standing.{Standing, behind_is, stands, on_pipe_is}}
use Rattle.ix_model.specs.history.Step.{plainly, read_answer, write_answer, cut_answer, seek_answer, stat_answer, exit_answer, wait_answer, pex_answer, answer}
use Rattle.ix_model.proofs.{tables.SameKinds.Kinds, sound.{Lengths.set_either, Carried.{kept_at, there_is}, Following.follows_decided}, frames.Frames.frame_of}
use Rattle.ix_model.specs.history.Events as op
use Rattle.ix_model.specs.declared.reply.Kind.TheVariants as kind
use Rattle.ix_model.specs.declared.reply.Reply.TheVariants as reply

pub record Holds (f : Frame) (c : Content) : Type 0 where
  pub directory : (o : ℕ) (x : Object) → at f.objects o ≡ Some x → is_dir x ≡ true → (holding_of c o).first ≡ []
  pub second : (o : ℕ) (x : Object) → at f.objects o ≡ Some x → is_pipe x ≡ false → (holding_of c o).second ≡ []

-- the other side stays
first_alone : (end : ℕ) (bytes : List ℕ) (h : Holding) → end ≡ 0 → (with_side end bytes h).second ≡ h.second
first_alone end bytes h is = ap (λ n. (with_side n bytes h).second) is

-- another side of an object that is no directory, and of what is no pipe the first side
side_changed : (f : Frame) (c : Content) (o end : ℕ) (h : List ℕ → List ℕ)
    → ((x : Object) → at f.objects o ≡ Some x → (is_dir x ≡ false) × (is_pipe x ≡ false → end ≡ 0)) → Holds f c → Holds f (change_side o end h c)
side_changed f c o end h fits r = record {
  directory = λ n x is dir. set_either (λ s. s.first ≡ []) holds_nothing c.holdings o n _
      (λ here. absurd (true≢false (sym dir ∙ (fits x (ap (at f.objects) (sym here) ∙ is)).0)))
      (r.directory n x is dir);
  second = λ n x is other. set_either (λ s. s.second ≡ []) holds_nothing c.holdings o n _
      (λ here.
      let there = ap (at f.objects) (sym here) ∙ is in
      first_alone _ (h _) (holding_of c o) ((fits x there).1 other) ∙ r.second o x there other)
      (r.second n x is other);
}

emptied_holds : (f : Frame) (c : Content) (o : ℕ) → Holds f c → Holds f (emptied o c)
unfolding emptied
emptied_holds f c o r = record {
  directory = λ n x is dir. set_either (λ s. s.first ≡ []) holds_nothing c.holdings o n holds_nothing (λ here. refl) (r.directory n x is dir);
  second = λ n x is other. set_either (λ s. s.second ≡ []) holds_nothing c.holdings o n holds_nothing (λ here. refl) (r.second n x is other);
}

other_kind : (x : Object) → is_pipe x ≡ true → is_dir x ≡ false
other_kind x pipe = go _ pipe
  where
    go : (k : Kind) → (elim k [ kind.Pipe ↦ true | _ ↦ false ]) ≡ true → (elim k [ kind.Dir ↦ true | _ ↦ false ]) ≡ false
    go kind.File h = refl
    go kind.Pipe h = refl
    go kind.Dir h = cc

-- ---- answers, from a frame in which what stays is of its kind
module _ (w : World) (g : Frame) (k : Kinds w.frame.objects g.objects) (r : Holds w.frame w.content) where
  holds_plain : Holds g (carried w.frame g w.content)
  unfolding carried
  holds_plain =
      let stay : ℕ → Bool = λ o. is_some (at w.frame.objects o) && is_some (at g.objects o) in
      record {
        directory = λ o y is dir. kept_at (λ h. h.first ≡ []) holds_nothing stay w.content.holdings o (λ stays.
            let x = there_is _ (and_parts _ _ stays).0 in
            r.directory o x.0 x.1 (sym (k.same o x.0 y x.1 is).dir ∙ dir)) refl;
        second = λ o y is other. kept_at (λ h. h.second ≡ []) holds_nothing stay w.content.holdings o (λ stays.
            let x = there_is _ (and_parts _ _ stays).0 in
            r.second o x.0 x.1 (sym (k.same o x.0 y x.1 is).pipe ∙ other)) refl;
      }

  -- the object behind a descriptor: a pipe, or a file at end 0
  at_a_pipe : (e : OpenFile) (end : ℕ) → Standing w.frame e.entry → on_pipe w.frame e ≡ true → (x : Object) → at g.objects e.entry.object ≡ Some x → (is_dir x ≡ false) × (is_pipe x ≡ false → end ≡ 0)
  at_a_pipe e end s on x is =
      let pipe = (k.same _ s.object x s.is_object is).pipe ∙ sym (on_pipe_is _ e s) ∙ on in
      (other_kind x pipe, λ other. absurd (true≢false (sym pipe ∙ other)))

  at_a_file : (e : OpenFile) → Standing w.frame e.entry → (x : Object) → at g.objects e.entry.object ≡ Some x → (is_dir x ≡ false) × (is_pipe x ≡ false → e.entry.end ≡ 0)
  at_a_file e s x is =
      let same = k.same _ s.object x s.is_object is in
      (same.dir ∙ not-true _ s.no_dir, λ other. s.at_end (sym same.pipe ∙ other))

  holds_read : (count : ℕ) (b : Option OpenFile) (a : Reply) → ((e : OpenFile) → b ≡ Some e → Standing w.frame e.entry) → Holds g (read_answer w count b a g).world.content
  unfolding read_answer plainly after_read
  holds_read count (Some e) (reply.Bytes n) there = go _ refl
    where
      m : ℕ
      m = length (take count (readable w.frame w.content e))

      go : (b : Bool) → on_pipe w.frame e ≡ b → Holds g (if b then change_side e.entry.object e.entry.end (drop m) (carried w.frame g w.content) else
          record (carried w.frame g w.content) {
            offsets =
                slice_set (carried w.frame g w.content).offsets e.id (offset_of (carried w.frame g w.content) e.id + m);
          })
      go true on = side_changed g _ e.entry.object e.entry.end (drop m) (at_a_pipe e e.entry.end (there e refl) on) holds_plain
      go false on = record { directory = holds_plain.directory; second = holds_plain.second }
  holds_read count _ _ there = holds_plain

  holds_write : (new : List ℕ) (b : Option OpenFile) (a : Reply) → ((e : OpenFile) → b ≡ Some e → Standing w.frame e.entry) → Holds g (write_answer w new b a g).world.content
  unfolding write_answer plainly after_write
  holds_write new (Some e) (reply.Number n) there = go _ refl
    where
      c : Content
      c = carried w.frame g w.content

      go : (b : Bool) → on_pipe w.frame e ≡ b
          → Holds g (if b then change_side e.entry.object (1 - e.entry.end) (λ old. old ++ new) (carried w.frame g w.content) else
          record (change_side e.entry.object e.entry.end (spliced (offset_of (carried w.frame g w.content) e.id) new) (carried w.frame g w.content)) {
            offsets =
                slice_set (carried w.frame g w.content).offsets e.id (offset_of (carried w.frame g w.content) e.id + length new);
          })
      go true on = side_changed g _ e.entry.object (1 - e.entry.end) (λ old. old ++ new) (at_a_pipe e (1 - e.entry.end) (there e refl) on) holds_plain
      go false on =
          let s = side_changed g _ e.entry.object e.entry.end (spliced (offset_of (carried w.frame g w.content) e.id) new) (at_a_file e (there e refl)) holds_plain in
          record { directory = s.directory; second = s.second }
  holds_write new _ _ there = holds_plain

  holds_cut : (len : ℕ) (b : Option OpenFile) (a : Reply) → ((e : OpenFile) → b ≡ Some e → Standing w.frame e.entry) → Holds g (cut_answer w len b a g).world.content
  unfolding cut_answer plainly after_cut
  holds_cut len (Some e) reply.Done there = side_changed g _ _ _ (cut_to len) (at_a_file e (there e refl)) holds_plain
  holds_cut len _ _ there = holds_plain

  holds_seek : (offset : ℕ) (b : Option OpenFile) (a : Reply) → Holds g (seek_answer w offset b a g).world.content
  unfolding seek_answer plainly after_seek
  holds_seek offset (Some e) reply.Done = record { directory = holds_plain.directory; second = holds_plain.second }
  holds_seek offset _ _ = holds_plain

  holds_stat : (a : Reply) → Holds g (stat_answer w a g).world.content
  unfolding stat_answer plainly
  holds_stat (reply.Stat o kind.File size links frozen cap lic) = holds_plain
  holds_stat _ = holds_plain

  holds_wait : (a : Reply) → Holds g (wait_answer w a g).world.content
  unfolding wait_answer plainly
  holds_wait (reply.Child p status) = holds_plain
  holds_wait _ = holds_plain

  exited : (b : Bool) (statuses : List ℕ) → Holds g (if b then record (carried w.frame g w.content) { statuses = statuses } else carried w.frame g w.content)
  exited true statuses = record { directory = holds_plain.directory; second = holds_plain.second }
  exited false statuses = holds_plain

  holds_exit : (pid status : ℕ) (a : Reply) → Holds g (exit_answer w pid status a g).world.content
  unfolding exit_answer plainly after_exit
  holds_exit pid status reply.Done = exited _ _
  holds_exit pid status _ = holds_plain

  either_emptied : (b : Bool) (o : ℕ) → Holds g (if b then emptied o (carried w.frame g w.content) else carried w.frame g w.content)
  either_emptied true o = emptied_holds g _ o holds_plain
  either_emptied false o = holds_plain

  holds_pex : (b : Option OpenFile) (a : Reply) → Holds g (pex_answer w b a g).world.content
  unfolding pex_answer plainly
  holds_pex (Some e) a = either_emptied _ _
  holds_pex None a = holds_plain

-- ---- the step
module _ (w : World) (s : Sound w) where
  held : Holds w.frame w.content
  held = search

  kinds : (place pid : ℕ) (c : Op) → Kinds w.frame.objects (verdict (told w pid c) place pid c w.frame).frame.objects
  kinds place pid c = (follows_decided _ (frame_of w s) _ _ _ c).kinds

  behind_stands : (pid fd : ℕ) (e : OpenFile) → behind w.frame pid fd ≡ Some e → Standing w.frame e.entry
  behind_stands pid fd e is = stands _ e.id _ s.opens (behind_is w.frame pid fd e is)

  pub holds_step : (place pid : ℕ) (c : Op) → Holds (verdict (told w pid c) place pid c w.frame).frame (step w place pid c).world.content
  unfolding step answer plainly
  holds_step place pid (op.ReadFd fd count) = holds_read w _ (kinds place pid (op.ReadFd fd count)) held count (behind w.frame pid fd) _ (behind_stands pid fd)
  holds_step place pid (op.WriteFd fd bytes) = holds_write w _ (kinds place pid (op.WriteFd fd bytes)) held bytes (behind w.frame pid fd) _ (behind_stands pid fd)
  holds_step place pid (op.CutFd fd len) = holds_cut w _ (kinds place pid (op.CutFd fd len)) held len (behind w.frame pid fd) _ (behind_stands pid fd)
  holds_step place pid (op.SeekFd fd offset) = holds_seek w _ (kinds place pid (op.SeekFd fd offset)) held offset (behind w.frame pid fd) _
  holds_step place pid (op.StatAt path) = holds_stat w _ (kinds place pid (op.StatAt path)) held _
  holds_step place pid (op.Exit status) = holds_exit w _ (kinds place pid (op.Exit status)) held pid status _
  holds_step place pid op.WaitChild = holds_wait w _ (kinds place pid op.WaitChild) held _
  holds_step place pid (op.Pex fd) = holds_pex w _ (kinds place pid (op.Pex fd)) held (behind w.frame pid fd) _
  holds_step place pid c = holds_plain w _ (kinds place pid c) held
