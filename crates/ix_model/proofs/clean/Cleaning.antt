-- A step leaves a clean world.
use Rattle.std.proofs.Common.{ℕ, zero, suc, ◌+◌, ◌-◌, ◌≡◌, ◌≢◌, ◌≤◌, ◌&&◌, Bool, true, false, not, List, [], ◌∷◌, nat_le, length, Option, Some, None, is_some}
use Rattle.std.proofs.Common.{refl, sym, ap, subst, ◌∙◌, arith, get_or, set, if◌then◌else◌, length-append, length-set}
use Rattle.std.{specs.Option.option_map_or, proofs.lemmas.List.{get_or-set_other, length-replicate}}
use Rattle.ix_model.specs.{world.World.{Frame, Content, World, Object, Holding, at, is_ended, is_pipe}, history.{AuditLog.is_answer, Events.{Op, Event}, Step.is_whole}}
use Rattle.ix_model.specs.rows.{Walks.{OpenFile, behind}, OnDescriptors.{LengthChecks, write_fd, cut_fd}, Table.{verdict, row}, Telling.told}
use Rattle.ix_model.specs.{opening.Opening.opening_world, laws.Clean.IsClean, declared.{config.Config.Config, reply.Reply.Reply}}
use Rattle.ix_model.specs.world.Contents.{carried, holds_nothing, on_pipe, after_read, after_write, after_cut, after_seek, after_exit, emptied}
use Rattle.ix_model.specs.history.Step.{plainly, read_answer, write_answer, cut_answer, seek_answer, exit_answer, pex_answer, answer, step, step_of, run}
use Rattle.ix_model.proofs.words.{Lasts.{Lasts, lasts_decided}, Ends.{Ends, Anything, ending}, Looks.{ends_touch, ends_float_entry}}
use Rattle.ix_model.proofs.{words.{Standing.behind_is, Answered.{world_stat, world_wait, passed}}, clean.Carrying.{get_or-keep, length-keep}}
use Rattle.ix_model.proofs.{told.Spent.spent_decided, opening.Openings.clean_opening}
use Rattle.ix_model.specs.history.Events as op
use Rattle.ix_model.specs.declared.reply.Reply.TheVariants as reply

-- ---- what is carried is clean
dropped : {A : Type 0} (d : A) (a b : Bool) (x : A) → b ≡ false → (if a && b then x else d) ≡ d
dropped d true b x h = rw h refl
dropped d false b x h = refl

clean_carried : (w : World) (g : Frame) → length w.frame.processes ≤ length g.processes → IsClean w → IsClean (record { frame = g; content = carried w.frame g w.content })
unfolding carried
clean_carried w g grows clean =
    let f = w.frame in let c = w.content in
    let long : length c.statuses ≤ length g.processes = omega (arith, clean.count, grows) in
    record {
      holdings = λ o gone. get_or-keep _ _ 0 c.holdings o
          ∙ dropped _ _ (is_some (at g.objects (0 + o))) _ (ap (λ n. is_some (at g.objects n)) (omega arith) ∙ gone);
      offsets = λ o gone. get_or-keep 0 _ 0 _ o
          ∙ dropped 0 _ _ _ (ap (λ n. is_some (at g.opens n)) (omega arith) ∙ gone);
      statuses = λ o gone. get_or-keep 0 _ 0 _ o
          ∙ dropped 0 _ _ _ (ap (λ n. is_ended (at g.processes n)) (omega arith) ∙ gone);
      count = length-keep 0 _ 0 _ ∙ length-append c.statuses _ ∙ omega (arith, long, length-replicate {A = ℕ} (length g.processes - length c.statuses) 0);
    }

-- ---- what a read or a write edits stands
-- a list edited at a number at which something stands
edited_clean : {A B : Type 0} (d : A) (t : List (Option B)) (xs : List A) (n : ℕ) (x : A) → is_some (at t n) ≡ true
    → ((m : ℕ) → is_some (at t m) ≡ false → get_or xs m d ≡ d) → (m : ℕ) → is_some (at t m) ≡ false → get_or (set xs n x) m d ≡ d
edited_clean d t xs n x stands clean m gone =
    let ne : m ≢ n = λ e. let h = ap (λ k. is_some (at t k)) e in cc in
    get_or-set_other xs n m x d ne ∙ clean m gone

clean_holding : (g : Frame) (c : Content) (o : ℕ) (h : Holding) → is_some (at g.objects o) ≡ true → IsClean (record { frame = g; content = c })
    → IsClean (record { frame = g; content = record c { holdings = set c.holdings o h } })
clean_holding g c o h stands clean = let holdings = edited_clean holds_nothing g.objects c.holdings o h stands clean.holdings in search

clean_offset : (g : Frame) (c : Content) (e k : ℕ) → is_some (at g.opens e) ≡ true → IsClean (record { frame = g; content = c })
    → IsClean (record { frame = g; content = record c { offsets = set c.offsets e k } })
clean_offset g c e k stands clean = let offsets = edited_clean 0 g.opens c.offsets e k stands clean.offsets in search

clean_status : (g : Frame) (c : Content) (p k : ℕ) → is_ended (at g.processes p) ≡ true → IsClean (record { frame = g; content = c })
    → IsClean (record { frame = g; content = record c { statuses = set c.statuses p k } })
clean_status g c p k ended clean = record {
  holdings = clean.holdings;
  offsets = clean.offsets;
  statuses = λ m alive.
      let ne : m ≢ p = λ e. let h = ap (λ n. is_ended (at g.processes n)) e in cc in
      get_or-set_other c.statuses p m k 0 ne ∙ clean.statuses m alive;
  count = length-set c.statuses p k ∙ clean.count;
}

-- nothing put in the place of anything
pub nothing_set : (hs : List Holding) (o m : ℕ) → get_or hs m holds_nothing ≡ holds_nothing → get_or (set hs o holds_nothing) m holds_nothing ≡ holds_nothing
nothing_set [] o m h = h
nothing_set (x ∷ hs) zero zero h = refl
nothing_set (x ∷ hs) zero (suc m) h = h
nothing_set (x ∷ hs) (suc o) zero h = h
nothing_set (x ∷ hs) (suc o) (suc m) h = nothing_set hs o m h

clean_nothing : (g : Frame) (c : Content) (o : ℕ) → IsClean (record { frame = g; content = c }) → IsClean (record { frame = g; content = record c { holdings = set c.holdings o holds_nothing } })
clean_nothing g c o clean = record { holdings = λ m gone. nothing_set _ o m (clean.holdings m gone); offsets = clean.offsets; statuses = clean.statuses; count = clean.count }

pipe_stands : (o : Option Object) → option_map_or is_pipe o false ≡ true → is_some o ≡ true
pipe_stands None h = cc
pipe_stands (Some x) h = refl

-- either content is clean
either_clean : (g : Frame) (b : Bool) (c d : Content) → (b ≡ true → IsClean (record { frame = g; content = c }))
    → (b ≡ false → IsClean (record { frame = g; content = d })) → IsClean (record { frame = g; content = if b then c else d })
either_clean g true c d h k = h refl
either_clean g false c d h k = k refl

clean_read : (f g : Frame) (c : Content) (k : ℕ) (e : OpenFile) → Lasts f g → is_some (at f.opens e.id) ≡ true → IsClean (record { frame = g; content = c })
    → IsClean (record { frame = g; content = after_read f e k c })
unfolding after_read
clean_read f g c k e lasts stands clean = either_clean g (on_pipe f e) _ _
    (λ h. clean_holding g c _ _ (lasts.objects.stays e.entry.object (pipe_stands _ h)) clean)
    (λ h. clean_offset g c _ _ (lasts.opens.stays e.id stands) clean)

clean_write : (f g : Frame) (c : Content) (new : List ℕ) (e : OpenFile) → Lasts f g → is_some (at f.opens e.id) ≡ true
    → is_some (at f.objects e.entry.object) ≡ true → IsClean (record { frame = g; content = c })
    → IsClean (record { frame = g; content = after_write f e new c })
unfolding after_write
clean_write f g c new e lasts stands object clean =
    let there = lasts.objects.stays e.entry.object object in
    either_clean g (on_pipe f e) _ _
    (λ h. clean_holding g c _ _ there clean)
    (λ h. clean_offset g _ _ _ (lasts.opens.stays e.id stands) (clean_holding g c _ _ there clean))

behind_stands : (f : Frame) (pid fd : ℕ) (e : OpenFile) → behind f pid fd ≡ Some e → is_some (at f.opens e.id) ≡ true
behind_stands f pid fd e is = ap is_some (behind_is f _ fd e is)

-- ---- a write that passes has an object behind its descriptor
pub record WriteFacts (t : LengthChecks) (pid fd : ℕ) (f : Frame) : Type 0 where
  pub entry : OpenFile
  pub is_entry : behind f pid fd ≡ Some entry
  pub object : Object
  pub is_object : at f.objects entry.entry.object ≡ Some object
  pub small : not t.too_big ≡ true
  pub room : not t.full ≡ true
  pub space : not t.no_space ≡ true

write_ends : (t : LengthChecks) (pid fd : ℕ) (f : Frame) → Ends (write_fd t pid fd f) Anything (λ r g. WriteFacts t pid fd f)
unfolding write_fd
write_ends t pid fd f = search (ending, ends_touch, ends_float_entry) depth 40 fits 8000

pub wrote : (t : LengthChecks) (place pid fd : ℕ) (bytes : List ℕ) (f : Frame) (k : ℕ) → (verdict t place pid (op.WriteFd fd bytes) f).reply ≡ reply.Number k → WriteFacts t pid fd f
unfolding row
wrote t place pid fd bytes f k h = passed t place pid (op.WriteFd fd bytes) f (λ r g. WriteFacts t pid fd f) (write_ends t pid fd f) (ap is_answer h)

-- and so has a cut
pub record CutFacts (t : LengthChecks) (pid fd len : ℕ) (f : Frame) : Type 0 where
  pub entry : OpenFile
  pub is_entry : behind f pid fd ≡ Some entry
  pub object : Object
  pub is_object : at f.objects entry.entry.object ≡ Some object
  pub no_pipe : not (is_pipe object) ≡ true
  pub short : nat_le len 1048576 ≡ true
  pub space : not t.no_space ≡ true

cut_ends : (t : LengthChecks) (pid fd len : ℕ) (f : Frame) → Ends (cut_fd t pid fd len f) Anything (λ r g. CutFacts t pid fd len f)
unfolding cut_fd
cut_ends t pid fd len f = search (ending, ends_touch, ends_float_entry) depth 40 fits 8000

pub was_cut : (t : LengthChecks) (place pid fd len : ℕ) (f : Frame) → (verdict t place pid (op.CutFd fd len) f).reply ≡ reply.Done → CutFacts t pid fd len f
unfolding row
was_cut t place pid fd len f h = passed t place pid (op.CutFd fd len) f (λ r g. CutFacts t pid fd len f) (cut_ends t pid fd len f) (ap is_answer h)

-- ---- the step
read_clean : (w : World) (g : Frame) (count : ℕ) (b : Option OpenFile) (r : Reply) → length w.frame.processes ≤ length g.processes → Lasts w.frame g → IsClean w
    → ((e : OpenFile) → b ≡ Some e → is_some (at w.frame.opens e.id) ≡ true) → IsClean (read_answer w count b r g).world
unfolding read_answer plainly
read_clean w g count (Some e) (reply.Bytes k) grows lasts clean h = clean_read _ g _ _ e lasts (h e refl) (clean_carried w g grows clean)
read_clean w g count _ _ grows lasts clean h = clean_carried w g grows clean

write_clean : (w : World) (g : Frame) (new : List ℕ) (b : Option OpenFile) (r : Reply) → length w.frame.processes ≤ length g.processes → Lasts w.frame g
    → IsClean w → ((e : OpenFile) (k : ℕ) → b ≡ Some e → r ≡ reply.Number k → (is_some (at w.frame.opens e.id) ≡ true)
    × (is_some (at w.frame.objects e.entry.object) ≡ true)) → IsClean (write_answer w new b r g).world
unfolding write_answer plainly
write_clean w g new (Some e) (reply.Number k) grows lasts clean h = clean_write _ g _ _ e lasts (h e k refl refl).0 (h e k refl refl).1 (clean_carried w g grows clean)
write_clean w g new _ _ grows lasts clean h = clean_carried w g grows clean

cut_clean : (w : World) (g : Frame) (len : ℕ) (b : Option OpenFile) (r : Reply) → length w.frame.processes ≤ length g.processes → Lasts w.frame g → IsClean w
    → ((e : OpenFile) → b ≡ Some e → r ≡ reply.Done → is_some (at w.frame.objects e.entry.object) ≡ true) → IsClean (cut_answer w len b r g).world
unfolding cut_answer plainly after_cut
cut_clean w g len (Some e) reply.Done grows lasts clean h = clean_holding g _ _ _ (lasts.objects.stays e.entry.object (h e refl refl)) (clean_carried w g grows clean)
cut_clean w g len _ _ grows lasts clean h = clean_carried w g grows clean

seek_clean : (w : World) (g : Frame) (offset : ℕ) (b : Option OpenFile) (r : Reply) → length w.frame.processes ≤ length g.processes → Lasts w.frame g
    → IsClean w → ((e : OpenFile) → b ≡ Some e → is_some (at w.frame.opens e.id) ≡ true) → IsClean (seek_answer w offset b r g).world
unfolding seek_answer plainly after_seek
seek_clean w g offset (Some e) reply.Done grows lasts clean h = clean_offset g _ _ _ (lasts.opens.stays e.id (h e refl)) (clean_carried w g grows clean)
seek_clean w g offset _ _ grows lasts clean h = clean_carried w g grows clean

exit_clean : (w : World) (g : Frame) (pid status : ℕ) (r : Reply) → length w.frame.processes ≤ length g.processes → IsClean w → IsClean (exit_answer w pid status r g).world
unfolding exit_answer plainly after_exit
exit_clean w g pid status reply.Done grows clean =
    either_clean g (is_ended (at g.processes pid)) _ _ (λ ended. clean_status g _ pid status ended (clean_carried w g grows clean))
    (λ other. clean_carried w g grows clean)
exit_clean w g pid status _ grows clean = clean_carried w g grows clean

pex_clean : (w : World) (g : Frame) (b : Option OpenFile) (r : Reply) → length w.frame.processes ≤ length g.processes → IsClean w → IsClean (pex_answer w b r g).world
unfolding pex_answer plainly emptied
pex_clean w g (Some e) r grows clean =
    either_clean g (is_whole g e.entry.object && not _) _ _
    (λ whole. clean_nothing g _ e.entry.object (clean_carried w g grows clean)) (λ other. clean_carried w g grows clean)
pex_clean w g None r grows clean = clean_carried w g grows clean

pub clean_step : (w : World) (place pid : ℕ) (c : Op) → IsClean w → IsClean (step w place pid c).world
unfolding step answer told plainly
clean_step w place pid (op.ReadFd fd count) clean =
    read_clean w _ count (behind w.frame pid fd) _ (spent_decided _ place pid (op.ReadFd fd count) w.frame).grown
    (lasts_decided _ place pid (op.ReadFd fd count) w.frame refl) clean (λ e is. behind_stands w.frame pid fd e is)
clean_step w place pid (op.WriteFd fd bytes) clean =
    write_clean w _ bytes (behind w.frame pid fd) _ (spent_decided _ place pid (op.WriteFd fd bytes) w.frame).grown
    (lasts_decided _ place pid (op.WriteFd fd bytes) w.frame refl) clean (λ e k is wrote_k.
    let facts = wrote _ place pid fd bytes w.frame k wrote_k in
    let same : facts.entry ≡ e = let h = facts.is_entry in cc in
    (behind_stands w.frame pid fd e is, subst (λ (x : OpenFile). is_some (at w.frame.objects x.entry.object) ≡ true) same (ap is_some facts.is_object)))
clean_step w place pid (op.CutFd fd len) clean = cut_clean w _ len (behind w.frame pid fd) _ (spent_decided _ place pid (op.CutFd fd len) w.frame).grown
    (lasts_decided _ place pid (op.CutFd fd len) w.frame refl) clean (λ e is done.
    let facts = was_cut _ place pid fd len w.frame done in
    let same : facts.entry ≡ e = let h = facts.is_entry in cc in
    subst (λ (x : OpenFile). is_some (at w.frame.objects x.entry.object) ≡ true) same (ap is_some facts.is_object))
clean_step w place pid (op.SeekFd fd offset) clean =
    seek_clean w _ offset (behind w.frame pid fd) _ (spent_decided _ place pid (op.SeekFd fd offset) w.frame).grown
    (lasts_decided _ place pid (op.SeekFd fd offset) w.frame refl) clean (λ e is. behind_stands w.frame pid fd e is)
clean_step w place pid (op.StatAt path) clean = subst (λ (v : World). IsClean v) (sym (world_stat w _ _)) (clean_carried w _ (spent_decided _ place pid (op.StatAt path) w.frame).grown clean)
clean_step w place pid (op.Exit status) clean = exit_clean w _ pid status _ (spent_decided _ place pid (op.Exit status) w.frame).grown clean
clean_step w place pid op.WaitChild clean = subst (λ (v : World). IsClean v) (sym (world_wait w _ _)) (clean_carried w _ (spent_decided _ place pid op.WaitChild w.frame).grown clean)
clean_step w place pid (op.Pex fd) clean = pex_clean w _ (behind w.frame pid fd) _ (spent_decided _ place pid (op.Pex fd) w.frame).grown clean
clean_step w place pid c clean = clean_carried w _ (spent_decided _ place pid c w.frame).grown clean

-- ---- runs
pub clean_run : (w : World) (place : ℕ) (h : List Event) → IsClean w → IsClean (run w place h)
clean_run w place [] clean = clean
clean_run w place (e ∷ h) clean = clean_run (step_of w place e).world (suc place) h (clean_step w place e.pid e.op clean)

pub clean_reached : (c : Config) (h : List Event) → IsClean (run (opening_world c) 1 h)
clean_reached c h = clean_run (opening_world c) 1 h (clean_opening c)
