-- What is known of labels where a read gave bytes, or a write told how many it wrote.
use Rattle.std.proofs.Common.{◌≡◌, ℕ, true, List, Option, Some, refl, sym, ap, subst, ◌≤◌, ◌<◌, ◌+◌, ◌==◌, ◌&&◌, ◌||◌, nat_le, Bool, false, true≢false, length, set, take, drop, is_some}
use Rattle.std.proofs.{Common.{if◌then◌else◌, ◌∙◌, arith, inl, inr}, Math.Bool.and-false, lemmas.{Bool.{leb-true, Decides.eqb_tells}, List.{get_or-set_same, length-take}}}
use Rattle.ix_model.specs.{declared.reply.Reply.Reply, history.{AuditLog.is_answer, Events.Event, Freshness.closes, History.{History, world_of, next, with_entry}, Step.{answer, step}}}
use Rattle.ix_model.specs.{history.Step.{plainly, read_answer, write_answer, Given, step_of}, laws.{Clean.IsClean, Sound.Sound}, rows.OnDescriptors.{LengthChecks, read_fd}}
use Rattle.ix_model.specs.{rows.{Outcomes.{Outcome, Refuse, Pass}, Table.{row, verdict}, Telling.told, Walks.{OpenFile, behind}}, world.Contents.{after_read, carried, change_side}}
use Rattle.ix_model.specs.world.{Contents.{readable, offset_of, on_pipe}, World.{World, Frame, Content, Object, at, is_pipe}}
use Rattle.ix_model.proofs.{clean.Carrying.carried_decided, sound.Carried.there_is, tables.Finds.in_table, words.{Answered.{passed, step_frame}, Ends.{Ends, Anything, ends_bind}}}
use Rattle.ix_model.proofs.words.{Ends.{ends_need, ends_object, ends_opened, ends_then}, Runs.world_of-push, Standing.{behind_is, stands}}
use Rattle.ix_iso.proofs.Facts.{ReadFacts, read_known, WriteFacts, write_known}
use Rattle.std.specs.Option.{option_map_or}
use Rattle.ix_fresh.proofs.Remaining.{descriptors_remain}
use Rattle.ix_model.specs.history.Events as op
use Rattle.ix_model.specs.declared.reply.Reply.TheVariants as reply

pub read_answers : (w : World) (count : ℕ) (b : Option OpenFile) (r : Reply) (g : Frame) (k : ℕ) → (read_answer w count b r g).reply ≡ reply.Bytes k → is_answer r ≡ true
unfolding read_answer plainly
read_answers w count (Some e) (reply.Bytes n) g k is = refl
read_answers w count _ r g k is = ap is_answer is

pub write_answers : (w : World) (new : List ℕ) (b : Option OpenFile) (r : Reply) (g : Frame) (k : ℕ) → (write_answer w new b r g).reply ≡ reply.Number k → is_answer r ≡ true
unfolding write_answer plainly
write_answers w new (Some e) (reply.Number n) g k is = refl
write_answers w new _ r g k is = ap is_answer is

pub read_step : (w : World) (place pid fd count k : ℕ) (e : OpenFile) → (step w place pid (op.ReadFd fd count)).reply ≡ reply.Bytes k → behind w.frame pid fd ≡ Some e
    → ReadFacts pid w.frame e (step w place pid (op.ReadFd fd count)).world.frame
unfolding step answer row
read_step w place pid fd count k e is there =
    let t = told w pid (op.ReadFd fd count) in
    subst (λ g. ReadFacts pid w.frame e g) (sym (step_frame w _ _ _))
    (passed t _ _ _ _ _ (read_known t _ fd _ _) (read_answers w _ _ _ _ k is) e there)

pub write_step : (w : World) (place pid fd : ℕ) (bytes : List ℕ) (k : ℕ) (e : OpenFile) → (step w place pid (op.WriteFd fd bytes)).reply ≡ reply.Number k → behind w.frame pid fd ≡ Some e
    → WriteFacts pid w.frame e (step w place pid (op.WriteFd fd bytes)).world.frame
unfolding step answer row
write_step w place pid fd bytes k e is there =
    let t = told w pid (op.WriteFd fd bytes) in
    subst (λ g. WriteFacts pid w.frame e g) (sym (step_frame w _ _ _))
    (passed t _ _ _ _ _ (write_known t _ fd _) (write_answers w _ _ _ _ k is) e there)

-- What stands behind the descriptor of a read, before and after it, and what the read gives and moves.

-- ---- what stands behind the descriptor
-- what holds anyway holds where a row passes
pub ends_anyway : {A : Type 0} (o : Outcome A) (Q : Type 0) → Q → Ends o Anything (λ a g. Q)
unfolding Ends
ends_anyway (Refuse r g) Q holds = tt
ends_anyway (Pass a g) Q holds = holds

reads_behind : (t : LengthChecks) (pid fd count : ℕ) (f : Frame) → Ends (read_fd t pid fd count f) Anything (λ r g. is_some (behind f pid fd) ≡ true)
unfolding read_fd
reads_behind t pid fd count f = ends_bind _ _ f _ _ (ends_opened _ fd f _ _ (λ e is. ends_anyway _ _ (ap is_some is)) tt)

reads_few : (t : LengthChecks) (pid fd count : ℕ) (f : Frame) → Ends (read_fd t pid fd count f) Anything (λ r g. nat_le count 4096 ≡ true)
unfolding read_fd
reads_few t pid fd count f =
    let Q : Reply → Frame → Type 0 = λ r g. nat_le count 4096 ≡ true in
    ends_bind _ _ f _ Q (ends_opened _ fd f _ _ (λ e is.
    ends_then _ _ f _ Q (ends_need _ _ f _ _ (λ may.
    ends_bind _ _ f _ Q (ends_object _ f _ _ (λ x here.
    ends_then _ _ f _ Q (ends_need _ _ f _ _ (λ free.
    ends_then _ _ f _ Q (ends_need _ _ f _ _ (λ few. ends_anyway _ _ few) tt)) tt)) tt)) tt)) tt)

-- a read that gives bytes has something behind its descriptor
pub read_behind : (w : World) (place pid fd count k : ℕ) → (step w place pid (op.ReadFd fd count)).reply ≡ reply.Bytes k → (b : OpenFile) × (behind w.frame pid fd ≡ Some b)
unfolding step answer row
read_behind w place pid fd count k is =
    let t = told w pid (op.ReadFd fd count) in
    there_is _ (passed t _ _ _ _ (λ r g. is_some _ ≡ true) (reads_behind t _ fd _ _)
    (read_answers w _ _ _ _ k is))

-- ---- the offset
-- what a read gives that says how much it gives, and what it leaves
record Gave (w : World) (count : ℕ) (e : OpenFile) (g : Frame) (k : ℕ) (given : Given) : Type 0 where
  content : given.world.content ≡ after_read w.frame e k (carried w.frame g w.content)
  long : length given.bytes ≡ k
  few : k ≤ count

gave : (w : World) (count : ℕ) (b : Option OpenFile) (e : OpenFile) (r : Reply) (g : Frame) (k : ℕ) → b ≡ Some e → (read_answer w count b r g).reply ≡ reply.Bytes k
    → Gave w count e g k (read_answer w count b r g)
unfolding read_answer plainly
gave w count (Some c) e (reply.Bytes n) g k is gives =
    let bytes = take _ _ in
    let one : c ≡ e = cc in
    let many : length bytes ≡ k = cc in
    record {
      content = ap (λ x. after_read w.frame x (length bytes) (carried w.frame g w.content)) one ∙ ap (λ m. after_read w.frame e m (carried w.frame g w.content)) many;
      long = many;
      few = omega (arith, many, length-take count (readable w.frame w.content c));
    }
gave w count b e r g k is gives = absurd (cc)

step_gave : (w : World) (place pid fd count k : ℕ) (e : OpenFile) → (step w place pid (op.ReadFd fd count)).reply ≡ reply.Bytes k → behind w.frame pid fd ≡ Some e
    → Gave w count e (verdict (told w pid (op.ReadFd fd count)) place pid (op.ReadFd fd count) w.frame).frame k (step w place pid (op.ReadFd fd count))
unfolding step answer
step_gave w place pid fd count k e gives is =
    gave w _ _ e _ _ k is gives

-- a read gives 4096 bytes at most
pub read_few : (w : World) (place pid fd count k : ℕ) (e : OpenFile) → (step w place pid (op.ReadFd fd count)).reply ≡ reply.Bytes k → behind w.frame pid fd ≡ Some e → k ≤ 4096
unfolding step answer row
read_few w place pid fd count k e is there =
    let t = told w pid (op.ReadFd fd count) in
    omega (
      arith,
      leb-true count 4096 (passed t _ _ _ _ (λ r g. nat_le count 4096 ≡ true) (reads_few t _ fd _ _)
          (read_answers w _ _ _ _ k is)),
      (step_gave w place pid fd count k e is there).few,
    )

-- the content after a read that gives bytes
step_content : (w : World) (place pid fd count k : ℕ) (e : OpenFile) → IsClean w → (step w place pid (op.ReadFd fd count)).reply ≡ reply.Bytes k → behind w.frame pid fd ≡ Some e
    → (step w place pid (op.ReadFd fd count)).world.content ≡ after_read w.frame e k w.content
step_content w place pid fd count k e clean gives is = (step_gave w _ _ fd _ k e gives is).content
    ∙ ap (after_read w.frame e k) (carried_decided w _ _ _ _ refl clean)

-- a file's offset is past what was read
read_offset : (f : Frame) (e : OpenFile) (k : ℕ) (c : Content) → on_pipe f e ≡ false → e.id < length c.offsets → offset_of (after_read f e k c) e.id ≡ offset_of c e.id + k
unfolding after_read
read_offset f e k c file inside = go _ file
  where
    go : (b : Bool) → b ≡ false → offset_of (if b then change_side e.entry.object e.entry.end
        (drop k) c else record c { offsets = set c.offsets e.id (offset_of c e.id + k) }) e.id ≡ offset_of c e.id + k
    go true is = cc
    go false is = get_or-set_same c.offsets e.id _ 0 inside

-- ---- both together
pub end_near : (n : ℕ) (b : Bool) → (n == 0 || n == 1 && b) ≡ true → n < 2
end_near n b is = elim (eqb_tells n 0) [
  | inl none ↦ omega (arith, none.1)
  | inr some ↦ elim (eqb_tells n 1) [
    | inl one ↦ omega (arith, one.1)
    | inr more ↦ absurd (true≢false (sym is ∙ (λ i. some.0 i || more.0 i && b)))
  ]
]

pub pipe_by_kind : (x y : Object) → y.kind ≡ x.kind → is_pipe y ≡ is_pipe x
pipe_by_kind x y same = ap (λ k. is_pipe (record x { kind = k })) same

pub pipe_of : (x y : Object) → Some x ≡ Some y → is_pipe x ≡ is_pipe y
pipe_of x y same = let one : x ≡ y = cc in ap (λ z. is_pipe z) one

-- the open entry behind the descriptor of a read that gave bytes, before and after, with its object
pub record Reading (h : History) (e : Event) (fd k : ℕ) : Type 0 where
  pub before : OpenFile
  pub is_before : behind (world_of h).frame e.pid fd ≡ Some before
  pub after : OpenFile
  pub is_after : behind (world_of (with_entry h e)).frame e.pid fd ≡ Some after
  pub id : after.id ≡ before.id
  pub on : after.entry.object ≡ before.entry.object
  pub end : after.entry.end ≡ before.entry.end
  pub near : before.entry.end < 2
  pub object : Object
  pub is_object : at (world_of h).frame.objects before.entry.object ≡ Some object
  pub inside : before.entry.object < length (world_of h).content.holdings
  pub now : Object
  pub is_now : at (world_of (with_entry h e)).frame.objects before.entry.object ≡ Some now
  pub kind : is_pipe now ≡ is_pipe object
  pub piped : on_pipe (world_of h).frame before ≡ is_pipe object
  pub first : is_pipe object ≡ false → before.entry.end ≡ 0
  pub long : length (next h e).bytes ≡ k
  pub moved : is_pipe object ≡ false → offset_of (world_of (with_entry h e)).content before.id ≡ offset_of (world_of h).content before.id + k

pub reading : (h : History) (e : Event) (fd count k : ℕ) → Sound (world_of h) → e.op ≡ op.ReadFd fd count → (next h e).reply ≡ reply.Bytes k → Reading h e fd k
reading h e fd count k sound is gives =
    let w : World = world_of h in
    let f : Frame = w.frame in
    let last : ℕ = length h.events + 1 in
    let gives_there : (step w last e.pid (op.ReadFd fd count)).reply ≡ reply.Bytes k = ap (λ o. (step w last e.pid o).reply) (sym is) ∙ gives in
    let found = read_behind w last e.pid fd count k gives_there in
    let b : OpenFile = found.0 in
    let stays = descriptors_remain w last e e.pid fd b sound found.1 (ap (λ o. e.pid == e.pid && closes fd o (step_of w last e).reply) is ∙ and-false (e.pid == e.pid)) in
    let entry = behind_is f e.pid fd b found.1 in
    let standing = stands f b.id b.entry sound.opens entry in
    let same : world_of (with_entry h e) ≡ (next h e).world = world_of-push h e in
    record {
      before = b;
      is_before = found.1;
      after = stays.entry;
      is_after = ap (λ (v : World). behind v.frame e.pid fd) same ∙ stays.is_behind;
      id = stays.id;
      on = stays.on;
      end = stays.end;
      near = end_near b.entry.end _ (sound.opens.end b.id b.entry entry);
      object = stays.was;
      is_object = stays.is_was;
      inside = omega (arith, in_table f.objects b.entry.object stays.was stays.is_was, sound.lengths.holdings);
      now = stays.object;
      is_now = ap (λ (v : World). at v.frame.objects b.entry.object) same ∙ stays.is_object;
      kind = pipe_by_kind stays.was stays.object stays.kind;
      piped = ap (λ o. option_map_or is_pipe o false) stays.is_was;
      first = λ file. standing.at_end (pipe_of standing.object stays.was (sym standing.is_object ∙ stays.is_was) ∙ file);
      long = ap (λ o. length (step w last e.pid o).bytes) is ∙ (step_gave w last e.pid fd count k b gives_there found.1).long;
      moved = λ file.
          ap (λ (v : World). offset_of v.content b.id) same
          ∙ ap (λ o. offset_of (step w last e.pid o).world.content b.id) is
          ∙ ap (λ (c : Content). offset_of c b.id) (step_content w last e.pid fd count k b sound.holdings.clean gives_there found.1)
          ∙ read_offset f b k w.content (ap (λ o. option_map_or is_pipe o false) stays.is_was ∙ file)
          (omega (arith, in_table f.opens b.id b.entry entry, sound.lengths.offsets));
    }
