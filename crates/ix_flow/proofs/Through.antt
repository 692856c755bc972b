-- What stands behind a descriptor before and after an entry that doesn't close it.
use Rattle.std.proofs.{Common.{◌≡◌, ◌<◌, ◌==◌, ◌&&◌, ℕ, Bool, true, false, List, length, Some, None, is_some, option_map, sym, ap, ◌∙◌, arith}, Math.Bool.and-false, lemmas.List.length-map}
use Rattle.std.specs.Option.{option_map_or}
use Rattle.ix_model.specs.{history.{Events.Event, Freshness.closes, History.{History, world_of, next, with_entry}}, laws.Sound.Sound, rows.Walks.{OpenFile, behind}, world.Contents.kept}
use Rattle.ix_model.specs.world.{Contents.{offset_of, on_pipe}, World.{HoldingOf, Object, Process, at, is_pipe}}
use Rattle.ix_model.proofs.{clean.Carrying.length-keep, frames.Claimants.is_behind, tables.Finds.in_table, words.{Living.is_living, Runs.world_of-push, Standing.{behind_is, stands}}}
use Rattle.ix_fresh.proofs.Remaining.{descriptors_remain}
use Rattle.ix_open.specs.declared.view.OpenView.{OpenView}
use Rattle.ix_flow.{specs.{Marks.marks_of, Origins.{each, Marked}, Tracking.HasEnd}, proofs.{ReadMarks.marked_run, ReadWorlds.{end_near, pipe_by_kind, pipe_of}}}

-- what the marks of a history are, where all that stood and stands keeps its own
abbrev pub kept_marks : History → Event → List (HoldingOf Marked)
kept_marks h e = kept (world_of h).frame (next h e).world.frame (marks_of h)

pub kept_long : (h : History) (e : Event) → Sound (world_of h) → length (kept_marks h e) ≡ length (world_of h).frame.objects
kept_long h e sound =
    length-keep _ _ 0 _
    ∙ sym (length-map _ (each _))
    ∙ ap length ((marked_run h).held)
    ∙ sound.lengths.holdings

-- the open entry behind the descriptor, before and after, with its object
pub record Through (h : History) (e : Event) (fd : ℕ) (b : OpenFile) : Type 0 where
  pub after : OpenFile
  pub is_after : behind (world_of (with_entry h e)).frame e.pid fd ≡ Some after
  pub id : after.id ≡ b.id
  pub on : after.entry.object ≡ b.entry.object
  pub end : after.entry.end ≡ b.entry.end
  pub near : b.entry.end < 2
  pub stood : is_some (at (world_of h).frame.objects b.entry.object) ≡ true
  pub inside : b.entry.object < length (kept_marks h e)
  pub object : Object
  pub is_object : at (world_of (with_entry h e)).frame.objects b.entry.object ≡ Some object
  pub piped : on_pipe (world_of h).frame b ≡ is_pipe object
  pub first : is_pipe object ≡ false → b.entry.end ≡ 0
  pub caller : Process
  pub is_caller : at (world_of (with_entry h e)).frame.processes e.pid ≡ Some caller
  pub opened : b.id < length (world_of h).frame.opens

pub through : (h : History) (e : Event) (fd : ℕ) (b : OpenFile) → Sound (world_of h) → behind (world_of h).frame e.pid fd ≡ Some b → closes fd e.op (next h e).reply ≡ false → Through h e fd b
through h e fd b sound found kept =
    let w = world_of h in
    let f = w.frame in
    let stays = descriptors_remain w _ e _ fd b sound found (ap (λ c. e.pid == e.pid && c) kept ∙ and-false _) in
    let entry = behind_is f _ fd b found in
    let standing = stands f b.id b.entry sound.opens entry in
    let same = world_of-push h e in
    let kind = pipe_by_kind stays.was stays.object stays.kind in
    let after = ap (λ v. behind v.frame e.pid fd) same ∙ stays.is_behind in
    let process = is_behind (world_of (with_entry h e)).frame e.pid fd stays.entry after in
    record {
      after = stays.entry;
      is_after = after;
      id = stays.id;
      on = stays.on;
      end = stays.end;
      near = end_near _ _ (sound.opens.end b.id b.entry entry);
      stood = ap is_some stays.is_was;
      inside = omega (arith, in_table f.objects b.entry.object _ stays.is_was, kept_long h e sound);
      object = stays.object;
      is_object = ap (λ v. at v.frame.objects b.entry.object) same ∙ stays.is_object;
      piped = ap (λ o. option_map_or is_pipe o false) stays.is_was ∙ sym kind;
      first = λ file. standing.at_end (pipe_of _ _ (sym standing.is_object ∙ stays.is_was) ∙ sym kind ∙ file);
      caller = process.process;
      is_caller = is_living _ _ process.lives;
      opened = in_table _ _ _ entry;
    }

module _ (h : History) (e : Event) (fd : ℕ) (b : OpenFile) (r : Through h e fd b) where
  -- the end of an object that it is on
  pub has_end : (piped : Bool) → is_pipe r.object ≡ piped → (end : ℕ) → end < 2 → HasEnd (with_entry h e) (kept_marks h e) b.entry.object end piped
  has_end piped kind end near = record { object = r.object; there = r.is_object; kind = kind; within = near; inside = r.inside }

  -- what is told of the open entry afterwards
  pub viewed : (v : OpenFile → OpenView) (view : OpenView) → ((c : OpenFile) → (v c).obj.0 ≡ c.entry.object) → ((c : OpenFile) → (v c).end ≡ c.entry.end)
      → ((c : OpenFile) → (v c).at ≡ offset_of (world_of (with_entry h e)).content c.id)
      → option_map v (behind (world_of (with_entry h e)).frame e.pid fd) ≡ Some view
      → (view.obj.0 ≡ b.entry.object) × (view.end ≡ b.entry.end) × (view.at ≡ offset_of (world_of (with_entry h e)).content b.id)
  viewed v view object at_end offset told =
      let one : v r.after ≡ view = cc in (
        ap (λ x. x.obj.0) (sym one) ∙ object r.after ∙ r.on,
        ap (λ x. x.end) (sym one) ∙ at_end _ ∙ r.end,
        ap (λ x. x.at) (sym one) ∙ offset _ ∙ ap (offset_of (world_of (with_entry h e)).content) r.id,
      )

  pub not_opened : (v : OpenFile → OpenView) → option_map v (behind (world_of (with_entry h e)).frame e.pid fd) ≡ None → ⊥
  not_opened v none = absurd (cc)

  -- whether it is on a pipe afterwards
  pub on_pipe_after : option_map_or is_pipe (at (world_of (with_entry h e)).frame.objects b.entry.object) false ≡ is_pipe r.object
  on_pipe_after = ap (λ x. option_map_or is_pipe x false) r.is_object
