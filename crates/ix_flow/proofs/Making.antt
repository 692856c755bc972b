-- What sides stand for after an object was forgotten, which holds nothing.
use Rattle.std.proofs.Common.{◌≡◌, ◌<◌, ◌&&◌, ℕ, Bool, true, false, true≢false, List, [], ◌∷◌, length, Option, Some, None, is_some, if◌then◌else◌, refl, sym, ap, ◌∙◌, subst, arith, inl}
use Rattle.std.{proofs.{Common.{inr, ◌≤◌, ◌+◌, option_map, ◌⊎◌}, lemmas.{Bool.Decides.eqb_tells, List.length-map}}, specs.Option.option_and_then}
use Rattle.ix_label.specs.Category.{Categories}
use Rattle.ix_model.specs.{declared.ids.Fd.Fd, history.{AuditLog.is_answer, Events.{Event, Op}, History.{History, world_of, next, with_entry}, Step.step, Views.{has_side, size_at}}}
use Rattle.ix_model.specs.{laws.Sound.Sound, rows.Walks.{OpenFile, behind}, world.{Contents.{held_at, holding_of, nothing_held, side}, Naming.PathOf, World.{World, HoldingOf, Object, at}}}
use Rattle.ix_model.proofs.{clean.Carrying.get_or-keep, sound.Carried.there_is, words.Runs.world_of-push}
use Rattle.ix_flow.specs.{Lines.lines_of_entry, Marks.marks_of, Moves.edited, Origins.{Marked, origins_of}, Tracking.{AreSides, IsTracked, side_of, AreTracks}}
use Rattle.ix_flow.{specs.declared.{sides.Sides.Sides, tracks.Tracks.Tracks}, proofs.{Staying.marks_next, Through.kept_marks, Writes.{kind_stays, tracked_next, followed, unmoved}}}
use Rattle.ix_flow.proofs.{Mapping.held_side, NewObjects.{MadeOne, OneNew, Stood, created, made_dir, piped}, ReadMarks.{marked_run, kept_is}, Relabelling.sets_label, Staying.origins_past}
use Rattle.ix_open.specs.declared.view.OpenView.{OpenView}
use Rattle.ix_model.specs.history.Events as op
use Rattle.ix_model.specs.declared.reply.Reply.TheVariants as reply

-- ---- what is nothing
no_length : {A : Type 0} (xs : List A) → length xs ≡ 0 → xs ≡ []
no_length [] none = refl
no_length (x ∷ xs) none = absurd (omega (arith, none))

-- where there is nothing at an end, there are no origins
pub nothing_there : (h : History) (o end : ℕ) → size_at (world_of h) o end ≡ Some 0 → origins_of (side end (held_at (marks_of h) o)) ≡ []
unfolding size_at
nothing_there h o end none = no_length _ (long ∙ go _ none)
  where
    long : length (origins_of (side end (held_at (marks_of h) o))) ≡ length (side end (holding_of (world_of h).content o))
    long =
        length-map _ (λ m. m.origin)
        ∙ sym (length-map _ (λ m. m.byte))
        ∙ ap length (sym (held_side _ _ o _) ∙ ap (λ hs. side end (held_at hs o)) ((marked_run h).held))

    go : (x : Option Object) → option_and_then (λ y. if has_side y end then Some (length (side end (holding_of (world_of h).content o))) else None) x ≡ Some 0
        → length (side end (holding_of (world_of h).content o)) ≡ 0
    go None is = cc
    go (Some y) is = ends _ is
      where
        ends : (b : Bool) → (if b then Some (length (side end (holding_of (world_of h).content o))) else None) ≡ Some 0 → length (side end (holding_of (world_of h).content o)) ≡ 0
        ends true is = cc
        ends false is = cc

module _ (h : History) (e : Event) (sound : Sound (world_of h)) where
  -- nothing is kept where nothing stood
  pub nothing_kept : (o end : ℕ) → at (world_of h).frame.objects o ≡ None → origins_of (side end (held_at (kept_marks h e) o)) ≡ []
  nothing_kept o end free =
      ap (λ x. origins_of (side end x))
      (get_or-keep _ _ 0 _ o
      ∙ ap (λ n. if is_some (at (world_of h).frame.objects n) && is_some (at (next h e).world.frame.objects n) then held_at (marks_of h) o else nothing_held) (omega arith)
      ∙ ap (λ x. if is_some x && is_some (at (next h e).world.frame.objects o) then held_at (marks_of h) o else nothing_held) free)
      ∙ nothing _
    where
      none : List Marked
      none = []

      nothing : (end : ℕ) → origins_of (side end nothing_held) ≡ []
      nothing end = go _
        where
          go : (b : Bool) → origins_of (if b then none else none) ≡ []
          go true = refl
          go false = refl

  -- sides in which an object is forgotten that holds nothing, and which else are as they were
  pub forgotten_sides : (s new : Sides) (labels : List Categories) → AreSides s labels h (marks_of h) → (o : ℕ) → ((end : ℕ) → end < 2 → side_of new o end ≡ None)
      → ((n end : ℕ) → end < 2 → (n ≡ o → ⊥) → side_of new n end ≡ side_of s n end)
      → ((n : ℕ) (y : Object) → (n ≡ o → ⊥) → at (next h e).world.frame.objects n ≡ Some y → is_some (at (world_of h).frame.objects n) ≡ true)
      → (ms : List (HoldingOf Marked)) → ((end : ℕ) → end < 2 → origins_of (side end (held_at ms o)) ≡ []) → ((n : ℕ) → (n ≡ o → ⊥) → held_at ms n ≡ held_at (kept_marks h e) n)
      → AreSides new labels (with_entry h e) ms
  forgotten_sides s new labels are o none others stood ms nothing kept =
      let now = world_of-push h e in
      record {
        tracked = λ n end low lives. elim (eqb_tells n o) [
          | inl same ↦
              subst (λ m. IsTracked labels (with_entry h e) (side_of new m end) (origins_of (side end (held_at ms m)))) (sym same.1)
              (subst (λ x. IsTracked labels (with_entry h e) x (origins_of (side end (held_at ms o)))) (sym (none end low)) (nothing _ low))
          | inr apart ↦
              let y = there_is (at (next h e).world.frame.objects n) (ap (λ (w : World). is_some (at w.frame.objects n)) (sym now) ∙ lives) in
              let x = there_is _ (stood n y.0 apart.1 y.1) in
              let held = kept n apart.1 ∙ kept_is h e n (λ i. is_some (x.1 i) && is_some (y.1 i)) in
              subst (λ z. IsTracked labels (with_entry h e) z (origins_of (side end (held_at ms n)))) (sym (others n _ low apart.1))
              (subst (λ z. IsTracked labels (with_entry h e) (side_of s n end) (origins_of (side end z))) (sym held)
              (tracked_next h e _ _ _ (origins_past h n _ _ x.1) (are.tracked n end low (ap is_some x.1))))
        ];
        first = λ n end y z low lives plain is. elim (eqb_tells n o) [
          | inl same ↦ let gone = sym is ∙ ap (λ m. side_of new m end) same.1 ∙ none end low in absurd (true≢false (ap is_some gone))
          | inr apart ↦
              let here = ap (λ w. at w.frame.objects n) (sym now) ∙ lives in
              let x = there_is _ (stood n y apart.1 here) in
              are.first n end x.0 z low x.1 (sym (kind_stays h e sound n _ y x.1 here) ∙ plain) (sym (others n _ low apart.1) ∙ is)
        ];
      }

-- What tracks stand for after an object was made.

-- whether a call makes an object
abbrev pub makes : Op → Bool
makes (op.CreateAt path) = true
makes (op.MakeDir path) = true
makes op.MakePipe = true
makes _ = false

-- what is held is kept by a call that makes an object
marks_made : (h : History) (seat line pid : ℕ) (c : Op) → makes c ≡ true → let e : Event = record { seat = seat; line = line; pid = pid; op = c } in marks_of (with_entry h e) ≡ kept_marks h e
unfolding edited
marks_made h seat line pid (op.CreateAt path) is = marks_next h _
marks_made h seat line pid (op.MakeDir path) is = marks_next h _
marks_made h seat line pid op.MakePipe is = marks_next h _
marks_made h seat line pid _ is = cc

quiet : (c : Op) → makes c ≡ true → sets_label c ≡ false
quiet (op.CreateAt path) is = refl
quiet (op.MakeDir path) is = refl
quiet op.MakePipe is = refl
quiet _ is = cc

reads_not : (c : Op) (fd count : ℕ) → makes c ≡ true → c ≡ op.ReadFd fd count → ⊥
reads_not c fd count is same = absurd (true≢false (sym (ap makes (sym same) ∙ is)))

module _ (h : History) (seat line pid : ℕ) (c : Op) (is : makes c ≡ true) (few : length (with_entry h (record { seat = seat; line = line; pid = pid; op = c })).events ≤ 6800000) (t : Tracks)
    (are : AreTracks t h) where
  abbrev e : Event
  e = record { seat = seat; line = line; pid = pid; op = c }

  silent : (d count k : ℕ) → e.op ≡ op.ReadFd d count → (next h e).reply ≡ reply.Bytes k → k ≡ 0
  silent d count k reads gives = absurd (reads_not c d _ is reads)

  -- where nothing is made
  pub none_made : Stood (world_of h).frame (next h e).world.frame → AreTracks t (with_entry h e) × (lines_of_entry h e ≡ [])
  none_made stood = unmoved h e few (quiet c is) silent t are stood (marks_made h _ _ _ c is)

  -- where one is made
  pub one_made : (o : ℕ) → at (world_of h).frame.objects o ≡ None → OneNew (world_of h).frame (next h e).world.frame o → (new : Sides) → ((end : ℕ) → end < 2 → side_of new o end ≡ None)
      → ((n end : ℕ) → end < 2 → (n ≡ o → ⊥) → side_of new n end ≡ side_of t.sides n end) → AreTracks (record t { sides = new }) (with_entry h e) × (lines_of_entry h e ≡ [])
  one_made o free one new none others =
      followed h e few (quiet c is) silent t _ are refl refl _ (marks_made h seat line pid c is)
      (forgotten_sides h e are.sound _ _ _ are.sides o none others
      (λ n y apart there. elim (one.objects n y there) [ inl same ↦ absurd (apart same) | inr stood ↦ stood ])
      _ (λ end low. nothing_kept h e are.sound o _ free) (λ n apart. refl))

-- ---- files and directories
-- the two calls that make one
pub data MakesOne (c : Op) : Type 0 where
  File : (path : PathOf) → c ≡ op.CreateAt path → MakesOne c
  Dir : (path : PathOf) → c ≡ op.MakeDir path → MakesOne c

made_by_call : (h : History) (pid : ℕ) (c : Op) → MakesOne c
    → ((is_answer (step (world_of h) (length h.events + 1) pid c).reply ≡ false) × Stood (world_of h).frame (step (world_of h) (length h.events + 1) pid c).world.frame)
    ⊎ MadeOne (world_of h).frame (step (world_of h) (length h.events + 1) pid c).reply (step (world_of h) (length h.events + 1) pid c).world.frame
made_by_call h pid c (File path is) =
    subst (λ d. ((is_answer (step (world_of h) (length h.events + 1) pid d).reply ≡ false) × Stood (world_of h).frame (step (world_of h) (length h.events + 1) pid d).world.frame)
    ⊎ MadeOne (world_of h).frame (step (world_of h) (length h.events + 1) pid d).reply (step (world_of h) (length h.events + 1) pid d).world.frame) (sym is)
    (created _ _ _ _)
made_by_call h pid c (Dir path is) =
    subst (λ d. ((is_answer (step (world_of h) (length h.events + 1) pid d).reply ≡ false) × Stood (world_of h).frame (step (world_of h) (length h.events + 1) pid d).world.frame)
    ⊎ MadeOne (world_of h).frame (step (world_of h) (length h.events + 1) pid d).reply (step (world_of h) (length h.events + 1) pid d).world.frame) (sym is)
    (made_dir _ _ _ _)

makes_one : (c : Op) → MakesOne c → makes c ≡ true
makes_one c (File path is) = ap makes is
makes_one c (Dir path is) = ap makes is

module _ (h : History) (seat line pid : ℕ) (c : Op) (one : MakesOne c) (few : length (with_entry h (record { seat = seat; line = line; pid = pid; op = c })).events ≤ 6800000) (t : Tracks)
    (are : AreTracks t h) where
  abbrev made_as : Event
  made_as = record { seat = seat; line = line; pid = pid; op = c }

  pub not_told : ((o : ℕ) → (next h made_as).reply ≡ reply.Number o → ⊥) → AreTracks t (with_entry h made_as) × (lines_of_entry h made_as ≡ [])
  not_told none = elim (made_by_call h pid c one) [
    | inl refused ↦ none_made h seat line pid c (makes_one c one) few t are refused.1
    | inr made ↦ absurd (none made.object made.told)
  ]

  pub told_one : (o : ℕ) → (next h made_as).reply ≡ reply.Number o → (new : Sides) → ((end : ℕ) → end < 2 → side_of new o end ≡ None)
      → ((n end : ℕ) → end < 2 → (n ≡ o → ⊥) → side_of new n end ≡ side_of t.sides n end) → AreTracks (record t { sides = new }) (with_entry h made_as) × (lines_of_entry h made_as ≡ [])
  told_one o told new none others = elim (made_by_call h pid c one) [
    | inl refused ↦ absurd (true≢false (sym (ap is_answer told) ∙ refused.0))
    | inr made ↦
        let same : made.object ≡ o = number_is (sym made.told ∙ told) in
        one_made h seat line pid c (makes_one c one) few t are o (ap (at (world_of h).frame.objects) (sym same) ∙ made.free)
        (subst (OneNew (world_of h).frame (next h made_as).world.frame) same made.new) new none others
  ]
    where
      number_is : {m n : ℕ} → reply.Number m ≡ reply.Number n → m ≡ n
      number_is {m} {n} is = cc

-- ---- pipes
module _ (h : History) (seat line pid : ℕ) (few : length (with_entry h (record { seat = seat; line = line; pid = pid; op = op.MakePipe })).events ≤ 6800000) (t : Tracks) (are : AreTracks t h) where
  abbrev piped_as : Event
  piped_as = record { seat = seat; line = line; pid = pid; op = op.MakePipe }

  pub no_pipe : ((a b : Fd) → (next h piped_as).reply ≡ reply.Two a b → ⊥) → AreTracks t (with_entry h piped_as) × (lines_of_entry h piped_as ≡ [])
  no_pipe none = elim (piped (world_of h) (length h.events + 1) pid) [
    | inl refused ↦ none_made h seat line pid op.MakePipe refl few t are refused.1
    | inr made ↦ absurd (none made.first made.second made.told)
  ]

  module _ (a b : Fd) (told : (next h piped_as).reply ≡ reply.Two a b) (v : OpenFile → OpenView) where
    first_is : {m n x y : Fd} → reply.Two m x ≡ reply.Two n y → m ≡ n
    first_is {m} {n} {x} {y} is = cc

    pub pipe_opened : option_map v (behind (world_of (with_entry h piped_as)).frame pid a.0) ≡ None → ⊥
    pipe_opened none = elim (piped (world_of h) (length h.events + 1) pid) [
      | inl refused ↦ true≢false (sym (ap is_answer told) ∙ refused.0)
      | inr made ↦
          true≢false (ap is_some (sym
          (ap (option_map v) (ap (λ (w : World). behind w.frame pid a.0) (world_of-push h piped_as)
          ∙ ap (λ (d : Fd). behind (next h piped_as).world.frame pid d.0) (sym (first_is (sym made.told ∙ told))) ∙ made.is_behind)) ∙ none))
    ]

    pub pipe_made : (view : OpenView) → ((c : OpenFile) → (v c).obj.0 ≡ c.entry.object) → option_map v (behind (world_of (with_entry h piped_as)).frame pid a.0) ≡ Some view
        → (new : Sides) → ((end : ℕ) → end < 2 → side_of new view.obj.0 end ≡ None) → ((n end : ℕ) → end < 2 → (n ≡ view.obj.0 → ⊥) → side_of new n end ≡ side_of t.sides n end)
        → AreTracks (record t { sides = new }) (with_entry h piped_as) × (lines_of_entry h piped_as ≡ [])
    pipe_made view object seen new none others = elim (piped (world_of h) (length h.events + 1) pid) [
      | inl refused ↦ absurd (true≢false (sym (ap is_answer told) ∙ refused.0))
      | inr made ↦
          let there : Some (v made.entry) ≡ Some view = sym
          (ap (option_map v) (ap (λ (w : World). behind w.frame pid a.0) (world_of-push h piped_as)
          ∙ ap (λ (d : Fd). behind (next h piped_as).world.frame pid d.0) (sym (first_is (sym made.told ∙ told))) ∙ made.is_behind)) ∙ seen in
          let one : v made.entry ≡ view = cc (there) in
          let same : made.entry.entry.object ≡ view.obj.0 = sym (object made.entry) ∙ ap (λ (x : OpenView). x.obj.0) one in
          one_made h seat line pid op.MakePipe refl few t are view.obj.0 (ap (at (world_of h).frame.objects) (sym same) ∙ made.free)
          (subst (OneNew (world_of h).frame (next h piped_as).world.frame) same made.new) new none others
    ]
