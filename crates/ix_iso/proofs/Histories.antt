-- Whole histories, by induction.
use Rattle.std.proofs.Common.{false, ◌≡◌, ℕ, zero, suc, true, List, [], ◌∷◌, take, slice_get, Some, sym, ap, ◌+◌, arith, subst}
use Rattle.ix_label.specs.Category.{Categories}
use Rattle.ix_model.specs.{world.World.World, history.{Step.{Given, step_of, run}, Events.Event}, two_runs.TwoRuns.{shape, Alike, IsLow, AgreeAt, Same, Other, Agree, is_one_kind}}
use Rattle.ix_iso.specs.Laws.{frame_part, gives_bytes, OneShape, NoneCrosses, given_after, Isolated}
use Rattle.ix_iso.proofs.{Shapes.{twins_itself, twins_replaced, shape_twins}, Steps.alike_events, Lowerings.low_is_same}

-- ---- one entry
pub shape_events : (l : Categories) (v w : World) (place : ℕ) (e f : Event) → shape v ≡ shape w → AgreeAt l v.frame e f
    → is_one_kind (step_of v place e).reply (step_of w place f).reply ≡ true → OneShape e.op f.op (step_of v place e) (step_of w place f)
shape_events l v w place _ _ shapes (Same {e = e}) kind = shape_twins v w _ _ _ _ (twins_itself _) shapes kind
shape_events l v w place _ _ shapes (Other {seat = seat} {line = line} {pid = pid} {a = a} {b = b} high replaced) kind = shape_twins v w _ _ a b (twins_replaced a b replaced) shapes kind

-- ---- all entries
-- what an entry gives at a place, after an entry more
later : (w : World) (place : ℕ) (e : Event) (events : List Event) (n : ℕ) (f : Event) → given_after (step_of w place e).world (suc place) events n f ≡ given_after w place (e ∷ events) (suc n) f
later w place e events n f = ap (λ k. step_of (run (step_of w place e).world (suc place) (take n events)) k f) (omega arith)

first : (w : World) (place : ℕ) (events : List Event) (e : Event) → given_after w place events 0 e ≡ step_of w place e
first w place events e = ap (λ k. step_of w k e) (omega arith)

module _ (l : Categories) where
  shapes_along : (v w : World) (place : ℕ) (events others : List Event) → shape v ≡ shape w → Agree l v w place events others → (n : ℕ)
      → shape (run v place (take n events)) ≡ shape (run w place (take n others))
  shapes_along v w place events others shapes agree zero = shapes
  shapes_along v w place [] [] shapes agree (suc n) = shapes
  shapes_along v w place [] (f ∷ others) shapes agree (suc n) = absurd agree
  shapes_along v w place (e ∷ events) [] shapes agree (suc n) = absurd agree
  shapes_along v w place (e ∷ events) (f ∷ others) shapes agree (suc n) =
      shapes_along (step_of v place e).world (step_of w place f).world _ _ _ (shape_events l v w _ e f shapes agree.0 agree.1).shapes agree.2 n

  -- the replies, whatever is low
  abbrev SameReply : Event → Event → Given → Given → Type 0
  SameReply e f a b = (frame_part e.op a.reply ≡ frame_part f.op b.reply) × (gives_bytes e.op ≡ false → a.bytes ≡ b.bytes)

  replies_along : (v w : World) (place : ℕ) (events others : List Event) → shape v ≡ shape w → Agree l v w place events others → (n : ℕ) (e f : Event)
      → slice_get events n ≡ Some e → slice_get others n ≡ Some f → SameReply e f (given_after v place events n e) (given_after w place others n f)
  replies_along v w place [] others shapes agree n e f is here = cc
  replies_along v w place (a ∷ events) [] shapes agree n e f is here = absurd agree
  replies_along v w place (a ∷ events) (b ∷ others) shapes agree zero e f is here =
      let i : a ≡ e = cc in
      let j : b ≡ f = cc in
      let step = shape_events l v w _ a b shapes agree.0 agree.1 in
      let now : SameReply a b (step_of v place a) (step_of w place b) = (step.replies, step.bytes) in
      let here_e =
      subst (λ x. SameReply x f (step_of v place x) (step_of w place f)) i
      (subst (λ y. SameReply a y (step_of v place a) (step_of w place y)) j now) in
      subst (λ g. SameReply e f g (given_after w place (b ∷ others) 0 f)) (sym (first v _ (a ∷ events) e))
      (subst (λ h. SameReply e f (step_of v place e) h) (sym (first w _ (b ∷ others) f)) here_e)
  replies_along v w place (a ∷ events) (b ∷ others) shapes agree (suc n) e f is here =
      let rest = replies_along (step_of v place a).world (step_of w place b).world (suc place) _ _ (shape_events l v w _ a b shapes agree.0 agree.1).shapes agree.2 n e f is here in
      subst (λ g. SameReply e f g (given_after w place (b ∷ others) (suc n) f)) (later v _ a _ n e)
      (subst (λ h. SameReply e f (given_after (step_of v place a).world (suc place) events n e) h) (later w _ b _ n f) rest)

  alike_along : (v w : World) (place : ℕ) (events others : List Event) → Alike l v w → Agree l v w place events others → (n : ℕ)
      → NoneCrosses l v place (take n events) → Alike l (run v place (take n events)) (run w place (take n others))
  alike_along v w place events others alike agree zero none = alike
  alike_along v w place [] [] alike agree (suc n) none = alike
  alike_along v w place [] (f ∷ others) alike agree (suc n) none = absurd agree
  alike_along v w place (e ∷ events) [] alike agree (suc n) none = absurd agree
  alike_along v w place (e ∷ events) (f ∷ others) alike agree (suc n) none =
      alike_along (step_of v place e).world (step_of w place f).world (suc place) events others ((alike_events l v w place e f alike agree.0 agree.1).worlds none.0) agree.2 n none.1

  -- the replies, where the entry is low
  abbrev EqualIfLow : ℕ → Given → Given → Type 0
  EqualIfLow pid a b = IsLow l a.world.frame pid → (a.reply ≡ b.reply) × (a.bytes ≡ b.bytes)

  reads_along : (v w : World) (place : ℕ) (events others : List Event) → Alike l v w → Agree l v w place events others → (n : ℕ) (e f : Event)
      → slice_get events n ≡ Some e → slice_get others n ≡ Some f → NoneCrosses l v place (take n events)
      → EqualIfLow e.pid (given_after v place events n e) (given_after w place others n f)
  reads_along v w place [] others alike agree n e f is here none = cc
  reads_along v w place (a ∷ events) [] alike agree n e f is here none = absurd agree
  reads_along v w place (a ∷ events) (b ∷ others) alike agree zero e f is here none =
      let i : a ≡ e = cc in
      let j : b ≡ f = cc in
      let now : EqualIfLow a.pid (step_of v place a) (step_of w place b) = (alike_events l v w place a b alike agree.0 agree.1).replies in
      let here_e : EqualIfLow e.pid (step_of v place e) (step_of w place f) =
      subst (λ (x : Event). EqualIfLow x.pid (step_of v place x) (step_of w place f)) i
      (subst (λ (y : Event). EqualIfLow a.pid (step_of v place a) (step_of w place y)) j now) in
      subst (λ (g : Given). EqualIfLow e.pid g (given_after w place (b ∷ others) 0 f)) (sym (first v place (a ∷ events) e))
      (subst (λ (h : Given). EqualIfLow e.pid (step_of v place e) h) (sym (first w place (b ∷ others) f)) here_e)
  reads_along v w place (a ∷ events) (b ∷ others) alike agree (suc n) e f is here none =
      let rest = reads_along (step_of v place a).world (step_of w place b).world (suc place) events others
      ((alike_events l v w place a b alike agree.0 agree.1).worlds none.0) agree.2 n e f is here none.1 in
      subst (λ (g : Given). EqualIfLow e.pid g (given_after w place (b ∷ others) (suc n) f)) (later v place a events n e)
      (subst (λ (h : Given). EqualIfLow e.pid (given_after (step_of v place a).world (suc place) events n e) h) (later w place b others n f) rest)

  entries_along : (v w : World) (place : ℕ) (events others : List Event) → Agree l v w place events others → (n : ℕ) (e f : Event) → slice_get events n ≡ Some e
      → slice_get others n ≡ Some f → AgreeAt l (run v place (take n events)).frame e f
  entries_along v w place [] others agree n e f is here = cc
  entries_along v w place (a ∷ events) [] agree n e f is here = absurd agree
  entries_along v w place (a ∷ events) (b ∷ others) agree zero e f is here =
      let i : a ≡ e = cc in
      let j : b ≡ f = cc in
      subst (λ x. AgreeAt l v.frame x f) i (subst (λ y. AgreeAt l v.frame a y) j agree.0)
  entries_along v w place (a ∷ events) (b ∷ others) agree (suc n) e f is here = entries_along (step_of v place a).world _ _ _ _ agree.2 n e f is here

pub isolated : (l : Categories) (v w : World) (place : ℕ) (events others : List Event) → Alike l v w → Agree l v w place events others → Isolated l v w place events others
isolated l v w place events others alike agree = record {
  shapes = λ n. shapes_along l v w place events others alike.shapes agree n;
  replies = λ n e f is here. replies_along l v w place events others alike.shapes agree n e f is here;
  worlds = λ n none. alike_along l v w place events others alike agree n none;
  entries = λ n e f is here low. low_is_same l (run v place (take n events)) (place + n) e f (entries_along l v w place events others agree n e f is here) low;
  reads = λ n e f is here none low. reads_along l v w place events others alike agree n e f is here none low;
}
