-- What is read from a path that has been whole since a call made it so.
use Rattle.std.{specs.Option.option_map_or, proofs.lemmas.{Bool.{and_parts, or_cases, eqb-true}, List.take-append-drop}}
use Rattle.std.proofs.Common.{◌≡◌, ◌≤◌, ◌-◌, ◌==◌, ℕ, zero, suc, Bool, true, false, true≢false, not, ◌&&◌, ◌||◌, List, [], ◌∷◌, ◌++◌, take, drop, Option, Some}
use Rattle.std.proofs.Common.{None, is_some, refl, sym, ap, ◌∙◌, subst, arith, inl, inr, if◌then◌else◌}
use Rattle.ix_model.specs.world.{World.{World, Frame, Object, at, is_pipe, claimed_by_another, claimed_by}, Numbers.first_pipe}
use Rattle.ix_model.specs.{world.Contents.{holding_of, side, on_pipe, readable, offset_of}, rows.{Walks.{OpenFile, behind}, Telling.told, Table.verdict}}
use Rattle.ix_model.specs.{history.{Step.{plainly, read_answer, answer, step, step_of, run, is_whole}, Events.{Op, Event}}, laws.Sound.{ShapesSound, Sound}}
use Rattle.ix_model.specs.{laws.WholePaths.{reaches, sent, written_to, IsEndOf}, declared.{reply.Reply.Reply, refusal.Refusal.Refusal}}
use Rattle.ix_model.specs.laws.ClaimedPaths.{stays_whole, claims_its_end, sent_by_claimant, written_by_claimants, IsInside}
use Rattle.ix_model.proofs.{words.Standing.behind_is, sound.Soundly.sound_step, paths_and_pipes.{Wholes.becomes_empty, Written.holds_written, Stopping.stops}}
use Rattle.ix_model.specs.history.Events as op
use Rattle.ix_model.specs.declared.reply.Reply.TheVariants as reply

-- ---- lists
inside_end : (part end whole : List ℕ) (n : ℕ) → part ≡ take n end → IsEndOf end whole → IsInside part whole
inside_end part end whole n is e = record {
  before = e.before;
  after = drop n end;
  is = e.is ∙ ap (λ xs. e.before ++ xs) (sym (take-append-drop n end) ∙ ap (λ xs. xs ++ drop n end) (sym is));
}

inside_none : (part whole : List ℕ) → part ≡ [] → IsInside part whole
inside_none part whole is = record { before = []; after = whole; is = ap (λ xs. xs ++ whole) (sym is) }

-- ---- a whole path
-- the object of a path that is whole, with both of its claims
record WholeObject (f : Frame) (o : ℕ) : Type 0 where
  object : Object
  is : at f.objects o ≡ Some object
  first : is_some (at object.claims 0) ≡ true
  second : is_some (at object.claims 1) ≡ true

whole_object : (f : Frame) (o : ℕ) → is_whole f o ≡ true → WholeObject f o
whole_object f o h = go _ refl h
  where
    go : (x : Option Object) → at f.objects o ≡ x → option_map_or (λ x. is_some (at x.claims 0) && is_some (at x.claims 1)) x false ≡ true → WholeObject f o
    go None is h = cc
    go (Some x) is h = let both = and_parts _ _ h in record { object = x; is = is; first = both.0; second = both.1 }

-- it is a pipe
whole_pipe : (f : Frame) (o : ℕ) (w : WholeObject f o) → ShapesSound f → is_pipe w.object ≡ true
whole_pipe f o w s = go _ refl
  where
    go : (b : Bool) → is_pipe w.object ≡ b → b ≡ true
    go true is = refl
    go false is = absurd (true≢false (sym w.first ∙ ap (λ c. is_some (at c 0)) (s.unclaimed o w.object w.is is)))

-- an open entry is at end 0 or 1
low_end : (n : ℕ) (b : Bool) → (n == 0 || n == 1 && b) ≡ true → n ≤ 1
low_end n b h = elim (or_cases _ _ h) [
  | inl first ↦ let e = eqb-true n 0 first in omega (arith, e)
  | inr second ↦ let e = eqb-true n 1 (and_parts _ b second).0 in omega (arith, e)
]

claim_at : (x : Object) (n : ℕ) → n ≤ 1 → is_some (at x.claims 0) ≡ true → is_some (at x.claims 1) ≡ true → is_some (at x.claims n) ≡ true
claim_at x zero low a b = a
claim_at x (suc zero) low a b = b
claim_at x (suc (suc n)) low a b = absurd (omega (arith, low))

-- ---- writes
number_or : (r : Reply) (why : Refusal) (f : Frame) (pid fd : ℕ) (bytes : List ℕ) (o end : ℕ) → r ≡ reply.No why → sent f pid (op.WriteFd fd bytes) r o end ≡ []
number_or r why f pid fd bytes o end is = ap (λ a. sent f pid (op.WriteFd fd bytes) a o end) is

apart_sends : (f : Frame) (pid fd : ℕ) (bytes : List ℕ) (r : Reply) (o end : ℕ) → reaches (behind f pid fd) o end ≡ false → sent f pid (op.WriteFd fd bytes) r o end ≡ []
apart_sends f pid fd bytes (reply.Number n) o end h = rw h refl
apart_sends f pid fd bytes _ o end h = refl

module _ (w : World) (s : Sound w) (place pid fd o end : ℕ) (bytes : List ℕ) (whole : WholeObject w.frame o) where
  -- a write by another than the claimant sends nothing
  another_sends : (e : OpenFile) → behind w.frame pid fd ≡ Some e → e.entry.object ≡ o
      → option_map_or (λ x. claimed_by x e.entry.end pid) (at w.frame.objects e.entry.object) false ≡ false
      → sent w.frame pid (op.WriteFd fd bytes) (step w place pid (op.WriteFd fd bytes)).reply o end ≡ []
  another_sends e leads here unclaimed =
      let is : at w.frame.objects e.entry.object ≡ Some whole.object = ap (at w.frame.objects) here ∙ whole.is in
      let low : e.entry.end ≤ 1 = low_end e.entry.end _ (s.opens.end e.id e.entry (behind_is w.frame pid fd e leads)) in
      let mine : claimed_by whole.object e.entry.end pid ≡ false = sym (ap (λ x. option_map_or (λ y. claimed_by y e.entry.end pid) x false) is) ∙ unclaimed in
      let theirs : claimed_by_another whole.object e.entry.end pid ≡ true = go (at whole.object.claims e.entry.end) (claim_at whole.object e.entry.end low whole.first whole.second) mine in
      number_or _ _ w.frame pid fd bytes o end ((stops w place pid fd e whole.object leads is theirs).writes bytes).reply
    where
      go : (c : Option ℕ) → is_some c ≡ true → option_map_or (λ p. p == pid) c false ≡ false → option_map_or (λ p. not (p == pid)) c false ≡ true
      go None h k = cc
      go (Some p) h k = ap not k

  write_by_claimant : sent_by_claimant w.frame pid (op.WriteFd fd bytes) (step w place pid (op.WriteFd fd bytes)).reply o end
      ≡ sent w.frame pid (op.WriteFd fd bytes) (step w place pid (op.WriteFd fd bytes)).reply o end
  write_by_claimant = go (claims_its_end w.frame pid (behind w.frame pid fd)) refl
    where
      all : List ℕ
      all = sent w.frame pid (op.WriteFd fd bytes) (step w place pid (op.WriteFd fd bytes)).reply o end

      of_entry : (e : OpenFile) → behind w.frame pid fd ≡ Some e → (b : Bool) → (e.entry.object == o) ≡ b
          → option_map_or (λ x. claimed_by x e.entry.end pid) (at w.frame.objects e.entry.object) false ≡ false → all ≡ []
      of_entry e leads true here unclaimed = another_sends e leads (eqb-true e.entry.object o here) unclaimed
      of_entry e leads false apart unclaimed = apart_sends w.frame pid fd bytes _ o end (ap (λ b. reaches b o end) leads ∙ ap (λ b. b && (1 - e.entry.end == end)) apart)

      none : (b : Option OpenFile) → behind w.frame pid fd ≡ b → claims_its_end w.frame pid b ≡ false → all ≡ []
      none None leads h = apart_sends w.frame pid fd bytes _ o end (ap (λ b. reaches b o end) leads)
      none (Some e) leads h = of_entry e leads (e.entry.object == o) refl h

      go : (b : Bool) → claims_its_end w.frame pid (behind w.frame pid fd) ≡ b → (if b then all else []) ≡ all
      go true h = refl
      go false h = sym (none (behind w.frame pid fd) refl h)

by_claimant : (w : World) → Sound w → (place pid : ℕ) (c : Op) (o end : ℕ) → WholeObject w.frame o
    → sent_by_claimant w.frame pid c (step w place pid c).reply o end ≡ sent w.frame pid c (step w place pid c).reply o end
by_claimant w s place pid (op.WriteFd fd bytes) o end whole = write_by_claimant w s place pid fd o end bytes whole
by_claimant w s place pid _ o end whole = refl

-- along a path that stays whole all that is written is written by claimants
all_by_claimants : (w : World) → Sound w → (place : ℕ) (h : List Event) (o end : ℕ) → stays_whole w place h o ≡ true → written_by_claimants w place h o end ≡ written_to w place h o end
unfolding written_by_claimants written_to stays_whole
all_by_claimants w s place [] o end whole = refl
all_by_claimants w s place (e ∷ h) o end whole =
    let both = and_parts (is_whole w.frame o) (stays_whole (step_of w place e).world (suc place) h o) whole in
    (λ i. by_claimant w s place e.pid e.op o end (whole_object w.frame o both.0) i ++ all_by_claimants (step_of w place e).world (sound_step w place e.pid e.op s) (suc place) h o end both.1 i)

-- ---- reads
whole_at_first : (w : World) (place : ℕ) (h : List Event) (o : ℕ) → stays_whole w place h o ≡ true → is_whole w.frame o ≡ true
unfolding stays_whole
whole_at_first w place [] o whole = whole
whole_at_first w place (e ∷ h) o whole = (and_parts _ _ whole).0

whole_at_last : (w : World) (place : ℕ) (h : List Event) (o : ℕ) → stays_whole w place h o ≡ true → is_whole (run w place h).frame o ≡ true
unfolding stays_whole
whole_at_last w place [] o whole = whole
whole_at_last w place (e ∷ h) o whole = whole_at_last (step_of w place e).world _ h o (and_parts (is_whole w.frame o) (stays_whole (step_of w place e).world (suc place) h o) whole).1

sound_run : (w : World) → Sound w → (place : ℕ) (h : List Event) → Sound (run w place h)
sound_run w s place [] = s
sound_run w s place (e ∷ h) = sound_run (step_of w place e).world (sound_step w place e.pid e.op s) (suc place) h

read_inside : (w : World) (count : ℕ) (e : OpenFile) (a : Reply) (g : Frame) (whole : List ℕ) → on_pipe w.frame e ≡ true
    → IsEndOf (side e.entry.end (holding_of w.content e.entry.object)) whole → IsInside (read_answer w count (Some e) a g).bytes whole
unfolding read_answer plainly readable
read_inside w count e (reply.Bytes k) g whole pipe held =
    inside_end _ _ _ count
    (ap (λ b. take count (drop (if b then 0 else offset_of w.content e.id) (side e.entry.end (holding_of w.content e.entry.object)))) pipe) held
read_inside w count e _ g whole pipe held = inside_none _ _ refl

pub claimants_read : (w : World) (place pid : ℕ) (c : Op) (h : List Event) (o : ℕ) → Sound w → is_whole w.frame o ≡ false
    → stays_whole (step w place pid c).world (suc place) h o ≡ true → (n reader fd count : ℕ) (e : OpenFile)
    → behind (run (step w place pid c).world (suc place) h).frame reader fd ≡ Some e → e.entry.object ≡ o
    → IsInside (step (run (step w place pid c).world (suc place) h) n reader (op.ReadFd fd count)).bytes
    (written_by_claimants (step w place pid c).world (suc place) h o e.entry.end)
unfolding step answer
claimants_read w place pid c h o s broken whole n reader fd count e leads here =
    let v : World = (step w place pid c).world in
    let u : World = run v (suc place) h in
    let sv : Sound v = sound_step w place pid c s in
    let su : Sound u = sound_run v sv (suc place) h in
    let first = whole_object v.frame o (whole_at_first v (suc place) h o whole) in
    let last = whole_object u.frame o (whole_at_last v (suc place) h o whole) in
    let past : first_pipe v.frame.fss ≤ o = sv.limits.past o first.object first.is (whole_pipe v.frame o first sv.shapes) in
    let low : e.entry.end ≤ 1 = low_end e.entry.end _ (su.opens.end e.id e.entry (behind_is u.frame reader fd e leads)) in
    let held = holds_written v (suc place) h o e.entry.end sv past low (becomes_empty w place pid c o broken (whole_at_first v (suc place) h o whole)) in
    let by = subst (λ xs. IsEndOf (side e.entry.end (holding_of u.content o)) xs) (sym (all_by_claimants v sv (suc place) h o e.entry.end whole)) held in
    let there = subst (λ (m : ℕ). IsEndOf (side e.entry.end (holding_of u.content m)) (written_by_claimants v (suc place) h o e.entry.end)) (sym here) by in
    let pipe : on_pipe u.frame e ≡ true = ap (λ x. option_map_or is_pipe x false) (ap (at u.frame.objects) here ∙ last.is) ∙ whole_pipe u.frame o last su.shapes in
    let d = verdict (told u reader (op.ReadFd fd count)) n reader (op.ReadFd fd count) u.frame in
    subst (λ b. IsInside (read_answer u count b d.reply d.frame).bytes (written_by_claimants v (suc place) h o e.entry.end)) (sym leads) (read_inside u count e d.reply d.frame _ pipe there)
