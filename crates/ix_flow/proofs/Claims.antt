-- What tracks stand for after a claim.
use Rattle.std.proofs.Common.{◌≡◌, ◌≤◌, ◌<◌, ◌==◌, ◌&&◌, nat_lt, not, ℕ, Bool, true, false, true≢false, [], length, Option, Some, None, is_some, refl, option_map, if◌then◌else◌, sym, ap}
use Rattle.std.proofs.{Common.{◌∙◌, arith, inl, inr}, lemmas.{Bool.{and_parts, not-true, or_right, Decides.eqb_tells}, List.get_or-set_other}}
use Rattle.std.specs.Option.{option_map_or, option_and_then}
use Rattle.ix_model.specs.{history.{Events.Event, History.{History, world_of, next, with_entry}, Step.is_whole, Views.{has_side, size_at}}, laws.Sound.{Sound, ShapesSound}}
use Rattle.ix_model.specs.{rows.Walks.{OpenFile, behind}, world.{Contents.{cleared, held_at, holding_of, holds_nothing, nothing_held, side}, World.{World, Frame, Object, at, is_pipe}}}
use Rattle.ix_model.proofs.{paths_and_pipes.Wholes.becomes_empty, sound.Soundly.sound_step, words.Runs.world_of-push}
use Rattle.ix_open.specs.declared.view.OpenView.{OpenView}
use Rattle.ix_flow.specs.{Lines.lines_of_entry, Marks.marks_of, Moves.{edited, emptied_there}, Origins.origins_of, Tracking.{AreTracks, side_of}, declared.sides.Sides.Sides}
use Rattle.ix_flow.{specs.declared.tracks.Tracks.Tracks, proofs.Writes.unmoved}
use Rattle.ix_flow.proofs.{Making.{forgotten_sides, nothing_there}, NewObjects.{Stood, stood_step}, Staying.marks_next, Through.{kept_marks, not_opened, through}, Writes.followed}
use Rattle.ix_model.specs.history.Events as op
use Rattle.ix_model.specs.declared.reply.Reply.TheVariants as reply

-- ---- whole paths
-- an object of which both ends are claimed is a pipe
whole_is : (f : Frame) (o : ℕ) → ShapesSound f → is_whole f o ≡ true → (x : Object) × (at f.objects o ≡ Some x) × (is_pipe x ≡ true)
whole_is f o shapes whole = go _ refl whole
  where
    go : (x : Option Object) → at f.objects o ≡ x → option_map_or (λ y. is_some (at y.claims 0) && is_some (at y.claims 1)) x false ≡ true
        → (y : Object) × (at f.objects o ≡ Some y) × (is_pipe y ≡ true)
    go None is claimed = absurd (true≢false (sym claimed))
    go (Some y) is claimed = (y, is, kind _ refl)
      where
        kind : (b : Bool) → is_pipe y ≡ b → b ≡ true
        kind true pipe = refl
        kind false plain =
            absurd (true≢false (sym (and_parts _ _ claimed).0 ∙ (ap (λ claims. is_some (at claims 0)) (shapes.unclaimed o y is plain))))

-- where an end of an object can read nothing, that is told
told_empty : (w : World) (o end : ℕ) (x : Object) → at w.frame.objects o ≡ Some x → is_pipe x ≡ true → nat_lt end 2 ≡ true → holding_of w.content o ≡ holds_nothing → size_at w o end ≡ Some 0
unfolding size_at
told_empty w o end x is pipe near empty =
    ap (λ y. option_and_then (λ z. if has_side z end then Some (length (side end (holding_of w.content o))) else None) y) is
    ∙ ap (λ b. if b then Some (length (side end (holding_of w.content o))) else None) (or_right _ _ (λ i. pipe i && near i))
    ∙ ap (λ y. Some (length (side end y))) empty
    ∙ ap Some (none (end == 0))
  where
    none : (b : Bool) → length (if b then holds_nothing.first else holds_nothing.second) ≡ 0
    none true = refl
    none false = refl

module _ (h : History) (seat line pid fd : ℕ) where
  abbrev e : Event
  e = record { seat = seat; line = line; pid = pid; op = op.Pex fd }

  abbrev f : Frame
  f = (world_of h).frame

  abbrev g : Frame
  g = (next h e).world.frame

  marks_claim : marks_of (with_entry h e) ≡ emptied_there f g (behind f pid fd) (kept_marks h e)
  unfolding edited
  marks_claim = marks_next h e

  stood : Stood f g
  stood = stood_step _ _ _ _ refl

  silent : (d count k : ℕ) → e.op ≡ op.ReadFd d count → (next h e).reply ≡ reply.Bytes k → k ≡ 0
  silent d count k is gives = cc

  module _ (few : length (with_entry h e).events ≤ 6800000) (t : Tracks) (are : AreTracks t h) (v : OpenFile → OpenView) where
    still : marks_of (with_entry h e) ≡ kept_marks h e → AreTracks t (with_entry h e) × (lines_of_entry h e ≡ [])
    still is = unmoved h e few refl silent t are stood is

    -- nothing stands behind the descriptor
    pub claim_none : option_map v (behind (world_of (with_entry h e)).frame pid fd) ≡ None → AreTracks t (with_entry h e) × (lines_of_entry h e ≡ [])
    unfolding emptied_there
    claim_none none = still (marks_claim ∙ go _ refl)
      where
        go : (b : Option OpenFile) → behind f pid fd ≡ b → emptied_there f g b (kept_marks h e) ≡ kept_marks h e
        go None is = refl
        go (Some b) is = absurd (not_opened h e fd b (through h e fd b are.sound is refl) v none)

    module _ (view : OpenView) (object : (c : OpenFile) → (v c).obj.0 ≡ c.entry.object) (seen : option_map v (behind (world_of (with_entry h e)).frame pid fd) ≡ Some view) where
      -- what is told of the open entry is on the object that it was on
      on_object : (b : OpenFile) → behind f pid fd ≡ Some b → b.entry.object ≡ view.obj.0
      on_object b is =
          let r = through h e fd b are.sound is refl in
          let one : v r.after ≡ view = cc (sym (ap (option_map v) r.is_after) ∙ seen) in
          sym r.on ∙ sym (object r.after) ∙ ap (λ (x : OpenView). x.obj.0) one

      now_sound : Sound (next h e).world
      now_sound = sound_step _ _ _ _ are.sound

      -- where the claim makes a path whole, nothing can be read
      empties : (b : OpenFile) → b.entry.object ≡ view.obj.0 → (is_whole g b.entry.object && not (is_whole f b.entry.object)) ≡ true → (end : ℕ) → nat_lt end 2 ≡ true
          → size_at (world_of (with_entry h e)) view.obj.0 end ≡ Some 0
      empties b is whole end near =
          let parts = and_parts _ _ whole in
          let y = whole_is g _ now_sound.shapes parts.0 in
          ap (λ w. size_at w view.obj.0 end) (world_of-push h e) ∙ ap (λ n. size_at (next h e).world n end) (sym is) ∙ told_empty _ _ _ _ y.1 y.2 near (becomes_empty _ _ _ _ _
          (not-true _ parts.1) parts.0)

      -- something can be read: so nothing was emptied
      pub claim_left : (size_at (world_of (with_entry h e)) view.obj.0 0 ≡ Some 0 → size_at (world_of (with_entry h e)) view.obj.0 1 ≡ Some 0 → ⊥)
          → AreTracks t (with_entry h e) × (lines_of_entry h e ≡ [])
      unfolding emptied_there
      claim_left some = still (marks_claim ∙ go _ refl)
        where
          go : (b : Option OpenFile) → behind f pid fd ≡ b → emptied_there f g b (kept_marks h e) ≡ kept_marks h e
          go None is = refl
          go (Some b) is = test _ refl
            where
              test : (c : Bool) → (is_whole g b.entry.object && not (is_whole f b.entry.object)) ≡ c → (if c then cleared b.entry.object (kept_marks h e) else kept_marks h e) ≡ kept_marks h e
              test true whole = absurd (some (empties b (on_object b is) whole 0 refl) (empties b (on_object b is) whole 1 refl))
              test false not_whole = refl

      -- nothing can be read: nothing need be known of it
      pub claim_empty : size_at (world_of (with_entry h e)) view.obj.0 0 ≡ Some 0 → size_at (world_of (with_entry h e)) view.obj.0 1 ≡ Some 0 → (new : Sides)
          → ((end : ℕ) → end < 2 → side_of new view.obj.0 end ≡ None)
          → ((n end : ℕ) → end < 2 → (n ≡ view.obj.0 → ⊥) → side_of new n end ≡ side_of t.sides n end) → AreTracks (record t { sides = new }) (with_entry h e) × (lines_of_entry h e ≡ [])
      unfolding emptied_there
      claim_empty first second new none others =
          followed h e few refl silent t _ are refl refl _ refl
          (forgotten_sides h e are.sound _ _ _ are.sides _ none others (λ n y apart there. stood.objects n y there) _ nothing
          (λ n apart. ap (λ hs. held_at hs n) marks_claim ∙ go _ refl n apart))
        where
          nothing : (end : ℕ) → end < 2 → origins_of (side end (held_at (marks_of (with_entry h e)) view.obj.0)) ≡ []
          nothing end low = elim (eqb_tells end 0) [
            | inl zero ↦ ap (λ n. origins_of (side n (held_at (marks_of (with_entry h e)) view.obj.0))) zero.1 ∙ nothing_there _ _ 0 first
            | inr some ↦
                let one : end ≡ 1 = omega (arith, low, some.1) in
                ap (λ n. origins_of (side n (held_at (marks_of (with_entry h e)) view.obj.0))) one ∙ nothing_there _ _ 1 second
          ]

          go : (b : Option OpenFile) → behind f pid fd ≡ b → (n : ℕ) → (n ≡ view.obj.0 → ⊥) → held_at (emptied_there f g b (kept_marks h e)) n ≡ held_at (kept_marks h e) n
          go None is n apart = refl
          go (Some b) is n apart = test _
            where
              test : (c : Bool) → held_at (if c then cleared b.entry.object (kept_marks h e) else kept_marks h e) n ≡ held_at (kept_marks h e) n
              test true = get_or-set_other _ b.entry.object n nothing_held nothing_held (λ same. apart (same ∙ on_object b is))
              test false = refl
