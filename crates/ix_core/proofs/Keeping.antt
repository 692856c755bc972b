-- What a core's marks stand for, at first and one entry later.
use Rattle.std.proofs.Common.{◌≡◌, ◌+◌, ◌≤◌, ◌^◌, ◌++◌, ◌∷◌, ℕ, Bool, true, false, true≢false, [], length, Option, Some, None, is_some, option_map, refl, sym}
use Rattle.std.proofs.Common.{if◌then◌else◌, ap, ◌∙◌, subst, arith, length-append}
use Rattle.ix_float.specs.declared.mark.Way.{Way}
use Rattle.ix_model.specs.{declared.config.Config.Config, history.{Cost.cost_of_history, Events.{Op, Event}, Step.run}, opening.{Opening.opening_world, Valid.is_valid}}
use Rattle.ix_model.specs.{history.{Freshness.{is_fresh, fresh_from}, History.{History, world_of, with_entry}}, laws.Sound.Sound}
use Rattle.ix_model.proofs.{opening.Validity.valid_parts, sound.Reaching.{opening_is_built, sound_opening_world}, words.Runs.{world_of-none, world_of-push}}
use Rattle.ix_fresh.{specs.Laws.{Spot, spot_behind, fresh_spot, spot_after}, proofs.{Freshly.fresh_is_known, Spots.spots_along}}
use Rattle.ix_marks.specs.Known.{Known, spot_of, has_row}
use Rattle.ix_core.{specs.Marking.{way_of, spot_in, goes_fresh, sizes_of, AreMarked, AreKnown, AreReady, AreTold, call_by, mark_through}, proofs.Standing.{entries_are_few, small_journal}}
use Rattle.ix_model.specs.history.Events as op
use Rattle.ix_model.specs.history.Freshness as freshness
use Rattle.ix_marks.specs.declared.row.Spot as marked

-- ---- at first
opening_sizes : (c : Config) (n : ℕ) → is_valid c ≡ true → n ≡ length (opening_world c).frame.objects → sizes_of (opening_world c).frame ≡ record {
  rows = c.limits.procs;
  objects = n;
  opens = c.limits.opens;
}
opening_sizes c n valid is =
    let limits = ap (λ w. w.frame.limits) (opening_is_built c (valid_parts c valid)).is in
    let opens = (sound_opening_world c valid).limits.opens ∙ ap (λ l. l.opens) limits in
    λ i. record { rows = (ap (λ l. l.procs) limits) i; objects = sym is i; opens = opens i }

pub marked_first : (c : Config) (m : Known) (n : ℕ) → is_valid c ≡ true → n ≡ length (opening_world c).frame.objects
    → ((pid fd : ℕ) (w : Way) → spot_of m pid fd w ≡ None) → ((pid : ℕ) → has_row m pid ≡ false) → m.sizes ≡ record { rows = c.limits.procs; objects = n; opens = c.limits.opens } → m.raised ≡ 0
    → AreMarked m (record { config = c; events = [] })
unfolding is_fresh fresh_from
marked_first c m n valid is spots rows sizes raised = record {
  spots = λ pid fd w. ap (option_map spot_in) (spots _ fd w);
  ready = subst (λ w. AreReady m w.frame) (sym (world_of-none c)) (record {
    rows = λ pid has. absurd (true≢false (sym has ∙ rows _));
    sizes = sizes ∙ sym (opening_sizes c n valid is);
  });
  raised = omega (arith, raised);
}

-- ---- what they tell
seen_or_not : (s : Option marked.Spot) → is_some s ≡ is_some (option_map spot_in s)
seen_or_not None = refl
seen_or_not (Some x) = refl

module _ (m : Known) (h : History) (valid : is_valid h.config ≡ true) (k : AreMarked m h) where
  opening_sound : Sound (opening_world h.config)
  opening_sound = sound_opening_world _ valid

  -- a descriptor that is fresh stands for something
  pub fresh_is : (pid fd : ℕ) (w : Way) → is_some (spot_of m pid fd w) ≡ is_fresh (opening_world h.config) h.events pid fd (way_of w)
  fresh_is pid fd w = seen_or_not _ ∙ ap is_some (k.spots pid fd w) ∙ go _ refl
    where
      go : (b : Bool) → is_fresh (opening_world h.config) h.events pid fd (way_of w) ≡ b → is_some (if b then spot_behind (run (opening_world h.config) 1 h.events).frame pid fd else None) ≡ b
      go false no_longer = refl
      go true fresh = ap (λ b. is_some (option_map (λ z. let x : Spot = record { entry = z.id; object = z.entry.object } in
          x) b)) (fresh_is_known _ _ _ fd _ opening_sound fresh).is_behind

  -- a call that goes through a fresh descriptor goes by its mark
  pub goes_by : (pid : ℕ) (o : Op) → is_some (mark_through m pid o) ≡ goes_fresh h pid o
  goes_by pid (op.ReadFd fd count) = fresh_is _ fd _
  goes_by pid (op.WriteFd fd bytes) = fresh_is _ fd _
  goes_by pid _ = refl

  spot_here : (pid fd : ℕ) (w : freshness.Way) (s : Spot) (b : Bool) (x : Option Spot) → (if b then x else None) ≡ Some s → x ≡ Some s
  spot_here pid fd w s true x is = is
  spot_here pid fd w s false x is = cc

  pub marked_known : AreKnown m (world_of h).frame
  unfolding world_of
  marked_known = record {
    here = λ pid fd w s is. spot_here pid fd (way_of w) s _ _ (sym (k.spots pid fd w) ∙ is);
    known = λ pid fd w is. fresh_is_known _ _ _ fd _ opening_sound (sym (fresh_is _ fd w) ∙ is);
  }

  pub few_raised : cost_of_history h.events ≤ h.config.journal → m.raised + 3 ≤ 2 ^ 62
  few_raised fits = omega (arith, k.raised, entries_are_few h.events h.config.journal fits (small_journal h.config valid))

  -- ---- one entry later
  spots_next : (n : Known) (e : Event) → AreTold m n (world_of h) (length h.events + 1) e.pid e.op → (pid fd : ℕ) (w : Way)
      → option_map spot_in (spot_of n pid fd w) ≡ fresh_spot (opening_world h.config) (h.events ++ e ∷ []) pid fd (way_of w)
  unfolding world_of
  spots_next n e t pid fd w = t.spots pid fd w
      ∙ ap (spot_after (run (opening_world h.config) 1 h.events) (length h.events + 1) (call_by e.pid e.op) pid fd (way_of w)) (k.spots pid fd w)
      ∙ sym (spots_along _ _ e _ fd _ opening_sound)

  pub marked_next : (n : Known) (e : Event) → AreTold m n (world_of h) (length h.events + 1) e.pid e.op → AreMarked n (with_entry h e)
  marked_next n e t = record {
    spots = spots_next n e t;
    ready = subst (λ u. AreReady n u.frame) (sym (world_of-push h e)) t.ready;
    raised = omega (arith, t.raised, k.raised, length-append h.events (e ∷ []));
  }
