-- What tracks stand for before the first entry.
use Rattle.std.proofs.Common.{◌≡◌, ◌<◌, ◌+◌, ◌*◌, ℕ, zero, suc, get_or, replicate, Bool, true, false, List, [], ◌∷◌, length, Option, Some, None, is_some, option_map, if◌then◌else◌, refl}
use Rattle.std.proofs.{Common.{sym, ap, ◌∙◌, subst, arith, inl, inr}, lemmas.Bool.Decides.eqb_tells}
use Rattle.std.specs.{BTreeMap.get, Option.{option_map_or, option_and_then}, Ordering.nat_cmp, Prelude.slice_get}
use Rattle.ix_label.specs.Category.{Categories, bottom}
use Rattle.ix_model.specs.{declared.{config.{Config.Config, ObjSpec.ObjSpec}, reply.Kind.Kind, views.ObjView.ObjView}, history.{AuditLog.label_at, History.{History, world_of}}}
use Rattle.ix_model.specs.{history.Views.{has_side, size_at, view_of}, laws.Sound.Sound, opening.Opening.{bare_world, opening_world, placed, with_object, with_objects}}
use Rattle.ix_model.specs.world.{Contents.{held_at, holding_of, holds_nothing, side}, World.{World, Holding, Object, at, is_dir}}
use Rattle.ix_model.proofs.{sound.{Carried.there_is, Lengths.set_either}, tables.Finds.in_table, words.Runs.world_of-none}
use Rattle.ix_flow.specs.{Lowerings.label_of, Marks.marks_of, Origins.{InConfig, Origin, marked_from, origins_of}, Sides.{IsLike, StandsIn, numbered, origin_at}, Tracking.AreLabelled}
use Rattle.ix_flow.specs.{Tracking.{AreOpened, AreTracks, IsTracked, IsUnder, counts_from, falls_at, side_of}, declared.{labels.Labels.Labels, side.Side.Side, sides.Sides.Sides}}
use Rattle.ix_flow.{specs.declared.{source.Source.Source, tracks.Tracks.Tracks}, proofs.{SideEdits.origins_marked, Staying.marks_first, Writes.tracked_more}}
use Rattle.ix_model.specs.declared.reply.Kind.TheVariants as kind
use Rattle.ix_flow.specs.declared.source.Source.TheVariants as source

-- ---- no second lists
line_second : (w : World) (spec : ObjSpec) → ((n : ℕ) → (held_at w.content.holdings n).second ≡ []) → (n : ℕ) → (held_at (with_object w spec).content.holdings n).second ≡ []
unfolding with_object
line_second w spec none n = go _ _ _
  where
    go : (dir k : ℕ) (free : Option ℕ) → (held_at (option_map_or (placed w spec dir k) free w).content.holdings n).second ≡ []
    go dir k None = none n
    go dir k (Some o) = set_either (λ (x : Holding). x.second ≡ []) _ w.content.holdings o n _ (λ same. refl) (none n)

lines_second : (w : World) (specs : List ObjSpec) → ((n : ℕ) → (held_at w.content.holdings n).second ≡ []) → (n : ℕ) → (held_at (with_objects w specs).content.holdings n).second ≡ []
lines_second w [] none n = none n
lines_second w (spec ∷ specs) none n = lines_second (with_object w spec) specs (line_second w _ none) n

replicate_same : {A : Type 0} (k n : ℕ) (x : A) → get_or (replicate k x) n x ≡ x
replicate_same zero n x = refl
replicate_same (suc k) zero x = refl
replicate_same (suc k) (suc n) x = replicate_same k n x

opening_second : (c : Config) (n : ℕ) → (held_at (opening_world c).content.holdings n).second ≡ []
unfolding opening_world
opening_second c n = lines_second (bare_world c) c.objects (λ m. ap (λ x. x.second) (replicate_same _ m holds_nothing)) n

-- ---- what is held at first
module _ (h : History) (none : h.events ≡ []) where
  abbrev plain : History
  plain = record { config = h.config; events = [] }

  is_plain : h ≡ plain
  is_plain = ap (λ events. record { config = h.config; events = events }) none

  world_is : world_of h ≡ opening_world h.config
  world_is = ap world_of is_plain ∙ world_of-none _

  held_first : (o : ℕ) → origins_of (held_at (marks_of h) o).first ≡ numbered (InConfig o) 0 (length (holding_of (world_of h).content o).first)
  held_first o =
      ap (λ k. origins_of (held_at (marks_of k) o).first) is_plain
      ∙ ap (λ x. origins_of x.first) (marks_first h.config o)
      ∙ origins_marked _ 0 _
      ∙ ap (λ w. numbered (InConfig o) 0 (length (holding_of w.content o).first)) (sym world_is)

  held_second : (o : ℕ) → origins_of (held_at (marks_of h) o).second ≡ []
  unfolding marked_from
  held_second o =
      ap (λ k. origins_of (held_at (marks_of k) o).second) is_plain
      ∙ ap (λ x. origins_of x.second) (marks_first h.config o)
      ∙ ap (λ xs. origins_of (marked_from (InConfig o) 0 xs)) (opening_second _ o)

  -- at both ends
  held_ends : (P : ℕ → List Origin → Type 0) (o : ℕ) → P 0 (origins_of (held_at (marks_of h) o).first) → P 1 [] → (end : ℕ) → end < 2 → P end (origins_of (side end (held_at (marks_of h) o)))
  held_ends P o first second end low = elim (eqb_tells end 0) [
    | inl here ↦ subst (λ n. P n (origins_of (side n (held_at (marks_of h) o)))) (sym here.1) first
    | inr some ↦
        let one : end ≡ 1 = omega (arith, low, some.1) in
        subst (λ n. P n (origins_of (side n (held_at (marks_of h) o)))) (sym one) (subst (P 1) (sym (held_second o)) second)
  ]

  -- the label of what came from an object
  label_first : (o n : ℕ) (x : Object) → at (world_of h).frame.objects o ≡ Some x → label_of h (InConfig o n) ≡ x.label
  unfolding label_of label_at
  label_first o n x there = ap (λ y. option_map_or (λ z. z.label) y bottom) (ap (λ w. at w.frame.objects o) (sym world_is) ∙ there)

  -- ---- one object more
  directory : (x : Object) → has_side x 0 ≡ false → is_dir x ≡ true
  directory x no_side = go _ no_side
    where
      go : (k : Kind) → has_side (record x { kind = k }) 0 ≡ false → is_dir (record x { kind = k }) ≡ true
      go kind.File isnt = cc
      go kind.Dir isnt = refl
      go kind.Pipe isnt = cc

  module _ (sound : Sound (world_of h)) (t : Tracks) (o : ℕ) (are : AreOpened t h o) where
    -- nothing is read at either end of what has no size
    no_first : (x : Object) → at (world_of h).frame.objects o ≡ Some x → size_at (world_of h) o 0 ≡ None → origins_of (held_at (marks_of h) o).first ≡ []
    unfolding size_at numbered
    no_first x there none = held_first o ∙ ap (λ xs. numbered (InConfig o) 0 (length xs))
        (sound.holdings.directory o x there (directory x
        (go _ (sym (ap (λ y. option_and_then (λ z. if has_side z 0 then Some (length (side 0 (holding_of (world_of h).content o))) else None) y) there) ∙ none))))
      where
        go : (b : Bool) → (if b then Some (length (side 0 (holding_of (world_of h).content o))) else None) ≡ None → b ≡ false
        go true is = cc
        go false is = refl

    split : (n : ℕ) → n < o + 1 → (n ≡ o → ⊥) → n < o
    split n low apart = omega (arith, low, apart)

    pub opened_none : ((x : Object) → at (world_of h).frame.objects o ≡ Some x → size_at (world_of h) o 0 ≡ None) → AreOpened t h (o + 1)
    opened_none none = record {
      tracked = λ n end near low lives. elim (eqb_tells n o) [
        | inl same ↦
            let here = ap (λ m. is_some (at (world_of h).frame.objects m)) (sym same.1) ∙ lives in
            let x = there_is _ here in
            subst (λ m. IsTracked t.labels.all.items h (side_of t.sides m end) (origins_of (side end (held_at (marks_of h) m)))) (sym same.1)
            (subst (λ y. IsTracked t.labels.all.items h y (origins_of (side end (held_at (marks_of h) o)))) (sym (are.none o end near (omega arith)))
            (held_ends (λ e xs. xs ≡ []) o (no_first _ x.1 (none x.0 x.1)) refl _ near))
        | inr apart ↦ are.tracked n end near (split n low apart.1) lives
      ];
      first = are.first;
      none = λ n end near past. are.none n end near (omega (arith, past));
      falls = are.falls;
      counts = are.counts;
    }

    -- a file's bytes are of one source
    pub opened_file : (view : ObjView) → option_map view_of (at (world_of h).frame.objects o) ≡ Some view → (size : ℕ) → size_at (world_of h) o 0 ≡ Some size
        → (labels : Labels) (label : ℕ) → slice_get labels.all.items label ≡ Some view.label
        → ((n : ℕ) (l : Categories) → slice_get t.labels.all.items n ≡ Some l → slice_get labels.all.items n ≡ Some l)
        → (s : Side) → IsLike s (numbered (origin_at (source.File o label)) 0 size) → ((x : Source) → StandsIn s x → x ≡ source.File o label) → s.front ≡ 0
        → (sides : Sides) → side_of sides o 0 ≡ Some s → ((n end : ℕ) → (n * 2 + end ≡ o * 2 + 0 → ⊥) → side_of sides n end ≡ side_of t.sides n end)
        → AreOpened (record t { sides = sides; labels = labels }) h (o + 1)
    unfolding size_at
    opened_file view seen size long labels label is_label stays s like sources front sides put others = record {
      tracked = λ n end near low lives. elim (eqb_tells n o) [
        | inl same ↦
            subst (λ (m : ℕ). IsTracked labels.all.items h (side_of sides m end) (origins_of (side end (held_at (marks_of h) m)))) (sym same.1)
            (held_ends (λ e xs. IsTracked labels.all.items h (side_of sides o e) xs) o
            (subst (λ (y : Option Side). IsTracked labels.all.items h y (origins_of (held_at (marks_of h) o).first)) (sym put)
            (subst (IsLike s) (sym (held_first o ∙ ap (numbered (InConfig o) 0) (go (at (world_of h).frame.objects o) long))) like, labelled))
            (subst (λ (y : Option Side). IsTracked labels.all.items h y []) (sym (others o 1 (λ x. omega (arith, x)) ∙ are.none o 1 (omega arith) (omega arith))) refl) end near)
        | inr apart ↦
            subst (λ (y : Option Side). IsTracked labels.all.items h y (origins_of (side end (held_at (marks_of h) n)))) (sym (others n end (λ x. apart.1 (omega (arith, x, near)))))
            (tracked_more t.labels.all.items labels.all.items stays h (side_of t.sides n end) (origins_of (side end (held_at (marks_of h) n))) (are.tracked n end near (split n low apart.1) lives))
      ];
      first = λ n end y is. elim (eqb_tells (n * 2 + end) (o * 2 + 0)) [
        | inl same ↦
            let one : Some s ≡ Some y = sym put ∙ ap (λ k. get nat_cmp sides.all k) (sym same.1) ∙ is in
            let side_is : s ≡ y = cc (one) in
            ap (λ (z : Side). z.front) (sym side_is) ∙ front
        | inr apart ↦ are.first n end y (sym (others n end apart.1) ∙ is)
      ];
      none = λ n end near past. others n end (λ x. omega (arith, x, near, past)) ∙ are.none n end near (omega (arith, past));
      falls = are.falls;
      counts = are.counts;
    }
      where
        go : (x : Option Object) → option_and_then (λ z. if has_side z 0 then Some (length (side 0 (holding_of (world_of h).content o))) else None) x ≡ Some size
            → length (holding_of (world_of h).content o).first ≡ size
        go None is = cc
        go (Some x) is = ends (has_side x 0) is
          where
            ends : (b : Bool) → (if b then Some (length (side 0 (holding_of (world_of h).content o))) else None) ≡ Some size → length (holding_of (world_of h).content o).first ≡ size
            ends true is = cc
            ends false is = cc

        label_is : (n : ℕ) → label_of h (InConfig o n) ≡ view.label
        label_is n = shown _ refl seen
          where
            shown : (x : Option Object) → at (world_of h).frame.objects o ≡ x → option_map view_of x ≡ Some view → label_of h (InConfig o n) ≡ view.label
            shown None there none = cc
            shown (Some x) there some = let one : view_of x ≡ view = cc in label_first o n x there ∙ ap (λ v. v.label) one

        labelled : AreLabelled labels.all.items h s
        labelled = λ n low high.
            subst (λ x. IsUnder labels.all.items x (label_of h (origin_at x n))) (sym (sources _ (record { number = n; low = low; high = high; is = refl }))) (is_label ∙ ap Some (sym (label_is n)))

  -- ---- all objects
  pub opened_all : (t : Tracks) → Sound (world_of h) → AreOpened t h (length (world_of h).frame.objects) → AreTracks t h
  unfolding counts_from falls_at
  opened_all t sound are = record {
    sound = sound;
    sides = record {
      tracked = λ o end near lives. are.tracked o end near (inside o lives) lives;
      first = λ o end x y near there plain is. are.first o end y is;
    };
    falls = record {
      noted = λ o place low. are.falls o place ∙ sym (ap (λ events. falls_at (opening_world h.config) 1 events o place) none);
      few = omega (arith, ap length none);
    };
    counts = (λ i. record { reads = are.counts.0 i; lines = are.counts.1 i }) ∙ sym (ap (counts_from plain (record { reads = 0; lines = 0 })) none);
  }
    where
      inside : (o : ℕ) → is_some (at (world_of h).frame.objects o) ≡ true → o < length (world_of h).frame.objects
      inside o lives = in_table _ o _ (there_is _ lives).1
