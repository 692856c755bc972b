-- Two configs that differ in what high files hold open worlds that are alike.
use Rattle.std.proofs.Common.{◌≡◌, ℕ, true, List, [], ◌∷◌, ◌++◌, length, Option, Some, None, refl, sym, ap, ◌∙◌, ◌⊎◌, subst, inl, inr, get_or, set, unwrap_or, length-set}
use Rattle.std.{specs.Option.option_map_or, proofs.lemmas.List.map-set}
use Rattle.ix_label.specs.Category.{Categories, leq}
use Rattle.ix_model.{specs.{world.{Naming.last_name, World.{World, Frame, Holding, Object, at, put, change}, Numbers.free_inode}, rows.Walks.node}, proofs.tables.Finds.{at_put, at_change}}
use Rattle.ix_model.specs.{world.Contents.holding_of, two_runs.{TwoRuns.AlikeIn, EqualLengths.zeroed}, declared.config.{Config.Config, ObjSpec.ObjSpec}}
use Rattle.ix_model.specs.opening.Opening.{directory_of, object_of, placed, with_object, with_objects, bare_objects, bare_world, opening_world}
use Rattle.ix_iso.specs.Configs.{SameLine, SameLines, DifferAbove, SameLengths, OpenAlike}
use Rattle.ix_iso.proofs.{Counts.shape_from, Inside.set_alike, Zeroed.{zero_content, same_zeros}, InLength.outline_from}

-- two worlds of one frame, in which what low objects hold is equal
record Beside (l : Categories) (v w : World) : Type 0 where
  frames : v.frame ≡ w.frame
  holdings : length v.content.holdings ≡ length w.content.holdings
  offsets : v.content.offsets ≡ w.content.offsets
  statuses : v.content.statuses ≡ w.content.statuses
  bytes : (o : ℕ) (x : Object) → at v.frame.objects o ≡ Some x → leq x.label l ≡ true → holding_of v.content o ≡ holding_of w.content o

-- an object that stands after a line is that of the line, or stood before with its label
stood : (t : List (Option Object)) (o dir : ℕ) (x : Object) (h : Object → Object) → ((y : Object) → (h y).label ≡ y.label) → (n : ℕ) (y : Object)
    → at (change (put t o (Some x)) dir h) n ≡ Some y → ((n ≡ o) × (y.label ≡ x.label)) ⊎ ((n ≡ o → ⊥) × (z : Object) × (at t n ≡ Some z) × (y.label ≡ z.label))
stood t o dir x h same n y here = elim (at_change _ _ h n y here) [
  | inl c ↦ was _ (ap (at _) c.here ∙ c.is_was) (ap (λ z. z.label) c.same ∙ same _)
  | inr other ↦ was y other.1 refl
]
  where
    was : (z : Object) → at (put t o (Some x)) n ≡ Some z → y.label ≡ z.label → ((n ≡ o) × (y.label ≡ x.label)) ⊎ ((n ≡ o → ⊥) × (a : Object) × (at t n ≡ Some a) × (y.label ≡ a.label))
    was z is label = elim (at_put t o n _ z is) [
      | inl new ↦ let e : x ≡ z = cc (new.1) in inl (new.0, label ∙ ap (λ a. a.label) (sym e))
      | inr old ↦ inr (old.0, z, old.1, label)
    ]

placed_beside : (l : Categories) (v w : World) (a b : ObjSpec) (dir k o : ℕ) → SameLine l a b → Beside l v w → Beside l (placed v a dir k o) (placed w b dir k o)
placed_beside l v w a b dir k o line r =
    let object = ap (object_of k) line.but_bytes in
    let name = ap (λ s. last_name s.path.names) line.but_bytes in
    let add : List ℕ → Object → Object = λ n x. record x { names = x.names ++ (n, o) ∷ [] } in
    record {
      frames = λ i. record (r.frames i) { objects = change (put (r.frames i).objects o (Some (object i))) dir (add (name i)) };
      holdings = length-set v.content.holdings o _ ∙ r.holdings ∙ sym (length-set w.content.holdings o _);
      offsets = r.offsets;
      statuses = r.statuses;
      bytes = λ n y here below. elim (stood _ o _ _ _ (λ z. refl) n y here) [
        | inl new ↦
            let low = subst (λ c. leq c l ≡ true) new.1 below in
            set_alike _ _ _ o n _ _ r.holdings (λ e. ap (λ bytes. let h : Holding =
            record { first = bytes; second = [] } in h) (line.low low)) (λ other. absurd (other new.0))
        | inr old ↦ set_alike _ _ _ o n _ _ r.holdings (λ e. absurd (old.0 e))
            (λ other. r.bytes n old.1 old.2 (subst (λ c. leq c l ≡ true) old.3 below))
      ];
    }

-- ---- one line
-- where a line puts its object: its directory, its file system, and the inode that is free
record Place : Type 0 where
  dir : ℕ
  fs : ℕ
  free : Option ℕ

place_in : Frame → List (List ℕ) → Place
place_in f names =
    let dir = directory_of f.objects 0 names in
    let k = unwrap_or (node f.objects dir).fs 0 in
    record { dir = dir; fs = k; free = free_inode f k }

put_in : World → ObjSpec → Place → World
put_in w a p = option_map_or (placed w a p.dir p.fs) p.free w

module _ (R : World → World → Type 0) (one_frame : (v w : World) → R v w → v.frame ≡ w.frame) where
  in_one_place : (v w : World) (a b : ObjSpec) (p : Place) → R v w → ((dir k o : ℕ) → R (placed v a dir k o) (placed w b dir k o)) → R (put_in v a p) (put_in w b p)
  unfolding put_in
  in_one_place v w a b p r next = go _
    where
      go : (free : Option ℕ) → R (option_map_or (placed v a p.dir p.fs) free v) (option_map_or (placed w b p.dir p.fs) free w)
      go None = r
      go (Some o) = next _ p.fs o

  with_line : (v w : World) (a b : ObjSpec) → a.path.names ≡ b.path.names → R v w → ((dir k o : ℕ) → R (placed v a dir k o) (placed w b dir k o)) → R (with_object v a) (with_object w b)
  unfolding with_object put_in place_in
  with_line v w a b names r next =
      let places : place_in v.frame a.path.names ≡ place_in w.frame b.path.names = λ i. place_in (one_frame v w r i) (names i) in
      subst (λ p. R (put_in v a (place_in v.frame a.path.names)) (put_in w b p)) places (in_one_place v w a b _ r next)

module _ (l : Categories) where
  beside_itself : (w : World) → Beside l w w
  beside_itself w = search

  lines_beside : (v w : World) (xs ys : List ObjSpec) → SameLines l xs ys → Beside l v w → Beside l (with_objects v xs) (with_objects w ys)
  lines_beside v w [] [] lines r = r
  lines_beside v w [] (b ∷ ys) lines r = absurd lines
  lines_beside v w (a ∷ xs) [] lines r = absurd lines
  lines_beside v w (a ∷ xs) (b ∷ ys) lines r =
      lines_beside (with_object v a) (with_object w b) xs ys lines.1
      (with_line (Beside l) (λ x y s. s.frames) v w a b (ap (λ (s : ObjSpec). s.path.names) lines.0.but_bytes) r (λ dir k o. placed_beside l v w a b dir k o lines.0 r))

-- ---- with equal lengths
record InLength (v w : World) : Type 0 where
  frames : v.frame ≡ w.frame
  contents : zero_content v.content ≡ zero_content w.content

placed_in_length : (l : Categories) (v w : World) (a b : ObjSpec) (dir k o : ℕ) → SameLine l a b → length a.bytes ≡ length b.bytes → InLength v w → InLength (placed v a dir k o) (placed w b dir k o)
placed_in_length l v w a b dir k o line long r =
    let object = ap (object_of k) line.but_bytes in
    let name = ap (λ s. last_name s.path.names) line.but_bytes in
    let add : List ℕ → Object → Object = λ n x. record x { names = x.names ++ (n, o) ∷ [] } in
    let first : Holding = record { first = a.bytes; second = [] } in
    let other : Holding = record { first = b.bytes; second = [] } in
    let zeroed_one : zeroed first ≡ zeroed other = λ i. record { first = same_zeros _ _ long i; second = [] } in
    let held =
    map-set zeroed v.content.holdings o first ∙ (λ i. set (r.contents i).holdings o (zeroed_one i)) ∙ sym (map-set zeroed w.content.holdings o other) in
    record {
      frames = λ i. record (r.frames i) { objects = change (put (r.frames i).objects o (Some (object i))) dir (add (name i)) };
      contents = λ i. record { holdings = held i; offsets = (r.contents i).offsets; statuses = (r.contents i).statuses };
    }

lines_in_length : (l : Categories) (v w : World) (xs ys : List ObjSpec) → SameLines l xs ys → SameLengths xs ys → InLength v w → InLength (with_objects v xs) (with_objects w ys)
lines_in_length l v w [] [] lines long r = r
lines_in_length l v w [] (b ∷ ys) lines long r = absurd lines
lines_in_length l v w (a ∷ xs) [] lines long r = absurd lines
lines_in_length l v w (a ∷ xs) (b ∷ ys) lines long r =
    lines_in_length l (with_object v a) (with_object w b) xs ys lines.1 long.1
    (with_line InLength (λ x y s. s.frames) v w a b (ap (λ (s : ObjSpec). s.path.names) lines.0.but_bytes) r (λ dir k o. placed_in_length l v w a b dir k o lines.0 long.0 r))

-- ---- all lines
bare_same : (l : Categories) (c d : Config) → DifferAbove l c d → bare_world c ≡ bare_world d
unfolding bare_objects
bare_same l c d h = λ i. bare_world (record c { fss = h.fss i; limits = h.limits i; procs = h.procs i })

pub opened_alike : (l : Categories) (c d : Config) → DifferAbove l c d → OpenAlike l c d
unfolding opening_world
opened_alike l c d h =
    let same = bare_same l c d h in
    let beside =
    lines_beside l _ _ _ d.objects h.objects (subst (λ w. Beside l (bare_world c) w) same
    (beside_itself l (bare_world c))) in
    let inside : AlikeIn l (opening_world c).frame (opening_world c).content (opening_world d).content = record {
      bytes = beside.bytes;
      offsets = λ e x here below. ap (λ t. get_or t e 0) beside.offsets;
      statuses = λ p q here ended below. ap (λ t. get_or t p 0) beside.statuses;
    } in
    record {
      alike = record { shapes = shape_from _ _ beside.frames (record { holdings = beside.holdings; offsets = ap length beside.offsets; statuses = ap length beside.statuses }); inside = inside };
      in_length = λ long.
          let r = lines_in_length l _ _ _ _ h.objects long (record {
            frames =
                ap (λ w. w.frame) same;
            contents = ap (λ w. zero_content w.content) same;
          }) in
          record { outlines = outline_from _ _ r.frames r.contents; inside = inside };
    }
