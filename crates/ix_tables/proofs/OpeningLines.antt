-- One object line more.
use Rattle.std.proofs.Common.{◌≡◌, ◌≢◌, ◌+◌, ◌-◌, ◌<◌, ◌≤◌, ◌==◌, ℕ, zero, suc, Bool, true, false, not, nat_lt, nat_le, ◌&&◌, List, [], ◌∷◌, ◌++◌, length, take}
use Rattle.std.proofs.Common.{drop, replicate, Option, Some, None, unwrap_or, slice_get, slice_set, slice_index_or, if◌then◌else◌, refl, sym, ap, ◌∙◌, subst}
use Rattle.std.proofs.Common.{arith, inl, inr, append-nil}
use Rattle.std.{specs.Option.{option_map_or, option_and_then}, proofs.lemmas.{List.set-set, Bool.Decides.{nat_tests, eqb_tells}}}
use Rattle.ix_model.specs.{world.World.{Object, Holding, at, put, change, fs_at, is_dir}, world.Contents.{holds_nothing, with_side, spliced}}
use Rattle.ix_model.specs.{world.Directories.with_name, world.Naming.last_name, opening.Opening.directory_of}
use Rattle.ix_model.specs.rows.{Walks.{node, nothing, child}, OnPaths.new_object, Telling.{blocks_for, blocks_where, blocks_on, lies_on, fs_of_object}}
use Rattle.ix_model.specs.declared.{config.ObjSpec.ObjSpec, reply.Kind.Kind}
use Rattle.ix_model.proofs.{tables.{Tables.change_twice, Blocks.blocks_edit}, opening.Placing.{Place, with_one, not_new, at_new, seen}}
use Rattle.ix_tables.specs.{Views.{frame_alone, has_room}, Parts.Parts, Opening.{Leads, kind_said, as_said, with_line, HasPlace}}

-- ---- on the way to a directory
pub record IsOnWay (objects : List (Option Object)) (names : List (List ℕ)) (i dir : ℕ) : Type 0 where
  pub leads : Leads objects dir (drop (i - 1) names)
  pub same : directory_of objects dir (drop (i - 1) names) ≡ directory_of objects 0 names
  pub begun : 1 ≤ i

record Stepped (objects : List (Option Object)) (names : List (List ℕ)) (j n : ℕ) (name : List ℕ) : Type 0 where
  dir : is_dir (node objects n) ≡ true
  leads : Leads objects (unwrap_or (child (node objects n) name) n) (drop (suc j) names)
  same : directory_of objects n (drop j names) ≡ directory_of objects (unwrap_or (child (node objects n) name) n) (drop (suc j) names)

stepped : (objects : List (Option Object)) (names : List (List ℕ)) (j n : ℕ) (name : List ℕ) → suc j < length names → slice_get names j ≡ Some name
    → Leads objects n (drop j names) → Stepped objects names j n name
stepped objects [] j n name low is leads = absurd (omega (arith, low))
stepped objects (x ∷ []) j n name low is leads = absurd (omega (arith, low))
stepped objects (x ∷ y ∷ names) zero n name low is leads =
    let e : x ≡ name = cc in
    subst (λ (z : List ℕ). Stepped objects (x ∷ y ∷ names) 0 n z) e (record { dir = leads.0; leads = leads.1; same = refl })
stepped objects (x ∷ y ∷ names) (suc j) n name low is leads =
    let r = stepped objects (y ∷ names) j n name (omega (arith, low)) is leads in
    record { dir = r.dir; leads = r.leads; same = r.same }

pub step_on : (objects : List (Option Object)) (names : List (List ℕ)) (i dir : ℕ) (name : List ℕ) → i < length names → slice_get names (i - 1) ≡ Some name
    → IsOnWay objects names i dir → IsOnWay objects names (i + 1) (unwrap_or (child (node objects dir) name) dir)
step_on objects names i dir name low is so =
    let r = stepped objects names (i - 1) dir name (omega (arith, low, so.begun)) is so.leads in
    let e : suc (i - 1) ≡ i + 1 - 1 = omega (arith, so.begun) in
    let next = unwrap_or (child (node objects dir) name) dir in
    record {
      leads = subst (λ (k : ℕ). Leads objects next (drop k names)) e r.leads;
      same = ap (λ (k : ℕ). directory_of objects next (drop k names)) (sym e) ∙ sym r.same ∙ so.same;
      begun = omega arith;
    }

pub dir_on : (objects : List (Option Object)) (names : List (List ℕ)) (i dir : ℕ) (name : List ℕ) → i < length names → slice_get names (i - 1) ≡ Some name
    → IsOnWay objects names i dir → is_dir (node objects dir) ≡ true
dir_on objects names i dir name low is so = (stepped objects names (i - 1) dir name (omega (arith, low, so.begun)) is so.leads).dir

-- the last name isn't followed
pub way_ends : (objects : List (Option Object)) (names : List (List ℕ)) (i dir : ℕ) → length names ≤ i → IsOnWay objects names i dir → dir ≡ directory_of objects 0 names
way_ends objects names i dir all so = sym (go names (i - 1) (omega (arith, all, so.begun))) ∙ so.same
  where
    go : (ns : List (List ℕ)) (j : ℕ) → length ns ≤ suc j → directory_of objects dir (drop j ns) ≡ dir
    go [] zero h = refl
    go [] (suc j) h = refl
    go (x ∷ []) zero h = refl
    go (x ∷ y ∷ ns) zero h = absurd (omega (arith, h))
    go (x ∷ ns) (suc j) h = go ns j (omega (arith, h))

-- ---- an object as its line says
pub said : (t u v w : Parts) (b : ObjSpec) (n : ℕ) → u ≡ record t { objects = change t.objects n (λ x. record x { label = b.label }) }
    → v ≡ record u { objects = change u.objects n (λ x. record x { frozen = b.frozen }) }
    → w ≡ record v { objects = change v.objects n (λ x. record x { cap = b.cap; lic = b.lic }) } → w ≡ record t { objects = change t.objects n (as_said b) }
said t u v w b n labelled frozen privs =
    let f : Object → Object = λ x. record x { label = b.label } in
    let g : Object → Object = λ x. record x { frozen = b.frozen } in
    let h : Object → Object = λ x. record x { cap = b.cap; lic = b.lic } in
    let all : change (change (change t.objects n f) n g) n h ≡ change t.objects n (as_said b) =
    ap (λ (os : List (Option Object)). change os n h) (change_twice t.objects n f g) ∙ change_twice t.objects n (λ x. g (f x)) h in
    privs ∙ ap (λ (s : Parts). let r : Parts = record s { objects = change s.objects n h } in
    r) (frozen ∙ ap (λ (s : Parts). let r : Parts = record s { objects = change s.objects n g } in r) labelled)
    ∙ (λ i. record t { objects = all i })

-- ---- the bytes of a file that holds nothing yet
none_dropped : (k : ℕ) → drop {A = ℕ} k [] ≡ []
none_dropped zero = refl
none_dropped (suc k) = refl

spliced_first : (bytes : List ℕ) → spliced 0 bytes [] ≡ bytes
spliced_first [] = refl
spliced_first (b ∷ bytes) =
    let some : nat_le (length (b ∷ bytes)) 0 ≡ false = grind (arith, nat_tests) in
    ap (λ c. if c then [] else (take 0 [] ++ (replicate (0 - length {A = ℕ} []) 0 ++ ((b ∷ bytes) ++ drop (0 + length (b ∷ bytes)) [])))) some
    ∙ ap (λ ns. (b ∷ bytes) ++ ns) (none_dropped (0 + length (b ∷ bytes))) ∙ append-nil (b ∷ bytes)

pub filled : (t u : Parts) (n : ℕ) (bytes : List ℕ) → slice_index_or t.holdings n holds_nothing ≡ holds_nothing
    → u ≡ record t {
      holdings =
          slice_set t.holdings n (with_side 0 (spliced 0 bytes (slice_index_or t.holdings n holds_nothing).first) (slice_index_or t.holdings n holds_nothing));
    }
    → u ≡ record t { holdings = slice_set t.holdings n (record { first = bytes; second = [] }) }
filled t u n bytes empty is =
    let h : with_side 0 (spliced 0 bytes (slice_index_or t.holdings n holds_nothing).first) (slice_index_or t.holdings n holds_nothing) ≡ record {
      first =
          bytes;
      second = [];
    } = ap (λ (x : Holding). with_side 0 (spliced 0 bytes x.first) x) empty
    ∙ ap (λ bs. with_side 0 bs holds_nothing) (spliced_first bytes) in
    is ∙ (λ i. record t { holdings = slice_set t.holdings n (h i) })

-- ---- the object of a line
change_apart : {A : Type 0} (t : List (Option A)) (d o : ℕ) (h g : A → A) → o ≢ d → change (change t d h) o g ≡ change (change t o g) d h
change_apart [] d o h g other = refl
change_apart (x ∷ t) zero zero h g other = absurd (other refl)
change_apart (x ∷ t) zero (suc o) h g other = refl
change_apart (x ∷ t) (suc d) zero h g other = refl
change_apart (x ∷ t) (suc d) (suc o) h g other = ap (λ u. x ∷ u) (change_apart t d o h g (λ e. other (ap suc e)))

change_put : {A : Type 0} (t : List (Option A)) (o : ℕ) (x : A) (g : A → A) → change (put t o (Some x)) o g ≡ put t o (Some (g x))
change_put [] o x g = refl
change_put (y ∷ t) zero x g = refl
change_put (y ∷ t) (suc o) x g = ap (λ u. y ∷ u) (change_put t o x g)

pub name_at : (names : List (List ℕ)) (i : ℕ) (name : List ℕ) → slice_get names i ≡ Some name → name ≡ slice_index_or names i []
name_at [] zero name is = cc
name_at [] (suc i) name is = cc
name_at (x ∷ names) zero name is = cc
name_at (x ∷ names) (suc i) name is = name_at names i name is

module _ (b : ObjSpec) (d k o : ℕ) (t : Parts) (p : HasPlace b d k o t) where
  place : Place t.objects o d
  place = go (at t.objects d) refl p.dir
    where
      go : (x : Option Object) → at t.objects d ≡ x → is_dir (unwrap_or x nothing) ≡ true → Place t.objects o d
      go None e h = cc
      go (Some x) e h = record { low = p.within; free = p.free; dir = x; is_dir = e }

  apart : o ≢ d
  apart e = not_new t.objects b o d k place d place.dir place.is_dir (sym e)

  abbrev made : List (Option Object)
  made = with_one t.objects b d k o

  objects_made : change (change (put t.objects o (Some (new_object (kind_said b) (Some k)))) d (with_name (last_name b.path.names) o)) o (as_said b) ≡ made
  objects_made =
      change_apart (put t.objects o (Some (new_object (kind_said b) (Some k)))) d o (with_name (last_name b.path.names) o) (as_said b) apart
      ∙ ap (λ (os : List (Option Object)). change os d (with_name (last_name b.path.names) o)) (change_put t.objects o (new_object (kind_said b) (Some k)) (as_said b))

  abbrev pub empty_line : Parts
  empty_line = record t { objects = made; holdings = slice_set t.holdings o holds_nothing }

  -- as a line says, but for the bytes
  pub made_empty : (u v : Parts) (name : List ℕ) (kind : Kind) → name ≡ last_name b.path.names → kind ≡ kind_said b
      → u ≡ record t {
        objects = change (put t.objects o (Some (new_object kind (Some k)))) d (with_name name o);
        holdings =
            slice_set t.holdings o holds_nothing;
      } → v ≡ record u { objects = change u.objects o (as_said b) } → v ≡ empty_line
  made_empty u v name kind last is put_there settled =
      settled
      ∙ ap (λ (s : Parts). let r : Parts = record s { objects = change s.objects o (as_said b) } in r) put_there
      ∙ (λ i. record t { objects = change (change (put t.objects o (Some (new_object (is i) (Some k)))) d (with_name (last i) o)) o (as_said b); holdings = slice_set t.holdings o holds_nothing })
      ∙ (λ i. record t { objects = objects_made i; holdings = slice_set t.holdings o holds_nothing })

  pub filled_line : (u v : Parts) → u ≡ empty_line → v ≡ record u { holdings = slice_set u.holdings o (record { first = b.bytes; second = [] }) } → v ≡ with_line b d k o t
  filled_line u v empty is =
      is ∙ ap (λ (s : Parts). let r : Parts = record s { holdings = slice_set s.holdings o (record { first = b.bytes; second = [] }) } in r) empty
      ∙ (λ i. record t { objects = made; holdings = set-set t.holdings o holds_nothing (record { first = b.bytes; second = [] }) i })

  pub bare_line : (u : Parts) → u ≡ empty_line → b.dir ≡ true → u ≡ with_line b d k o t
  bare_line u empty dir = empty ∙ (λ i. record t { objects = made; holdings = slice_set t.holdings o (record { first = sym (p.bare dir) i; second = [] }) })

  -- ---- room
  lies_as : (m : ℕ) → m ≢ o → lies_on (frame_alone t) (Some k) m ≡ lies_on (frame_alone empty_line) (Some k) m
  lies_as m other = sym (seen t.objects b o d k place (λ x. option_map_or (λ y. option_map_or (λ j. j == k) y.fs false) x false) (λ x. refl) m other)

  beside : ℕ → Bool
  beside m = not (m == o) && lies_on (frame_alone empty_line) (Some k) m

  beside_as : (m : ℕ) → m ≢ o → lies_on (frame_alone t) (Some k) m ≡ beside m
  unfolding beside
  beside_as m other = elim (eqb_tells m o) [
    | inl e ↦ absurd (other e.1)
    | inr e ↦ lies_as m other ∙ sym (ap (λ c. not c && lies_on (frame_alone empty_line) (Some k) m) e.0)
  ]

  fewer : blocks_where beside 0 empty_line.holdings ≤ blocks_where (lies_on (frame_alone t) (Some k)) 0 t.holdings
  fewer =
      let none : blocks_for (length holds_nothing.first) ≡ 0 = refl in
      omega (arith, none, blocks_edit beside (lies_on (frame_alone t) (Some k)) 0 t.holdings o holds_nothing (λ m other. beside_as m (λ e. other (omega (arith, e)))))

  fs_here : fs_of_object (frame_alone empty_line) o ≡ Some k
  fs_here = ap (λ (x : Option Object). option_and_then (λ y. y.fs) x) (at_new t.objects b o d k place)

  pub room_for_line : (u : Parts) → u ≡ empty_line → has_room o (length b.bytes) u ≡ true
  unfolding beside
  room_for_line u is =
      let f = frame_alone empty_line in
      let enough : not (nat_lt (fs_at t.fss k).blocks (blocks_where beside 0 empty_line.holdings + blocks_for (length b.bytes))) ≡ true = grind (arith, nat_tests, fewer, p.blocks) in
      ap (has_room o (length b.bytes)) is
      ∙ ap (λ x. not (nat_lt (blocks_on f x) (blocks_where (λ m. not (m == o) && lies_on f x m) 0 empty_line.holdings + blocks_for (length b.bytes)))) fs_here
      ∙ enough
