-- What an object in the tree holds, and what is written of it behind its head.
use Rattle.std.proofs.Common.{◌≡◌, ℕ, ◌+◌, ◌-◌, ◌<◌, ◌≤◌, Bool, true, false, not, cond, ltb, ◌==◌, ◌&&◌, ◌||◌, List, [], ◌∷◌, ◌++◌, length, drop, Option, Some}
use Rattle.std.{proofs.Common.{None, option_map, unwrap_or, refl, sym, ap, ◌∙◌, arith}, specs.{Prelude.slice_get, Option.{option_map_or, option_and_then}, List.flat_map}}
use Rattle.ix_model.specs.{declared.{ids.Obj.Obj, views.ObjView.ObjView, reply.Kind.Kind}, laws.Sound.Sound, rows.Walks.nothing, history.Views.{has_side, size_at, names_there}}
use Rattle.ix_model.specs.world.{World.{World, Object, at, is_dir, is_pipe}, Contents.holding_of, Owners.times_named}
use Rattle.ix_image.{specs.{Trees.{LinkOf, Bytes, Links}, Image.link_bytes, Taken.{held_in, is_kept}}, proofs.Saved.Kept}
use Rattle.ix_image.specs.Saving.{is_dir_kind, names_at, count_held, body_bytes, objects_left, HasNext, Begins}
use Rattle.ix_model.specs.declared.reply.Kind.TheVariants as kind
use Rattle.ix_image.specs.declared.part.Part.TheVariants as part

-- ---- sizes
-- how much is at an end, of what stands at a number
abbrev size_of_object : World → ℕ → Option Object → Option ℕ
size_of_object w n o = option_and_then (λ x. cond (has_side x 0) (Some (length (holding_of w.content n).first)) None) o

pub size_few : (w : World) (n : ℕ) → Sound w → unwrap_or (size_at w n 0) 0 ≤ 1048576
unfolding size_at
size_few w n sound = go _ refl
  where
    most : (x : Object) → at w.frame.objects n ≡ Some x → (b : Bool) → is_pipe x ≡ b → length (holding_of w.content n).first ≤ 1048576
    most x is true pipe = omega (arith, (sound.lengths.pipe n x is pipe).0)
    most x is false pipe = sound.lengths.file n x is pipe

    here : (x : Object) → at w.frame.objects n ≡ Some x → (b : Bool) → unwrap_or (cond {A = Option ℕ} b (Some (length (holding_of w.content n).first)) None) 0 ≤ 1048576
    here x is true = most x is _ refl
    here x is false = omega arith

    go : (o : Option Object) → at w.frame.objects n ≡ o → unwrap_or (size_of_object w n o) 0 ≤ 1048576
    go None is = omega arith
    go (Some x) is = here x is _

-- what is neither a pipe nor a directory is a file
file_kind : (k : Kind) → elim k [ kind.Pipe ↦ true | _ ↦ false ] ≡ false → elim k [ kind.Dir ↦ true | _ ↦ false ] ≡ false → k ≡ kind.File
file_kind kind.File pipe dir = refl
file_kind kind.Dir pipe dir = absurd (cc dir)
file_kind kind.Pipe pipe dir = absurd (cc pipe)

pub size_is : (w : World) (n : ℕ) (x : Object) → at w.frame.objects n ≡ Some x → is_pipe x ≡ false → is_dir x ≡ false → unwrap_or (size_at w n 0) 0 ≡ count_held (held_in w n x)
unfolding size_at
size_is w n x is pipe dir =
    ap (λ o. unwrap_or (size_of_object w n o) 0) is
    ∙ ap (λ b. unwrap_or (cond b (Some (length (holding_of w.content n).first)) None) 0) (ap (λ k. elim k [ kind.File ↦ true | _ ↦ false ] && 0 == 0
    || elim k [ kind.Pipe ↦ true | _ ↦ false ] && ltb 0 2) (file_kind _ pipe dir))
    ∙ ap (λ b. count_held (cond b (Links x.names) (Bytes (holding_of w.content n).first))) (sym dir)

-- ---- behind the head
kept_same : (w : World) (n : ℕ) (x : Object) (view : ObjView) → at w.frame.objects n ≡ Some x → (k : Kept w n view) → k.object ≡ x
kept_same w n x view is k = go _ _ x k.is is
  where
    go : (o : Option Object) (a b : Object) → o ≡ Some a → o ≡ Some b → a ≡ b
    go o a b p q = cc (p, q)

dir_is : (w : World) (n : ℕ) (x : Object) (view : ObjView) (b : Bool) → at w.frame.objects n ≡ Some x → (k : Kept w n view) → is_dir_kind view.kind ≡ b → is_dir x ≡ b
dir_is w n x view b is k kind_is = ap (λ y. is_dir y) (sym (kept_same w n x _ is k)) ∙ ap (λ v. is_dir_kind v.kind) k.seen ∙ kind_is

-- what is in the tree and no directory is a file
kept_file : (w : World) (n : ℕ) (x : Object) → (k : Kind) → x.kind ≡ k → is_kept w n x ≡ true → is_dir x ≡ false → x.kind ≡ kind.File
kept_file w n x kind.File is kept dir = is
kept_file w n x kind.Dir is kept dir = absurd (let yes : is_dir x ≡ true = ap (λ k. elim k [ kind.Dir ↦ true | _ ↦ false ]) is in cc (yes, dir))
kept_file w n x kind.Pipe is kept dir = absurd (cc (ap (λ k. elim k [ kind.Dir ↦ true | _ ↦ false ] || elim k [ kind.File ↦ true | _ ↦ false ] && not (times_named w.frame.objects n == 0)) is, kept))

pub file_begins : (w : World) (n : ℕ) (x : Object) (view : ObjView) → at w.frame.objects n ≡ Some x → Kept w n view → is_dir_kind view.kind ≡ false → HasNext n → Begins w n x (part.Bytes n 0)
file_begins w n x view is k kind_is next =
    let dir = dir_is w n x _ _ is k kind_is in
    record {
      text = λ fss. ap (λ b. body_bytes (cond b (Links x.names) (Bytes (holding_of w.content n).first)) ++ objects_left w (n + 1)) (sym dir);
      turns = omega arith;
      stands = record { object = x; is = is; file = kept_file w n x _ refl (ap (λ y. is_kept w n y) (sym (kept_same w n x _ is k)) ∙ k.kept) dir; next = next };
    }

-- the names of a directory
names_is : (w : World) (n : ℕ) (x : Object) → at w.frame.objects n ≡ Some x → names_at w n ≡ x.names
names_is w n x is = ap (λ o. option_map_or (λ y. y.names) o []) is

there_is : (w : World) (n : ℕ) (x : Object) → at w.frame.objects n ≡ Some x → is_dir x ≡ true → names_there w.frame.objects n ≡ Some (names_at w n)
there_is w n x is dir =
    ap (λ o. cond (is_dir (unwrap_or o nothing)) (Some (unwrap_or o nothing).names) None) is
    ∙ ap (λ b. cond b (Some x.names) None) dir ∙ ap (λ ls. Some ls) (sym (names_is w n x is))

body_is : (w : World) (n : ℕ) (x : Object) → at w.frame.objects n ≡ Some x → is_dir x ≡ true → flat_map link_bytes (names_at w n) ≡ body_bytes (held_in w n x)
body_is w n x is dir = ap (λ ls. flat_map link_bytes ls) (names_is w n x is) ∙ ap (λ b. body_bytes (cond b (Links x.names) (Bytes (holding_of w.content n).first))) (sym dir)

got_some : (xs : List LinkOf) (l : LinkOf) → slice_get xs 0 ≡ Some l → 0 < length xs
got_some [] l is = absurd (cc is)
got_some (x ∷ xs) l is = omega arith

got_nothing : (xs : List LinkOf) → slice_get xs 0 ≡ None → xs ≡ []
got_nothing [] is = refl
got_nothing (x ∷ xs) is = absurd (cc is)

pub dir_begins : (w : World) (n : ℕ) (x : Object) (view : ObjView) (count : ℕ) (name : List ℕ) (object : Obj) → at w.frame.objects n ≡ Some x → Kept w n view → is_dir_kind view.kind ≡ true → HasNext n
    → count ≡ unwrap_or (option_map (λ (ls : List LinkOf). length ls) (names_there w.frame.objects n)) 0
    → Some (name, object.0) ≡ option_and_then (λ (ls : List LinkOf). slice_get ls 0) (names_there w.frame.objects n)
    → Begins w n x (part.Name n count name object)
dir_begins w n x view count name object is k kind_is next counted first =
    let dir = dir_is w n x _ _ is k kind_is in
    let there = there_is w n x is dir in
    let long = counted ∙ ap (λ o. unwrap_or (option_map (λ ls. length ls) o) 0) there in
    let head = sym (first ∙ ap (λ o. option_and_then (λ ls. slice_get ls 0) o) there) in
    let none : length (names_at w n) - count ≡ 0 = omega (arith, long) in
    let some = got_some _ _ head in
    record {
      text = λ fss. ap (λ p. flat_map link_bytes (drop p (names_at w n)) ++ objects_left w (n + 1)) none ∙ ap (λ r. r ++ objects_left w (n + 1)) (body_is w n x is dir);
      turns = omega arith;
      stands = record { there = there; some = omega (arith, long, some); low = omega (arith, long); is = ap (slice_get _) none ∙ head; next = next };
    }

pub empty_begins : (w : World) (n : ℕ) (x : Object) (view : ObjView) → at w.frame.objects n ≡ Some x → Kept w n view → is_dir_kind view.kind ≡ true → None
    ≡ option_and_then (λ (ls : List LinkOf). slice_get ls 0) (names_there w.frame.objects n)
    → Begins w n x (part.Object (n + 1))
empty_begins w n x view is k kind_is first =
    let dir = dir_is w n x _ _ is k kind_is in
    record {
      text = λ fss. ap (λ ls. flat_map link_bytes ls ++ objects_left w (n + 1))
          (sym (got_nothing _ (sym (first ∙ ap (λ o. option_and_then (λ ls. slice_get ls 0) o) (there_is w n x is dir)))))
          ∙ ap (λ r. r ++ objects_left w (n + 1)) (body_is w n x is dir);
      turns = omega arith;
      stands = tt;
    }
