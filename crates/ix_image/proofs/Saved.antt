-- How the image of a core's tree is written, part by part.
use Rattle.std.proofs.Common.{◌≡◌, ℕ, zero, suc, ◌+◌, ◌-◌, ◌<◌, ◌≤◌, Bool, true, false, cond, List, [], ◌∷◌, ◌++◌, length, get_or, take, drop, Option, Some, ap}
use Rattle.std.{proofs.Common.{None, refl, sym, ◌∙◌, append_assoc, arith}, specs.{Prelude.slice_get, Option.{option_map_or, option_and_then}, List.{flat_map, range_with_len}}}
use Rattle.std.proofs.lemmas.{Grind.flat_map-append, List.{append-nil, drop_all, drop-drop, length-append, length-take, take-append-drop}}
use Rattle.ix_model.specs.{declared.{config.FsSpec.FsSpec, ids.Obj.Obj, views.ObjView.ObjView}, laws.Sound.Sound, history.Views.{view_of, names_there, bytes_inside}}
use Rattle.ix_model.specs.world.{World.{World, Object, at, is_file}, Contents.holding_of, Directories.IsBehind}
use Rattle.ix_image.{specs.{declared.part.Part.Part, Trees.{NodeOf, LinkOf, Holds, Bytes, Links}, Labelled.label_bytes, Taken.{is_kept, node_of, kept_at, tree_on}}, proofs.Counting.rest_at}
use Rattle.ix_image.specs.Image.{first_bytes, four, file_system_bytes, link_bytes, held_bytes, marks_of, marks_bytes, node_bytes, image_of}
use Rattle.ix_image.specs.Saving.{kept_from, kept_view, names_at, count_held, body_bytes, head_bytes, start_bytes, objects_left, names_left, bytes_left, IsFile}
use Rattle.ix_image.specs.Saving.{turns_left, IsFirst, Stands, HasHead, Begins, WritesOn}
use Rattle.ix_model.specs.declared.reply.Kind.TheVariants as kind
use Rattle.ix_image.specs.declared.part.Part.TheVariants as part

-- ---- objects, one after the other
kept_on : (w : World) (n : ℕ) → n < length w.frame.objects → kept_from w n ≡ kept_at w n ++ kept_from w (n + 1)
kept_on w n low =
    let more : length w.frame.objects - n ≡ suc (length w.frame.objects - (n + 1)) = omega arith in
    ap (λ m. flat_map (kept_at w) (range_with_len n m)) more

left_on : (w : World) (n : ℕ) → n < length w.frame.objects → objects_left w n ≡ flat_map node_bytes (kept_at w n) ++ objects_left w (n + 1)
left_on w n low = ap (λ xs. flat_map node_bytes xs) (kept_on w n low) ∙ flat_map-append node_bytes _ _

pub count_on : (w : World) (n : ℕ) → n < length w.frame.objects → length (kept_from w n) ≡ length (kept_at w n) + length (kept_from w (n + 1))
count_on w n low = ap (λ xs. length xs) (kept_on w n low) ∙ length-append _ _

pub none_from : (w : World) (n : ℕ) → length w.frame.objects ≤ n → kept_from w n ≡ []
none_from w n high =
    let none : length w.frame.objects - n ≡ 0 = omega arith in
    ap (λ m. flat_map (kept_at w) (range_with_len n m)) none

kept_all : (w : World) → kept_from w 0 ≡ flat_map (kept_at w) (range_with_len 0 (length w.frame.objects))
kept_all w =
    ap (λ m. flat_map (kept_at w) (range_with_len 0 m)) (omega arith)

-- ---- one piece more
-- with fewer turns left
turned : (fss : List FsSpec) (w : World) (old new : Part) (before after piece : List ℕ) → after ≡ before ++ piece → piece ++ bytes_left fss w new ≡ bytes_left fss w old → turns_left w new
    < turns_left w old → Stands w new
    → WritesOn fss w old new before after
turned fss w old new before after piece grown text less stands =
    record { piece = piece; grown = grown; writes = record { text = text; fewer = omega (arith, ap (λ r. length r) (sym text) ∙ length-append piece _, less); stands = stands } }

-- with a byte at least
written : (fss : List FsSpec) (w : World) (old new : Part) (before after piece : List ℕ) → after ≡ before ++ piece → piece ++ bytes_left fss w new ≡ bytes_left fss w old → turns_left w new
    ≤ turns_left w old → 0 < length piece → Stands w new
    → WritesOn fss w old new before after
written fss w old new before after piece grown text most some stands =
    record { piece = piece; grown = grown; writes = record { text = text; fewer = omega (arith, ap (λ r. length r) (sym text) ∙ length-append piece _, most, some); stands = stands } }

-- ---- what comes before the objects
pub start_goes : (fss : List FsSpec) (w : World) (before after : List ℕ) → after ≡ before ++ start_bytes (length fss) → WritesOn fss w part.Start (part.FileSystem 0) before after
unfolding image_of tree_on
start_goes fss w before after grown = turned _ w _ _ _ _ _ grown
    (append_assoc first_bytes (four (length fss)) (flat_map file_system_bytes fss ++ (four (length _) ++ objects_left w 0))
    ∙ ap (λ nodes. first_bytes ++ (four (length fss) ++ (flat_map file_system_bytes fss ++ (four (length nodes) ++ flat_map node_bytes nodes)))) (kept_all w))
    (omega arith) tt

pub system_goes : (fss : List FsSpec) (w : World) (k : ℕ) (s : FsSpec) (before after : List ℕ) → k < length fss → s ≡ get_or fss k s → after ≡ before ++ file_system_bytes s
    → WritesOn fss w (part.FileSystem k) (part.FileSystem (k + 1)) before after
system_goes fss w k s before after low is grown = written _ w _ _ _ _ _ grown
    (sym (ap (λ r. flat_map file_system_bytes r ++ (four (length (kept_from w 0)) ++ objects_left w 0)) (rest_at _ k s low is)
    ∙ append_assoc (file_system_bytes s) (flat_map file_system_bytes _) (four (length _) ++ objects_left w 0)))
    (omega arith) (omega arith) tt

pub systems_done : (fss : List FsSpec) (w : World) (k count : ℕ) (before after : List ℕ) → length fss ≤ k → count ≡ length (kept_from w 0) → after ≡ before ++ four count
    → WritesOn fss w (part.FileSystem k) (part.Object 0) before after
systems_done fss w k count before after high counted grown = turned _ w _ _ _ _ _ grown
    (ap (λ n. four n ++ objects_left w 0) counted ∙ ap (λ r. flat_map file_system_bytes r ++ (four (length (kept_from w 0)) ++ objects_left w 0)) (sym (drop_all k fss high)))
    (omega arith) tt

-- ---- an object
pub past_goes : (fss : List FsSpec) (w : World) (n : ℕ) (before : List ℕ) → length w.frame.objects ≤ n → WritesOn fss w (part.Object n) part.End before before
past_goes fss w n before high = turned _ w _ _ _ _ [] (sym (append-nil before)) (ap (λ xs. flat_map node_bytes xs) (sym (none_from w n high)))
    (omega arith) tt

pub skipped_goes : (fss : List FsSpec) (w : World) (n : ℕ) (before : List ℕ) → n < length w.frame.objects → kept_at w n ≡ [] → WritesOn fss w (part.Object n) (part.Object (n + 1)) before before
skipped_goes fss w n before low none = turned _ w _ _ _ _ [] (sym (append-nil before))
    (sym (left_on w n low ∙ ap (λ xs. flat_map node_bytes xs ++ objects_left w (n + 1)) none)) (omega arith) tt

head_body : (x : NodeOf) → head_bytes x ++ body_bytes x.holds ≡ node_bytes x
head_body x =
    append_assoc (four x.number) (marks_bytes (marks_of x) ++ (label_bytes x.label ++ four (count_held x.holds))) (body_bytes x.holds)
    ∙ ap (λ r. four x.number ++ r) (append_assoc (marks_bytes (marks_of x)) (label_bytes x.label ++ four (count_held x.holds)) (body_bytes x.holds)
    ∙ ap (λ r. marks_bytes (marks_of x) ++ r) (append_assoc (label_bytes x.label) (four (count_held x.holds)) (body_bytes x.holds)
    ∙ ap (λ r. label_bytes x.label ++ r) (held _)))
  where
    held : (h : Holds) → four (count_held h) ++ body_bytes h ≡ held_bytes h
    held (Bytes bytes) = refl
    held (Links links) = refl

pub begun_goes : (fss : List FsSpec) (w : World) (n : ℕ) (x : Object) (next : Part) (before after : List ℕ) → n < length w.frame.objects → kept_at w n ≡ node_of w n x ∷ [] → Begins w n x next
    → after ≡ before ++ head_bytes (node_of w n x)
    → WritesOn fss w (part.Object n) next before after
begun_goes fss w n x next before after low alone begins grown =
    let head = head_bytes (node_of w n x) in
    turned _ w _ _ _ _ _ grown
    (ap (λ r. head ++ r) (begins.text fss) ∙ sym (append_assoc head _ _)
    ∙ ap (λ r. r ++ objects_left w (n + 1)) (head_body _ ∙ sym (append-nil _))
    ∙ sym (left_on w n low ∙ ap (λ xs. flat_map node_bytes xs ++ objects_left w (n + 1)) alone))
    (omega (arith, begins.turns)) begins.stands

-- ---- the bytes of a file
pub bytes_end : (fss : List FsSpec) (w : World) (n place : ℕ) (before : List ℕ) → length (holding_of w.content n).first ≤ place
    → WritesOn fss w (part.Bytes n place) (part.Object (n + 1)) before before
bytes_end fss w n place before high = turned _ w _ _ _ _ [] (sym (append-nil before))
    (ap (λ r. r ++ objects_left w (n + 1)) (sym (drop_all place (holding_of w.content n).first high))) (omega arith) tt

pub bytes_on : (fss : List FsSpec) (w : World) (n place count : ℕ) (before after : List ℕ) → IsFile w n → 0 < count → count ≤ length (drop place (holding_of w.content n).first) → after ≡ before
    ++ take count (drop place (holding_of w.content n).first)
    → WritesOn fss w (part.Bytes n place) (part.Bytes n (place + count)) before after
bytes_on fss w n place count before after file some low grown =
    let bytes = (holding_of w.content n).first in
    written _ w _ _ _ _ _ grown
    (sym (append_assoc (take _ _) (drop _ bytes) (objects_left w (n + 1)))
    ∙ ap (λ r. r ++ objects_left w (n + 1)) (ap (λ r. take count (drop place bytes) ++ r) (sym (drop-drop count place bytes)) ∙ take-append-drop count _))
    (omega arith) (omega (arith, length-take count (drop place bytes), low)) file

-- ---- the names of a directory
got_low : {A : Type 0} (xs : List A) (i : ℕ) (x : A) → slice_get xs i ≡ Some x → i < length xs
got_low [] i x is = absurd (cc is)
got_low (y ∷ xs) zero x is = omega arith
got_low (y ∷ xs) (suc i) x is = omega (arith, got_low xs i x is)

got_none : {A : Type 0} (xs : List A) (i : ℕ) → slice_get xs i ≡ None → length xs ≤ i
got_none [] i is = omega arith
got_none (y ∷ xs) zero is = absurd (cc is)
got_none (y ∷ xs) (suc i) is = omega (arith, got_none xs i is)

got_rest : {A : Type 0} (xs : List A) (i : ℕ) (x : A) → slice_get xs i ≡ Some x → drop i xs ≡ x ∷ drop (suc i) xs
got_rest [] i x is = absurd (cc is)
got_rest (y ∷ xs) zero x is = ap (λ z. z ∷ xs) (cc is)
got_rest (y ∷ xs) (suc i) x is = got_rest xs i x is

module _ (w : World) (n left : ℕ) (link : LinkOf) (first : IsFirst w n left link) where
  names_on : names_left w n left ≡ link ∷ drop (length (names_at w n) - left + 1) (names_at w n)
  names_on =
      let one : suc (length (names_at w n) - left) ≡ length (names_at w n) - left + 1 = omega arith in
      got_rest (names_at w n) (length _ - left) _ first.is ∙ ap (λ k. link ∷ drop k (names_at w n)) one

  link_text : (rest : List LinkOf) → drop (length (names_at w n) - left + 1) (names_at w n) ≡ rest → link_bytes link ++ (flat_map link_bytes rest ++ objects_left w (n + 1))
      ≡ flat_map link_bytes (names_left w n left) ++ objects_left w (n + 1)
  link_text rest is = sym (ap (λ r. flat_map link_bytes r ++ objects_left w (n + 1)) (names_on ∙ ap (λ r. link ∷ r) is)
      ∙ append_assoc (link_bytes link) (flat_map link_bytes rest) (objects_left w (n + 1)))

  next_place : length (names_at w n) - left + 1 ≡ length (names_at w n) - (left - 1)
  next_place = omega (arith, first.low)

  -- another name comes behind it
  next_first : (next : LinkOf) → slice_get (names_at w n) (length (names_at w n) - left + 1) ≡ Some next → IsFirst w n (left - 1) next
  next_first next is =
      let low = got_low _ (length _ - left + 1) _ is in
      let some = first.some in
      record { there = first.there; some = omega arith; low = omega arith; is = ap (slice_get (names_at w n)) (sym next_place) ∙ is; next = first.next }

pub name_on : (fss : List FsSpec) (w : World) (n left : ℕ) (name : List ℕ) (object : Obj) (next : List ℕ) (target : Obj) (before after : List ℕ) → IsFirst w n left (name, object.0)
    → slice_get (names_at w n) (length (names_at w n) - left + 1) ≡ Some (next, target.0) → after ≡ before ++ link_bytes (name, object.0)
    → WritesOn fss w (part.Name n left name object) (part.Name n (left - 1) next target) before after
name_on fss w n left name object next target before after first is grown =
    written _ w _ _ _ _ _ grown
    (link_text w n left (name, object.0) first (names_left w n (left - 1)) (ap (λ k. drop k (names_at w n)) (next_place w n left (name, object.0) first))) (omega arith) (omega arith)
    (next_first w n left (name, object.0) first (next, target.0) is)

pub name_last : (fss : List FsSpec) (w : World) (n left : ℕ) (name : List ℕ) (object : Obj) (before after : List ℕ) → IsFirst w n left (name, object.0)
    → slice_get (names_at w n) (length (names_at w n) - left + 1) ≡ None → after ≡ before ++ link_bytes (name, object.0)
    → WritesOn fss w (part.Name n left name object) (part.Object (n + 1)) before after
name_last fss w n left name object before after first none grown =
    turned _ w _ _ _ _ _ grown
    (link_text w n left (name, object.0) first [] (drop_all (length _ - left + 1) (names_at w n) (got_none _ _ none))) (omega arith) tt

-- what comes behind a name
pub behind_first : (w : World) (n left : ℕ) (name : List ℕ) (o : ℕ) (next : Option LinkOf) → IsFirst w n left (name, o)
    → ((names : List LinkOf) → names_there w.frame.objects n ≡ Some names → IsBehind names name next)
    → next ≡ slice_get (names_at w n) (length (names_at w n) - left + 1)
behind_first w n left name o next first behind = behind (names_at w n) first.there (length _ - left) o first.is

-- ---- what is known of an object in the tree
pub record Kept (w : World) (n : ℕ) (view : ObjView) : Type 0 where
  pub object : Object
  pub is : at w.frame.objects n ≡ Some object
  pub seen : view_of object ≡ view
  pub kept : is_kept w n object ≡ true
  pub alone : kept_at w n ≡ node_of w n object ∷ []
  pub low : n < length w.frame.objects

at_low : {A : Type 0} (table : List (Option A)) (n : ℕ) (x : A) → at table n ≡ Some x → n < length table
at_low [] n x is = absurd (cc is)
at_low (y ∷ table) zero x is = omega arith
at_low (y ∷ table) (suc n) x is = omega (arith, at_low table n x is)

pub kept_there : (w : World) (n : ℕ) (view : ObjView) → kept_view w n ≡ Some view → Kept w n view
kept_there w n view h = go _ refl h
  where
    here : (x : Object) → at w.frame.objects n ≡ Some x → (b : Bool) → is_kept w n x ≡ b → cond {A = Option ObjView} b (Some (view_of x)) None ≡ Some view → Kept w n view
    here x is true kept h = record {
      object = x;
      is = is;
      seen = some_is _ _ h;
      kept = kept;
      alone = ap (λ o. option_map_or (λ y. cond (is_kept w n y) (node_of w n y ∷ []) []) o []) is ∙ ap (λ b. cond b (node_of w n x ∷ []) []) kept;
      low = at_low _ n x is;
    }
      where
        some_is : (a b : ObjView) → Some a ≡ Some b → a ≡ b
        some_is a b e = cc e
    here x is false kept h = absurd (cc h)

    go : (o : Option Object) → at w.frame.objects n ≡ o → option_and_then (λ x. cond {A = Option ObjView} (is_kept w n x) (Some (view_of x)) None) o ≡ Some view → Kept w n view
    go None is h = absurd (cc h)
    go (Some x) is h = here x is _ refl h

pub none_kept : (w : World) (n : ℕ) → kept_view w n ≡ None → kept_at w n ≡ []
none_kept w n h = go _ refl h
  where
    here : (x : Object) → at w.frame.objects n ≡ Some x → (b : Bool) → is_kept w n x ≡ b → cond {A = Option ObjView} b (Some (view_of x)) None ≡ None → kept_at w n ≡ []
    here x is true kept h = absurd (cc h)
    here x is false kept h = ap (λ o. option_map_or (λ y. cond (is_kept w n y) (node_of w n y ∷ []) []) o []) is
        ∙ ap (λ b. cond b (node_of w n x ∷ []) []) kept

    go : (o : Option Object) → at w.frame.objects n ≡ o → option_and_then (λ x. cond {A = Option ObjView} (is_kept w n x) (Some (view_of x)) None) o ≡ None → kept_at w n ≡ []
    go None is h = ap (λ o. option_map_or (λ y. cond (is_kept w n y) (node_of w n y ∷ []) []) o []) is
    go (Some x) is h = here x is _ refl h

-- ---- files
pub inside_is : (w : World) (n place : ℕ) → IsFile w n → bytes_inside w n place ≡ drop place (holding_of w.content n).first
unfolding bytes_inside
inside_is w n place file =
    ap (λ b. cond b (drop place (holding_of w.content n).first) []) (ap (λ o. option_map_or is_file o false) file.is ∙ ap (λ k. elim k [ kind.File ↦ true | _ ↦ false ]) file.file)

pub file_few : (w : World) (n : ℕ) → Sound w → IsFile w n → length (holding_of w.content n).first ≤ 1048576
file_few w n sound file = sound.lengths.file n file.object file.is (ap (λ k. elim k [ kind.Pipe ↦ true | _ ↦ false ]) file.file)

pub head_goes : (fss : List FsSpec) (w : World) (n : ℕ) (view : ObjView) (next : Part) (before after : List ℕ) → Kept w n view → HasHead w n before after
    → ((x : Object) → at w.frame.objects n ≡ Some x → Begins w n x next) → WritesOn fss w (part.Object n) next before after
head_goes fss w n view next before after k h begins =
    begun_goes _ w n h.object _ _ _ k.low (k.alone ∙ ap (λ x. node_of w n x ∷ []) (one _ _ _ k.is h.is)) (begins _ h.is) h.text
  where
    one : (o : Option Object) (a b : Object) → o ≡ Some a → o ≡ Some b → a ≡ b
    one o a b p q = cc (p, q)
