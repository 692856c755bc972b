-- Rows whose words pass, one after another.
use Rattle.std.{proofs.Common.{◌≡◌, ◌==◌, ℕ, Bool, true, false, not, List, length, slice_get, Option, Some, None, refl, sym, ap, ◌∙◌}, specs.List.list_any}
use Rattle.ix_label.specs.Category.{bottom}
use Rattle.ix_model.specs.{world.{World.{Frame, Object, at, put, change, is_dir}, Naming.{PathOf, last_name}}, rows.Outcomes.{Row, Refuse, Pass}}
use Rattle.ix_model.specs.{world.{Numbers.{free_inode, fs_number, is_root}, Directories.{with_name, without_name, has_room_for_a_name}}, declared.{refusal.Refusal.Refusal, reply.Kind.Kind}}
use Rattle.ix_model.specs.rows.{Walks.{Spot, Sought, walked_to, found_object, vacant, missing, object_at, spot_at}, Lifetimes.let_go_object}
use Rattle.ix_model.specs.rows.Rows.{◌>>=◌, ◌>>◌, on_pass, pass, refuse, need, some, frame, object, change_object, put_object, observe, affect}
use Rattle.ix_model.specs.rows.OnPaths.{is_home, new_object, links_of, stat_passed, make, link_at, unlink_at, remove_dir, stat_at, list_at}
use Rattle.ix_model.specs.declared.refusal.Refusal.TheVariants as refusal
use Rattle.ix_model.specs.declared.reply.Reply.TheVariants as reply

-- ---- one word, and the rest
module _ {A B : Type 0} where
  bind_is : (m : Row A) (k : A → Row B) (f g : Frame) (a : A) → m f ≡ Pass a g → ◌>>=◌ m k f ≡ k a g
  unfolding ◌>>=◌ on_pass
  bind_is m k f g a is = ap (λ o. on_pass o k) is

  bind_refused : (m : Row A) (k : A → Row B) (f g : Frame) (r : Refusal) → m f ≡ Refuse r g → ◌>>=◌ m k f ≡ Refuse r g
  unfolding ◌>>=◌ on_pass
  bind_refused m k f g r is = ap (λ o. on_pass o k) is

  then_is : (m : Row A) (k : Row B) (f g : Frame) (a : A) → m f ≡ Pass a g → ◌>>◌ m k f ≡ k g
  unfolding ◌>>◌ on_pass
  then_is m k f g a is = ap (λ o. on_pass o (λ b. k)) is

  then_refused : (m : Row A) (k : Row B) (f g : Frame) (r : Refusal) → m f ≡ Refuse r g → ◌>>◌ m k f ≡ Refuse r g
  unfolding ◌>>◌ on_pass
  then_refused m k f g r is = ap (λ o. on_pass o (λ b. k)) is

object_is : (f : Frame) (o : ℕ) (x : Object) → at f.objects o ≡ Some x → object o f ≡ Pass x f
unfolding object some pass
object_is f o x is = ap (λ y. some y refusal.BadFd f) is

some_is : {A : Type 0} (o : Option A) (r : Refusal) (f : Frame) (a : A) → o ≡ Some a → some o r f ≡ Pass a f
unfolding some pass
some_is o r f a is = ap (λ y. some y r f) is

none_is : {A : Type 0} (o : Option A) (r : Refusal) (f : Frame) → o ≡ None → some o r f ≡ Refuse r f
unfolding some refuse
none_is o r f is = ap (λ y. some y r f) is

need_is : (b : Bool) (r : Refusal) (f : Frame) → b ≡ true → need b r f ≡ Pass tt f
unfolding need pass
need_is b r f is = ap (λ c. need c r f) is

need_refused : (b : Bool) (r : Refusal) (f : Frame) → b ≡ false → need b r f ≡ Refuse r f
unfolding need refuse
need_refused b r f is = ap (λ c. need c r f) is

frame_is : (f : Frame) → frame f ≡ Pass f f
unfolding frame
frame_is f = refl

pass_is : {A : Type 0} (a : A) (f g : Frame) → g ≡ f → pass a f ≡ Pass a g
unfolding pass
pass_is a f g is = ap (λ h. Pass a h) (sym is)

answer_is : {A : Type 0} (a b : A) (f : Frame) → a ≡ b → pass a f ≡ Pass b f
unfolding pass
answer_is {A} a b f is = ap (λ x. Pass x f) is

change_is : (o : ℕ) (h : Object → Object) (f : Frame) → change_object o h f ≡ Pass tt (record f { objects = change f.objects o h })
unfolding change_object
change_is o h f = refl

put_is : (o : ℕ) (x : Option Object) (f : Frame) → put_object o x f ≡ Pass tt (record f { objects = put f.objects o x })
unfolding put_object
put_is o x f = refl

-- ---- the rows
pub make_is : (pid : ℕ) (path : PathOf) (kind : Kind) (f m h g : Frame) (d o : ℕ) (x : Object) → missing pid path f ≡ Pass d m → at m.objects d ≡ Some x
    → free_inode m (fs_number x) ≡ Some o → has_room_for_a_name m ≡ true → affect pid d bottom m ≡ Pass tt h
    → g ≡ record h { objects = change (put h.objects o (Some (new_object kind (Some (fs_number x))))) d (with_name (last_name path.names) o) } → make pid path kind f ≡ Pass (reply.Number o) g
unfolding make
make_is pid path kind f m h g d o x led there free room row is = bind_is (missing _ path) _ f m d led ∙ bind_is (object d) _ m m x (object_is m d x there)
    ∙ bind_is frame _ m m m (frame_is m) ∙ bind_is (some _ _) _ m m o (some_is _ _ m o free)
    ∙ then_is (need (has_room_for_a_name m) refusal.NoEntry) _ m m tt (need_is _ _ m room) ∙ then_is (affect pid d bottom) _ m h tt row
    ∙ then_is (put_object o (Some (new_object kind (Some (fs_number x))))) _ h _ tt (put_is o _ h)
    ∙ then_is (change_object d (with_name (last_name path.names) o)) _ _ _ tt (change_is d _ _) ∙ pass_is _ _ g is

-- a link, where what it names is found: it comes to whether there is room for a name
link_led : (pid : ℕ) (target path : PathOf) (f l m : Frame) (a b : Sought) (d o : ℕ) (x y : Object) → walked_to pid target f ≡ Pass a l
    → walked_to pid path l ≡ Pass b m → found_object a m ≡ Pass o m → at m.objects o ≡ Some x → is_dir x ≡ false → vacant b m ≡ Pass d m
    → at m.objects d ≡ Some y → (fs_number x == fs_number y) ≡ true
    → link_at pid target path f ≡ ◌>>◌ (need (has_room_for_a_name m) refusal.NoEntry) (◌>>◌ (affect pid d bottom) (◌>>◌ (change_object d (with_name (last_name path.names) o)) (pass reply.Done))) m
unfolding link_at
link_led pid target path f l m a b d o x y led_a led_b found there file absent here one_fs = bind_is (walked_to pid target) _ f l a led_a
    ∙ bind_is (walked_to pid path) _ l m b led_b ∙ bind_is (found_object a) _ m m o found ∙ bind_is (object o) _ m m x (object_is m o x there)
    ∙ then_is (need (not _) refusal.IsDir) _ m m tt (need_is _ _ m (ap not file)) ∙ bind_is (vacant b) _ m m d absent
    ∙ bind_is (object d) _ m m y (object_is m d y here) ∙ then_is (need (fs_number x == fs_number y) refusal.CrossFs) _ m m tt (need_is _ _ m one_fs)
    ∙ bind_is frame _ m m m (frame_is m)

pub link_is : (pid : ℕ) (target path : PathOf) (f l m h g : Frame) (a b : Sought) (d o : ℕ) (x y : Object) → walked_to pid target f ≡ Pass a l
    → walked_to pid path l ≡ Pass b m → found_object a m ≡ Pass o m → at m.objects o ≡ Some x → is_dir x ≡ false → vacant b m ≡ Pass d m
    → at m.objects d ≡ Some y → (fs_number x == fs_number y) ≡ true → has_room_for_a_name m ≡ true → affect pid d bottom m ≡ Pass tt h
    → g ≡ record h { objects = change h.objects d (with_name (last_name path.names) o) } → link_at pid target path f ≡ Pass reply.Done g
link_is pid target path f l m h g a b d o x y led_a led_b found there file absent here one_fs room row is =
    link_led _ _ _ f l m a b d o x y led_a led_b found there file absent here one_fs
    ∙ then_is (need (has_room_for_a_name m) refusal.NoEntry) _ m m tt (need_is _ _ m room) ∙ then_is (affect pid d bottom) _ m h tt row
    ∙ then_is (change_object d (with_name (last_name path.names) o)) _ h _ tt (change_is d _ h) ∙ pass_is _ _ g is

-- where there is no room for a name
pub link_full : (pid : ℕ) (target path : PathOf) (f l m : Frame) (a b : Sought) (d o : ℕ) (x y : Object) → walked_to pid target f ≡ Pass a l
    → walked_to pid path l ≡ Pass b m → found_object a m ≡ Pass o m → at m.objects o ≡ Some x → is_dir x ≡ false → vacant b m ≡ Pass d m
    → at m.objects d ≡ Some y → (fs_number x == fs_number y) ≡ true → has_room_for_a_name m ≡ false → link_at pid target path f ≡ Refuse refusal.NoEntry m
link_full pid target path f l m a b d o x y led_a led_b found there file absent here one_fs full =
    link_led _ _ _ f l m a b d o x y led_a led_b found there file absent here one_fs
    ∙ then_refused (need (has_room_for_a_name m) refusal.NoEntry) _ m m _ (need_refused _ _ m full)

pub unlink_is : (pid : ℕ) (path : PathOf) (f m h g : Frame) (s : Spot) (d : ℕ) (x : Object) → spot_at pid path f ≡ Pass s m → at m.objects s.object ≡ Some x
    → is_dir x ≡ false → s.dir ≡ Some d → affect pid d bottom m ≡ Pass tt h
    → let_go_object s.object (record h { objects = change h.objects d (without_name (last_name path.names)) }) ≡ Pass tt g → unlink_at pid path f ≡ Pass reply.Done g
unfolding unlink_at
unlink_is pid path f m h g s d x led there file dir row goes = bind_is (spot_at pid path) _ f m s led
    ∙ bind_is (object s.object) _ m m x (object_is m _ x there) ∙ then_is (need (not _) refusal.IsDir) _ m m tt (need_is _ _ m (ap not file))
    ∙ bind_is (some _ _) _ m m d (some_is _ _ m d dir) ∙ then_is (affect pid d bottom) _ m h tt row
    ∙ then_is (change_object d (without_name (last_name path.names))) _ h _ tt (change_is d _ h) ∙ then_is (let_go_object s.object) _ _ g tt goes
    ∙ pass_is _ g g refl

pub remove_is : (pid : ℕ) (path : PathOf) (f m l h g : Frame) (s : Spot) (d : ℕ) (x : Object) → spot_at pid path f ≡ Pass s m → at m.objects s.object ≡ Some x
    → is_dir x ≡ true → observe pid x.label m ≡ Pass tt l → is_root l.fss s.object x ≡ false → (length x.names == 0) ≡ true
    → list_any (is_home s.object) l.processes ≡ false → s.dir ≡ Some d → affect pid d bottom l ≡ Pass tt h
    → g ≡ record h { objects = put (change h.objects d (without_name (last_name path.names))) s.object None } → remove_dir pid path f ≡ Pass reply.Done g
unfolding remove_dir
remove_is pid path f m l h g s d x led there is_d seen no_root bare nobody dir row is = bind_is (spot_at pid path) _ f m s led
    ∙ bind_is (object s.object) _ m m x (object_is m _ x there) ∙ then_is (need (is_dir x) refusal.NotDir) _ m m tt (need_is _ _ m is_d)
    ∙ then_is (observe pid x.label) _ m l tt seen ∙ bind_is frame _ l l l (frame_is l)
    ∙ then_is (need (not _) refusal.CrossFs) _ l l tt (need_is _ _ l (ap not no_root))
    ∙ then_is (need (length x.names == 0) refusal.NotEmpty) _ l l tt (need_is _ _ l bare)
    ∙ then_is (need (not _) refusal.InUse) _ l l tt (need_is _ _ l (ap not nobody)) ∙ bind_is (some _ _) _ l l d (some_is _ _ l d dir)
    ∙ then_is (affect pid d bottom) _ l h tt row ∙ then_is (change_object d (without_name (last_name path.names))) _ h _ tt (change_is d _ h)
    ∙ then_is (put_object s.object None) _ _ _ tt (put_is _ _ _) ∙ pass_is _ _ g is

pub stat_is : (pid : ℕ) (path : PathOf) (f m l : Frame) (o links : ℕ) (x : Object) → object_at pid path f ≡ Pass o m → at m.objects o ≡ Some x
    → observe pid x.label m ≡ Pass tt l → links ≡ links_of l o x → stat_at pid path f ≡ Pass (stat_passed o x links) l
unfolding stat_at
stat_is pid path f m l o links x led there seen is = bind_is (object_at _ _) _ f m o led ∙ bind_is (object o) _ m m x (object_is m o x there)
    ∙ then_is (observe pid x.label) _ m l tt seen ∙ bind_is frame _ l l l (frame_is l) ∙ answer_is _ _ l (ap (stat_passed o x) (sym is))

-- past the last name
pub list_ends : (pid index : ℕ) (path : PathOf) (f m l : Frame) (o : ℕ) (x : Object) → object_at pid path f ≡ Pass o m → at m.objects o ≡ Some x
    → is_dir x ≡ true → observe pid x.label m ≡ Pass tt l → slice_get x.names index ≡ None → list_at pid path index f ≡ Refuse refusal.EndOfList l
unfolding list_at
list_ends pid index path f m l o x led there dir seen past = bind_is (object_at _ _) _ f m o led ∙ bind_is (object o) _ m m x (object_is m o x there)
    ∙ then_is (need (is_dir x) refusal.NotDir) _ m m tt (need_is _ _ m dir) ∙ then_is (observe pid x.label) _ m l tt seen
    ∙ bind_refused (some _ _) _ l l _ (none_is _ _ l past)

-- at a name
pub list_is : (pid index : ℕ) (path : PathOf) (f m l : Frame) (o : ℕ) (x : Object) (n : List ℕ × ℕ) → object_at pid path f ≡ Pass o m → at m.objects o ≡ Some x
    → is_dir x ≡ true → observe pid x.label m ≡ Pass tt l → slice_get x.names index ≡ Some n
    → list_at pid path index f ≡ Pass (reply.Named n.0 (record { 0 = n.1 })) l
unfolding list_at
list_is pid index path f m l o x n led there dir seen named = bind_is (object_at _ _) _ f m o led ∙ bind_is (object o) _ m m x (object_is m o x there)
    ∙ then_is (need (is_dir x) refusal.NotDir) _ m m tt (need_is _ _ m dir) ∙ then_is (observe pid x.label) _ m l tt seen
    ∙ bind_is (some _ _) _ l l n (some_is _ _ l n named) ∙ pass_is _ l l refl
