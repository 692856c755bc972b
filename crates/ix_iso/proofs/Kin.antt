-- What a row decides depends on the frame and on the kind of its reply alone, whatever it is told of lengths.
use Rattle.std.proofs.Common.{◌≡◌, ◌≢◌, ℕ, Bool, true, false, refl, sym, arith, if◌then◌else◌}
use Rattle.ix_model.specs.{rows.{Refusals.{number_of, keeps_label}, Outcomes.{Row, Outcome, Refuse, Pass}, Walks.OpenFile}, history.Events.Op}
use Rattle.ix_model.specs.{rows.{Rows.{◌>>=◌, ◌>>◌, on_pass, pass, refuse, need, process}, Table.{Decision, row, settled, verdict}}, declared.{reply.Reply.Reply, refusal.Refusal.Refusal}}
use Rattle.ix_model.specs.{rows.OnDescriptors.{LengthChecks, float_entry, read_fd, write_fd, cut_fd, read_passed}, world.World.{Frame, Object, lives}}
use Rattle.ix_model.proofs.words.{Ends.{Ends, ending, ends_bind, ends_then, ends_caller, ends_pass}, Looks.{ends_touch, ends_float_entry}}
use Rattle.ix_iso.proofs.OneKind.{kind_number, one_refusal}
use Rattle.ix_model.specs.history.Events as op
use Rattle.ix_model.specs.declared.reply.Reply.TheVariants as reply
use Rattle.ix_model.specs.declared.refusal.Refusal.TheVariants as refusal

-- two outcomes from one frame leave the same where their replies are of one kind
pub record Kin (f : Frame) (o p : Outcome Reply) : Type 0 where
  pub equal : kind_number (settled f o).reply ≡ kind_number (settled f p).reply → settled f o ≡ settled f p

kin_itself : (f : Frame) (o : Outcome Reply) → Kin f o o
kin_itself f o = search

kin_on_pass : {A : Type 0} (f : Frame) (o : Outcome A) (k l : A → Row Reply) → ((a : A) (h : Frame) → Kin f (k a h) (l a h)) → Kin f (on_pass o k) (on_pass o l)
unfolding on_pass
kin_on_pass f (Refuse r g) k l h = search
kin_on_pass f (Pass a g) k l h = h a g

kin_bind : {A : Type 0} (f g : Frame) (m : Row A) (k l : A → Row Reply) → ((a : A) (h : Frame) → Kin f (k a h) (l a h)) → Kin f (◌>>=◌ m k g) (◌>>=◌ m l g)
unfolding ◌>>=◌
kin_bind f g m k l h = kin_on_pass f (m g) k l h

kin_then : {A : Type 0} (f g : Frame) (m : Row A) (k l : Row Reply) → ((h : Frame) → Kin f (k h) (l h)) → Kin f (◌>>◌ m k g) (◌>>◌ m l g)
unfolding ◌>>◌
kin_then f g m k l h = kin_on_pass f (m g) _ _ (λ a h1. h h1)

-- a reply that is no refusal
abbrev IsYes : Reply → Type 0
IsYes a = (q : Refusal) → kind_number a ≢ kind_number (reply.No q)

-- where a test refuses, what comes after it could refuse the same only where that changes nothing
one_refuses : (f g : Frame) (r : Refusal) (o : Outcome Reply) → Ends o (λ q h. number_of q ≡ number_of r → keeps_label r ≡ false) (λ a h. IsYes a)
    → kind_number (settled f o).reply ≡ kind_number (reply.No r) → settled f o ≡ settled f (Refuse r g)
unfolding Ends
one_refuses f g r (Refuse q h) rest e =
    let number : number_of q ≡ number_of r = omega (arith, e) in
    let same = one_refusal q r number in
    let unkept = rest number in
    rw (same, unkept) refl
one_refuses f g r (Pass a h) rest e = absurd (rest r e)

-- a test on what is told, and what comes after it
kin_test : (f g : Frame) (b c : Bool) (r : Refusal) (k l : Row Reply)
    → ((h : Frame) → Ends (k h) (λ q i. number_of q ≡ number_of r → keeps_label r ≡ false) (λ a i. IsYes a))
    → ((h : Frame) → Ends (l h) (λ q i. number_of q ≡ number_of r → keeps_label r ≡ false) (λ a i. IsYes a)) → ((h : Frame) → Kin f (k h) (l h))
    → Kin f (◌>>◌ (need b r) k g) (◌>>◌ (need c r) l g)
unfolding ◌>>◌ on_pass need pass refuse
kin_test f g true true r k l yk yl h = h g
kin_test f g false false r k l yk yl h = search
kin_test f g true false r k l yk yl h = record { equal = λ e. one_refuses f g r (k g) (yk g) e }
kin_test f g false true r k l yk yl h = record { equal = λ e. sym (one_refuses f g r (l g) (yl g) (sym e)) }

yes_number : (n : ℕ) → IsYes (reply.Number n)
yes_number n q h = absurd (omega (arith, h))

yes_bytes : (n : ℕ) → IsYes (reply.Bytes n)
yes_bytes n q h = absurd (omega (arith, h))

yes_done : IsYes reply.Done
yes_done q h = absurd (omega (arith, h))

-- ---- the three rows that are told something
read_rest : (pid : ℕ) (x : Object) (e : OpenFile) (g : Frame)
    → Ends (◌>>=◌ (process pid) (λ p. ◌>>◌ (float_entry p x e) (pass read_passed)) g) (λ q i. number_of q ≡ number_of refusal.Again
    → keeps_label refusal.Again ≡ false) (λ a i. IsYes a)
read_rest pid x e g =
    ends_bind _ _ g _ _ (ends_caller _ g _ _ (λ p lives.
    ends_then _ _ g _ _ (ends_float_entry p x e g _ _ (ends_pass _ _ _ _ (yes_bytes 0)) (λ h. ends_pass _ _ _ _ (yes_bytes 0))))
    (λ h. absurd (omega (arith, h))))

read_kin : (t u : LengthChecks) (pid fd count : ℕ) (f : Frame) → Kin f (read_fd t pid fd count f) (read_fd u pid fd count f)
unfolding read_fd
read_kin t u pid fd count f = search (kin_bind, kin_then, kin_test, kin_itself, read_rest) depth 60

write_kin : (t u : LengthChecks) (pid fd : ℕ) (f : Frame) → Kin f (write_fd t pid fd f) (write_fd u pid fd f)
unfolding write_fd
write_kin t u pid fd f = search (kin_bind, kin_then, kin_test, kin_itself, ending, ends_touch, ends_float_entry, yes_number) depth 60

cut_kin : (t u : LengthChecks) (pid fd len : ℕ) (f : Frame) → Kin f (cut_fd t pid fd len f) (cut_fd u pid fd len f)
unfolding cut_fd
cut_kin t u pid fd len f = search (kin_bind, kin_then, kin_test, kin_itself, ending, ends_touch, yes_done) depth 60

-- ---- decisions
row_kin : (t u : LengthChecks) (place pid : ℕ) (c : Op) (f : Frame) → Kin f (row t place pid c f) (row u place pid c f)
unfolding row
row_kin t u place pid (op.ReadFd fd count) f = read_kin t u _ fd _ f
row_kin t u place pid (op.WriteFd fd bytes) f = write_kin t u _ fd f
row_kin t u place pid (op.CutFd fd len) f = cut_kin t u _ fd _ f
row_kin t u place pid _ f = kin_itself f _

pub verdict_kind : (t u : LengthChecks) (place pid : ℕ) (c : Op) (f : Frame)
    → kind_number (verdict t place pid c f).reply ≡ kind_number (verdict u place pid c f).reply → verdict t place pid c f ≡ verdict u place pid c f
unfolding verdict
verdict_kind t u place pid c f e = go _ e
  where
    unknown : Decision
    unknown = record { reply = reply.No refusal.NoProcess; frame = f }

    go : (b : Bool) → kind_number (if b then settled f (row t place pid c f) else unknown).reply ≡ kind_number (if b then settled f (row u place pid c f) else
        unknown).reply → (if b then settled f (row t place pid c f) else unknown) ≡ (if b then settled f (row u place pid c f) else unknown)
    go true e = (row_kin t u _ _ c f).equal e
    go false e = refl
