-- The lengths of what is carried over.
use Rattle.std.proofs.Common.{◌≡◌, ◌≤◌, ◌==◌, ◌&&◌, ℕ, suc, Bool, true, false, true≢false, List, [], ◌∷◌, length, Option, Some, None, is_some, refl, sym}
use Rattle.std.{proofs.{Common.{if◌then◌else◌, ap, ◌∙◌, subst, arith, get_or}, lemmas.Bool.and_parts}, specs.Option.option_map_or}
use Rattle.ix_model.specs.world.{World.{World, Frame, Object, Holding, at, is_ended, fs_at}, Contents.{keep, carried, holds_nothing}}
use Rattle.ix_model.specs.{rows.Telling.{blocks_for, blocks_where, blocks_on, lies_on}, laws.{Clean.IsClean, Sound.LengthsSound}}
use Rattle.ix_model.proofs.{tables.{Tables.{length_same, seen_same}, SameKinds.Kinds}, frames.Floats.Floats}
use Rattle.ix_model.proofs.{words.{Fixed.Fixed, Lasts.Lasts}, clean.Carrying.{length-keep, get_or-keep, carried_same}}

-- ---- what is kept of a list
kept_of : {A : Type 0} (P : A → Type 0) (b : Bool) (x d : A) → (b ≡ true → P x) → P d → P (if b then x else d)
kept_of P true x d h k = h refl
kept_of P false x d h k = k

pub kept_at : {A : Type 0} (P : A → Type 0) (d : A) (p : ℕ → Bool) (xs : List A) (n : ℕ) → (p n ≡ true → P (get_or xs n d)) → P d → P (get_or (keep d p 0 xs) n d)
kept_at P d p xs n h k =
    let e = ap (λ m. if p m then get_or xs n d else d) (omega arith) in
    subst P (sym (get_or-keep d p 0 xs n ∙ e)) (kept_of P _ _ d h k)

-- ---- blocks
kept_blocks : (q r p : Bool) (h : Holding) → (q ≡ true → r ≡ true → p ≡ true) → (if q then blocks_for (length (if r then h else holds_nothing).first) else
    0) ≤ (if p then blocks_for (length h.first) else 0)
kept_blocks false r p h both = omega arith
kept_blocks true false p h both = omega arith
kept_blocks true true false h both = absurd (true≢false (sym (both refl refl)))
kept_blocks true true true h both = omega arith

blocks_kept : (q r p : ℕ → Bool) (n : ℕ) (hs : List Holding) → ((m : ℕ) → q m ≡ true → r m ≡ true → p m ≡ true) → blocks_where q n (keep holds_nothing r n hs) ≤ blocks_where p n hs
unfolding keep
blocks_kept q r p n [] both = omega arith
blocks_kept q r p n (h ∷ hs) both =
    let one = kept_blocks (q n) (r n) (p n) h (both n) in
    let rest = blocks_kept q r p (suc n) hs both in
    omega arith

lies_still : (x y : Option Object) (k : ℕ) → ((a b : Object) → x ≡ Some a → y ≡ Some b → b.fs ≡ a.fs) → is_some x ≡ true
    → option_map_or (λ z. option_map_or (λ j. j == k) z.fs false) y false ≡ true → option_map_or (λ z. option_map_or (λ j. j == k) z.fs false) x false ≡ true
lies_still None y k same there h = absurd (true≢false (sym there))
lies_still (Some a) None k same there h = absurd (true≢false (sym h))
lies_still (Some a) (Some b) k same there h = ap (λ t. option_map_or (λ j. j == k) t false) (sym (same a b refl refl)) ∙ h

-- ---- lengths
pub there_is : {A : Type 0} (o : Option A) → is_some o ≡ true → (x : A) × (o ≡ Some x)
there_is None h = absurd (true≢false (sym h))
there_is (Some x) h = (x, refl)

pub lengths_carried : (w : World) (g : Frame) → Fixed w.frame g → Kinds w.frame.objects g.objects → LengthsSound w → LengthsSound (record { frame = g; content = carried w.frame g w.content })
unfolding carried
lengths_carried w g r kinds l =
    let f = w.frame in let c = w.content in
    let stay : ℕ → Bool = λ o. is_some (at f.objects o) && is_some (at g.objects o) in
    record {
      holdings = length-keep holds_nothing stay 0 c.holdings ∙ l.holdings ∙ sym r.objects;
      offsets = length-keep 0 (λ e. is_some (at f.opens e) && is_some (at g.opens e)) 0 c.offsets ∙ l.offsets ∙ sym r.opens;
      offset = λ e. kept_at (λ n. n ≤ 1048576) 0 (λ e. is_some (at f.opens e) && is_some (at g.opens e)) c.offsets e (λ stays. l.offset e) (omega arith);
      file = λ o y is other. kept_at (λ (h : Holding). length h.first ≤ 1048576) holds_nothing stay c.holdings o (λ stays.
          let x = there_is (at f.objects o) (and_parts _ _ stays).0 in
          l.file o x.0 x.1 (sym (kinds.same o x.0 y x.1 is).pipe ∙ other)) (omega arith);
      pipe = λ o y is pipe. kept_at (λ (h : Holding). (length h.first ≤ 4096) × (length h.second ≤ 4096)) holds_nothing stay c.holdings o (λ stays.
          let x = there_is (at f.objects o) (and_parts _ _ stays).0 in
          l.pipe o x.0 x.1 (sym (kinds.same o x.0 y x.1 is).pipe ∙ pipe)) (omega arith, omega arith);
      blocks = λ k.
          let few : blocks_where (lies_on g (Some k)) 0 (keep holds_nothing stay 0 c.holdings) ≤ blocks_where (lies_on f (Some k)) 0 c.holdings =
          blocks_kept (lies_on g (Some k)) stay (lies_on f (Some k)) 0 c.holdings (λ m lies stays. lies_still (at f.objects m) (at g.objects m) k
          (λ a b is here. (kinds.same m a b is here).fs) (and_parts _ _ stays).0 lies) in
          let same : blocks_on g (Some k) ≡ blocks_on f (Some k) = ap (λ fss. (fs_at fss k).blocks) r.fss in
          omega (arith, l.blocks k);
    }

-- ---- where nothing goes
lasts_floats : (f g : Frame) → Floats f g → Lasts f g
lasts_floats f g r = record {
  objects = record { stays = λ n is. seen_same _ is_some (λ x. refl) _ _ r.objects n ∙ is };
  opens = record { stays = λ n is. seen_same _ is_some (λ x. refl) _ _ r.opens n ∙ is };
  processes = record { stays = λ n is. seen_same _ is_ended (λ x. refl) _ _ r.processes n ∙ is; count = length_same _ _ _ r.processes };
}

pub carried_floats : (w : World) (g : Frame) → Floats w.frame g → IsClean w → carried w.frame g w.content ≡ w.content
carried_floats w g r clean = carried_same w g (lasts_floats _ g r) clean
