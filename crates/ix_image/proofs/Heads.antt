-- The head of an object, written field after field.
use Rattle.std.proofs.Common.{◌≡◌, ℕ, Bool, true, false, not, cond, ◌==◌, ◌&&◌, ◌||◌, List, ◌++◌, Some, refl, sym, ap, ◌∙◌, append_assoc}
use Rattle.ix_model.specs.declared.{views.ObjView.ObjView, privs.PrivSet.PrivSet, reply.Kind.Kind}
use Rattle.ix_model.specs.world.{World.{World, Object, at, is_dir, is_pipe}, Contents.holding_of, Owners.times_named}
use Rattle.ix_image.specs.{Trees.{Bytes, Links, are_links}, Image.{four, marks_bytes}, Labelled.label_bytes, Taken.{held_in, is_kept, the_five}, Saving.{is_dir_kind, count_held, HasHead}}
use Rattle.ix_image.proofs.Saved.{Kept}
use Rattle.ix_model.specs.declared.reply.Kind.TheVariants as kind

-- four pieces, one behind the other
four_pieces : (t a b c d t1 t2 t3 t4 : List ℕ) → t1 ≡ t ++ a → t2 ≡ t1 ++ b → t3 ≡ t2 ++ c → t4 ≡ t3 ++ d → t4 ≡ t ++ (a ++ (b ++ (c ++ d)))
four_pieces t a b c d t1 t2 t3 t4 p q r s =
    s ∙ ap (λ x. x ++ d) (r ∙ ap (λ x. x ++ c) (q ∙ ap (λ x. x ++ b) p))
    ∙ append_assoc _ c d ∙ append_assoc _ b _ ∙ append_assoc t a _

-- what is in the tree is no pipe
no_pipe : (w : World) (n : ℕ) (x : Object) (k : Kind) → x.kind ≡ k → is_kept w n x ≡ true → is_pipe x ≡ false
no_pipe w n x kind.File is kept = ap (λ k. elim k [ kind.Pipe ↦ true | _ ↦ false ]) is
no_pipe w n x kind.Dir is kept = ap (λ k. elim k [ kind.Pipe ↦ true | _ ↦ false ]) is
no_pipe w n x kind.Pipe is kept = absurd (cc (ap (λ k. elim k [ kind.Dir ↦ true | _ ↦ false ] || elim k [ kind.File ↦ true | _ ↦ false ] && not (times_named w.frame.objects n == 0)) is, kept))

-- an object that holds names is a directory
links_are : (w : World) (n : ℕ) (x : Object) → are_links (held_in w n x) ≡ is_dir x
links_are w n x = go _
  where
    go : (b : Bool) → are_links (cond b (Links x.names) (Bytes (holding_of w.content n).first)) ≡ b
    go true = refl
    go false = refl

pub has_head : (w : World) (n : ℕ) (view : ObjView) (k : Kept w n view) (dir dir2 : Bool) (cap lic : PrivSet) (sets : PrivSet × PrivSet) (count : ℕ) (t t1 t2 t3 t4 : List ℕ)
    → dir ≡ is_dir_kind view.kind → dir2 ≡ is_dir_kind view.kind → ((x : Object) → at w.frame.objects n ≡ Some x → sets ≡ (x.cap, x.lic)) → cap ≡ the_five sets.0 → lic ≡ the_five sets.1
    → ((x : Object) → at w.frame.objects n ≡ Some x → is_pipe x ≡ false → is_dir x ≡ dir2 → count ≡ count_held (held_in w n x))
    → t1 ≡ t ++ four n → t2 ≡ t1 ++ marks_bytes (record { is_dir = dir; frozen = view.frozen; cap = cap; lic = lic }) → t3 ≡ t2 ++ label_bytes view.label → t4 ≡ t3 ++ four count → HasHead w n t t4
has_head w n view k dir dir2 cap lic sets count t t1 t2 t3 t4 dir_is dir2_is sets_are cap_is lic_is counts p q r s =
    let x = k.object in
    let kind_is = ap (λ v. is_dir_kind v.kind) (sym k.seen) in
    let both = sets_are x k.is in
    record {
      object = x;
      is = k.is;
      text = four_pieces t _ _ _ _ t1 t2 t3 t4
          p (q ∙ ap (λ m. t1 ++ marks_bytes m) (λ j. record {
            is_dir = (dir_is ∙ kind_is ∙ sym (links_are w n x)) j;
            frozen = (sym k.seen j).frozen;
            cap = (cap_is ∙ ap (λ s. the_five s.0) both) j;
            lic = (lic_is ∙ ap (λ s. the_five s.1) both) j;
          })) (r ∙ ap (λ v. t2 ++ label_bytes v.label) (sym k.seen)) (s ∙ ap (λ m. t3 ++ four m) (counts x k.is (no_pipe w n x _ refl k.kept) (sym (dir2_is ∙ kind_is))));
    }
