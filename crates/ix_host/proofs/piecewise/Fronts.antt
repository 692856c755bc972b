-- One read or one write more of a stream that tells its bytes.
use Rattle.std.proofs.Common.{◌≡◌, ℕ, ◌+◌, ◌-◌, ◌<◌, ◌≤◌, List, ◌++◌, length, take, drop, Option, Some, None, Result, Ok, refl, sym, ap, ◌∙◌, arith, subst}
use Rattle.std.proofs.Common.{append_assoc, length-append, length-drop, length-take-le, drop-drop}
use Rattle.std.{specs.Prelude.IfSome, proofs.Math.Seq.take-add}
use Rattle.ix_io.specs.Streams.{Reads, ReadsTold, ReadsFirst, Takes}
use Rattle.ix_host.specs.run.Whole.{IsFront}

-- where a fact about what is told gives another
pub if_some_along : {A : Type 0} (o : Option A) (P Q : A → Type 0) → ((a : A) → P a → Q a) → IfSome o P → IfSome o Q
if_some_along None P Q f h = tt
if_some_along (Some a) P Q f h = f a h

-- a read where some front was read already
pub read_after : {E : Type 0} (all read : List ℕ) (left after : Option (List ℕ)) (result : Result ℕ E) (buf : List ℕ)
    → IsFront all read left → Reads left after result buf → ReadsTold (drop (length read) all) after result buf
read_after {E} all read left after result buf h r =
    let P : Option (List ℕ) → Type 0 = λ told. Reads {E = E} told after result buf in subst P h.rest r

-- a longer front
pub front_grows : (all read : List ℕ) (left after : Option (List ℕ)) (n : ℕ) (buf : List ℕ)
    → IsFront all read left → ReadsFirst (drop (length read) all) after n buf → n ≤ length buf → IsFront all (read ++ take n buf) after
front_grows all read left after n buf h got within =
    let grown : length (read ++ take n buf) ≡ length read + n = omega (arith, length-append read (take n buf), length-take-le n buf within) in
    let small : n ≤ length all - length read = omega (arith, got.within, length-drop (length read) all) in
    record {
      within = omega (arith, h.within);
      front = rw (grown, take-add (length read) n all, h.front, got.read) refl;
      rest = got.rest ∙ ap Some (rw (grown, drop-drop) refl);
    }

-- what is left where one byte more was read than an input may have
pub too_long : (most : ℕ) (all read : List ℕ) (left : Option (List ℕ)) → IsFront all read left → length read ≡ most + 1
    → (most < length all) × (left ≡ Some (drop (most + 1) all))
too_long most all read left h n = (omega (arith, h.within), h.rest ∙ ap (λ k. Some (drop k all)) n)

-- a write where some front went out already
pub wrote_more : (E : Type 0) (first before after : Option (List ℕ)) (text : List ℕ) (at n : ℕ)
    → IfSome first (λ taken. before ≡ Some (taken ++ take at text)) → Takes {E = E} before after (Ok n) (drop at text)
    → IfSome first (λ taken. after ≡ Some (taken ++ take (at + n) text))
wrote_more E None before after text at n h w = tt
wrote_more E (Some taken) before after text at n h w =
    let P : Option (List ℕ) → Type 0 = λ told. Takes {E = E} told after (Ok n) (drop at text) in
    subst P h w ∙ ap Some (append_assoc taken _ _ ∙ ap (λ p. taken ++ p) (sym (take-add at n text)))
