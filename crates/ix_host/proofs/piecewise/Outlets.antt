-- A text that goes out piece by piece.
use Rattle.std.proofs.Common.{◌≡◌, ℕ, List, [], ◌++◌, Option, Some, None, Result, Ok, Err, is_err, true, refl, sym, ap, ◌∙◌, append_assoc, subst}
use Rattle.std.{specs.Prelude.IfSome, proofs.lemmas.List.append-nil}
use Rattle.ix_host.specs.run.Whole.{Sent, Writes, WritesFront}

-- nothing went out yet
pub sent_none : (o : Option (List ℕ)) (text : List ℕ) → IfSome o (λ t. Sent t o text text)
sent_none None text = tt
sent_none (Some t) text = record { gone = []; whole = refl; front = ap Some (sym (append-nil t)) }

-- what went out is a front
pub sent_front : (o after : Option (List ℕ)) (left text : List ℕ) → IfSome o (λ t. Sent t after left text) → IfSome o (λ t. WritesFront t after text)
sent_front None after left text s = tt
sent_front (Some t) after left text s = record { gone = s.gone; left = left; whole = s.whole; front = s.front }

-- all went out
pub sent_all : (o after : Option (List ℕ)) (left text : List ℕ) → left ≡ [] → IfSome o (λ t. Sent t after left text) → IfSome o (λ t. after ≡ Some (t ++ text))
sent_all None after left text none s = tt
sent_all (Some t) after left text none s =
    let all : s.gone ≡ text = sym (append-nil s.gone) ∙ ap (λ l. s.gone ++ l) (sym none) ∙ s.whole in
    s.front ∙ ap (λ g. Some (t ++ g)) all

-- one piece more went out
pub sent_more : (E : Type 0) (o before after : Option (List ℕ)) (piece old new text : List ℕ) (r : Result (Unit {0}) E) (ok : Unit {0}) → r ≡ Ok ok
    → piece ++ new ≡ old → IfSome o (λ t. Sent t before old text) → IfSome before (λ t. Writes t after piece r) → IfSome o (λ t. Sent t after new text)
sent_more E None before after piece old new text r ok is cut s w = tt
sent_more E (Some t) before after piece old new text r ok is cut s w =
    let P : Option (List ℕ) → Type 0 = λ b. IfSome b (λ u. Writes u after piece r) in
    let wrote : Writes (t ++ s.gone) after piece r = subst P s.front w in
    let wrote_ok : Writes {E = E} (t ++ s.gone) after piece (Ok ok) = subst (λ q. Writes (t ++ s.gone) after piece q) is wrote in
    record {
      gone = s.gone ++ piece;
      whole = append_assoc s.gone piece new ∙ ap (λ l. s.gone ++ l) cut ∙ s.whole;
      front = wrote_ok ∙ ap Some (append_assoc t s.gone piece);
    }

-- a front of a piece more went out
pub sent_less : (E : Type 0) (o before after : Option (List ℕ)) (piece old new text : List ℕ) (r : Result (Unit {0}) E) (e : E) → r ≡ Err e
    → piece ++ new ≡ old → IfSome o (λ t. Sent t before old text) → IfSome before (λ t. Writes t after piece r) → IfSome o (λ t. WritesFront t after text)
sent_less E None before after piece old new text r e is cut s w = tt
sent_less E (Some t) before after piece old new text r e is cut s w =
    let P : Option (List ℕ) → Type 0 = λ b. IfSome b (λ u. Writes u after piece r) in
    let wrote : Writes (t ++ s.gone) after piece r = subst P s.front w in
    let part : WritesFront (t ++ s.gone) after piece = subst (λ q. Writes (t ++ s.gone) after piece q) is wrote in
    record {
      gone = s.gone ++ part.gone;
      left = part.left ++ new;
      whole = append_assoc s.gone part.gone (part.left ++ new) ∙ ap (λ l. s.gone ++ l) (sym (append_assoc part.gone part.left new) ∙ ap (λ p. p ++ new) part.whole ∙ cut) ∙ s.whole;
      front = part.front ∙ ap Some (append_assoc t s.gone part.gone);
    }

pub sent_failed : (E : Type 0) (o before after : Option (List ℕ)) (piece old new text : List ℕ) (r : Result (Unit {0}) E) → is_err r ≡ true
    → piece ++ new ≡ old → IfSome o (λ t. Sent t before old text) → IfSome before (λ t. Writes t after piece r) → IfSome o (λ t. WritesFront t after text)
sent_failed E o before after piece old new text (Ok x) is cut s w = cc
sent_failed E o before after piece old new text (Err e) is cut s w = sent_less E o before after piece old new text (Err e) e refl cut s w
