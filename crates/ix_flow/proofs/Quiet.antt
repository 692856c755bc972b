-- An entry that sets no object's label lets nothing down.
use Rattle.std.{proofs.Common.{◌≡◌, ◌<◌, ◌+◌, ◌^◌, not, ℕ, Bool, true, false, true≢false, [], ◌∷◌, length, Option, Some, None, refl, sym, ◌∙◌, arith, inl, inr}, specs.Option.option_map_or}
use Rattle.std.proofs.lemmas.{Bool.Decides.eqb_tells, List.length-append}
use Rattle.ix_label.specs.Category.{leq}
use Rattle.ix_model.specs.{history.{Events.Event, History.{History, world_of, with_entry}, Step.step_of}, world.World.{World, Object, at}}
use Rattle.ix_iso.proofs.Lowerings.{lowerings_logged}
use Rattle.ix_flow.{specs.{Lowerings.falls, Tracking.AreFalls, declared.falls.Falls.Falls}, proofs.{FirstFall.{falls_last, falls_push, none_late}, Relabelling.{down_by_label, sets_label}}}
use Rattle.ix_model.specs.history.Lowering as low

no_fall : (w : World) (place : ℕ) (e : Event) → sets_label e.op ≡ false → (o : ℕ) → falls w.frame (step_of w place e).world.frame o ≡ false
unfolding falls
no_fall w place e other o = go _ _ refl refl
  where
    go : (a b : Option Object) → at w.frame.objects o ≡ a → at (step_of w place e).world.frame.objects o ≡ b
        → option_map_or (λ x. option_map_or (λ y. not (leq x.label y.label)) b false) a false ≡ false
    go None b is here = refl
    go (Some x) None is here = refl
    go (Some x) (Some y) is here = rises _ refl
      where
        rises : (c : Bool) → leq x.label y.label ≡ c → not c ≡ false
        rises true up = refl
        rises false down = absurd (true≢false (sym (down_by_label w _ e _ (lowerings_logged w _ e (low.OfObject o x y is here down)).added refl) ∙ other))

-- so what is noted of lowerings stays right
pub falls_quiet : (f : Falls) (h : History) (e : Event) → AreFalls f h → sets_label e.op ≡ false → length h.events + 2 < 2 ^ 32 → AreFalls f (with_entry h e)
unfolding world_of
falls_quiet f h e are other few = record {
  noted = λ o place low. elim (eqb_tells place (length h.events + 1)) [
    | inl last ↦
        are.noted o place low
        ∙ none_late _ 1 _ o _ (omega (arith, last.1))
        ∙ sym (falls_last _ 1 _ e o _ last.1 ∙ no_fall _ _ e other o)
    | inr apart ↦ are.noted o place low ∙ sym (falls_push _ 1 _ e o _ apart.1)
  ];
  few = omega (arith, length-append h.events (e ∷ []), few);
}
