-- How much there is at an end of an object, by what is told of it.
use Rattle.std.proofs.Common.{◌≡◌, ◌<◌, ◌≤◌, ◌==◌, nat_lt, ◌||◌, ℕ, Bool, true, false, Some, None, length, if◌then◌else◌, refl, sym, ap, ◌∙◌}
use Rattle.std.{specs.Option.option_and_then, proofs.lemmas.Bool.{eq-eqb, eqb-true, false_from_ne_true, le-ltb, lt-ltb}}
use Rattle.ix_model.specs.{world.{World.{Object, at}, Contents.{held_at, side}}, history.Views.has_side, rows.Walks.node, declared.reply.Kind.Kind}
use Rattle.ix_model.specs.declared.reply.Kind.TheVariants as kind
use Rattle.ix_tables.specs.{Parts.Parts, Views.{Shows, object_by}, declared.row.ObjectRow.ObjectRow}
use Rattle.ix_fcalls.specs.Spots.{size_in}

-- whether an object of that kind has that end
abbrev pub kind_has : Kind → ℕ → Bool
kind_has kind.File end = end == 0
kind_has kind.Pipe end = nat_lt end 2
kind_has kind.Dir end = false

or_false : (b : Bool) → (b || false) ≡ b
or_false true = refl
or_false false = refl

by_kind : (x : Object) (end : ℕ) → has_side x end ≡ kind_has x.kind end
by_kind x end = go _
  where
    go : (k : Kind) → has_side (record x { kind = k }) end ≡ kind_has k end
    go kind.File = or_false _
    go kind.Pipe = refl
    go kind.Dir = refl

module _ (t : Parts) (o end : ℕ) where
  pub size_nothing : at t.objects o ≡ None → None ≡ size_in t o end
  unfolding size_in
  size_nothing gone = ap (λ a. option_and_then (λ x. if has_side x end then Some (length (side end (held_at t.holdings o))) else None) a) (sym gone)

  told : (r : ObjectRow) → Shows t.objects o (Some r) → size_in t o end ≡ (if kind_has r.kind end then Some (length (side end (held_at t.holdings o))) else None)
  unfolding size_in
  told r shown = ap (λ a. option_and_then (λ x. if has_side x end then Some (length (side end (held_at t.holdings o))) else None) a) shown
      ∙ ap (λ b. if b then Some (length (side end (held_at t.holdings o))) else None) (by_kind (object_by (node t.objects o) r) end)

  there : (r : ObjectRow) (n : ℕ) → Shows t.objects o (Some r) → kind_has r.kind end ≡ true → n ≡ length (side end (held_at t.holdings o)) → Some n ≡ size_in t o end
  there r n shown has is = sym (told r shown ∙ ap (λ b. if b then Some (length (side end (held_at t.holdings o))) else None) has ∙ ap Some (sym is))

  not_there : (r : ObjectRow) → Shows t.objects o (Some r) → kind_has r.kind end ≡ false → None ≡ size_in t o end
  not_there r shown has = sym (told r shown ∙ ap (λ b. if b then Some (length (side end (held_at t.holdings o))) else None) has)

  pub size_of_file : (r : ObjectRow) (n : ℕ) → Shows t.objects o (Some r) → r.kind ≡ kind.File → end ≡ 0 → n ≡ length (held_at t.holdings o).first → Some n ≡ size_in t o end
  size_of_file r n shown file first is = there r n shown (ap (λ k. kind_has k end) file ∙ eq-eqb end 0 first) (is ∙ ap (λ e. length (side e (held_at t.holdings o))) (sym first))

  pub size_of_pipe : (r : ObjectRow) (n : ℕ) → Shows t.objects o (Some r) → r.kind ≡ kind.Pipe → end < 2 → n ≡ length (side end (held_at t.holdings o)) → Some n ≡ size_in t o end
  size_of_pipe r n shown pipe low is = there r n shown (ap (λ k. kind_has k end) pipe ∙ lt-ltb end 2 low) is

  pub no_size_of_file : (r : ObjectRow) → Shows t.objects o (Some r) → r.kind ≡ kind.File → (end ≡ 0 → ⊥) → None ≡ size_in t o end
  no_size_of_file r shown file other = not_there r shown (ap (λ k. kind_has k end) file ∙ false_from_ne_true _ (λ h. other (eqb-true end 0 h)))

  pub no_size_of_pipe : (r : ObjectRow) → Shows t.objects o (Some r) → r.kind ≡ kind.Pipe → 2 ≤ end → None ≡ size_in t o end
  no_size_of_pipe r shown pipe high = not_there r shown (ap (λ k. kind_has k end) pipe ∙ le-ltb end 2 high)

  pub no_size_of_dir : (r : ObjectRow) → Shows t.objects o (Some r) → r.kind ≡ kind.Dir → None ≡ size_in t o end
  no_size_of_dir r shown dir = not_there r shown (ap (λ k. kind_has k end) dir)
