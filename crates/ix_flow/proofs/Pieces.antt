-- What is known of all that was read is known of its pieces.
use Rattle.std.proofs.{Common.{◌≡◌, ℕ, suc, Bool, true, false, List, [], ◌∷◌, Option, Some, None, if◌then◌else◌, refl, ap, ◌∙◌, subst}, lemmas.List.Elements.{All-cons, All-head, All-map}}
use Rattle.std.{proofs.lemmas.List.Elements.{All-nil, All-tail}, specs.{Option.option_map_or, Prelude.All}}
use Rattle.ix_label.specs.Category.{bottom}
use Rattle.ix_model.specs.{history.{AuditLog.of_process, Events.{Op, Event}, History.{History, world_of, next}}, rows.Walks.{OpenFile, behind}}
use Rattle.ix_flow.specs.{Laws.{IsAccountedFor, LinesAreAccountedFor}, Lines.{Piece, in_front, object_read, pieces_from}, Marks.{marks_of, marks_read, read_by, read_through}}
use Rattle.ix_flow.{specs.Origins.{Origin, Marked, origins_of}, proofs.Staying.readers_above}
use Rattle.ix_model.specs.history.Events as op

module _ (P : Origin → Type 0) where
  one_more : (n : ℕ) (x : Origin) (pieces : List Piece) → P x → All (λ (p : Piece). P p.origin) pieces → All (λ (p : Piece). P p.origin) (in_front n x pieces)
  one_more n x [] here all = All-cons (λ p. P p.origin) (record { first = n; count = 1; origin = x }) [] here (All-nil (λ p. P p.origin))
  one_more n x (p ∷ pieces) here all = go _
    where
      joined : Piece
      joined = record { first = n; count = suc p.count; origin = x }

      alone : Piece
      alone = record { first = n; count = 1; origin = x }

      go : (b : Bool) → All (λ (q : Piece). P q.origin) (if b then joined ∷ pieces else alone ∷ p ∷ pieces)
      go true = All-cons (λ q. P q.origin) joined pieces here (All-tail (λ q. P q.origin) p pieces all)
      go false = All-cons (λ q. P q.origin) alone (p ∷ pieces) here all

  pub pieces_have : (n : ℕ) (origins : List Origin) → All P origins → All (λ (p : Piece). P p.origin) (pieces_from n origins)
  unfolding pieces_from
  pieces_have n [] all = All-nil (λ p. P p.origin)
  pieces_have n (x ∷ origins) all = one_more n x _ (All-head P x origins all) (pieces_have (suc n) origins (All-tail P x origins all))

-- what is read has no origin, or it is a read through an open entry
marks_accounted : (h : History) (e : Event) (o : Op) → e.op ≡ o
    → All (λ (m : Marked). IsAccountedFor h (object_read h e.pid o) (of_process (λ q. q.label) bottom (next h e).world.frame e.pid) m.origin) (read_by (world_of h) (marks_of h) e.pid o (next h e))
unfolding read_by
marks_accounted h e (op.ReadFd fd count) is = go _ refl
  where
    P : Option OpenFile → Marked → Type 0
    P b m = IsAccountedFor h (option_map_or (λ c. c.entry.object) b 0) (of_process (λ q. q.label) bottom (next h e).world.frame e.pid) m.origin

    go : (b : Option OpenFile) → behind (world_of h).frame e.pid fd ≡ b → All (P b) (read_through (world_of h) (marks_of h) b (next h e).reply)
    go None there = All-nil _
    go (Some b) there =
        subst (λ ms. All (P (Some b)) ms)
        (ap (λ o. read_by (world_of h) (marks_of h) e.pid o (next h e)) is ∙ ap (λ s. read_through (world_of h) (marks_of h) s (next h e).reply) there) (readers_above h e fd count b is there)
marks_accounted h e o is = All-nil _

pub lines_accounted : LinesAreAccountedFor
lines_accounted h e =
    let P : Origin → Type 0 = λ origin. IsAccountedFor h (object_read h e.pid e.op) (of_process (λ q. q.label) bottom (next h e).world.frame e.pid) origin in
    pieces_have P 0 (origins_of (marks_read h e)) (All-map P (λ m. m.origin) _ (marks_accounted h e _ refl))
