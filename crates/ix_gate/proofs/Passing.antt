-- Passing the turn on keeps the rule.
use Rattle.std.proofs.Common.{◌≡◌, ◌≢◌, ℕ, suc, ◌+◌, ◌%◌, ◌<◌, ◌⊎◌, List, [], ◌∷◌, get_or, set, Option, None, Some, refl, ap, sym, ◌∙◌, subst, inl, inr, arith}
use mathlib.Core.Option.{Option as Home, none, some}
use lib.ListN.{get_elem?}
use base.Growing.{prefix_refl, prefix_trans}
use Rattle.atomic_table.{specs.Table.{Me, step, gives, Allows, put_back, rest}, proofs.Lists.set_else}
use Rattle.ix_gate.specs.{declared.view.{View.View, Role.{Role, TheVariants.Numbered}, Stage.{Stage, TheVariants.{Idle, Waits, Holds}}}, Steps.PassesOn}
use Rattle.ix_gate.specs.{History.{entries_of, Grows, KeepsEnded}, View.{HasNumber, number_of, with_turn}}
use Rattle.ix_gate.specs.Rule.{Book, HasTicket, IsQueued, DrewLast, Stands, Fits}
use Rattle.ix_gate.proofs.{Entries.{grows_prefix, grows_length, grows_other}, Counts.mod_fits, Views.{each_set, same_at, tickets_fit, Rule}}

-- the value in the slot that was taken last
abbrev pub carried : {S : Type 0} → List (ℕ × S) → S → S
carried [] d = d
carried (x ∷ xs) d = x.1

-- the book after a turn that left the history h
abbrev with_pass : {E : Type 0} → Book E → List E → Book E
with_pass g h = record g { served = suc g.served; published = h }

module _ {M E : Type 0} (queue : ℕ → ℕ) (served next id : ℕ) where
  -- the place of others stays so
  pass_stands : (published h : List E) (homes homes' : List (Home (Option M))) (i : ℕ) (r : Role) (st : Stage E) → queue served ≡ id → i ≢ id
      → Stands queue served next published homes i r st → Stands queue (suc served) next h homes' i r st
  pass_stands published h homes homes' i r Idle q other k = tt
  pass_stands published h homes homes' i r (Waits t) q other k = let ne : t ≢ served = λ x. other (sym k.0 ∙ (ap queue x ∙ q)) in (k.0, omega arith, k.2, k.3)
  pass_stands published h homes homes' i r (Holds p) q other k = absurd (other (sym k.0 ∙ q))

-- a seat that passed no turn on has the ticket that it drew last, or passed it on before
pass_drew : {M E : Type 0} (queue : ℕ → ℕ) (served next id : ℕ) (published : List E) (homes : List (Home (Option M))) (i : ℕ) (r : Role) (turns ticket : ℕ)
    (st : Stage E) → queue served ≡ id → i ≢ id → Stands queue served next published homes i r st
    → DrewLast served turns ticket st → DrewLast (suc served) turns ticket st
pass_drew queue served next id published homes i r turns ticket Idle q other k d = λ some_turn. let before = d some_turn in omega arith
pass_drew queue served next id published homes i r turns ticket (Waits t) q other k d = d
pass_drew queue served next id published homes i r turns ticket (Holds h) q other k d = absurd (other (sym k.0 ∙ q))

pass_ticket : {E : Type 0} (served t : ℕ) (st : Stage E) → served < t → HasTicket served t st → HasTicket (suc served) t st
pass_ticket served t Idle l o = o
pass_ticket served t (Waits u) l o = o
pass_ticket served t (Holds h) l o = absurd (omega arith)

module _ {B E : Type 0} (queue : ℕ → ℕ) (served next id : ℕ) where
  pass_queued : (taken : List E) (views : List (View B E)) (v w : View B E) → get_elem? views id ≡ some v → v.stage ≡ Holds taken
      → IsQueued queue served next views → IsQueued queue (suc served) next (set views id w)
  pass_queued taken views v w at holds q t l h =
      let u = q t (omega arith) h in
      let away : queue t ≢ id = λ e. let o : t ≡ served =
      subst (λ (z : Stage E). HasTicket served t z) holds (subst (λ (z : View B E). HasTicket served t z.stage) (same_at views (queue t) id u.0 v u.1 at e)
      u.2) in omega arith in
      (u.0, set_else views id (queue t) w away ∙ u.1, pass_ticket served t u.0.stage (omega arith) u.2)

module _ {M B E : Type 0} (base_of : M → B) (history_of : M → List E) (seat : E → ℕ) (base : B) (seats : ℕ) where
  machine_based : (b : Option B) (m : M) → (b ≡ None) ⊎ (b ≡ Some base) → b ≡ Some (base_of m) → base_of m ≡ base
  machine_based b m (inl e) is = absurd (cc (sym e ∙ is))
  machine_based b m (inr e) is = cc (sym is ∙ e)

  pub pass_on_allowed : (slots id : ℕ) (me : Me (Option M) (View B E)) (n : ℕ) (m : M) (taken : List E) → me.0.role ≡ Numbered n → me.0.stage ≡ Holds taken
      → me.1 ≡ (0, Some m) ∷ [] → me.0.base ≡ Some (base_of m)
      → Grows seat n taken (history_of m)
      → Allows (Rule base_of history_of seat base seats) slots id me 1 (λ x. (x + 1) % 18446744073709551616) (PassesOn history_of seat (step slots 1 1 0 none) me)
  pass_on_allowed slots id me n m taken is holds has based grows s r len at small =
      let g : Book E = r.book in
      let v : View B E = me.0 in
      let e : get_or s.words 1 0 ≡ g.served = ap (λ (ws : List ℕ). get_or ws 1 0) r.words in
      let f = r.each id v at in
      let named : HasNumber v.role n = subst (λ (x : Role). HasNumber x n) (sym is) refl in
      let mine = f.number n named in
      let k = subst (Stands g.queue g.served g.next g.published s.homes id v.role) holds f.stands in
      let below = k.1 in
      let h : List E = history_of m in
      let grown : Grows seat n g.published h = subst (λ (z : List E). Grows seat n z h) k.3 grows in
      let longer = grows_prefix seat n g.published h grown in
      let still : (x : ℕ) → x ≢ n → entries_of seat x h ≡ entries_of seat x g.published = λ x ne. grows_other seat n x g.published h grown ne in
      let ended : KeepsEnded seat v.ended h = λ x es o. let q = f.ended x es o in still x (λ y. q.3 (subst (λ (z : ℕ). HasNumber v.role z) (sym y) named)) ∙ q.2 in
      let fits = tickets_fit base_of history_of seat base seats s r in
      let w : View B E = with_turn seat v h in
      let own : (x : ℕ) → HasNumber v.role x → entries_of seat x h ≡ w.own = λ x o. let same : n ≡ x = subst (λ (y : Role). HasNumber y x) is o in
      ap (λ (y : ℕ). entries_of seat y h) (sym same ∙ sym (ap number_of is)) in
      let homes : put_back s.homes me.1 ≡ some (Some m) ∷ [] = ap (put_back s.homes) has ∙ ap (λ (hs : List (Home (Option M))). set hs 0 (some (Some m))) k.4 in (
        w,
        gives,
        tt,
        record {
          book = with_pass g h;
          words = ap (λ (ws : List ℕ). set ws 1 ((get_or ws 1 0 + 1) % 18446744073709551616)) r.words ∙ ap (λ (x : ℕ). g.next ∷ x ∷ g.made ∷ []) (mod_fits (g.served + 1) (omega arith) ∙ omega arith);
          ordered = omega arith;
          counted = r.counted;
          few_turns = r.few_turns;
          few_seats = r.few_seats;
          short = omega (arith, r.short, grows_length seat n g.published h grown);
          unmade = λ x l. let made = mine.1 in still x (λ y. omega arith) ∙ r.unmade x l;
          kept = inl (m, homes, refl, machine_based v.base m f.based based);
          queued = pass_queued g.queue g.served g.next id taken s.views v w at holds r.queued;
          each = each_set (Fits seat base seats (with_pass g h) (put_back s.homes me.1)) s.views id w
              record {
                based = f.based;
                sized = f.sized;
                seen = prefix_refl h;
                told = prefix_trans v.told g.published h f.told longer;
                number = λ x o. let q = f.number x o in (q.0, q.1, q.2, own x o);
                ended = λ x es o. let q = f.ended x es o in (q.0, q.1, ended x es o, q.3);
                agrees = (own, ended);
                makes = f.makes;
                stands = tt;
                look_found = let l = f.look_found in omega arith;
                drew = λ _. let its = subst (DrewLast g.served v.turns v.ticket) holds f.drew in omega arith;
              }
              (λ j d other there. let q = r.each j d there in record {
                based = q.based;
                sized = q.sized;
                seen = prefix_trans d.seen g.published h q.seen longer;
                told = prefix_trans d.told g.published h q.told longer;
                number = λ x o. let u = q.number x o in (u.0, u.1, u.2, still x (λ y. other (sym u.0 ∙ (ap g.owner y ∙ mine.0))) ∙ u.3);
                ended = λ x es o. let u = q.ended x es o in (u.0, u.1, still x (λ y. other (sym u.0 ∙ (ap g.owner y ∙ mine.0))) ∙ u.2, u.3);
                agrees = q.agrees;
                makes = q.makes;
                stands = pass_stands g.queue g.served g.next id g.published h s.homes (put_back s.homes me.1) j d.role d.stage k.0 other q.stands;
                look_found = let l = q.look_found in omega arith;
                drew = pass_drew g.queue g.served g.next id g.published s.homes j d.role d.turns d.ticket d.stage k.0 other q.stands q.drew;
              });
        },
        λ x same. let here : Some m ≡ Some x = ap (λ (q : List (ℕ × Option M)). carried q (Some m)) (sym has ∙ same) in let y : m ≡ x = cc here in
            ((λ i. (with_turn seat v (history_of (y i)), ap rest has i)), subst (λ (u : M). KeepsEnded seat v.ended (history_of u)) y ended),
      )
