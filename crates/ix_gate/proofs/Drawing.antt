-- A draw of the next ticket keeps the rule.
use Rattle.std.proofs.Common.{◌≡◌, ◌≢◌, ℕ, ◌+◌, ◌%◌, ◌<◌, ◌≤◌, List, [], ◌∷◌, get_or, set, Option, refl, ap, sym, ◌∙◌, subst, arith}
use mathlib.Core.Logic.{dite}
use mathlib.Core.Option.{Option as Home, none, some}
use native.Mathlib.Decide.{ℕ_discrete}
use lib.ListN.{get_elem?}
use Rattle.atomic_table.{specs.Table.{State, Me, step, keeps, Allows}, proofs.Lists.{set_here, set_else}}
use Rattle.ix_gate.specs.{declared.view.{View.View, Role.{Role, TheVariants.Numbered}, Stage.{Stage, TheVariants.{Idle, Waits, Holds}}}, Steps.Draws}
use Rattle.ix_gate.specs.{View.{HasNumber, with_ticket}, Rule.{most_turns, total_turns, Book, HasTicket, IsQueued, DrewLast, Stands, Fits, IsKept}}
use Rattle.ix_gate.proofs.{Counts.{put, put_here, put_else, put_holds, total_turns-put, mod_fits}, Serving.is_served}
use Rattle.ix_gate.proofs.Views.{at_lt, same_at, each_set, kept_set, refits, fits_still, tickets_fit, Rule}

-- the book after the seat at place id, of the number n, drew
abbrev pub with_draw : {E : Type 0} → Book E → ℕ → ℕ → Book E
with_draw g id n = record g { next = g.next + 1; queue = put g.queue g.next id; turns = put g.turns n (g.turns n + 1) }

module _ {E : Type 0} (g : Book E) (id n : ℕ) where
  pub draw_counted : n < g.made → g.next ≡ total_turns g.turns g.made → g.next + 1 ≡ total_turns (put g.turns n (g.turns n + 1)) g.made
  draw_counted made counted = let a = total_turns-put g.turns n g.made made in omega arith

  pub draw_few : g.turns n < most_turns → ((k : ℕ) → g.turns k ≤ most_turns) → (k : ℕ) → put g.turns n (g.turns n + 1) k ≤ most_turns
  draw_few room few = put_holds (λ x. x ≤ most_turns) g.turns n (g.turns n + 1) (omega arith) few

  pub draw_queued : {B : Type 0} (views : List (View B E)) (v w : View B E) → get_elem? views id ≡ some v → v.stage ≡ Idle → HasTicket g.served g.next w.stage → IsQueued g.queue g.served g.next views
      → IsQueued (put g.queue g.next id) g.served (g.next + 1) (set views id w)
  draw_queued {B = B} views v w at idle has q t l h = dite (ℕ_discrete t g.next)
      (λ e. (
        w,
        ap (λ (z : ℕ). get_elem? (set views id w) (put g.queue g.next id z)) e ∙ (ap (get_elem? (set views id w)) (put_here g.queue g.next id)
            ∙ set_here views id w (at_lt views id v at)),
        subst (λ (z : ℕ). HasTicket g.served z w.stage) (sym e) has,
      ))
      (λ ne. let u = q t l (omega arith) in
      let away : g.queue t ≢ id =
      λ e. absurd (subst (λ (z : Stage E). HasTicket g.served t z) idle (subst (λ (z : View B E). HasTicket g.served t z.stage)
      (same_at views (g.queue t) id u.0 v u.1 at e) u.2)) in
      (u.0, ap (get_elem? (set views id w)) (put_else g.queue g.next id t ne) ∙ (set_else views id (g.queue t) w away ∙ u.1), u.2))

  pub draw_stands : {M : Type 0} (homes : List (Home (Option M))) (i : ℕ) (r : Role) (st : Stage E) → Stands g.queue g.served g.next g.published homes i r st
      → Stands (put g.queue g.next id) g.served (g.next + 1) g.published homes i r st
  draw_stands homes i r Idle k = tt
  draw_stands homes i r (Waits t) k = (put_else g.queue g.next id t (λ x. omega arith) ∙ k.0, k.1, omega arith, k.3)
  draw_stands homes i r (Holds p) k = (put_else g.queue g.next id g.served (λ x. omega arith) ∙ k.0, omega arith, k.2, k.3, k.4)

module _ {M B E : Type 0} (seat : E → ℕ) (base : B) (seats : ℕ) (g : Book E) (homes homes' : List (Home (Option M))) (id n : ℕ) where
  -- the rule still holds of the views of others, where what it says of their place does
  pub draw_fits_other : (j : ℕ) (d : View B E) → g.owner n ≡ id → j ≢ id → Fits seat base seats g homes j d
      → Stands (put g.queue g.next id) g.served (g.next + 1) g.published homes' j d.role d.stage → Fits seat base seats (with_draw g id n) homes' j d
  draw_fits_other j d owner other q stands =
      fits_still seat base seats g homes homes' j (put g.queue g.next id) g.owner (put g.turns n (g.turns n + 1)) (g.next + 1) g.made g.maker d q
      (λ k o. let u = q.number k o in (u.0, u.1, put_else g.turns n (g.turns n + 1) k (λ x. other (sym u.0 ∙ (ap g.owner x ∙ owner))) ∙ u.2, u.3)) q.ended q.makes stands

  -- and of the view that has drawn, at its new stage
  pub draw_fits : (v : View B E) (st : Stage E) (ticket looks found : ℕ) → v.role ≡ Numbered n → found ≤ g.served → DrewLast g.served (v.turns + 1) ticket st
      → Fits seat base seats g homes id v → Stands (put g.queue g.next id) g.served (g.next + 1) g.published homes' id v.role st
      → Fits seat base seats (with_draw g id n) homes' id record v { stage = st; turns = v.turns + 1; ticket = ticket; looks = looks; look_found = found }
  draw_fits v st ticket looks found is low drew f stands =
      refits seat base seats g homes homes' id id (put g.queue g.next id) g.owner (put g.turns n (g.turns n + 1)) (g.next + 1) g.made g.maker v v.role st (v.turns + 1) ticket
      looks found v.misses v.miss_found f
      (λ k o. let q = f.number k o in let same : n ≡ k = subst (λ (x : Role). HasNumber x k) is o in
      (q.0, q.1, subst (λ (z : ℕ). put g.turns n (g.turns n + 1) z ≡ v.turns + 1) same (put_here g.turns n (g.turns n + 1) ∙ ap (λ (x : ℕ). x + 1) (ap g.turns same ∙ q.2)), q.3))
      f.ended f.agrees f.makes stands low drew

module _ {M B E : Type 0} (base_of : M → B) (history_of : M → List E) (seat : E → ℕ) (base : B) (seats : ℕ) where
  -- the rule after a draw by the seat of number n, which then is in line with the next ticket
  pub drawn : (s : State (Option M) (View B E)) (r : Rule base_of history_of seat base seats s) (id n x : ℕ) (v w : View B E) (homes : List (Home (Option M)))
      → get_elem? s.views id ≡ some v → v.stage ≡ Idle → v.role ≡ Numbered n → v.turns < most_turns → x ≡ r.book.next + 1 → HasTicket r.book.served r.book.next w.stage
      → IsKept base_of history_of base r.book.published homes (set s.views id w)
      → ((j : ℕ) (d : View B E) → Stands r.book.queue r.book.served r.book.next r.book.published s.homes j d.role d.stage
      → Stands r.book.queue r.book.served r.book.next r.book.published homes j d.role d.stage)
      → Fits seat base seats (with_draw r.book id n) homes id w → Rule base_of history_of seat base seats record { words = set s.words 0 x; homes = homes; views = set s.views id w }
  drawn s r id n x v w homes at idle is room new has kept away mine =
      let g : Book E = r.book in
      let own = (r.each id v at).number n (subst (λ (z : Role). HasNumber z n) (sym is) refl) in
      let turns = own.2 in
      let ordered = r.ordered in record {
        book = with_draw g id n;
        words = ap (λ (ws : List ℕ). set ws 0 x) r.words ∙ ap (λ (z : ℕ). z ∷ g.served ∷ g.made ∷ []) new;
        ordered = omega arith;
        counted = draw_counted g id n own.1 r.counted;
        few_turns = draw_few g id n (omega arith) r.few_turns;
        few_seats = r.few_seats;
        short = r.short;
        unmade = r.unmade;
        kept = kept;
        queued = draw_queued g id n s.views v w at idle has r.queued;
        each = each_set (Fits seat base seats (with_draw g id n) homes) s.views id w mine (λ j d other there. let q = r.each j d there in
            draw_fits_other seat base seats g s.homes homes id n j d own.0 other q (draw_stands g id n homes j d.role d.stage (away j d q.stands)));
      }

  pub draw_allowed : (slots id : ℕ) (me : Me (Option M) (View B E)) (n : ℕ) → me.0.stage ≡ Idle → me.0.role ≡ Numbered n → me.0.turns < most_turns
      → Allows (Rule base_of history_of seat base seats) slots id me 0 (λ x. (x + 1) % 18446744073709551616) (Draws (step slots 0 1 0 none) me)
  draw_allowed slots id me n idle is room s r len at small =
      let g : Book E = r.book in
      let v : View B E = me.0 in
      let f = r.each id v at in
      let t : ℕ = get_or s.words 0 0 in
      let e : t ≡ g.next = ap (λ (ws : List ℕ). get_or ws 0 0) r.words in
      let ordered = r.ordered in
      let w : View B E = with_ticket v t in (
        w,
        keeps,
        tt,
        drawn s r id n _ v w s.homes at idle is room (ap (λ (z : ℕ). (z + 1) % 18446744073709551616) e ∙ mod_fits _ (tickets_fit base_of history_of seat base seats s r)) e
            (kept_set base_of history_of base g.published s.homes s.views id v w at (λ p x. cc (sym idle ∙ x)) r.kept) (λ j d k. k)
            (draw_fits seat base seats g s.homes s.homes id n v (Waits t) t v.looks v.look_found is f.look_found refl f
            (subst (λ (z : ℕ). Stands (put g.queue g.next id) g.served (g.next + 1) g.published s.homes id v.role (Waits z)) (sym e) (put_here g.queue g.next id, ordered, omega arith, (n, is)))),
        (refl, is_served base_of history_of seat base seats s r id v t at idle (omega arith) (omega arith)),
      )
