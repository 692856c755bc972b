-- A look keeps the rule: by a seat with a ticket, whether it finds that or not, and by a seat without one.
use Rattle.std.proofs.Common.{◌≡◌, ◌≢◌, ℕ, ◌+◌, ◌≤◌, ◌⊎◌, List, [], ◌∷◌, length, get_or, set, Option, None, Some, refl, ap, sym, ◌∙◌, subst, inl, inr, arith}
use mathlib.Core.Logic.{dite}
use mathlib.Core.Option.{Option as Home, none, some}
use mathlib.Core.List.{IsPrefix}
use native.Mathlib.Decide.{ℕ_discrete}
use lib.ListN.{get_elem?}
use lib.Seq.{set-get_or}
use Rattle.atomic_table.{specs.Table.{State, Me, step, keeps, takes, Allows}, proofs.Lists.set_here}
use Rattle.ix_gate.specs.{declared.view.{View.View, Role.Role, Stage.{Stage, TheVariants.{Idle, Waits, Holds}}}, View.{Agrees, with_look, with_free_look}}
use Rattle.ix_gate.specs.{Rule.{Book, HasTicket, DrewLast, Stands, Fits, IsKept}, Steps.{Takes, Looks, FreeLooks}}
use Rattle.ix_gate.proofs.{Prefixes.prefix_shorter, Serving.{is_served, seen_served}}
use Rattle.ix_gate.proofs.Views.{at_lt, same_at, each_set, queued_set, agrees_published, fits_at, fits_still, ruled, unmoved, tickets_fit, MaySet, Rule}

-- what others know stays so where the slot leaves its home
pub away_stands : {M E : Type 0} (queue : ℕ → ℕ) (served next : ℕ) (published : List E) (homes : List (Home (Option M))) (m : M) (i : ℕ) (r : Role) (st : Stage E) → homes ≡ some (Some m) ∷ []
    → Stands queue served next published homes i r st → Stands queue served next published (set homes 0 none) i r st
away_stands queue served next published homes m i r Idle home k = tt
away_stands queue served next published homes m i r (Waits t) home k = k
away_stands queue served next published homes m i r (Holds p) home k = absurd (cc (sym home ∙ k.4))

module _ {M B E : Type 0} (base_of : M → B) (history_of : M → List E) (seat : E → ℕ) (base : B) (seats : ℕ) where
  -- the machine at home has the base and the published history, which agree with what each seat knows
  pub takes_from_home : (g : Book E) (homes : List (Home (Option M))) (id : ℕ) (me : Me (Option M) (View B E)) (m : M) (found : ℕ) (next : Stage E → View B E)
      → Fits seat base seats g homes id me.0 → g.published ≡ history_of m → base_of m ≡ base → length g.published ≤ found
      → Takes base_of history_of seat me (next (Holds (history_of m)), (0, Some m) ∷ me.1) found next
  takes_from_home g homes id me m found next f has based short = record {
    machine = m;
    now = refl;
    based = subst (λ (b : B). (me.0.base ≡ None) ⊎ (me.0.base ≡ Some b)) (sym based) f.based;
    begins = subst (IsPrefix me.0.seen) has f.seen;
    agrees = subst (Agrees seat me.0) has (agrees_published base_of history_of seat base seats g homes id me.0 f);
    entries = subst (λ (h : List E). length h ≤ found) has short;
  }

  look_miss : (s : State (Option M) (View B E)) (r : Rule base_of history_of seat base seats s) (slots id : ℕ) (me : Me (Option M) (View B E)) (t : ℕ)
      → me.0.stage ≡ Waits t → get_elem? s.views id ≡ some me.0 → get_or s.words 1 0 ≢ t
      → MaySet base_of history_of seat base seats s id me 1 (get_or s.words 1 0) (Looks base_of history_of seat (step slots 1 0 0 none) me)
  look_miss s r slots id me t waits at miss =
      let g : Book E = r.book in
      let v : View B E = me.0 in
      let found : ℕ = get_or s.words 1 0 in
      let e : found ≡ g.served = ap (λ (ws : List ℕ). get_or ws 1 0) r.words in
      let f = r.each id v at in (
        with_look v found (Waits t),
        keeps,
        tt,
        unmoved base_of history_of seat base seats s r 1 id me.1 v (with_look v found (Waits t)) at (λ h x. cc (sym waits ∙ x)) (λ u o. subst (HasTicket g.served u) waits o)
            (fits_at seat base seats g s.homes s.homes id v (Waits t) (v.looks + 1) found v.misses v.miss_found f
            (subst (Stands g.queue g.served g.next g.published s.homes id v.role) waits f.stands) (omega arith) (subst (DrewLast g.served v.turns v.ticket) waits f.drew)),
        λ u is. (λ hit. absurd (miss (hit ∙ cc (sym is ∙ waits))), λ _. ap (λ (z : Stage E). (with_look v found z, me.1)) (sym waits ∙ is)),
      )

  look_hit : (s : State (Option M) (View B E)) (r : Rule base_of history_of seat base seats s) (slots id : ℕ) (me : Me (Option M) (View B E)) (t : ℕ)
      → me.0.stage ≡ Waits t → get_elem? s.views id ≡ some me.0 → get_or s.words 1 0 ≡ t
      → IsKept base_of history_of base r.book.published s.homes s.views
      → MaySet base_of history_of seat base seats s id me 1 (get_or s.words 1 0) (Looks base_of history_of seat (step slots 1 0 0 none) me)
  look_hit s r slots id me t waits at hit (inl (m, home, has, based)) =
      let g : Book E = r.book in
      let v : View B E = me.0 in
      let found : ℕ = get_or s.words 1 0 in
      let e : found ≡ g.served = ap (λ (ws : List ℕ). get_or ws 1 0) r.words in
      let f = r.each id v at in
      let k = subst (Stands g.queue g.served g.next g.published s.homes id v.role) waits f.stands in
      let now : t ≡ g.served = sym hit ∙ e in
      let low = k.2 in
      let w : View B E = with_look v found (Holds (history_of m)) in
      let bare : set s.homes 0 none ≡ none ∷ [] = ap (λ (hs : List (Home (Option M))). set hs 0 none) home in (
        w,
        takes 0 (Some m),
        ap (λ (hs : List (Home (Option M))). get_elem? hs 0) home,
        subst (λ (ws : List ℕ). Rule base_of history_of seat base seats record { words = ws; homes = set s.homes 0 none; views = set s.views id w }) (sym (set-get_or s.words 1 0))
            (ruled base_of history_of seat base seats s r g.owner g.maker (set s.homes 0 none) (set s.views id w)
            (inr (id, w, history_of m, bare, set_here s.views id w (at_lt s.views id v at), refl))
            (queued_set g.queue g.served g.next s.views id v w at (λ u o. let mine : t ≡ u = subst (HasTicket g.served u) waits o in sym mine ∙ now) r.queued)
            (each_set (Fits seat base seats g (set s.homes 0 none)) s.views id w
            (fits_at seat base seats g s.homes (set s.homes 0 none) id v (Holds (history_of m)) (v.looks + 1) found v.misses v.miss_found f
            (ap g.queue (sym now) ∙ k.0, omega arith, k.3, has, bare) (omega arith) (subst (DrewLast g.served v.turns v.ticket) waits f.drew ∙ now))
            (λ j d _ there. let q = r.each j d there in
            fits_still seat base seats g s.homes (set s.homes 0 none) j g.queue g.owner g.turns g.next g.made g.maker d q q.number q.ended q.makes
            (away_stands g.queue g.served g.next g.published s.homes m j d.role d.stage home q.stands)))),
        λ u is. (λ _. takes_from_home g s.homes id me m found (with_look v found) f (sym has) based (omega (arith, r.short, e)), λ miss. absurd (miss (hit ∙ cc (sym waits ∙ is)))),
      )
  look_hit s r slots id me t waits at hit (inr (i, u, h, away, there, holds)) =
      let g : Book E = r.book in
      let v : View B E = me.0 in
      let e : get_or s.words 1 0 ≡ g.served = ap (λ (ws : List ℕ). get_or ws 1 0) r.words in
      let k = subst (Stands g.queue g.served g.next g.published s.homes id v.role) waits (r.each id v at).stands in
      let l = subst (Stands g.queue g.served g.next g.published s.homes i u.role) holds (r.each i u there).stands in
      let same : u ≡ v = same_at s.views i id u v there at (sym l.0 ∙ (ap g.queue (sym e ∙ hit) ∙ k.0)) in
      absurd (cc (sym holds ∙ (ap (λ (x : View B E). x.stage) same ∙ waits)))

  pub look_allowed : (slots id : ℕ) (me : Me (Option M) (View B E)) (t : ℕ) → me.0.stage ≡ Waits t
      → Allows (Rule base_of history_of seat base seats) slots id me 1 (λ x. x) (Looks base_of history_of seat (step slots 1 0 0 none) me)
  look_allowed slots id me t waits s r len at small = dite (ℕ_discrete (get_or s.words 1 0) t)
      (λ hit. look_hit s r slots id me t waits at hit r.kept)
      (λ miss. look_miss s r slots id me t waits at miss)

  pub free_look_allowed : (slots id : ℕ) (me : Me (Option M) (View B E)) → me.0.stage ≡ Idle
      → Allows (Rule base_of history_of seat base seats) slots id me 1 (λ x. x) (FreeLooks seat (step slots 1 0 0 none) me)
  free_look_allowed slots id me idle s r len at small =
      let g : Book E = r.book in
      let v : View B E = me.0 in
      let found : ℕ = get_or s.words 1 0 in
      let e : found ≡ g.served = ap (λ (ws : List ℕ). get_or ws 1 0) r.words in
      let f = r.each id v at in
      let fits = tickets_fit base_of history_of seat base seats s r in
      let ordered = r.ordered in (
        with_free_look v found,
        keeps,
        tt,
        unmoved base_of history_of seat base seats s r 1 id me.1 v (with_free_look v found) at (λ h x. cc (sym idle ∙ x)) (λ t o. o) record {
          based = f.based;
          sized = f.sized;
          seen = f.seen;
          told = (g.published, refl);
          number = f.number;
          ended = f.ended;
          agrees = f.agrees;
          makes = f.makes;
          stands = f.stands;
          look_found = omega arith;
          drew = f.drew;
        },
        record {
          now = refl;
          line = λ le. prefix_shorter v.told v.seen g.published f.told f.seen le;
          agrees = f.agrees;
          room = omega arith;
          served = is_served base_of history_of seat base seats s r id v found at idle (omega arith) (omega arith);
          entries = omega (arith, seen_served base_of history_of seat base seats s r id v at, e);
        },
      )
