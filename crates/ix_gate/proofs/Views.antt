-- What the rule says of all views, where one of them changes.
use Rattle.std.proofs.Common.{◌≡◌, ◌≢◌, ℕ, zero, suc, ◌+◌, ◌<◌, ◌≤◌, ◌⊎◌, List, [], ◌∷◌, ◌++◌, length, get_or, set, Option, None, Some, refl, ap, sym, ◌∙◌, subst}
use Rattle.std.proofs.Common.{⊎_elim, inl, inr, arith}
use Rattle.std.specs.Prelude.{Contains}
use mathlib.Core.Logic.{dite}
use mathlib.Core.Option.{Option as Home, some, some-injective}
use native.Mathlib.Decide.{ℕ_discrete}
use lib.ListN.{get_elem?}
use lib.Seq.{set-get_or}
use Rattle.atomic_table.{specs.Table.{State, Me, Act, Valid, keeps, stepped, carried_after}, proofs.Lists.{at_set, set_here, set_else, at_longer}}
use Rattle.ix_gate.specs.{declared.view.{View.View, Role.Role, Stage.{Stage, TheVariants.Holds}}, History.entries_of, View.{HasNumber, Agrees}}
use Rattle.ix_gate.specs.Rule.{Book, MayMake, HasTicket, DrewLast, IsQueued, Stands, Fits, IsKept, Obeys}
use Rattle.ix_gate.proofs.Counts.{total_turns_fit}

module _ {A : Type 0} where
  pub at_lt : (l : List A) (i : ℕ) (a : A) → get_elem? l i ≡ some a → i < length l
  at_lt [] i a e = absurd (cc e)
  at_lt (x ∷ xs) zero a e = omega arith
  at_lt (x ∷ xs) (suc i) a e = let lt = at_lt xs i a e in omega arith

  pub at_end : (l : List A) (a b : A) (j : ℕ) → get_elem? (l ++ a ∷ []) j ≡ some b → (get_elem? l j ≡ some b) ⊎ ((j ≡ length l) × (a ≡ b))
  at_end [] a b zero e = inr (refl, some-injective a b e)
  at_end [] a b (suc j) e = absurd (cc e)
  at_end (x ∷ xs) a b zero e = inl e
  at_end (x ∷ xs) a b (suc j) e = ⊎_elim (λ h. inl h) (λ (h : (j ≡ length xs) × (a ≡ b)). inr (ap suc h.0, h.1)) (at_end xs a b j e)

  -- what stands at one place is one item
  pub same_at : (l : List A) (i j : ℕ) (a b : A) → get_elem? l i ≡ some a → get_elem? l j ≡ some b → i ≡ j → a ≡ b
  same_at l i j a b p q e = some-injective a b (sym p ∙ (ap (get_elem? l) e ∙ q))

  -- what holds of each item still does, where one has changed
  pub each_set : (P : ℕ → A → Type 0) (l : List A) (i : ℕ) (a : A) → P i a → ((j : ℕ) (b : A) → j ≢ i → get_elem? l j ≡ some b → P j b) → (j : ℕ) (b : A) → get_elem? (set l i a) j ≡ some b → P j b
  each_set P l i a mine others j b e = ⊎_elim (λ (t : (j ≡ i) × (a ≡ b)). subst (λ (x : ℕ × A). P x.0 x.1) (λ k. (sym t.0 k, t.1 k)) mine)
      (λ (t : (j ≢ i) × (get_elem? l j ≡ some b)). others j b t.0 t.1) (at_set l i j a b e)

module _ {B E : Type 0} (queue : ℕ → ℕ) (served next : ℕ) where
  -- each ticket still has its seat, where a view keeps its ticket
  pub queued_set : (views : List (View B E)) (id : ℕ) (v w : View B E) → get_elem? views id ≡ some v
      → ((t : ℕ) → HasTicket served t v.stage → HasTicket served t w.stage) → IsQueued queue served next views → IsQueued queue served next (set views id w)
  queued_set views id v w at stays q t l h = let u = q t l h in dite (ℕ_discrete (queue t) id)
      (λ e. (
        w,
        ap (get_elem? (set views id w)) e ∙ set_here views id w (at_lt views id v at),
        stays t (subst (λ (z : View B E). HasTicket served t z.stage) (same_at views (queue t) id u.0 v u.1 at e) u.2),
      ))
      (λ ne. (u.0, set_else views id (queue t) w ne ∙ u.1, u.2))

  -- or a view comes
  pub queued_more : (views : List (View B E)) (w : View B E) → IsQueued queue served next views → IsQueued queue served next (views ++ w ∷ [])
  queued_more views w q t l h = let u = q t l h in (u.0, at_longer views (w ∷ []) (queue t) u.0 u.1, u.2)

module _ {M B E : Type 0} (base_of : M → B) (history_of : M → List E) (base : B) (published : List E) (homes : List (Home (Option M))) where
  -- the machine is still at home or with its holder, where a view changes that holds no turn
  pub kept_set : (views : List (View B E)) (id : ℕ) (v w : View B E) → get_elem? views id ≡ some v → ((h : List E) → v.stage ≡ Holds h → ⊥)
      → IsKept base_of history_of base published homes views → IsKept base_of history_of base published homes (set views id w)
  kept_set views id v w at free (inl m) = inl m
  kept_set views id v w at free (inr (i, u, h, away, there, holds)) =
      inr (i, u, h, away, set_else views id i w (λ e. free h (ap (λ (x : View B E). x.stage) (same_at views id i v u at there (sym e)) ∙ holds)) ∙ there, holds)

  -- or a view comes
  pub kept_more : (views : List (View B E)) (w : View B E) → IsKept base_of history_of base published homes views → IsKept base_of history_of base published homes (views ++ w ∷ [])
  kept_more views w (inl m) = inl m
  kept_more views w (inr (i, u, h, away, there, holds)) = inr (i, u, h, away, at_longer views (w ∷ []) i u there, holds)

-- a view with a base knows how many seats there are
pub seats_known : {B : Type 0} (known : Option B) (mine seats : ℕ) (b : B) → (known ≡ None) ⊎ (mine ≡ seats) → known ≡ Some b → seats ≡ mine
seats_known known mine seats b (inl e) is = absurd (cc (sym e ∙ is))
seats_known known mine seats b (inr e) is = sym e

module _ {M B E : Type 0} (seat : E → ℕ) (base : B) (seats : ℕ) (g : Book E) (homes homes' : List (Home (Option M))) (i : ℕ) where
  -- what the rule says of a view holds of one at place j of another role, stage, turns and looks, with what the book says of numbers and tickets
  pub refits : (j : ℕ) (queue owner turns : ℕ → ℕ) (next made maker : ℕ) (v : View B E) (r : Role) (st : Stage E) (drawn ticket looks found misses missed : ℕ) → Fits seat base seats g homes i v
      → ((n : ℕ) → HasNumber r n → (owner n ≡ j) × (n < made) × (turns n ≡ drawn) × (entries_of seat n g.published ≡ v.own))
      → ((n : ℕ) (es : List E) → Contains v.ended (n, es) → (owner n ≡ j) × (n < made) × (entries_of seat n g.published ≡ es) × ¬ HasNumber r n)
      → Agrees seat (record v { role = r }) v.seen → MayMake made maker j r → Stands queue g.served next g.published homes' j r st → found ≤ g.served → DrewLast g.served drawn ticket st
      → Fits seat base seats (record g { next = next; made = made; queue = queue; owner = owner; turns = turns; maker = maker }) homes' j
      record v { role = r; stage = st; turns = drawn; ticket = ticket; looks = looks; look_found = found; misses = misses; miss_found = missed }
  refits j queue owner turns next made maker v r st drawn ticket looks found misses missed f number ended agrees makes stands low drew = record {
    based = f.based;
    sized = f.sized;
    seen = f.seen;
    told = f.told;
    number = number;
    ended = ended;
    agrees = agrees;
    makes = makes;
    stands = stands;
    look_found = low;
    drew = drew;
  }

  -- a view at another stage, after other looks and misses
  pub fits_at : (v : View B E) (st : Stage E) (looks found misses missed : ℕ) → Fits seat base seats g homes i v
      → Stands g.queue g.served g.next g.published homes' i v.role st → found ≤ g.served → DrewLast g.served v.turns v.ticket st
      → Fits seat base seats g homes' i record v { stage = st; looks = looks; look_found = found; misses = misses; miss_found = missed }
  fits_at v st looks found misses missed f stands low drew =
      refits i g.queue g.owner g.turns g.next g.made g.maker v v.role st v.turns v.ticket looks found misses missed f f.number f.ended f.agrees f.makes stands low drew

  -- a view that has not changed, where the book has
  pub fits_still : (queue owner turns : ℕ → ℕ) (next made maker : ℕ) (v : View B E) → Fits seat base seats g homes i v
      → ((n : ℕ) → HasNumber v.role n → (owner n ≡ i) × (n < made) × (turns n ≡ v.turns) × (entries_of seat n g.published ≡ v.own))
      → ((n : ℕ) (es : List E) → Contains v.ended (n, es) → (owner n ≡ i) × (n < made) × (entries_of seat n g.published ≡ es) × ¬ HasNumber v.role n)
      → MayMake made maker i v.role → Stands queue g.served next g.published homes' i v.role v.stage
      → Fits seat base seats (record g { next = next; made = made; queue = queue; owner = owner; turns = turns; maker = maker }) homes' i v
  fits_still queue owner turns next made maker v f number ended makes stands =
      refits i queue owner turns next made maker v v.role v.stage v.turns v.ticket v.looks v.look_found v.misses v.miss_found f number ended f.agrees makes stands f.look_found f.drew

module _ {M B E : Type 0} (base_of : M → B) (history_of : M → List E) (seat : E → ℕ) (base : B) (seats : ℕ) where
  -- the rule of the table of this gate
  abbrev pub Rule : State (Option M) (View B E) → Type 0
  Rule = Obeys base_of history_of seat base seats

  -- the next ticket fits a word
  pub tickets_fit : (s : State (Option M) (View B E)) (r : Rule s) → r.book.next + 1 < 18446744073709551616
  tickets_fit s r =
      let few = r.few_seats in
      let fits = total_turns_fit r.book.turns r.book.made r.few_turns (omega arith) in
      let counted = r.counted in
      omega arith

  -- the published history agrees with what each seat knows
  pub agrees_published : (g : Book E) (homes : List (Home (Option M))) (i : ℕ) (v : View B E) → Fits seat base seats g homes i v → Agrees seat v g.published
  agrees_published g homes i v f = (λ n o. (f.number n o).3, λ n es o. (f.ended n es o).2)

  -- the seat may make a step that finds the word i and leaves x there
  abbrev pub MaySet : State (Option M) (View B E) → ℕ → Me (Option M) (View B E) → ℕ → ℕ → (ℕ → Me (Option M) (View B E) → Type 0) → Type 0
  MaySet s id me i x then = (w : View B E) × (a : Act (Option M)) × Valid s.homes me.1 a × Rule (stepped s i x id me.1 w a) × then (get_or s.words i 0) (w, carried_after me.1 a)

  -- the rule, where no word has changed
  pub ruled : (s : State (Option M) (View B E)) (r : Rule s) (owner : ℕ → ℕ) (maker : ℕ) (homes : List (Home (Option M))) (views : List (View B E))
      → IsKept base_of history_of base r.book.published homes views → IsQueued r.book.queue r.book.served r.book.next views
      → ((i : ℕ) (v : View B E) → get_elem? views i ≡ some v → Fits seat base seats (record (r.book) { owner = owner; maker = maker }) homes i v)
      → Rule record { words = s.words; homes = homes; views = views }
  ruled s r owner maker homes views kept queued each = record {
    book = record (r.book) { owner = owner; maker = maker };
    words = r.words;
    ordered = r.ordered;
    counted = r.counted;
    few_turns = r.few_turns;
    few_seats = r.few_seats;
    short = r.short;
    unmade = r.unmade;
    kept = kept;
    queued = queued;
    each = each;
  }

  -- a step that changes one view, and no word and no slot
  pub unmoved : (s : State (Option M) (View B E)) (r : Rule s) (i id : ℕ) (c : List (ℕ × Option M)) (v w : View B E) → get_elem? s.views id ≡ some v → ((h : List E) → v.stage ≡ Holds h → ⊥)
      → ((t : ℕ) → HasTicket r.book.served t v.stage → HasTicket r.book.served t w.stage) → Fits seat base seats r.book s.homes id w → Rule (stepped s i (get_or s.words i 0) id c w keeps)
  unmoved s r i id c v w at free stays mine = subst (λ (ws : List ℕ). Rule record { words = ws; homes = s.homes; views = set s.views id w }) (sym (set-get_or s.words i 0))
      (ruled s r r.book.owner r.book.maker s.homes (set s.views id w) (kept_set base_of history_of base r.book.published s.homes s.views id v w at free r.kept)
      (queued_set r.book.queue r.book.served r.book.next s.views id v w at stays r.queued)
      (each_set (Fits seat base seats r.book s.homes) s.views id w mine (λ j d _ there. r.each j d there)))
