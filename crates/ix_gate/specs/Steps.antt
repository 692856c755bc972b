-- What each kind of step tells its seat: of the step, the seat before, the number found, and the seat after.
use Rattle.std.specs.Prelude.{◌≡◌, ◌≢◌, ℕ, ◌+◌, ◌<◌, ◌≤◌, ◌^◌, ◌⊎◌, List, [], ◌∷◌, length, Option, None, Some}
use mathlib.Core.List.{IsPrefix}
use Rattle.atomic_table.specs.Table.{Me, Step}
use Rattle.ix_gate.specs.declared.view.View.{View}
use Rattle.ix_gate.specs.declared.view.Role.TheVariants.{Next, Made}
use Rattle.ix_gate.specs.declared.view.Stage.{Stage}
use Rattle.ix_gate.specs.declared.view.Stage.TheVariants.{Waits, Holds}
use Rattle.ix_gate.specs.History.{KeepsEnded}
use Rattle.ix_gate.specs.View.{fresh, with_ticket, with_look, with_free_look, with_miss, with_turn, Agrees, IsServed}

module _ {M B E : Type 0} where
  -- the ticket is the number found, which will be served
  abbrev pub Draws : Step (Option M) → Me (Option M) (View B E) → ℕ → Me (Option M) (View B E) → Type 0
  Draws st m found n = (n ≡ (with_ticket m.0 found, m.1)) × IsServed m.0 found

  -- the number made is the one found
  abbrev pub MakesNumber : Step (Option M) → Me (Option M) (View B E) → ℕ → Me (Option M) (View B E) → Type 0
  MakesNumber st m found n = (k : ℕ) → m.0.role ≡ Next k → (found ≡ k) × (n ≡ (fresh m.0.seats m.0.base (Made k), m.1))

module _ {M B E : Type 0} (base : M → B) (history : M → List E) (seat : E → ℕ) where
  -- the machine was taken: it has the view's base, and its history begins with what was seen, has the known entries,
  -- and no more entries than turns were passed on
  pub record Takes (m n : Me (Option M) (View B E)) (found : ℕ) (next : Stage E → View B E) : Type 0 where
    pub machine : M
    pub now : n ≡ (next (Holds (history machine)), (0, Some machine) ∷ m.1)
    pub based : (m.0.base ≡ None) ⊎ (m.0.base ≡ Some (base machine))
    pub begins : IsPrefix m.0.seen (history machine)
    pub agrees : Agrees seat m.0 (history machine)
    pub entries : length (history machine) ≤ found

  -- where the number found is the seat's ticket, it takes the machine; else it waits on
  abbrev pub Looks : Step (Option M) → Me (Option M) (View B E) → ℕ → Me (Option M) (View B E) → Type 0
  Looks st m found n = (t : ℕ) → m.0.stage ≡ Waits t
      → (found ≡ t → Takes m n found (with_look m.0 found)) × (found ≢ t → n ≡ (with_look m.0 found (Waits t), m.1))

  -- Where the number found is the one that was asked for, this is a draw and the look that finds its ticket.
  -- Else it is a miss, which finds no less than the seat found served; at a gate of one seat that too is the number of its turns
  abbrev pub TriesDraw : Step (Option M) → Me (Option M) (View B E) → ℕ → Me (Option M) (View B E) → Type 0
  TriesDraw st m found n = (found ≡ st.first → Takes m n found (with_look (with_ticket m.0 found) found))
      × (found ≢ st.first → (n ≡ (with_miss m.0 found, m.1)) × (m.0.look_found ≤ found) × (m.0.seats ≡ 1 → (b : B) → m.0.base ≡ Some b → found ≡ m.0.turns))

module _ {M B E : Type 0} (history : M → List E) (seat : E → ℕ) where
  -- the history of the machine that was put back is seen, and the slot is at home
  abbrev pub PassesOn : Step (Option M) → Me (Option M) (View B E) → ℕ → Me (Option M) (View B E) → Type 0
  PassesOn st m found n = (x : M) → m.1 ≡ (0, Some x) ∷ []
      → (n ≡ (with_turn seat m.0 (history x), [])) × KeepsEnded seat m.0.ended (history x)

module _ {M B E : Type 0} (seat : E → ℕ) where
  -- What was told begins what was seen, and that has the known entries, and no more entries than turns were passed on.
  -- The next number fits a word
  pub record FreeLooks (st : Step (Option M)) (m : Me (Option M) (View B E)) (found : ℕ) (n : Me (Option M) (View B E)) : Type 0 where
    pub now : n ≡ (with_free_look m.0 found, m.1)
    pub line : length m.0.told ≤ length m.0.seen → IsPrefix m.0.told m.0.seen
    pub agrees : Agrees seat m.0 m.0.seen
    pub room : found + 1 < 2 ^ 64
    pub served : IsServed m.0 found
    pub entries : length m.0.seen ≤ found
