-- Lanes that are told by all that they ask for when they are answered so, in order, as the lanes of scripts are.
use Rattle.std.specs.Prelude.{◌≡◌, ℕ, ◌-◌, ◌≤◌, ◌<◌, nat_lt, Bool, true, List, [], ◌∷◌, ◌++◌, length, replicate, Option, Some, None}
use Rattle.std.specs.List.{list_all}
use Rattle.ix_judging.specs.Plan.{Plan}
use Rattle.ix_judging.specs.Lanes.{State, Calls, entries_of, never_falls, replies_from}

-- a machine, what lanes ask for, and what is printed
pub record Script (W E A T : Type 0) : Type 0 where
  pub answer : W → ℕ → E → A
  pub after : W → ℕ → E → W
  pub seat : E → ℕ
  pub phase : E → ℕ
  -- what the lane of a seat asks for, and how many calls a lane makes at most
  pub asked : ℕ → List A → Calls E
  pub most : ℕ
  pub head : T
  pub line : W → ℕ → E → T
  pub closing : W → ℕ → List T
  pub told : ℕ → T → Option ℕ
  pub same : T → T → Bool

-- the state of a lane is the list of the answers that it has had
abbrev pub plan_of : {W E A T : Type 0} → Script W E A T → Plan W E A (List A) T
plan_of s = record {
  answer = s.answer;
  after = s.after;
  seat = s.seat;
  phase = s.phase;
  first = λ k answers. (s.asked k answers).next;
  goes = λ k answers a. answers ++ a ∷ [];
  bound = λ answers. s.most - length answers;
  head = s.head;
  line = s.line;
  closing = s.closing;
  told = s.told;
  same = s.same;
}

module _ {E A : Type 0} (seat phase : E → ℕ) where
  -- What a lane of a seat asks for when it is answered so, in order: a call that it asks for is its next entry once there is an answer, and where it
  -- asks for none it stays so. Its calls have the lane's seat, their phases never fall, from a first one on, and there are at most so many.
  pub record IsLane (k low most : ℕ) (asked : List A → Calls E) : Type 0 where
    pub starts : (asked []).entries ≡ []
    pub makes : (answers : List A) (a : A) (e : E) → (asked answers).next ≡ Some e
        → (asked (answers ++ a ∷ [])).entries ≡ (asked answers).entries ++ e ∷ []
    pub stays : (answers : List A) (a : A) → (asked answers).next ≡ None → asked (answers ++ a ∷ []) ≡ asked answers
    pub seats : (answers : List A) (e : E) → (asked answers).next ≡ Some e → seat e ≡ k
    pub from : (answers : List A) (e : E) → (asked answers).next ≡ Some e → low ≤ phase e
    pub rises : (answers : List A) (a : A) (e f : E) → (asked answers).next ≡ Some e → (asked (answers ++ a ∷ [])).next ≡ Some f
        → phase e ≤ phase f
    pub few : (answers : List A) (e : E) → (asked answers).next ≡ Some e → length answers < most

module _ {W E A T : Type 0} (s : Script W E A T) (count : ℕ) where
  -- so many lanes begin
  abbrev pub opened : W → State W (List A)
  opened w = record { lanes = replicate count []; world = w; place = 1 }

  -- what must hold of a script
  pub record IsScript : Type 0 where
    pub lanes : (k : ℕ) → IsLane s.seat s.phase k 0 s.most (s.asked k)
    pub names : (w : W) (place : ℕ) (e : E) → s.seat e < count → s.told place (s.line w place e) ≡ Some (s.seat e)
    pub equal : (x y : T) → s.same x y ≡ true → x ≡ y
    pub alike : (x : T) → s.same x x ≡ true

  -- Each seat is the number of a lane, each lane's entries are those that it asks for when it is answered as in the run, no lane asks for a further
  -- call, and the phases never fall.
  pub record IsHistory (w : W) (events : List E) : Type 0 where
    pub seats : list_all (λ e. nat_lt (s.seat e) count) events ≡ true
    pub calls : (k : ℕ) → k < count
        → s.asked k (replies_from (plan_of s) w 1 k events) ≡ record { entries = entries_of (plan_of s) k events; next = None }
    pub order : never_falls (plan_of s) events ≡ true
