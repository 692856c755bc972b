-- What is left of what a line, and a lane, asks for, as calls are answered.
use Rattle.std.proofs.Common.{◌≡◌, ℕ, ◌+◌, ◌-◌, ◌≤◌, ◌<◌, Bool, true, false, List, [], ◌∷◌, ◌++◌, length, take, Option, Some, None, refl, sym, ap, ◌∙◌, subst}
use Rattle.std.proofs.Common.{arith, slice_get, cond, count_by, ◌⊎◌, ⊎_elim, true≢false}
use Rattle.std.proofs.lemmas.List.Sums.{sum_by-append}
use Rattle.ix_policy.specs.declared.rule.Rule.{Rule}
use Rattle.ix_asking.{specs.Asking.{Answered, Asked, Asking, Ask, IsDue, Next, Came, Due, came_as, first, followed, heard, mapped}, specs.Runs.StopsAt}
use Rattle.ix_asking.{specs.declared.copying.Copying.Copying, specs.declared.stop.Stop.Stop, proofs.Every.AllOf}
use Rattle.ix_asking.specs.Asking as asking
use Rattle.ix_script.specs.{lines.{Roles.role_of, Before.is_phase}, declared.{line.{Line.Line, FdWord.FdWord}, schedule.Stretch.Stretch}}
use Rattle.ix_script.specs.scripts.Schedule.{is_seat}
use Rattle.ix_script.specs.declared.line.Line.TheVariants as line
use Rattle.ix_script.specs.declared.role.Role.TheVariants as role
use Rattle.ix_lanes.specs.{asking.Asked.{Names, Numbers, asked, named, no_names}, asking.Handing.handed_in, asking.Ruled.rules_told}
use Rattle.ix_lanes.specs.{asking.LineAsks.{OfLine, line_asks, lines_ask, one_call}, declared.{asking.handed.Handed.Handed, running.part.Part.Part}}
use Rattle.ix_lanes.specs.histories.{History.phase_of, Indexed.line_in, Lanes.lane_asks, Serial.header_of}
use Rattle.ix_lanes.specs.running.{Phases.{lane_between, seat_at}, Stretches.IsAmong}
use Rattle.ix_lanes.specs.declared.asking.handed.Handed.TheVariants as handed
use Rattle.ix_lanes.specs.declared.running.part.Part.TheVariants as part
use Rattle.ix_lanes.specs.running.Left.{Holds, IsHeard, IsHere, IsPending, LaneLeft, asks_left, is_done, is_over, left_from, most_from, names_done, next_phase}
use Rattle.ix_lanes.specs.running.Left.{part_left, place_of}
use Rattle.ix_lanes.proofs.{found.Roles.{line-is, line-there}, serially.LineCalls.all-numbered}
use Rattle.ix_lanes.proofs.phased.{Between.{between_all, between_both, between_more, between_none}, LaneLines.{mine, mine-here, mine-not, one_more}}

-- ---- what asks

pub mapped_heard : {A B : Type 0} (f : A → B) (p : Asking A) (a : Answered) → heard (mapped f p) a ≡ mapped f (heard p a)
mapped_heard f (asking.Done r) a = refl
mapped_heard f (Ask x later) a = refl

pub mapped_due : {A B : Type 0} (f : A → B) (p : Asking A) → IsDue (first p) → IsDue (first (mapped f p))
mapped_due f (asking.Done r) h = absurd h
mapped_due f (Ask a later) h = tt

pub followed_heard : {A B : Type 0} (more : A → Asking B) (p : Asking A) (a : Answered) → IsDue (first p) → heard (followed p more) a ≡ followed (heard p a) more
followed_heard more (asking.Done r) a h = absurd h
followed_heard more (Ask x later) a h = refl

pub followed_next : {A B : Type 0} (more : A → Asking B) (p : Asking A) (a : Asked) → first p ≡ Due a → first (followed p more) ≡ Due a
followed_next more (asking.Done r) a h = cc
followed_next more (Ask x later) a h = let same : x ≡ a = cc in ap Due same

pub came_done : (p : Asking Names) → came_as (λ names. tt {0}) (first p) ≡ Came (tt {0}) → (first p ≡ Came (names_done p)) × (is_done p ≡ true)
came_done (asking.Done names) h = (refl, refl)
came_done (Ask a later) h = cc

pub stops_due : (p : Asking Names) (stop : Stop) → StopsAt (came_as (λ names. tt {0}) (first p)) stop → StopsAt (first p) stop × (is_done p ≡ false)
stops_due (asking.Done names) stop h = absurd h
stops_due (Ask a later) stop h = (h, refl)

-- ---- a line
-- what commands ask for
pub one_due : (header : Numbers) (names : Names) (n : ℕ) (l : Line) → (role_of l ≡ role.Command) ⊎ (role_of l ≡ role.Naming)
    → ((proc : List ℕ) (from to : FdWord) (count : ℕ) → l ≡ line.Copy proc from to count → ⊥) → IsDue (first (one_call (asked header names n l)))
unfolding role_of asked
one_due header names n line.Skipped is no_copy = ⊎_elim (λ h. cc) (λ h. cc) is
one_due header names n (line.Version form) is no_copy = ⊎_elim (λ h. cc) (λ h. cc) is
one_due header names n (line.Limit w k) is no_copy = ⊎_elim (λ h. cc) (λ h. cc) is
one_due header names n (line.Fs name ceiling blocks inodes) is no_copy = ⊎_elim (λ h. cc) (λ h. cc) is
one_due header names n (line.Proc name label ceiling cap lic) is no_copy = ⊎_elim (λ h. cc) (λ h. cc) is
one_due header names n (line.Dir path label frozen) is no_copy = ⊎_elim (λ h. cc) (λ h. cc) is
one_due header names n (line.File path label frozen cap lic bytes) is no_copy = ⊎_elim (λ h. cc) (λ h. cc) is
one_due header names n (line.Policy text) is no_copy = ⊎_elim (λ h. cc) (λ h. cc) is
one_due header names n line.Phase is no_copy = ⊎_elim (λ h. cc) (λ h. cc) is
one_due header names n (line.Lane name) is no_copy = ⊎_elim (λ h. cc) (λ h. cc) is
one_due header names n (line.Copy proc from to count) is no_copy = absurd (no_copy proc from to count refl)
one_due header names n (line.Priv proc fd) is no_copy = ⊎_elim (λ h. cc) (λ h. cc) is
one_due header names n (line.Login proc fd hand named) is no_copy = ⊎_elim (λ h. cc) (λ h. cc) is
one_due header names n _ is no_copy = tt

pub command_heard : (o : Option Asked) (a : Answered) → IsDue (first (one_call o)) → heard (one_call o) a ≡ asking.Done (handed_in a.reply)
command_heard None a due = absurd due
command_heard (Some x) a due = refl

-- other lines ask for none, but for those that servers serve
pub none_asked : (rules : Option (List Rule)) (header : Numbers) (names : Names) (n : ℕ) (l : Line)
    → (role_of l ≡ role.Command → ⊥) → (role_of l ≡ role.Naming → ⊥) → ((proc : List ℕ) (fd : FdWord) → l ≡ line.Priv proc fd → ⊥)
    → ((proc : List ℕ) (fd hand : FdWord) (q : Option (List ℕ)) → l ≡ line.Login proc fd hand q → ⊥)
    → line_asks rules header names n l ≡ asking.Done handed.Nothing
unfolding role_of line_asks asked
none_asked rules header names n line.Skipped no_command no_naming no_priv no_login = refl
none_asked rules header names n (line.Version form) no_command no_naming no_priv no_login = refl
none_asked rules header names n (line.Limit w k) no_command no_naming no_priv no_login = refl
none_asked rules header names n (line.Fs name ceiling blocks inodes) no_command no_naming no_priv no_login = refl
none_asked rules header names n (line.Proc name label ceiling cap lic) no_command no_naming no_priv no_login = refl
none_asked rules header names n (line.Dir path label frozen) no_command no_naming no_priv no_login = refl
none_asked rules header names n (line.File path label frozen cap lic bytes) no_command no_naming no_priv no_login = refl
none_asked rules header names n (line.Policy text) no_command no_naming no_priv no_login = refl
none_asked rules header names n line.Phase no_command no_naming no_priv no_login = refl
none_asked rules header names n (line.Lane name) no_command no_naming no_priv no_login = refl
none_asked rules header names n (line.Open proc path mode named) no_command no_naming no_priv no_login = absurd (no_naming refl)
none_asked rules header names n (line.Dup proc fd named) no_command no_naming no_priv no_login = absurd (no_naming refl)
none_asked rules header names n (line.Pipe proc named) no_command no_naming no_priv no_login = absurd (no_naming refl)
none_asked rules header names n (line.Fork proc keep named) no_command no_naming no_priv no_login = absurd (no_naming refl)
none_asked rules header names n (line.Priv proc fd) no_command no_naming no_priv no_login = absurd (no_priv proc fd refl)
none_asked rules header names n (line.Login proc fd hand named) no_command no_naming no_priv no_login = absurd (no_login proc fd hand named refl)
none_asked rules header names n _ no_command no_naming no_priv no_login = absurd (no_command refl)

-- a line that asks for a call begins no phase
pub due_apart : (rules : Option (List Rule)) (header : Numbers) (names : Names) (n : ℕ) (l : Line) → IsDue (first (line_asks rules header names n l)) → is_phase l ≡ false
unfolding line_asks asked
due_apart rules header names n line.Phase due = absurd due
due_apart rules header names n _ due = refl

-- ---- where a lane stands
pub due_here : (header : Numbers) (names : Names) (n : ℕ) (l : Line) (c : Copying) (p : Part) → IsDue (first (part_left header names n l c p)) → is_over p ≡ false
due_here header names n l c part.Over due = absurd due
due_here header names n l c _ due = refl

pub here_due : (header : Numbers) (names : Names) (n : ℕ) (l : Line) (c : Copying) (p : Part) → is_over p ≡ false → IsPending p (part_left header names n l c p)
    → IsDue (first (part_left header names n l c p))
here_due header names n l c part.Over is due = cc
here_due header names n l c (part.Command k) is due = due
here_due header names n l c part.Copy is due = due
here_due header names n l c (part.Priv s) is due = due
here_due header names n l c (part.Login s) is due = due

pub pending_due : (header : Numbers) (names : Names) (n : ℕ) (l : Line) (c : Copying) (p : Part) → IsDue (first (part_left header names n l c p))
    → IsPending p (part_left header names n l c p)
pending_due header names n l c part.Over due = tt
pending_due header names n l c (part.Command k) due = due
pending_due header names n l c part.Copy due = due
pending_due header names n l c (part.Priv s) due = due
pending_due header names n l c (part.Login s) due = due

-- a call of the line that stands first
pub not_over : (p : Part) → (p ≡ part.Over → ⊥) → is_over p ≡ false
not_over part.Over other = absurd (other refl)
not_over _ other = refl

-- ---- the lines of a lane from an index on
module _ (s : List Line) (seat : ℕ) where
  between_first : (i j : ℕ) (l : Line) → slice_get s i ≡ Some l → i < j → j ≤ length s
      → lane_between s seat i j ≡ mine seat (i + 1) (seat_at s (take i s)) l ++ lane_between s seat (i + 1) j
  between_first i j l at low within =
      between_both s seat i (i + 1) j (omega arith) (omega (arith, low)) within
      ∙ ap (λ ls. ls ++ lane_between s seat (i + 1) j)
      (between_more s seat i i l (omega arith) at ∙ ap (λ ls. ls ++ mine seat (i + 1) (seat_at s (take i s)) l) (between_none s seat i (omega (arith, low, within))))

  -- one of the lane, and one of no lane or of another
  pub between_here : (i j : ℕ) (l : Line) → slice_get s i ≡ Some l → i < j → j ≤ length s → is_seat seat (seat_at s (take i s)) ≡ true
      → lane_between s seat i j ≡ (record { number = i + 1; said = l }) ∷ lane_between s seat (i + 1) j
  between_here i j l at low within is =
      between_first i j l at low within ∙ ap (λ ls. ls ++ lane_between s seat (i + 1) j) (mine-here seat (i + 1) (seat_at s (take i s)) l is)

  pub between_not : (i j : ℕ) (l : Line) → slice_get s i ≡ Some l → i < j → j ≤ length s → is_seat seat (seat_at s (take i s)) ≡ false
      → lane_between s seat i j ≡ lane_between s seat (i + 1) j
  between_not i j l at low within is =
      between_first i j l at low within ∙ ap (λ ls. ls ++ lane_between s seat (i + 1) j) (mine-not seat (i + 1) (seat_at s (take i s)) l is)

-- one line more among those that begin phases
pub begun_more : (s : List Line) (i : ℕ) (l : Line) → slice_get s i ≡ Some l → count_by is_phase (take (i + 1) s) ≡ count_by is_phase (take i s) + cond (is_phase l) 1 0
begun_more s i l at =
    ap (count_by is_phase) (one_more s i l at) ∙ sum_by-append (λ x. cond (is_phase x) 1 0) (take i s) (l ∷ [])
    ∙ (let none : 0 + cond (is_phase l) 1 0 ≡ cond (is_phase l) 1 0 = omega arith in ap (λ n. count_by is_phase (take i s) + n) none)

-- ---- a lane that comes to a line
module _ (s : List Line) (seat end at : ℕ) (rules : Option (List Rule)) (header : Numbers) (names : Names) (l : Line) (told : rules ≡ rules_told s) (tables : header ≡ header_of s)
    (low : at < end) (within : end ≤ length s) (there : slice_get s at ≡ Some l) (is : is_seat seat (seat_at s (take at s)) ≡ true) where
  abbrev left_there : Asking Names
  left_there = lines_ask (rules_told s) (header_of s) names (lane_between s seat at end)

  left_is : left_there ≡ followed (line_asks rules header names (at + 1) l) (λ g. lines_ask (rules_told s) (header_of s) (named names l g) (lane_between s seat (at + 1) end))
  left_is =
      ap (lines_ask (rules_told s) (header_of s) names) (between_here s seat at end l there low within is)
      ∙ (λ i. followed (line_asks (sym told i) (sym tables i) names (at + 1) l) (λ g. lines_ask (rules_told s) (header_of s) (named names l g) (lane_between s seat (at + 1) end)))

  -- which asks for nothing
  pub line_skipped : line_asks rules header names (at + 1) l ≡ asking.Done handed.Nothing
      → left_there ≡ lines_ask (rules_told s) (header_of s) (named names l handed.Nothing) (lane_between s seat (at + 1) end)
  line_skipped none = left_is ∙ ap (λ x. followed x (λ g. lines_ask (rules_told s) (header_of s) (named names l g) (lane_between s seat (at + 1) end))) none

  module _ (buf : List ℕ) (c : Copying) (p : Part) (asks : part_left header names (at + 1) l c p ≡ line_asks rules header names (at + 1) l)
      (pending : IsPending p (part_left header names (at + 1) l c p)) (holds : Holds l buf p) (apart : is_over p ≡ false → is_phase l ≡ false) (not : is_over p ≡ false) where
    -- which asks for a call
    pub line_begun : left_from s seat end at names l c p ≡ left_there
    line_begun =
        rw not (λ i. followed (part_left (sym tables i) names (at + 1) l c p) (λ g. lines_ask (rules_told s) (header_of s) (named names l g) (lane_between s seat (at + 1) end)))
        ∙ ap (λ x. followed x (λ g. lines_ask (rules_told s) (header_of s) (named names l g) (lane_between s seat (at + 1) end))) asks
        ∙ sym left_is

    pub here_begun : (t : Stretch) (come : ℕ) → IsAmong s seat at t come → at < t.end → IsHere s seat end at t come names l buf c p
    here_begun t come among inside = record {
      within = (omega (arith, low), within);
      among = among;
      over = λ over. absurd (true≢false (sym over ∙ not));
      mine = λ x. (low, inside);
      line = λ x. line-is s at l there;
      apart = apart;
      numbered = subst (λ (h : Numbers). AllOf (OfLine (at + 1)) (part_left h names (at + 1) l c p)) tables
          (subst (AllOf (OfLine (at + 1))) (sym asks) (all-numbered rules header names (at + 1) l));
      pending = subst (λ (h : Numbers). IsPending p (part_left h names (at + 1) l c p)) tables pending;
      holds = holds;
    }

-- a lane with a call left stands in a line
pub due_left : (s : List Line) (seat end at : ℕ) (names : Names) (l : Line) (c : Copying) (p : Part) → IsDue (first (left_from s seat end at names l c p)) → is_over p ≡ false
due_left s seat end at names l c p due = go (is_over p) refl
  where
    go : (b : Bool) → is_over p ≡ b → is_over p ≡ false
    go true is = absurd (rw is at due)
    go false is = is

-- ---- a lane that stands in a line
-- the next call is of that number
pub due_number : {R : Type 0} (n : ℕ) (p : Asking R) → AllOf (OfLine n) p → IsDue (first p) → (a : Asked) × (first p ≡ Due a) × (a.line ≡ n)
due_number n (asking.Done r) all due = absurd due
due_number n (Ask a later) all due = (a, refl, all.0)

pub numbered_on : {R : Type 0} (n : ℕ) (p : Asking R) (a : Answered) → AllOf (OfLine n) p → AllOf (OfLine n) (heard p a)
numbered_on n (asking.Done r) a all = tt
numbered_on n (Ask x later) a all = all.1 a

module _ (s : List Line) (seat end at : ℕ) (t : Stretch) (come : ℕ) (names : Names) (l : Line) (buf : List ℕ) (c : Copying) (p : Part) (h : IsHere s seat end at t come names l buf c p) where
  -- the line is that of the script
  pub line_left : left_from s seat end at names (line_in s at) c p ≡ left_from s seat end at names l c p
  line_left = go (is_over p) refl
    where
      go : (b : Bool) → is_over p ≡ b → left_from s seat end at names (line_in s at) c p ≡ left_from s seat end at names l c p
      go true is = rw is refl
      go false is = ap (λ x. left_from s seat end at names x c p) (sym (h.line is))

  pub here_pending : is_over p ≡ false → IsDue (first (part_left (header_of s) names (at + 1) l c p))
  here_pending is = here_due (header_of s) names (at + 1) l c p is h.pending

  abbrev pub later_lines : Handed → Asking Names
  later_lines g = lines_ask (rules_told s) (header_of s) (named names l g) (lane_between s seat (at + 1) end)

  pub left_in : is_over p ≡ false → left_from s seat end at names l c p ≡ followed (part_left (header_of s) names (at + 1) l c p) later_lines
  left_in is = rw is refl

  -- the phase of the next call
  pub phase_here : is_over p ≡ false → next_phase s (first (left_from s seat end at names l c p)) ≡ Some t.phase
  unfolding phase_of
  phase_here is =
      let due = due_number (at + 1) (part_left (header_of s) names (at + 1) l c p) h.numbered (here_pending is) in
      let low = (h.mine is).0 in
      let within = h.within in
      let there = line-there s at (omega (arith, low, within.1)) ∙ ap Some (sym (h.line is)) in
      let more : count_by is_phase (take (at + 1) s) ≡ count_by is_phase (take at s) + 0 = begun_more s at l there ∙ ap (λ b. count_by is_phase (take at s) + cond b 1 0) (h.apart is) in
      let phase = h.among.phase (h.mine is).1 in
      let same : count_by is_phase (take (at + 1) s) - 1 ≡ t.phase = omega (arith, more, phase) in
      ap (λ q. next_phase s (first q)) (left_in is) ∙ ap (next_phase s) (followed_next later_lines (part_left (header_of s) names (at + 1) l c p) due.0 due.1)
      ∙ ap (λ n. Some (count_by is_phase (take n s) - 1)) due.2 ∙ ap Some same

  module _ (d : Copying) (q : Part) (a : Answered) where
    -- a line that asks on
    pub asks_on : is_over p ≡ false → IsHeard (header_of s) names (at + 1) l c p d q a None
        → (left_from s seat end at names l d q ≡ heard (left_from s seat end at names l c p) a) × IsHere s seat end at t come names l buf d q
        × (most_from end at d q < most_from end at c p)
    asks_on is k =
        let not_over = due_here (header_of s) names (at + 1) l d q k.1 in (
          rw not_over (ap (λ x. followed x later_lines) k.0)
              ∙ sym (ap (λ x. heard x a) (left_in is) ∙ followed_heard later_lines (part_left (header_of s) names (at + 1) l c p) a (here_pending is)),
          record {
            within = h.within;
            among = h.among;
            over = λ x. absurd (true≢false (sym x ∙ not_over));
            mine = λ x. h.mine is;
            line = λ x. h.line is;
            apart = λ x. h.apart is;
            numbered = subst (AllOf (OfLine (at + 1))) (sym k.0) (numbered_on (at + 1) (part_left (header_of s) names (at + 1) l c p) a h.numbered);
            pending = pending_due (header_of s) names (at + 1) l d q k.1;
            holds = k.3 buf;
          },
          most_less,
        )
      where
        most_less : most_from end at d q < most_from end at c p
        most_less = let less = k.2 in let there = due_here (header_of s) names (at + 1) l d q k.1 in rw (is, there) (omega (arith, less))

-- ---- a whole lane
pub whole_asks : (l : LaneLeft) (s : List Line) (seat end : ℕ) → place_of l ≡ record { script = s; seat = seat; end = 0 } → asks_left l ≡ asking.Done no_names → end ≡ length s
    → lines_ask (rules_told l.script) (header_of l.script) (names_done (asks_left l)) (lane_between l.script l.seat l.end end) ≡ lane_asks s seat
unfolding lane_asks
whole_asks l s seat end place asks all =
    (λ i. lines_ask (rules_told (place i).script) (header_of (place i).script) (names_done (asks i)) (lane_between (place i).script (place i).seat (place i).end (all i)))
    ∙ ap (lines_ask (rules_told s) (header_of s) no_names) (between_all s seat)
