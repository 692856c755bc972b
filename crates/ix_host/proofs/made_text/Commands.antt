-- The commands of the generator: what each says, and that it has no fault in its lane.
use Rattle.std.proofs.Common.{◌≡◌, ℕ, suc, ◌+◌, ◌<◌, ◌≤◌, ◌%◌, ◌==◌, nat_le, true, false, not, cond, List, [], ◌∷◌, ◌++◌, length, replicate, Some, None, inl}
use Rattle.std.proofs.Common.{inr, refl, ap, ◌∙◌, arith}
use Rattle.std.specs.{Prelude.codes, List.{list_all, flat_map, count_by}}
use Rattle.std.proofs.lemmas.{Bool.{cases_Bool, lt-leb}, List.{append-nil, Sums.{fold-append, sum_by-append}}, Grind.flat_map-append}
use Rattle.ix_model.specs.declared.call.Mode.TheVariants as mode
use Rattle.ix_label.specs.declared.form.Form.{Form}
use Rattle.ix_text.specs.Bytes.{is_empty}
use Rattle.ix_model.specs.world.Paths.{path_from}
use Rattle.ix_script.specs.lines.{Before.{proc_name_told, proc_names, lane_after, lane_now, is_command, commands}, Said.line_of, Faults.line_fault}
use Rattle.ix_script.specs.declared.line.Line.{Line}
use Rattle.ix_script.specs.declared.line.Line.TheVariants as line
use Rattle.ix_script.specs.declared.line.FdWord.TheVariants as fd
use Rattle.ix_gen.specs.Generated.{line_at}
use Rattle.ix_host.proofs.made_text.Reading.{judging}

-- ---- lines before a command
-- the lane g has begun, the processes are a, b and c, and there are n commands
pub record Ready (before : List Line) (n : ℕ) : Type 0 where
  pub some : is_empty before ≡ false
  pub lane : lane_now before ≡ Some (codes "g")
  pub procs : proc_names before ≡ codes "a" ∷ codes "b" ∷ codes "c" ∷ []
  pub number : commands before ≡ n

-- a text, without its line feed, that is a command of one of them
pub record IsCommand (text : List ℕ) (l : Line) : Type 0 where
  pub means : (labels : Form) → line_of labels text ≡ Some l
  pub short : length text ≤ 14
  pub plain : list_all (λ b. not (b == 10)) text ≡ true
  pub names : proc_name_told l ≡ []
  pub lane : lane_after (Some (codes "g")) l ≡ Some (codes "g")
  pub command : is_command l ≡ true
  pub sound : (before : List Line) (n : ℕ) → Ready before n → n < 200000 → line_fault before text ≡ None

-- ---- one command more
some_push : (xs : List Line) (x : Line) → is_empty (xs ++ x ∷ []) ≡ false
some_push [] x = refl
some_push (y ∷ xs) x = refl

lane_push : (xs : List Line) (x : Line) → lane_now (xs ++ x ∷ []) ≡ lane_after (lane_now xs) x
unfolding lane_now
lane_push xs x = fold-append lane_after None xs (x ∷ [])

names_push : (xs : List Line) (x : Line) → proc_names (xs ++ x ∷ []) ≡ proc_names xs ++ proc_name_told x
unfolding proc_names
names_push xs x = flat_map-append proc_name_told xs (x ∷ []) ∙ ap (λ ys. flat_map proc_name_told xs ++ ys) (append-nil (proc_name_told x))

commands_push : (xs : List Line) (x : Line) → is_command x ≡ true → commands (xs ++ x ∷ []) ≡ suc (commands xs)
unfolding commands
commands_push xs x h =
    let e : count_by is_command (xs ++ x ∷ []) ≡ count_by is_command xs + (0 + cond (is_command x) 1 0) = sum_by-append (λ l. cond (is_command l) 1 0) xs (x ∷ []) in
    let one : cond {A = ℕ} (is_command x) 1 0 ≡ 1 = ap (λ b. cond {A = ℕ} b 1 0) h in
    omega (arith, e, one)

pub ready_next : (before : List Line) (n : ℕ) (text : List ℕ) (l : Line) → Ready before n → IsCommand text l → Ready (before ++ l ∷ []) (suc n)
ready_next before n text l r k = record {
  some = some_push before l;
  lane = lane_push before l ∙ ap (λ o. lane_after o l) r.lane ∙ k.lane;
  procs = names_push before l ∙ ap (λ names. names ++ proc_name_told l) r.procs ∙ ap (λ names. codes "a" ∷ codes "b" ∷ codes "c" ∷ names) k.names;
  number = commands_push before l k.command ∙ ap suc r.number;
}

-- ---- the nine commands
room : (before : List Line) (n : ℕ) → Ready before n → n < 200000 → nat_le 200000 (commands before) ≡ false
room before n r h = lt-leb 200000 (commands before) (omega (arith, r.number))

commanded : {text : List ℕ} {l : Line} → ((labels : Form) → line_of labels text ≡ Some l) → length text ≤ 14 → list_all (λ b. not (b == 10)) text ≡ true
    → proc_name_told l ≡ [] → lane_after (Some (codes "g")) l ≡ Some (codes "g") → is_command l ≡ true
    → ((before : List Line) (n : ℕ) → Ready before n → n < 200000 → line_fault before text ≡ None) → IsCommand text l
commanded means short plain names lane command sound = record { means = means; short = short; plain = plain; names = names; lane = lane; command = command; sound = sound }

pub opens_a : IsCommand (codes "open a /x rw") (line.Open (codes "a") (path_from true (codes "x")) mode.Both None)
unfolding judging
opens_a = commanded (λ labels. refl) (omega arith) refl refl refl refl (λ before n r h. rw (r.some, r.lane, r.procs, room before n r h) refl)

pub opens_b : IsCommand (codes "open b /y r") (line.Open (codes "b") (path_from true (codes "y")) mode.Read None)
unfolding judging
opens_b = commanded (λ labels. refl) (omega arith) refl refl refl refl (λ before n r h. rw (r.some, r.lane, r.procs, room before n r h) refl)

pub opens_c : IsCommand (codes "open c /y r") (line.Open (codes "c") (path_from true (codes "y")) mode.Read None)
unfolding judging
opens_c = commanded (λ labels. refl) (omega arith) refl refl refl refl (λ before n r h. rw (r.some, r.lane, r.procs, room before n r h) refl)

pub seeks_a : IsCommand (codes "seek a 0 0") (line.Seek (codes "a") (fd.Number 0) 0)
unfolding judging
seeks_a = commanded (λ labels. refl) (omega arith) refl refl refl refl (λ before n r h. rw (r.some, r.lane, r.procs, room before n r h) refl)

pub writes_a : IsCommand (codes "write a 0 8*41") (line.Write (codes "a") (fd.Number 0) (replicate 8 65))
unfolding judging
writes_a = commanded (λ labels. refl) (omega arith) refl refl refl refl (λ before n r h. rw (r.some, r.lane, r.procs, room before n r h) refl)

pub seeks_b : IsCommand (codes "seek b 0 0") (line.Seek (codes "b") (fd.Number 0) 0)
unfolding judging
seeks_b = commanded (λ labels. refl) (omega arith) refl refl refl refl (λ before n r h. rw (r.some, r.lane, r.procs, room before n r h) refl)

pub reads_b : IsCommand (codes "read b 0 16") (line.Read (codes "b") (fd.Number 0) 16)
unfolding judging
reads_b = commanded (λ labels. refl) (omega arith) refl refl refl refl (λ before n r h. rw (r.some, r.lane, r.procs, room before n r h) refl)

pub reads_a : IsCommand (codes "read a 0 4") (line.Read (codes "a") (fd.Number 0) 4)
unfolding judging
reads_a = commanded (λ labels. refl) (omega arith) refl refl refl refl (λ before n r h. rw (r.some, r.lane, r.procs, room before n r h) refl)

pub reads_c : IsCommand (codes "read c 0 8") (line.Read (codes "c") (fd.Number 0) 8)
unfolding judging
reads_c = commanded (λ labels. refl) (omega arith) refl refl refl refl (λ before n r h. rw (r.some, r.lane, r.procs, room before n r h) refl)

-- ---- the line of each number
-- its text without the line feed, and what that says
pub record Numbered (k : ℕ) : Type 0 where
  pub text : List ℕ
  pub line : Line
  pub command : IsCommand text line
  pub ends : line_at k ≡ text ++ codes "\n"

numbered_by : {text : List ℕ} {l : Line} (k : ℕ) → IsCommand text l → line_at k ≡ text ++ codes "\n" → Numbered k
numbered_by k command ends = record { text = _; line = _; command = command; ends = ends }

pub numbered : (k : ℕ) → Numbered k
unfolding line_at
numbered k = elim (cases_Bool (k % 6 == 1)) [
  | inl e ↦ numbered_by k seeks_a (rw e refl)
  | inr n1 ↦ elim (cases_Bool (k % 6 == 2)) [
    | inl e ↦ numbered_by k writes_a (rw (n1, e) refl)
    | inr n2 ↦ elim (cases_Bool (k % 6 == 3)) [
      | inl e ↦ numbered_by k seeks_b (rw (n1, n2, e) refl)
      | inr n3 ↦ elim (cases_Bool (k % 6 == 4)) [
        | inl e ↦ numbered_by k reads_b (rw (n1, n2, n3, e) refl)
        | inr n4 ↦ elim (cases_Bool (k % 6 == 5)) [
          | inl e ↦ numbered_by k reads_a (rw (n1, n2, n3, n4, e) refl)
          | inr n5 ↦ numbered_by k reads_c (rw (n1, n2, n3, n4, n5) refl)
        ]
      ]
    ]
  ]
]
