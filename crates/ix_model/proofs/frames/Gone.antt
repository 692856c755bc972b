-- An object goes.
use Rattle.std.{proofs.Common.{◌≡◌, ◌≢◌, ◌<◌, ◌==◌, ℕ, Bool, true, false, true≢false, not, ◌&&◌, ◌||◌, List, [], map, sum, length, count_by, Option, Some, None}, specs.Option.option_map_or}
use Rattle.std.proofs.Common.{refl, sym, ap, ◌∙◌, arith, ◌⊎◌, inl, inr, length-set}
use Rattle.std.proofs.lemmas.{Bool.{and_from, or_parts, or_cases, and_parts, not-true, not-false, eqb-true, eq-eqb, cases_lt}, List.get_or-set_other}
use Rattle.ix_model.specs.{world.World.{Frame, Object, Process, Open, at, put, is_file, is_dir, is_pipe, is_on, held, living}, declared.{refusal.Refusal.Refusal, reply.Kind.Kind}}
use Rattle.ix_model.specs.{world.Owners.{times_in, times_named, names_in_all}, rows.{Rows.put_object, Lifetimes.{stays, let_go_object}}}
use Rattle.ix_model.proofs.tables.{Finds.{at_put, any_by, in_table, passes_some, sum_put, sum_at, sum_zero}, Labels.labels_put_object}
use Rattle.ix_model.proofs.{frames.{Frames.FrameSound, Awaiting.{Awaiting, Arrived, arrived}}, words.Ends.{Ends, ends_only_if}}
use Rattle.ix_model.specs.declared.reply.Kind.TheVariants as kind

-- an object that nothing needs
pub record IsUnneeded (f : Frame) (o : ℕ) (x : Object) : Type 0 where
  pub there : at f.objects o ≡ Some x
  pub nameless : x.names ≡ []
  pub unnamed : times_named f.objects o ≡ 0
  pub unopened : (e : ℕ) (y : Open) → at f.opens e ≡ Some y → y.object ≢ o
  pub no_home : (p : ℕ) (q : Process) → living (at f.processes p) ≡ Some q → q.cwd ≢ o
  pub no_root : o ≢ 0

module _ (f : Frame) (o : ℕ) (x : Object) (u : IsUnneeded f o x) where
  abbrev left : List (Option Object)
  left = put f.objects o None

  elsewhere : (m : ℕ) → m ≢ o → at left m ≡ at f.objects m
  elsewhere m other = get_or-set_other f.objects o m None None other

  -- what stands stood, at another number
  stood : (m : ℕ) (y : Object) → at left m ≡ Some y → (m ≢ o) × (at f.objects m ≡ Some y)
  stood m y is = elim (at_put _ o m _ y is) [
    | inl here ↦ let e = here.1 in cc
    | inr apart ↦ apart
  ]

  sum_left : (F : Option Object → ℕ) → F None ≡ 0 → F (Some x) ≡ 0 → sum (map F left) ≡ sum (map F f.objects)
  sum_left F none here =
      let before = ap F u.there ∙ here in
      omega (arith, sum_put F f.objects o None (in_table f.objects o x u.there), before, none)

  times_left : (m : ℕ) → times_named left m ≡ times_named f.objects m
  times_left m = sum_left _ refl (ap (count_by (λ n. n.1 == m)) u.nameless)

  -- nothing names it
  named_other : (d m : ℕ) (y : Object) → at f.objects d ≡ Some y → 0 < count_by (λ n. n.1 == m) y.names → m ≢ o
  named_other d m y is some same =
      let here = ap (times_in m) is in
      let none = ap (times_named f.objects) same ∙ u.unnamed in
      absurd (omega (arith, sum_at (times_in m) refl f.objects d, here, none, some))

  pub gone_sound : Awaiting o f → FrameSound (record f { objects = left })
  gone_sound s = record {
    labels = labels_put_object f s.labels o None (λ y is. cc);
    names = record {
      root = ap (λ y. option_map_or is_dir y false) (elsewhere 0 (λ e. u.no_root (sym e))) ∙ s.names.root;
      in_directories = λ d y is other. s.names.in_directories d y (stood d y is).1 other;
      living = λ d m y is some.
          let w = stood d y is in
          ap (λ z. option_map_or (λ y. not (is_pipe y)) z false) (elsewhere m (named_other d m y w.1 some)) ∙ s.names.living d m y w.1 some;
      differ = λ d y is. s.names.differ d y (stood d y is).1;
      once = λ m y is dir. let w = stood m y is in times_left m ∙ s.names.once m y w.0 w.1 dir;
    };
    lives = record {
      file = λ m y is kind. let w = stood m y is in ap (λ t. not (t == 0) || held f.opens m 0) (times_left m) ∙ s.lives.file m y w.0 w.1 kind;
      pipe = λ m y is kind. let w = stood m y is in s.lives.pipe m y w.0 w.1 kind;
    };
    opens = record {
      descriptor = s.opens.descriptor;
      owned = s.opens.owned;
      target = λ e y is. ap (λ z. option_map_or (λ y. not (is_dir y)) z false) (elsewhere y.object (u.unopened e y is)) ∙ s.opens.target e y is;
      end = λ e y is. ap (λ z. y.end == 0 || y.end == 1 && option_map_or is_pipe z false) (elsewhere y.object (u.unopened e y is)) ∙ s.opens.end e y is;
    };
    processes = record {
      none = s.processes.none;
      home = λ p q lives. ap (λ z. option_map_or is_dir z false) (elsewhere q.cwd (u.no_home p q lives)) ∙ s.processes.home p q lives;
      parent = s.processes.parent;
      descriptors = s.processes.descriptors;
    };
    claims = record { claimant = λ m end p y is claim. s.claims.claimant m end p y (stood m y is).1 claim };
    limits = record {
      objects = length-set f.objects o None ∙ s.limits.objects;
      pipes = λ m y is. s.limits.pipes m y (stood m y is).1;
      past = λ m y is kind. s.limits.past m y (stood m y is).1 kind;
      numbers = λ m k y is on. s.limits.numbers m k y (stood m y is).1 on;
      opens = s.limits.opens;
      processes = s.limits.processes;
      names =
          let same : names_in_all left ≡ names_in_all f.objects = sum_left (λ y. option_map_or (λ z. length z.names) y 0) refl (ap length u.nameless) in
          omega (arith, s.limits.names);
      log = s.limits.log;
    };
  }

-- ---- an object that goes where it doesn't stay
-- what is no directory is a file or a pipe
pub kinds_left : (x : Object) → is_dir x ≡ false → ((is_file x ≡ true) × (is_pipe x ≡ false)) ⊎ ((is_file x ≡ false) × (is_pipe x ≡ true))
kinds_left x h = go _ h
  where
    go : (k : Kind) → (elim k [ kind.Dir ↦ true | _ ↦ false ]) ≡ false
        → (((elim k [ kind.File ↦ true | _ ↦ false ]) ≡ true) × ((elim k [ kind.Pipe ↦ true | _ ↦ false ]) ≡ false))
        ⊎ (((elim k [ kind.File ↦ true | _ ↦ false ]) ≡ false) × ((elim k [ kind.Pipe ↦ true | _ ↦ false ]) ≡ true))
    go kind.File h = inl (refl, refl)
    go kind.Dir h = absurd (true≢false h)
    go kind.Pipe h = inr (refl, refl)

-- an object that doesn't stay
pub record GoesOn (f : Frame) (o : ℕ) (x : Object) : Type 0 where
  pub file : is_file x ≡ true → ((times_named f.objects o == 0) ≡ true) × (held f.opens o 0 ≡ false)
  pub pipe : is_pipe x ≡ true → (held f.opens o 0 ≡ false) × (held f.opens o 1 ≡ false)

goes_on : (f : Frame) (o : ℕ) (x : Object) → stays f o x ≡ false → GoesOn f o x
goes_on f o x h =
    let p = or_parts _ (is_pipe x && (held f.opens o 0 || held f.opens o 1)) h in
    let q = or_parts (is_dir x) (is_file x && (not (times_named f.objects o == 0) || held f.opens o 0)) p.0 in
    record {
      file = λ kind.
          let r = or_parts _ _ (ap (λ b. b && (not (times_named f.objects o == 0) || held f.opens o 0)) (sym kind) ∙ q.1) in
          (not-false _ r.0, r.1);
      pipe = λ kind. or_parts _ _ (ap (λ b. b && (held f.opens o 0 || held f.opens o 1)) (sym kind) ∙ p.1);
    }

either_false : (b : Bool) → (b || false) ≡ true → b ≡ true
either_false true h = refl
either_false false h = h

module _ (f : Frame) (o : ℕ) (s : Awaiting o f) where
  on_end : (e : ℕ) (y : Open) (end : ℕ) → at f.opens e ≡ Some y → y.object ≡ o → (y.end == end) ≡ true → held f.opens o end ≡ true
  on_end e y end is same at_end = any_by (is_on o end) refl f.opens e (ap (is_on o end) is ∙ and_from _ _ (eq-eqb y.object o same) at_end)

  module _ (x : Object) (there : at f.objects o ≡ Some x) (no_dir : is_dir x ≡ false) where
    pipe_unnamed : is_pipe x ≡ true → times_named f.objects o ≡ 0
    pipe_unnamed kind = sum_zero (times_in o) f.objects (λ n. go n _ refl)
      where
        go : (n : ℕ) (y : Option Object) → at f.objects n ≡ y → times_in o (at f.objects n) ≡ 0
        go n None is = ap (times_in o) is
        go n (Some y) is = ap (times_in o) is ∙ elim (cases_lt 0 (count_by (λ e. e.1 == o) y.names)) [
          | inl some ↦ absurd (true≢false (sym (s.names.living n o y is some) ∙ ap (λ z. option_map_or (λ y. not (is_pipe y)) z false) there ∙ ap not kind))
          | inr none ↦ omega arith
        ]

    unopened : GoesOn f o x → (e : ℕ) (y : Open) → at f.opens e ≡ Some y → y.object ≢ o
    unopened goes e y is same = elim (or_cases _ _ (s.opens.end e y is)) [
      | inl first ↦ elim (kinds_left x no_dir) [
        | inl file ↦ true≢false (sym (on_end e y 0 is same first) ∙ (goes.file file.0).1)
        | inr pipe ↦ true≢false (sym (on_end e y 0 is same first) ∙ (goes.pipe pipe.1).0)
      ]
      | inr second ↦
          let p = and_parts _ _ second in
          let kind = sym (ap (λ z. option_map_or is_pipe z false) there) ∙ ap (λ n. option_map_or is_pipe (at f.objects n) false) (sym same) ∙ p.1 in
          true≢false (sym (on_end e y 1 is same p.0) ∙ (goes.pipe kind).1)
    ]

    unneeded : GoesOn f o x → IsUnneeded f o x
    unneeded goes = record {
      there = there;
      nameless = s.names.in_directories o x there no_dir;
      unnamed = elim (kinds_left x no_dir) [
        | inl file ↦ eqb-true _ 0 (goes.file file.0).0
        | inr pipe ↦ pipe_unnamed pipe.1
      ];
      unopened = unopened goes;
      no_home = λ p q lives same. true≢false (sym (s.processes.home p q lives) ∙ ap (λ n. option_map_or is_dir (at f.objects n) false) same ∙ ap (λ y. option_map_or is_dir y false) there ∙ no_dir);
      no_root = λ same. true≢false (sym s.names.root ∙ ap (λ n. option_map_or is_dir (at f.objects n) false) (sym same) ∙ ap (λ y. option_map_or is_dir y false) there ∙ no_dir);
    }

    stayed : stays f o x ≡ true → Arrived o f
    stayed h = record {
      once = λ y is dir. absurd (true≢false (sym dir ∙ sym (ap (λ z. option_map_or is_dir z false) is) ∙ ap (λ z. option_map_or is_dir z false) there ∙ no_dir));
      file = λ y is kind.
          let here = sym (ap (λ z. option_map_or is_file z false) there) ∙ ap (λ z. option_map_or is_file z false) is ∙ kind in
          elim (kinds_left x no_dir) [
            | inl file ↦
                let a =
                (λ i. sym no_dir i || sym file.0 i && (not (times_named f.objects o == 0) || held f.opens o 0) || sym file.1 i
                && (held f.opens o 0 || held f.opens o 1)) ∙ h in
                either_false _ a
            | inr pipe ↦ absurd (true≢false (sym here ∙ pipe.0))
          ];
      pipe = λ y is kind.
          let here = sym (ap (λ z. option_map_or is_pipe z false) there) ∙ ap (λ z. option_map_or is_pipe z false) is ∙ kind in
          elim (kinds_left x no_dir) [
            | inl file ↦ absurd (true≢false (sym here ∙ file.1))
            | inr pipe ↦
                let a =
                (λ i. sym no_dir i || sym pipe.0 i && (not (times_named f.objects o == 0) || held f.opens o 0) || sym pipe.1 i
                && (held f.opens o 0 || held f.opens o 1)) ∙ h in
                a
          ];
    }

-- a file or a pipe stays where it has to, and else is gone
pub object_released : (f : Frame) (o : ℕ) (P : Refusal → Frame → Type 0) (Q : Unit {0} → Frame → Type 0) → Awaiting o f
    → option_map_or is_dir (at f.objects o) false ≡ false → (FrameSound f → Q tt f) → (FrameSound (record f { objects = put f.objects o None })
    → Q tt (record f { objects = put f.objects o None })) → Ends (let_go_object o f) P Q
unfolding let_go_object put_object Ends
object_released f o P Q s no_dir kept gone = ends_only_if _ (put_object o None) f P Q
    (λ goes.
    let x = passes_some (λ y. option_map_or (λ z. not (stays f o z)) y false) refl _ goes in
    let other = sym (ap (λ y. option_map_or is_dir y false) x.1) ∙ no_dir in
    let leaves = not-true _ (sym (ap (λ y. option_map_or (λ z. not (stays f o z)) y false) x.1) ∙ goes) in
    gone (gone_sound f o x.0 (unneeded f o s x.0 x.1 other (goes_on f o _ leaves)) s))
    (λ remains. kept (arrived o f s (here _ refl remains no_dir)))
  where
    here : (y : Option Object) → at f.objects o ≡ y → option_map_or (λ z. not (stays f o z)) (at f.objects o) false ≡ false → option_map_or is_dir (at f.objects o) false ≡ false → Arrived o f
    here None is remains other = record {
      once = λ x there kind. let e = sym is ∙ there in
          cc;
      file = λ x there kind. let e = sym is ∙ there in cc;
      pipe = λ x there kind. let e = sym is ∙ there in cc;
    }
    here (Some x) is remains other = stayed f o s x is (sym (ap (λ y. option_map_or is_dir y false) is)
        ∙ other) (not-false _ (sym (ap (λ y. option_map_or (λ z. not (stays f o z)) y false) is) ∙ remains))
