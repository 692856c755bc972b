-- Runs side by side, put together from the runs of halves.
use Rattle.std.proofs.Common.{◌≡◌, List, [], ◌∷◌, ◌++◌, length, Option, Some, None, slice_index_or, slice_set, refl, sym, ap, ◌∙◌, arith}
use Rattle.std.specs.Option.{option_or}
use Rattle.ix_model.specs.declared.reply.Answer.{Answer}
use Rattle.ix_lanes.specs.running.SideBySide.{AllRun, EachRuns, first_stop}

or_none : (answer : Option Answer) → answer ≡ option_or answer None
or_none None = refl
or_none (Some stop) = refl

or_either : (a b c : Option Answer) → option_or (option_or a b) c ≡ option_or a (option_or b c)
or_either None b c = refl
or_either (Some stop) b c = refl

first-append : (xs ys : List (Option Answer)) → first_stop (xs ++ ys) ≡ option_or (first_stop xs) (first_stop ys)
first-append [] ys = refl
first-append (x ∷ xs) ys = ap (option_or x) (first-append xs ys) ∙ sym (or_either x (first_stop xs) (first_stop ys))

module _ {T : Type 0} (runs : T → T → Option Answer → Type 0) where
  -- one alone
  pub one_runs : (xs : List T) (d y : T) (answer : Option Answer) → length xs ≡ 1 → runs (slice_index_or xs 0 d) y answer → AllRun runs xs (slice_set xs 0 y) answer
  one_runs [] d y answer one h = cc
  one_runs (x ∷ []) d y answer one h = record { answers = answer ∷ []; each = (h, tt); first = or_none answer }
  one_runs (x ∷ z ∷ xs) d y answer one h = absurd (omega (arith, one))

  each-append : (xs ys : List T) (answers : List (Option Answer)) (zs ws : List T) (more : List (Option Answer)) → EachRuns runs xs ys answers → EachRuns runs zs ws more
      → EachRuns runs (xs ++ zs) (ys ++ ws) (answers ++ more)
  each-append [] [] [] zs ws more h k = k
  each-append [] [] (r ∷ answers) zs ws more h k = absurd h
  each-append [] (y ∷ ys) answers zs ws more h k = absurd h
  each-append (x ∷ xs) [] answers zs ws more h k = absurd h
  each-append (x ∷ xs) (y ∷ ys) [] zs ws more h k = absurd h
  each-append (x ∷ xs) (y ∷ ys) (r ∷ answers) zs ws more h k = (h.0, each-append xs ys answers zs ws more h.1 k)

  -- two halves
  pub both_run : (xs ys zs ws : List T) (first second answer : Option Answer) → AllRun runs xs ys first → AllRun runs zs ws second → answer ≡ option_or first second
      → AllRun runs (xs ++ zs) (ys ++ ws) answer
  both_run xs ys zs ws first second answer h k is = record {
    answers = h.answers ++ k.answers;
    each = each-append xs ys h.answers zs ws k.answers h.each k.each;
    first = is ∙ (λ i. option_or (h.first i) (k.first i)) ∙ sym (first-append h.answers k.answers);
  }
