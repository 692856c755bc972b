-- The lines of numbers, written one after the other.
use Rattle.std.proofs.Common.{◌≡◌, ℕ, suc, ◌+◌, ◌-◌, ◌<◌, ◌≤◌, Bool, true, false, ◌||◌, List, ◌++◌, refl, sym, ap, ◌∙◌, arith, append_assoc}
use Rattle.std.proofs.Math.Bool.{or_assoc}
use Rattle.ix_label.specs.declared.form.Form.{Form}
use Rattle.ix_model.specs.declared.privs.PrivSet.{PrivSet}
use Rattle.ix_policy.specs.declared.rule.Rule.{Rule}
use Rattle.ix_policing.specs.declared.difference.Sought.{Sought}
use Rattle.ix_policy_texts.specs.{Answers.{can_line, reach_line}, Differences.{pair_differs, pair_lines, rule_differs, rule_lines}}
use Rattle.std.{specs.List.{flat_map, list_any, range_with_len}, proofs.lemmas.List.append-nil}

-- the lines of one number are written, and the others are left
next_line : (f : ℕ → List ℕ) (out : List ℕ) (k n : ℕ) → k < n
    → (out ++ f k) ++ flat_map f (range_with_len (k + 1) (n - (k + 1))) ≡ out ++ flat_map f (range_with_len k (n - k))
next_line f out k n h =
    let e : n - k ≡ suc (n - (k + 1)) = omega arith in
    append_assoc out (f k) (flat_map f (range_with_len (k + 1) (n - (k + 1)))) ∙ ap (λ m. out ++ flat_map f (range_with_len k m)) (sym e)

-- none are left
no_line : (f : ℕ → List ℕ) (out : List ℕ) (k n : ℕ) → n ≤ k → out ++ flat_map f (range_with_len k (n - k)) ≡ out
no_line f out k n h = let e : n - k ≡ 0 = omega arith in rw e (append-nil out)

-- one number is looked at, and the others are left
next_any : (p : ℕ → Bool) (any : Bool) (k n : ℕ) → k < n
    → ((any || p k) || list_any p (range_with_len (k + 1) (n - (k + 1)))) ≡ (any || list_any p (range_with_len k (n - k)))
next_any p any k n h =
    let e : n - k ≡ suc (n - (k + 1)) = omega arith in
    or_assoc any (p k) (list_any p (range_with_len (k + 1) (n - (k + 1)))) ∙ ap (λ m. any || list_any p (range_with_len k m)) (sym e)

or_false : (any : Bool) → (any || false) ≡ any
or_false true = refl
or_false false = refl

no_any : (p : ℕ → Bool) (any : Bool) (k n : ℕ) → n ≤ k → (any || list_any p (range_with_len k (n - k))) ≡ any
no_any p any k n h = let e : n - k ≡ 0 = omega arith in rw e (or_false any)

-- ---- of one policy
pub next_reach : (form : Form) (rules : List Rule) (other : List ℕ) (out : List ℕ) (k n : ℕ) → k < n
    → (out ++ reach_line form rules other k) ++ flat_map (reach_line form rules other) (range_with_len (k + 1) (n - (k + 1))) ≡ out ++ flat_map (reach_line form rules other) (range_with_len k (n - k))
next_reach form rules other out k n h = next_line (reach_line form rules other) out k n h

pub no_reach : (form : Form) (rules : List Rule) (other : List ℕ) (out : List ℕ) (k n : ℕ) → n ≤ k → out ++ flat_map (reach_line form rules other) (range_with_len k (n - k)) ≡ out
no_reach form rules other out k n h = no_line (reach_line form rules other) out k n h

pub next_can : (form : Form) (rules : List Rule) (want : PrivSet) (out : List ℕ) (k n : ℕ) → k < n
    → (out ++ can_line form rules want k) ++ flat_map (can_line form rules want) (range_with_len (k + 1) (n - (k + 1))) ≡ out ++ flat_map (can_line form rules want) (range_with_len k (n - k))
next_can form rules want out k n h = next_line (can_line form rules want) out k n h

pub no_can : (form : Form) (rules : List Rule) (want : PrivSet) (out : List ℕ) (k n : ℕ) → n ≤ k → out ++ flat_map (can_line form rules want) (range_with_len k (n - k)) ≡ out
no_can form rules want out k n h = no_line (can_line form rules want) out k n h

-- ---- of two policies
pub next_pair : (form : Form) (s : Sought) (a b : List Rule) (other : List ℕ) (number : ℕ) (out : List ℕ) (k n : ℕ) → k < n
    → (out ++ pair_lines form s a b other number k) ++ flat_map (pair_lines form s a b other number) (range_with_len (k + 1) (n - (k + 1))) ≡ out ++ flat_map (pair_lines form s a b other number) (range_with_len k (n - k))
next_pair form s a b other number out k n h = next_line (pair_lines form s a b other number) out k n h

pub no_pair : (form : Form) (s : Sought) (a b : List Rule) (other : List ℕ) (number : ℕ) (out : List ℕ) (k n : ℕ) → n ≤ k → out ++ flat_map (pair_lines form s a b other number) (range_with_len k (n - k)) ≡ out
no_pair form s a b other number out k n h = no_line (pair_lines form s a b other number) out k n h

pub next_pair_any : (s : Sought) (a b : List Rule) (other : List ℕ) (number : ℕ) (any : Bool) (k n : ℕ) → k < n
    → ((any || pair_differs s a b other number k) || list_any (pair_differs s a b other number) (range_with_len (k + 1) (n - (k + 1)))) ≡ (any || list_any (pair_differs s a b other number) (range_with_len k (n - k)))
next_pair_any s a b other number any k n h = next_any (pair_differs s a b other number) any k n h

pub no_pair_any : (s : Sought) (a b : List Rule) (other : List ℕ) (number : ℕ) (any : Bool) (k n : ℕ) → n ≤ k → (any || list_any (pair_differs s a b other number) (range_with_len k (n - k))) ≡ any
no_pair_any s a b other number any k n h = no_any (pair_differs s a b other number) any k n h

pub next_rule : (form : Form) (s : Sought) (a b : List Rule) (other : List ℕ) (out : List ℕ) (k n : ℕ) → k < n
    → (out ++ rule_lines form s a b other k) ++ flat_map (rule_lines form s a b other) (range_with_len (k + 1) (n - (k + 1))) ≡ out ++ flat_map (rule_lines form s a b other) (range_with_len k (n - k))
next_rule form s a b other out k n h = next_line (rule_lines form s a b other) out k n h

pub no_rule : (form : Form) (s : Sought) (a b : List Rule) (other : List ℕ) (out : List ℕ) (k n : ℕ) → n ≤ k → out ++ flat_map (rule_lines form s a b other) (range_with_len k (n - k)) ≡ out
no_rule form s a b other out k n h = no_line (rule_lines form s a b other) out k n h

pub next_rule_any : (s : Sought) (a b : List Rule) (other : List ℕ) (any : Bool) (k n : ℕ) → k < n
    → ((any || rule_differs s a b other k) || list_any (rule_differs s a b other) (range_with_len (k + 1) (n - (k + 1)))) ≡ (any || list_any (rule_differs s a b other) (range_with_len k (n - k)))
next_rule_any s a b other any k n h = next_any (rule_differs s a b other) any k n h

pub no_rule_any : (s : Sought) (a b : List Rule) (other : List ℕ) (any : Bool) (k n : ℕ) → n ≤ k → (any || list_any (rule_differs s a b other) (range_with_len k (n - k))) ≡ any
no_rule_any s a b other any k n h = no_any (rule_differs s a b other) any k n h
