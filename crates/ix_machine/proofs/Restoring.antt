-- A raised label is set back.
use Rattle.std.{proofs.Common.{◌≡◌, ℕ, List, Option, Some, None, option_map, true, false, not, refl, sym, ap, subst, ◌∙◌}, proofs.Math.ListN.set}
use Rattle.std.{proofs.lemmas.List.set-get_or, specs.Option.option_map_or}
use Rattle.ix_label.specs.Category.{Categories}
use Rattle.ix_model.{specs.world.World.{Frame, Process, at, change, lives}, proofs.tables.Tables.{change_twice, seen_changed}}
use Rattle.ix_machine.specs.Restoring.{Restores, label_at}

-- a label that stands already
same_label : (t : List (Option Process)) (n : ℕ) (l : Categories) → option_map (λ p. p.label) (at t n) ≡ Some l → change t n (λ p. record p { label = l }) ≡ t
same_label t n l is = ap (set t n) (go (at t n) is) ∙ set-get_or t n None
  where
    go : (o : Option Process) → option_map (λ p. p.label) o ≡ Some l → option_map {T = Process} {U = Process} (λ p. record p { label = l }) o ≡ o
    go None h = refl
    go (Some p) h = let e : p.label ≡ l = cc in ap (λ (k : Categories). Some (record p { label = k })) (sym e)

pub restores_itself : (f : Frame) (pid : ℕ) → lives f pid ≡ true → Restores f f pid
restores_itself f pid h = record {
  living = h;
  back = λ l is. ap (λ (t : List (Option Process)). record f { processes = t }) (same_label f.processes pid l is);
}

relabelled : (f : Frame) (pid : ℕ) (l : Categories) → lives f pid ≡ true → Restores f (record f { processes = change f.processes pid (λ p. record p { label = l }) }) pid
relabelled f pid l h = record {
  living = seen_changed (λ o. option_map_or (λ p. not p.ended) o false) (λ p. record p { label = l }) (λ p. refl) f.processes pid pid ∙ h;
  back = λ k is. ap (λ (t : List (Option Process)). record f { processes = t }) (change_twice f.processes pid (λ p. record p { label = l })
      (λ p. record p { label = k }) ∙ same_label f.processes pid k is);
}

pub restores_label : (f g : Frame) (pid : ℕ) (l : Categories) → lives f pid ≡ true → g ≡ record f { processes = change f.processes pid (λ p. record p { label = l }) } → Restores f g pid
restores_label f g pid l h e = subst (λ (k : Frame). Restores f k pid) (sym e) (relabelled f pid l h)

-- once the label is set back, all is as it was
pub set_back : (f g h : Frame) (pid : ℕ) (l : Categories) → Restores f g pid → label_at f pid ≡ Some l → h ≡ record g { processes = change g.processes pid (λ p. record p { label = l }) } → h ≡ f
set_back f g h pid l r is e = e ∙ r.back l is

-- a process lives, so it has a label
pub has_label : (f : Frame) (pid : ℕ) → lives f pid ≡ true → (l : Categories) × (label_at f pid ≡ Some l)
has_label f pid h = go (at f.processes pid) h
  where
    go : (o : Option Process) → option_map_or (λ p. not p.ended) o false ≡ true → (l : Categories) × (option_map (λ p. p.label) o ≡ Some l)
    go None k = cc
    go (Some p) k = (p.label, refl)

-- a label that is raised twice is set back
pub restores_twice : (f g h : Frame) (pid : ℕ) → lives g pid ≡ true → Restores f g pid → Restores g h pid → Restores f h pid
restores_twice f g h pid lives one two =
    let l = has_label g pid lives in
    record {
      living = two.living;
      back = λ k is.
          let to : Frame → Frame = λ (x : Frame). record x { processes = change x.processes pid (λ p. record p { label = k }) } in
          ap (λ (t : List (Option Process)). record h { processes = t }) (sym (change_twice h.processes pid (λ p. record p { label = l.0 }) (λ p. record p { label = k })))
          ∙ ap to (two.back l.0 l.1) ∙ one.back k is;
    }
