-- Each text of the generator has no fault.
use Rattle.std.proofs.Common.{◌≡◌, ℕ, zero, suc, ◌+◌, ◌≤◌, ◌==◌, true, not, List, [], ◌∷◌, ◌++◌, length, None, refl, ap, ◌∙◌, arith, append_assoc}
use Rattle.std.{specs.{Prelude.codes, List.{list_all, flat_map, range_with_len}}, proofs.lemmas.Bool.{not-true, le-ltb}}
use Rattle.ix_label.specs.{declared.form.Form.TheVariants.One, Laws.SpelledOrFaulty}
use Rattle.ix_script.specs.{texts.Lines.{cut, lines_of}, lines.Faults.{fault_from, fault_of}, declared.line.Line.Line}
use Rattle.ix_text.proofs.Tests.{both}
use Rattle.ix_gen.{specs.Generated.{beginning, line_at, generated}, proofs.Lengths.short_text}
use Rattle.ix_host.specs.Laws.{Readable}
use Rattle.ix_host.proofs.made_text.{Labels.{low_eight, three, five}, Commands.{Ready, ready_next, Numbered, numbered}, Beginning.{command_line, begins}}

-- ---- cutting
one_cut : (text rest : List ℕ) → list_all (λ b. not (b == 10)) text ≡ true → cut (text ++ 10 ∷ rest) ≡ text ∷ cut rest
unfolding cut
one_cut [] rest h = refl
one_cut (b ∷ text) rest h =
    let p = both (not (b == 10)) (list_all (λ b. not (b == 10)) text) h in
    rw (not-true (b == 10) p.0, one_cut text rest p.1) refl

next_cut : (k n : ℕ) (c : Numbered k) → cut (flat_map line_at (range_with_len k (suc n))) ≡ c.text ∷ cut (flat_map line_at (range_with_len (k + 1) n))
next_cut k n c =
    let rest : List ℕ = flat_map line_at (range_with_len (k + 1) n) in
    ap (λ text. cut (text ++ rest)) c.ends ∙ ap cut (append_assoc c.text (codes "\n") rest) ∙ one_cut c.text rest c.command.plain

-- ---- the commands
commands_sound : (before : List Line) (count k n : ℕ) → Ready before count → count + n ≤ 200000 → fault_from before (cut (flat_map line_at (range_with_len k n))) ≡ None
unfolding fault_from cut
commands_sound before count k zero r few = refl
commands_sound before count k (suc n) r few =
    let c = numbered k in
    let after = commands_sound (before ++ c.line ∷ []) (suc count) (k + 1) n (ready_next before count c.text c.line r c.command) (omega (arith, few)) in
    ap (fault_from before) (next_cut k n c) ∙ command_line before count c.text (cut (flat_map line_at (range_with_len (k + 1) n))) c.line r c.command (omega (arith, few)) after

-- ---- the whole
lines_are : (rest : List ℕ) → lines_of (beginning ++ rest)
    ≡ codes "ix 1" ∷ codes "limit log 0" ∷ codes "proc a - 0-7 - -" ∷ codes "proc b 3 * - -" ∷ codes "proc c - - - -" ∷ codes "file /x - free - - 64*00"
    ∷ codes "file /y 5 free - - 64*00" ∷ codes "phase" ∷ codes "lane g" ∷ codes "open a /x rw" ∷ codes "open b /y r" ∷ codes "open c /y r" ∷ cut rest
unfolding lines_of cut beginning
lines_are rest = refl

pub readable : SpelledOrFaulty One (codes "0-7") → SpelledOrFaulty One (codes "3") → SpelledOrFaulty One (codes "5") → Readable
unfolding fault_of generated
readable for_eight for_three for_five n some few =
    let s = low_eight for_eight in
    let t = three for_three in
    let u = five for_five in
    let short : length (generated n) ≤ 16777216 = short_text n few in
    let rest : List ℕ = flat_map line_at (range_with_len 1 n) in
    let sound : fault_from [] (lines_of (generated n)) ≡ None =
    ap (fault_from []) (lines_are rest)
    ∙ begins s.0 t.0 u.0 s.1 t.1 u.1 (cut rest) (λ before r. commands_sound before 3 1 n r (omega (arith, few))) in
    rw (le-ltb 16777216 (length (generated n)) short) sound
