use Rattle.std.proofs.{Common.{sym, ◌∙◌, arith, subst}, lemmas.List.take_rest}
use Rattle.ix_script.{specs.texts.{Payloads.payload_of, Spelled.{Spells, SpellsRight}}, proofs.{texts.Spelling.{spelled_right, known_pairs, right_payload}, payload.Payload.of.Given.Over}}
use Rattle.ix_script.proofs.payload.Payload.of.Goals.{then-begins, else-begins}
use Rattle.ix_script.proofs.payload.Payload.of.Goals as goal

pub unwrap-requires : goal.unwrap-requires
unwrap-requires g c = spelled_right _ _ _ c.spelling_of.ensures c.requires

right : (g : Over) (c : goal.After-spelling-1 g) → SpellsRight c.if-begins.len.0 c.if-begins.len.1 (payload_of c.args.word.now)
right g c = elim c.if-begins.branch [
  | then-begins w ↦
      let word = c.args.word.now in
      let k = known_pairs _ _ _ (sym c.begins.ensures ∙ w.if-begins.true) (take_rest word 1) c.requires in
      subst (λ p. SpellsRight p.0 p.1 (payload_of word)) (sym w.len-is) (record { bytes = _; meant = k.0; spelled = k.1; count = k.2 })
  | else-begins w ↦ subst (λ p. SpellsRight p.0 p.1 _) (sym w.len-is) (subst (λ r. Spells g.row.MOST r (payload_of c.args.word.now)) w.unwrap.ensures w.spelling_of.ensures)
]

pub overflow_cast-result : goal.overflow_cast-result
overflow_cast-result g c = let few = (right_payload _ _ _ _ c.requires (right g c)).0.few in omega (arith, g.MOST.fits)

pub invariant_of-result : goal.invariant_of-result
invariant_of-result g c = (right_payload _ _ _ _ c.requires (right g c)).0

pub returns : goal.returns
returns g c = (right_payload _ _ _ _ c.requires (right g c)).1
