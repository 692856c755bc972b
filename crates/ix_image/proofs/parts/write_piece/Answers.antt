use Rattle.std.proofs.{Common.{◌≤◌, ◌++◌, ℕ, List, length, take, ap, ◌∙◌, arith}, lemmas.List.{take_at, length-take, length-drop}}
use Rattle.ix_model.specs.{history.{History.world_of, Views.bytes_inside}, world.Contents.holding_of}
use Rattle.ix_image.proofs.Saved.{bytes_end, bytes_on, inside_is, file_few}
use Rattle.ix_image.proofs.parts.write_piece.Goals as goal

pub returns-then-count-eq0-clause-text : goal.returns-then-count-eq0-clause-text
returns-then-count-eq0-clause-text c = λ fss.
    let w = world_of c.args.core.now in
    bytes_end fss w c.args.n c.args.place c.args.line.now.text (omega (
      arith,
      c.inside-count.ensures.count,
      c.if-count-eq0.true,
      ap (λ (r : List ℕ). length r) (inside_is w c.args.n c.args.place c.requires.file)
          ∙ length-drop c.args.place ((holding_of w.content c.args.n).first),
      c.requires.some,
    ))

pub overflow_add-result-2 : goal.overflow_add-result-2
overflow_add-result-2 c =
    let w = world_of c.args.core.now in
    omega (
      arith,
      c.inside-count.ensures.count,
      c.if-count-eq0.false,
      ap (λ r. length r) (inside_is w _ _ c.requires.file)
          ∙ length-drop c.args.place ((holding_of w.content c.args.n).first),
      file_few w c.args.n c.requires.sound c.requires.file,
    )

pub returns-clause-text : goal.returns-clause-text
returns-clause-text c = λ fss.
    let w = world_of c.args.core.now in
    let inside = inside_is w _ _ c.requires.file in
    let low : c.inside-count.result ≤ length (bytes_inside w c.args.n c.args.place) = omega (arith, c.inside-count.ensures.count) in
    bytes_on _ w _ _ _ _ _ c.requires.file (omega (arith, c.if-count-eq0.false)) (omega (arith, low, ap (λ (r : List ℕ). length r) inside))
    (c.in_ok-push.ensures.text
    ∙ ap (λ r. c.args.line.now.text ++ take c.inside-count.result r) c.inside-count.ensures.out
    ∙ ap (λ r. c.args.line.now.text ++ r) (take_at _ _ _
    (omega (arith, low, length-take c.inside-count.result (bytes_inside w c.args.n c.args.place))))
    ∙ ap (λ r. c.args.line.now.text ++ take c.inside-count.result r) inside)
