use Rattle.std.{proofs.Common.{◌<◌, ◌∙◌, ℕ, List, sym, ap, length, arith}, specs.List.list_any}
use Rattle.ix_model.specs.{world.Naming.same_bytes, declared.config.FsSpec.FsSpec}
use Rattle.ix_script.specs.{lines.Before.{form_told, fss_told, what_text, whats_told}, texts.Cutting.word_at}
use Rattle.ix_script.proofs.reader.{Verdicts.any_map, Keeping.told_is}
use Rattle.ix_script.proofs.draft.Draft.gives_twice.Goals as goal

pub returns-in-Limit : goal.returns-in-Limit
returns-in-Limit c =
    let word : List ℕ = word_at c.args.words.now 1 in
    rw c.in-Limit.is ((rw c.get-in-Limit.ensures at c.is_limited.ensures) ∙ ap (list_any (λ w. same_bytes word (what_text w))) (c.as_slice-in-Limit.ensures ∙ c.requires.told.header.whats)
    ∙ sym (any_map (same_bytes word) what_text (whats_told c.args.self.now.lines.said)))

pub returns-then-header-gt0 : goal.returns-then-header-gt0
returns-then-header-gt0 c =
    let word : List ℕ = word_at c.args.words.now 1 in
    let some : 0 < length (fss_told c.args.self.now.lines.said) = omega (arith, c.requires.told.header.told, c.if-header-gt0.true) in
    rw c.in-Fs.is ((rw c.get.ensures at c.is_named.ensures) ∙ ap (list_any (λ (s : FsSpec). same_bytes word s.name)) (c.as_slice.ensures ∙ c.requires.told.header.fss
    ∙ told_is (form_told c.args.self.now.lines.said) (fss_told c.args.self.now.lines.said) some)
    ∙ sym (any_map (same_bytes word) (λ (s : FsSpec). s.name) (fss_told c.args.self.now.lines.said)))
