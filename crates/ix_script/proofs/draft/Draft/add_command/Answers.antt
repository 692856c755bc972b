use Rattle.std.proofs.Common.{◌≡◌, ◌+◌, ◌≤◌, ℕ, List, refl, ap, ◌∙◌, arith}
use Rattle.ix_script.specs.{lines.{Before.{commands, form_told}, Faults.line_fault, Said.line_of}, scripts.Packed.with_line, reader.Readers.{IsPlain, LineRight}}
use Rattle.ix_script.specs.declared.line.Line.{Line}
use Rattle.ix_script.proofs.reader.{Commands.{quiet, too_many, few_enough, begun_lane, header_quiet, body_quiet}, Packing.right_later}
use Rattle.ix_script.proofs.draft.Draft.add_command.Goals as goal

-- where there is room for it the command is right
right_of : {before : List Line} {text : List ℕ} {cost : ℕ} (p : IsPlain before text cost) → commands before + 1 ≤ 200000
    → LineRight before p.line (line_fault before text) (line_of (form_told before) text)
right_of p few = let fits = few_enough _ p.line p.is_command few in record { faultless = p.fault ∙ fits; meant = p.meant; fits = fits }

pub returns-then-self-ge200000-clause-fail : goal.returns-then-self-ge200000-clause-fail
returns-then-self-ge200000-clause-fail c =
    let p = c.requires.plain in
    rw (p.fault, too_many c.args.self.now.lines.said p.line p.is_command (omega (arith, c.requires.grows.told.body.commands, c.if-self-ge200000.true))) c.fault.ensures

pub push-requires-clause-faultless : goal.push-requires-clause-faultless
push-requires-clause-faultless c =
    let right = right_of c.requires.plain (omega (arith, c.requires.grows.told.body.commands, c.if-self-ge200000.false)) in
    (right_later _ _ c.args.text.now c.requires.later c.form.ensures right).0

pub returns-clause-line : goal.returns-clause-line
returns-clause-line c =
    let right = right_of c.requires.plain (omega (arith, c.requires.grows.told.body.commands, c.if-self-ge200000.false)) in
    let is = (right_later _ _ c.args.text.now c.requires.later c.form.ensures right).1 in
    record { line = c.requires.plain.line; right = right; added = c.in_ok-push.ensures ∙ ap (λ (l : Line). with_line c.args.self.now.lines l c.args.text.now) is }

pub returns-clause-told : goal.returns-clause-told
returns-clause-told c =
    let before : List Line = c.args.self.now.lines.said in
    let p = c.requires.plain in
    let right = right_of p (omega (arith, c.requires.grows.told.body.commands, c.if-self-ge200000.false)) in
    let is = (right_later before _ c.args.text.now c.requires.later c.form.ensures right).1 in
    let lines : c.push.new.self ≡ with_line c.args.self.now.lines p.line c.args.text.now = c.in_ok-push.ensures ∙ ap (λ (l : Line). with_line c.args.self.now.lines l c.args.text.now) is in
    rw lines record {
      header = header_quiet c.args.self.now.header before p.line (quiet p.line p.is_command).behind (begun_lane before c.requires.later p.in_lane)
          c.requires.grows.told.header c.requires.grows.valid right.fits;
      body = body_quiet c.args.self.now.body _ before p.line p.is_command c.requires.grows.told.body refl;
    }
