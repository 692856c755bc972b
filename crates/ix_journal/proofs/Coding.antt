-- A call that was packed comes back from its head, its words and its label.
use Rattle.std.proofs.Common.{◌≡◌, ℕ, ◌+◌, ◌≤◌, List, [], ◌∷◌, ◌++◌, length, take, drop, map, refl, ap, arith, length-append}
use Rattle.std.{specs.List.sum, proofs.Math.Seq.{drop-append_seam, get_or-append_seam, take-append_seam}, proofs.Math.ListN.{get_or-append}}
use Rattle.ix_label.specs.Category.{Categories, bottom}
use Rattle.ix_model.specs.{world.{Texts.names_in, Paths.{path_from, path_of}}, history.{Calls.op_of, Cost.{cost_of_path, cost_of_words}}}
use Rattle.ix_model.specs.declared.{path.Path.Path, call.Call.Call}
use Rattle.ix_model.specs.history.Events as op
use Rattle.ix_model.specs.declared.call.Call.TheVariants as call
use Rattle.ix_journal.specs.declared.record.Head.{Head}
use Rattle.ix_journal.specs.declared.record.Head.TheVariants as head
use Rattle.ix_journal.specs.declared.record.Alone.TheVariants as alone
use Rattle.ix_journal.specs.declared.record.OnPath.TheVariants as on
use Rattle.ix_model.proofs.texts.Joining.{text_cost}
use Rattle.ix_journal.specs.Heads.{words_of, labels_of, labels_for, head_of, op_in, IsPacked}

-- a text is no longer than its names cost
within : (text : List ℕ) → length text ≤ sum (map (λ name. length name + 1) (names_in text))
within [] = omega arith
within (b ∷ text) = let cost = text_cost (b ∷ text) (omega arith) in omega (arith, cost)

fits : (path : Path) → length path.text.now ≤ cost_of_path (path_of path)
fits path = within path.text.now

-- what a call is packed as behind some labels is whole, comes back, and is no longer than it costs
pub record Packs (labels : List Categories) (c : Call) : Type 0 where
  pub back : op_in (labels ++ labels_of c) (head_of (length labels) c) (words_of c) ≡ op_of c
  pub whole : IsPacked (head_of (length labels) c) (words_of c)
  pub long : length (words_of c) ≤ cost_of_words (op_of c)

pub packs : (labels : List Categories) (c : Call) → Packs labels c
packs labels (call.CreateAt path) = record { back = refl; whole = path.named; long = fits path }
packs labels (call.OpenAt path mode) = record { back = refl; whole = path.named; long = fits path }
packs labels (call.ReadFd fd count) = record { back = refl; whole = tt; long = omega arith }
packs labels (call.WriteFd fd bytes) = record { back = refl; whole = tt; long = omega arith }
packs labels (call.CutFd fd len) = record { back = refl; whole = tt; long = omega arith }
packs labels (call.SeekFd fd at) = record { back = refl; whole = tt; long = omega arith }
packs labels (call.DupFd fd) = record { back = refl; whole = tt; long = omega arith }
packs labels (call.CloseFd fd) = record { back = refl; whole = tt; long = omega arith }
packs labels call.MakePipe = record { back = refl; whole = tt; long = omega arith }
packs labels (call.MakeDir path) = record { back = refl; whole = path.named; long = fits path }
packs labels (call.LinkAt target path) =
    let first : take (length target.text.now) (target.text.now ++ path.text.now) ≡ target.text.now = take-append_seam target.text.now path.text.now in
    let second : drop (length target.text.now) (target.text.now ++ path.text.now) ≡ path.text.now = drop-append_seam target.text.now path.text.now in
    let long = length-append target.text.now path.text.now in
    record {
      back = λ i. op.LinkAt (path_from target.absolute (first i)) (path_from path.absolute (second i));
      whole = (omega (arith, long), rw first target.named, rw second path.named);
      long = omega (arith, long, fits target, fits path);
    }
packs labels (call.UnlinkAt path) = record { back = refl; whole = path.named; long = fits path }
packs labels (call.RemoveDir path) = record { back = refl; whole = path.named; long = fits path }
packs labels (call.ChangeDir path) = record { back = refl; whole = path.named; long = fits path }
packs labels (call.StatAt path) = record { back = refl; whole = path.named; long = fits path }
packs labels (call.ListAt path index) = record { back = refl; whole = path.named; long = fits path }
packs labels (call.Fork keep) = record { back = refl; whole = tt; long = omega arith }
packs labels (call.Exec path) = record { back = refl; whole = path.named; long = fits path }
packs labels (call.Exit status) = record { back = refl; whole = tt; long = omega arith }
packs labels call.WaitChild = record { back = refl; whole = tt; long = omega arith }
packs labels (call.LabelOf path) = record { back = refl; whole = path.named; long = fits path }
packs labels call.SelfLabel = record { back = refl; whole = tt; long = omega arith }
packs labels (call.SetLabel path label) = record { back = ap (op.SetLabel (path_of path)) (get_or-append_seam labels label [] bottom); whole = path.named; long = fits path }
packs labels (call.SetSelf label) = record { back = ap op.SetSelf (get_or-append_seam labels label [] bottom); whole = tt; long = omega arith }
packs labels (call.Freeze path) = record { back = refl; whole = path.named; long = fits path }
packs labels call.FreezeSelf = record { back = refl; whole = tt; long = omega arith }
packs labels (call.Thaw path) = record { back = refl; whole = path.named; long = fits path }
packs labels call.ThawSelf = record { back = refl; whole = tt; long = omega arith }
packs labels (call.SetPriv path cap lic) = record { back = refl; whole = path.named; long = fits path }
packs labels (call.DropLic set) = record { back = refl; whole = tt; long = omega arith }
packs labels (call.GrantLic pid set) = record { back = refl; whole = tt; long = omega arith }
packs labels (call.SetCeiling pid label) = record { back = ap (op.SetCeiling pid.0) (get_or-append_seam labels label [] bottom); whole = tt; long = omega arith }
packs labels (call.Pex fd) = record { back = refl; whole = tt; long = omega arith }
packs labels (call.Unpex fd) = record { back = refl; whole = tt; long = omega arith }
packs labels (call.ReadLog index) = record { back = refl; whole = tt; long = omega arith }

-- ---- labels
-- a call names one label at most
pub few_labels : (c : Call) → length (labels_of c) ≤ 1
few_labels (call.SetLabel path label) = omega arith
few_labels (call.SetSelf label) = omega arith
few_labels (call.SetCeiling pid label) = omega arith
few_labels _ = omega arith

-- its label is there
pub label_there : (labels : List Categories) (c : Call) → labels_for (head_of (length labels) c) ≤ length (labels ++ labels_of c)
label_there labels (call.SetLabel path label) = omega (arith, length-append labels (label ∷ []))
label_there labels (call.SetSelf label) = omega (arith, length-append labels (label ∷ []))
label_there labels (call.SetCeiling pid label) = omega (arith, length-append labels (label ∷ []))
label_there labels _ = omega arith

-- more labels behind it change no call
pub call_stays : (labels more : List Categories) (h : Head) (words : List ℕ) → labels_for h ≤ length labels → op_in (labels ++ more) h words ≡ op_in labels h words
call_stays labels more (head.Plain (alone.SetSelf at)) words low = ap op.SetSelf (get_or-append labels more bottom at low)
call_stays labels more (head.Plain (alone.SetCeiling pid at)) words low = ap (op.SetCeiling pid.0) (get_or-append labels more bottom at low)
call_stays labels more (head.Path absolute (on.SetLabel at)) words low = ap (op.SetLabel (path_from absolute words)) (get_or-append labels more bottom at low)
call_stays labels more (head.Plain plain) words low = refl
call_stays labels more (head.Path absolute call) words low = refl
call_stays labels more (head.Link target split path) words low = refl
call_stays labels more (head.Write fd) words low = refl
