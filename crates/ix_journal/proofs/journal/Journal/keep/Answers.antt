use Rattle.std.proofs.Common.{rules, arith, ℕ, ◌-◌, ◌+◌, ◌∷◌, ◌++◌, [], length, refl, ap, ◌∙◌, length-append}
use Rattle.std.specs.Vec.{vec_capacity}
use Rattle.ix_model.specs.{history.{Calls.op_of, Events.Event}, declared.call.Call.Call}
use Rattle.ix_journal.specs.{Heads.words_of, Recorded.Recorded, declared.record.Head.Head}
use Rattle.ix_journal.proofs.{Growing.{room_for, Room, Grows, grows_for, seen_after}, journal.Journal.keep.Goals.After-push_reserved}
use Rattle.ix_journal.proofs.journal.Journal.keep.Goals as goal

abbrev made : ℕ → ℕ → ℕ → Call → Event
made seat line pid c = record { seat = seat; line = line; pid = pid; op = op_of c }

pub put_words-requires : goal.put_words-requires
put_words-requires c =
    let j = c.self.inside in
    let e = made c.args.seat c.args.line c.args.pid.0 c.args.call.now in
    let room = room_for j.cap j.used _ j.records.items j.words.items j.labels.items c.args.self.now e c.args.call.now refl c.self.invariant c.self.view_is c.requires in
    omega (arith, room.words_fit)

pub put_label-requires : goal.put_label-requires
put_label-requires c =
    let j = c.self.inside in
    let e = made c.args.seat c.args.line c.args.pid.0 c.args.call.now in
    let room = room_for j.cap j.used _ j.records.items j.words.items j.labels.items c.args.self.now e c.args.call.now refl c.self.invariant c.self.view_is c.requires in
    omega (arith, room.label_fits)

pub overflow_cast-len : goal.overflow_cast-len
overflow_cast-len c =
    let j = c.self.inside in
    let e = made c.args.seat c.args.line c.args.pid.0 c.args.call.now in
    let room = room_for j.cap j.used _ j.records.items j.words.items j.labels.items c.args.self.now e c.args.call.now refl c.self.invariant c.self.view_is c.requires in
    let long = ap length c.put_words.ensures.items ∙ length-append j.words.items (words_of c.args.call.now) in
    omega (arith, room.end, long, c.len.ensures, c.len-start.ensures)

pub push_reserved-requires : goal.push_reserved-requires
push_reserved-requires c =
    let j = c.self.inside in
    let e = made c.args.seat c.args.line c.args.pid.0 c.args.call.now in
    let room = room_for j.cap j.used _ j.records.items j.words.items j.labels.items c.args.self.now e c.args.call.now refl c.self.invariant c.self.view_is c.requires in
    omega (arith, room.record_fits)

abbrev room_now : After-push_reserved → Room
room_now c = record {
  records = vec_capacity c.push_reserved.new.self;
  words = vec_capacity c.put_words.new.words;
  labels = vec_capacity c.put_label.new.labels;
}

grown : (c : After-push_reserved) → Grows c.self.inside.cap (c.self.inside.used + c.cost_of.result) (room_now c)
    c.self.inside.records.items c.self.inside.words.items c.self.inside.labels.items (made c.args.seat c.args.line c.args.pid.0 c.args.call.now)
    c.push_reserved.new.self.items c.put_words.new.words.items c.put_label.new.labels.items
grown c =
    let j = c.self.inside in
    let e = made c.args.seat c.args.line c.args.pid.0 c.args.call.now in
    let long = ap length c.put_words.ensures.items ∙ length-append j.words.items (words_of c.args.call.now) in
    let one : Head → Recorded = λ h. record {
      seat = e.seat;
      line = e.line;
      pid = e.pid;
      start = c.len-start.result;
      len = c.len.result - c.len-start.result;
      head = h;
    } in
    grows_for j.cap j.used _ j.records.items j.words.items j.labels.items c.args.self.now e c.args.call.now refl
    c.self.invariant c.self.view_is c.requires (c.self.inside.used + c.cost_of.result) (room_now c)
    c.push_reserved.new.self.items c.put_words.new.words.items c.put_label.new.labels.items c.len-at.result c.len-start.result _
    (ap (λ n. j.used + n) c.cost_of.ensures)
    (record { records = omega (arith, c.push_reserved.ensures.capacity); words = c.put_words.ensures.room; labels = c.put_label.ensures.room })
    c.put_words.ensures.items c.put_label.ensures.items (c.push_reserved.ensures.items ∙ ap (λ h. j.records.items ++ one h ∷ []) c.head_of.ensures)
    (search rules) (search rules) (omega (arith, long, c.len.ensures, c.len-start.ensures))

pub invariant_of-self : goal.invariant_of-self
invariant_of-self c = (grown c).entries

pub returns : goal.returns
returns c =
    seen_after c.self.inside.cap _ _ c.args.self.now (made c.args.seat c.args.line c.args.pid.0 c.args.call.now) c.self.view_is (grown c).events
