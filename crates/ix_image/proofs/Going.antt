-- How the writing of an image goes on.
use Rattle.std.{proofs.Common.{◌≡◌, ℕ, List, [], ◌++◌, Result, Ok, Err, ap, ◌∙◌, append_assoc}, specs.Result.OnOk}
use Rattle.ix_model.specs.history.History.{world_of}
use Rattle.ix_image.specs.{declared.{part.Part.Part, written.Saving.Saving}, Saving.{WritesOn, bytes_left}, Written.{IsBegun, Wrote, left_of, pieces_of}}

pub when_ok : {A E : Type 0} (r : Result A E) (Q : Type 0) → Q → OnOk r Q
when_ok (Ok x) Q q = q
when_ok (Err e) Q q = tt

-- with another part that comes next
abbrev pub with_next : Saving → Part → Saving
with_next s next = record { fss = s.fss; core = s.core; named = s.named; count = s.count; next = next }

pub wrote : (s : Saving) (next : Part) (before after first text : List ℕ) → IsBegun s → WritesOn s.fss.now (world_of s.core.now) s.next next first text → first ≡ [] → after ≡ before ++ text
    → Wrote s (with_next s next) before after
unfolding left_of pieces_of
wrote s next before after first text begun on none grown =
    record {
      text = ap (λ r. r ++ bytes_left s.fss.now (world_of s.core.now) next) (grown ∙ ap (λ r. before ++ r) (on.grown ∙ ap (λ r. r ++ on.piece) none))
          ∙ append_assoc before on.piece _
          ∙ ap (λ r. before ++ r) on.writes.text;
      grown = (text, grown);
      fewer = on.writes.fewer;
      begun = record { few = begun.few; marks = begun.marks; counted = begun.counted; stands = on.writes.stands };
    }
