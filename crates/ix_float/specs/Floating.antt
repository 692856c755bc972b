-- The rule by which a label floats, and what it costs.
use Rattle.std.specs.Prelude.{ℕ, ◌||◌, Option, Some, None, Result, Ok, Err, if◌then◌else◌}
use Rattle.ix_label.specs.Category.{Categories, join, leq, same}
use Rattle.ix_model.specs.declared.views.Floating.{Floating}
use Rattle.ix_model.specs.declared.refusal.Refusal.{Refusal}

-- What a label becomes that is joined with another. Where the join is the same, nothing changes; a frozen label is refused,
-- and one whose ceiling the join would pass.
abbrev pub floated : Refusal → Refusal → Floating → Categories → Result (Option Categories) Refusal
floated frozen ceiling p other =
    if same (join p.label other) p.label then Ok None
    else if p.frozen then Err frozen
    else if leq (join p.label other) p.ceiling then Ok (Some (join p.label other))
    else Err ceiling

-- how often labels are looked at for it
abbrev pub looks : Floating → Categories → ℕ
looks p other = if leq other p.label || p.frozen then 1 else 3
