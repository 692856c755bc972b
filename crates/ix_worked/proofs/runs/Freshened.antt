-- When descriptors are fresh, entry by entry.
use Rattle.std.{proofs.Common.{◌≡◌, ℕ, suc, Bool, true, false, List, [], ◌∷◌, map, take, length, refl, ap, ◌∙◌}, specs.List.range_with_len}
use Rattle.ix_model.specs.{world.World.World, declared.config.Config.Config, opening.Opening.opening_world}
use Rattle.ix_model.specs.history.{Step.Given, Events.Event, Freshness.{Way, fresh_after, fresh_from, is_fresh}}
use Rattle.ix_worked.specs.{floating.LooksAnew.{held_low, reading_twice}, short.OnEntries.{shared_desk, seeking_high}, PairsOfRuns.fresh_along, Sessions.calls}
use Rattle.ix_worked.{specs.files.SharedEntry.{one_file, sharing}, proofs.{short.{seeking_high_moves, seeking_high_go}, worked.{twice_moves, twice_goes, sharing_moves, sharing_goes}}}
use Rattle.ix_worked.proofs.{Chains.{◌⨾◌, Gives, stepped, gives_some}, Computing.{running, auditing}, Labels.labels, Moves.{Move, GoesBy, given}}
use Rattle.ix_model.specs.history.Freshness as way

-- whether a descriptor is fresh after a history that gives this
abbrev fresh_by : Bool → World → List Event → List Given → ℕ → ℕ → Way → Bool
fresh_by was w [] gs pid fd way = was
fresh_by was w (e ∷ events) [] pid fd way = was
fresh_by was w (e ∷ events) (g ∷ gs) pid fd way = fresh_by (fresh_after w e g pid fd way was) g.world events gs pid fd way

fresh_given : (was : Bool) (w : World) (place : ℕ) (events : List Event) (gs : List Given) (pid fd : ℕ) (way : Way) → Gives w place events gs
    → fresh_from was w place events pid fd way ≡ fresh_by was w events gs pid fd way
unfolding fresh_from
fresh_given was w place [] gs pid fd way h = refl
fresh_given was w place (e ∷ events) [] pid fd way h = absurd h
fresh_given was w place (e ∷ events) (g ∷ gs) pid fd way (link ⨾ links) =
    ap (λ x. fresh_from (fresh_after w e x pid fd way was) x.world (suc place) events pid fd way) (stepped w place e.pid e.op g link)
    ∙ fresh_given (fresh_after w e g pid fd way was) g.world (suc place) events gs pid fd way links

-- after each of its beginnings
fresh_each : (w : World) (events : List Event) (gs : List Given) (pid fd : ℕ) (way : Way) → Gives w 1 events gs → (ns : List ℕ)
    → map (λ n. is_fresh w (take n events) pid fd way) ns ≡ map (λ n. fresh_by false w (take n events) (take n gs) pid fd way) ns
unfolding is_fresh
fresh_each w events gs pid fd way h [] = refl
fresh_each w events gs pid fd way h (n ∷ ns) =
    ap (λ b. b ∷ map (λ m. is_fresh w (take m events) pid fd way) ns) (fresh_given false w 1 (take n events) (take n gs) pid fd way (gives_some n w 1 events gs h))
    ∙ ap (λ bs. fresh_by false w (take n events) (take n gs) pid fd way ∷ bs) (fresh_each w events gs pid fd way h ns)

-- along a session that goes by these moves
fresh_on : (c : Config) (events : List Event) (moves : List Move) (pid fd : ℕ) (way : Way) → GoesBy c events moves → fresh_along c events pid fd way
    ≡ map (λ n. fresh_by false (opening_world c) (take n events) (take n (given (opening_world c) moves)) pid fd way) (range_with_len 1 (length events))
fresh_on c events moves pid fd way h = fresh_each _ _ _ _ fd _ h _

-- ---- a file is raised
pub read_is_fresh : fresh_along held_low reading_twice 1 0 way.Way.Reading ≡ false ∷ false ∷ true ∷ false ∷ false ∷ []
unfolding running auditing
read_is_fresh = fresh_on held_low reading_twice twice_moves 1 0 way.Way.Reading twice_goes ∙ simp labels refl

pub write_is_fresh : fresh_along held_low reading_twice 2 0 way.Way.Writing ≡ false ∷ false ∷ false ∷ true ∷ true ∷ []
unfolding running auditing
write_is_fresh = fresh_on held_low reading_twice twice_moves 2 0 way.Way.Writing twice_goes ∙ simp labels refl

-- ---- one of two is closed
pub first_is_closed : fresh_along one_file sharing 1 0 way.Way.Reading ≡ false ∷ false ∷ true ∷ true ∷ false ∷ false ∷ false ∷ []
unfolding running auditing
first_is_closed = fresh_on one_file sharing sharing_moves 1 0 way.Way.Reading sharing_goes ∙ simp labels refl

pub second_is_kept : fresh_along one_file sharing 1 1 way.Way.Reading ≡ false ∷ false ∷ false ∷ true ∷ true ∷ true ∷ true ∷ []
unfolding running auditing
second_is_kept = fresh_on one_file sharing sharing_moves 1 1 way.Way.Reading sharing_goes ∙ simp labels refl

-- ---- an open entry is marked
pub marked_is_stale : fresh_along shared_desk (calls seeking_high) 1 0 way.Way.Reading ≡ false ∷ true ∷ true ∷ true ∷ false ∷ false ∷ false ∷ false ∷ true ∷ []
unfolding running auditing
marked_is_stale = fresh_on shared_desk (calls seeking_high) seeking_high_moves 1 0 way.Way.Reading seeking_high_go ∙ simp labels refl
