-- Words that spell paths.
use Rattle.std.{proofs.{Common.{◌≡◌, ℕ, ◌≤◌, ◌+◌, ◌&&◌, true, not, List, [], ◌∷◌, length, map, Some, subst, arith}, lemmas.Option.cond_some}, specs.List.{list_all, sum}}
use Rattle.ix_model.{specs.{world.{Naming.PathOf, Texts.{is_path_text, names_in}}, history.Cost.cost_of_path}, proofs.texts.Joining.{text_cost, text_fits}}
use Rattle.ix_text.proofs.Tests.{both}
use Rattle.ix_script.specs.texts.Words.{may_stand_in_path, names_text, is_path_word, path_of}

-- a word that is read as a path has the text of at most 16 names, behind the slash at its front or as it is
pub text_of : (word : List ℕ) → is_path_word word ≡ true → is_path_text (names_text word) ≡ true
unfolding is_path_word
text_of word h = (both (list_all may_stand_in_path word && not _) (is_path_text (names_text word)) h).1

-- ---- what a path costs
text_cheap : (text : List ℕ) → is_path_text text ≡ true → sum (map (λ name. length name + 1) (names_in text)) ≤ 464
text_cheap [] h = omega arith
text_cheap (b ∷ text) h = omega (arith, text_cost (b ∷ text) (omega arith), text_fits (b ∷ text) h)

pub path_cheap : (word : List ℕ) (path : PathOf) → path_of word ≡ Some path → cost_of_path path ≤ 464
unfolding path_of
path_cheap word path h =
    let p = cond_some _ _ path h in
    subst (λ q. cost_of_path q ≤ 464) p.1 (text_cheap _ (text_of _ p.0))
