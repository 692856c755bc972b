-- A new pool has no entry and no name.
use Rattle.std.proofs.Common.{◌≡◌, ℕ, zero, suc, ◌<◌, List, [], ◌∷◌, length, map, get_or, replicate, Option, None, refl, sym, ap, ◌∙◌}
use Rattle.std.proofs.lemmas.List.{length-replicate, FromFn.length-range_with_len}
use Rattle.ix_links.{specs.Chains.all_free, proofs.Held.pool-all_free}
use Rattle.ix_name.specs.{declared.entry.Entry.Entry, Entries.{lists_of, AreFiled, AreUnique}, Indexed.{directories, AreIndexed}}

-- each place of a list of one thing has it, and so has what is past the list
always : {A : Type 0} (a : A) (n i : ℕ) → get_or (replicate n a) i a ≡ a
always a zero i = refl
always a (suc n) zero = refl
always a (suc n) (suc i) = always a n i

abbrev no_entries : ℕ → List (Option Entry)
no_entries n = replicate n None

none_filed : (chain_of : Entry → ℕ) (n m : ℕ) → AreFiled chain_of (replicate m []) (no_entries n)
none_filed chain_of n m = record { filed = λ c i. (let chain = always {A = List ℕ} [] m c in let entry = always {A = Option Entry} None n i in rw (chain, entry) refl) }

none_unique : (n : ℕ) → AreUnique (no_entries n)
none_unique n i j a b is _ _ = absurd (let none = always {A = Option Entry} None n i in cc)

map-same : {A B : Type 0} (f : A → B) (n : ℕ) (a : A) → map f (replicate n a) ≡ replicate n (f a)
map-same f zero a = refl
map-same f (suc n) a = ap (λ ys. f a ∷ ys) (map-same f n a)

pub indexed_none : (names objects width : ℕ) → 0 < width → AreIndexed (no_entries names) (all_free names objects) (all_free names width) (replicate objects 0) width
indexed_none names objects width some = record {
  by_dir = none_filed _ names objects;
  by_bucket = none_filed _ names width;
  unique = none_unique names;
  alike = refl;
  counted = sym (map-same length objects []);
  wide = length-replicate width [];
  some = some;
  dirs_pool = pool-all_free names objects ∙ sym (length-replicate names None);
  buckets_pool = pool-all_free names width ∙ sym (length-replicate names None);
}

pub shown_none : (names objects : ℕ) → directories (no_entries names) (all_free names objects) ≡ record { lists = replicate objects []; free = names }
shown_none names objects =
    let lists : lists_of (no_entries names) (replicate objects []) ≡ replicate objects [] = map-same (map _) objects [] in
    let free = length-range_with_len 0 names in
    cc
