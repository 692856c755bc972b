-- An edit of an entry, as the tables show it.
use Rattle.std.proofs.Common.{◌≡◌, ℕ, zero, suc, Bool, true, false, List, [], ◌∷◌, map, replicate, Option, Some, None, is_some, refl, sym, ap, ◌∙◌, get_or, set}
use Rattle.std.proofs.Common.{option_map}
use Rattle.std.proofs.lemmas.List.{map-set}
use Rattle.ix_model.specs.world.World.{at}
use Rattle.ix_numbers.specs.Marks.{vacancies}
use Rattle.ix_open.specs.{Table.{none_open, without}, Entries.{table_of, open_in, offset_in, owners_in, shown, with_entry}, declared.view.OpenView.OpenView}

module _ (objects : ℕ) where
  -- what the tables have at a number
  pub at_opens : (es : List (Option OpenView)) (n : ℕ) → at (table_of es objects).opens n ≡ open_in (at es n)
  at_opens [] n = refl
  at_opens (e ∷ es) zero = refl
  at_opens (e ∷ es) (suc n) = at_opens es n

  pub at_offsets : (es : List (Option OpenView)) (n : ℕ) → get_or (table_of es objects).offsets n 0 ≡ offset_in (at es n)
  at_offsets [] n = refl
  at_offsets (e ∷ es) zero = refl
  at_offsets (e ∷ es) (suc n) = at_offsets es n

  pub at_owners : (es : List (Option OpenView)) (n : ℕ) → get_or (table_of es objects).owners n 0 ≡ owners_in (at es n)
  at_owners [] n = refl
  at_owners (e ∷ es) zero = refl
  at_owners (e ∷ es) (suc n) = at_owners es n

  -- a change of one entry
  tables_set : (es : List (Option OpenView)) (n : ℕ) (x : Option OpenView) → table_of (set es n x) objects ≡ record {
    opens =
        set (table_of es objects).opens n (open_in x);
    offsets = set (table_of es objects).offsets n (offset_in x);
    owners =
        set (table_of es objects).owners n (owners_in x);
    objects = objects;
  }
  tables_set es n x = rw (map-set open_in es n x, map-set offset_in es n x, map-set owners_in es n x) refl

  pub tables_entry : (es : List (Option OpenView)) (n : ℕ) (v : OpenView) → table_of (set es n (Some v)) objects ≡ with_entry n v (table_of es objects)
  tables_entry es n v = tables_set es n (Some v)

  pub tables_without : (es : List (Option OpenView)) (n : ℕ) → table_of (set es n None) objects ≡ without n (table_of es objects)
  tables_without es n = tables_set es n None

  -- a number at which an entry stands
  some_open : (e : Option OpenView) → is_some (open_in e) ≡ is_some e
  some_open None = refl
  some_open (Some v) = refl

  pub taken : (es : List (Option OpenView)) (n : ℕ) → is_some (at (table_of es objects).opens n) ≡ true → is_some (at es n) ≡ true
  taken es n h = sym (some_open (at es n)) ∙ ap is_some (sym (at_opens es n)) ∙ h

  -- the whole entry, from the tables
  pub shown_is : (es : List (Option OpenView)) (n : ℕ) → at es n ≡ option_map (shown (table_of es objects) n) (at (table_of es objects).opens n)
  shown_is es n = go (at es n) (at_opens es n) (at_offsets es n) (at_owners es n)
    where
      go : (e : Option OpenView) → at (table_of es objects).opens n ≡ open_in e → get_or (table_of es objects).offsets n 0 ≡ offset_in e
          → get_or (table_of es objects).owners n 0 ≡ owners_in e → e ≡ option_map (shown (table_of es objects) n) (at (table_of es objects).opens n)
      go None opens offset owners = rw opens refl
      go (Some v) opens offset owners = rw (opens, offset, owners) refl

-- the numbers at which the table has no entry
pub vacant_opens : (es : List (Option OpenView)) → vacancies (map open_in es) ≡ vacancies es
vacant_opens [] = refl
vacant_opens (None ∷ es) = ap (λ (marks : List Bool). true ∷ marks) (vacant_opens es)
vacant_opens (Some v ∷ es) = ap (λ (marks : List Bool). false ∷ marks) (vacant_opens es)

map_replicate : {A B : Type 0} (F : A → B) (n : ℕ) (a : A) → map F (replicate n a) ≡ replicate n (F a)
map_replicate F zero a = refl
map_replicate F (suc n) a = ap (λ l. F a ∷ l) (map_replicate F n a)

pub none_tables : (n objects : ℕ) → table_of (replicate n None) objects ≡ none_open n objects
none_tables n objects = rw (map_replicate open_in n None, map_replicate offset_in n None, map_replicate owners_in n None) refl
