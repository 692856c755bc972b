-- Messages are read as they stand.
use Rattle.std.proofs.Common.{◌≡◌, ℕ, Bool, true, false, List, [], ◌++◌, codes, Option, Some, None, option_and_then, refl, ap, sym, ◌∙◌, subst, if◌then◌else◌}
use Rattle.std.proofs.Common.{inl, inr}
use Rattle.std.{specs.{Option.is_some, Cmp.Lexicographic.bytes_decides}, proofs.{Math.Bool.or-true, lemmas.Bool.or_cases}}
use Rattle.ix_model.specs.{world.Naming.same_bytes, declared.privs.PrivSet.PrivSet}
use Rattle.ix_text.specs.Privs.{privs_of}
use Rattle.ix_asking.specs.serving.{Messages.{after_word, is_front_of}, Requests.Begins}
use Rattle.ix_asking.proofs.{Fronts.{longest-is, by_found, some_found, word-begins, request-begins}, Words.{after-is, after-word, front-self, front-splits}}
use Rattle.ix_privserv.{specs.{Messages.{begins_request, set_of, wanted}, Requests.{IsRead, IsRequest, Wants}}, proofs.Letters.set-front}

abbrev want : List ℕ
want = codes "want "

-- ---- a message of which a set is read
set_step : (word : List ℕ) (set : PrivSet) (v : Bool) → same_bytes word (codes "-") ≡ v → (if v then None else privs_of word) ≡ Some set
    → (word ≡ codes "-" → ⊥) × (privs_of word ≡ Some set)
set_step word set true h e = cc
set_step word set false h e = ((λ same. let is = (bytes_decides word (codes "-")).1 same in cc), e)

wants_some : (message : List ℕ) (after : Option (List ℕ)) (set : PrivSet) → after_word want message ≡ after → option_and_then set_of after ≡ Some set → Wants set message
wants_some message None set h e = cc
wants_some message (Some word) set h e =
    let is = set_step word set (same_bytes word (codes "-")) refl e in
    (word, after-is want message word h, is.0, is.1)

read-wants : (message : List ℕ) (set : PrivSet) → wanted message ≡ Some set → Wants set message
unfolding wanted
read-wants message set e = wants_some message (after_word want message) set refl e

-- ---- and the other way round
set_read : (word : List ℕ) (set : PrivSet) → set_of word ≡ Some set → wanted (want ++ word) ≡ Some set
unfolding wanted
set_read word set e = ap (option_and_then set_of) (after-word want word) ∙ e

wants_set : (word : List ℕ) (set : PrivSet) (v : Bool) → same_bytes word (codes "-") ≡ v → (word ≡ codes "-" → ⊥) → privs_of word ≡ Some set → set_of word ≡ Some set
wants_set word set true h differs e = absurd (differs ((bytes_decides word (codes "-")).0 h))
wants_set word set false h differs e = rw h e

wants-read : (message : List ℕ) (set : PrivSet) → Wants set message → wanted message ≡ Some set
wants-read message set w = ap wanted w.1 ∙ set_read w.0 set (wants_set w.0 set (same_bytes w.0 (codes "-")) refl w.2 w.3)

-- ---- what begins a request
d_wanted : IsRequest (codes "want D")
unfolding privs_of
d_wanted = (record { 0 = 1 }, (codes "D", refl, (λ e. cc), refl))

begins : (text : List ℕ) → begins_request text ≡ true → Begins IsRequest text
unfolding begins_request
begins text h = elim (or_cases (is_front_of want text) (is_some (wanted text)) h) [
  | inl front ↦ word-begins IsRequest want (codes "D") text d_wanted front
  | inr read ↦
      let some = some_found (wanted text) read in
      request-begins IsRequest text (some.0, read-wants text some.0 some.1)
]

front_passes : (text : List ℕ) → is_front_of want text ≡ true → begins_request text ≡ true
unfolding begins_request
front_passes text h = rw h refl

read_passes : (text : List ℕ) (set : PrivSet) → wanted text ≡ Some set → begins_request text ≡ true
unfolding begins_request
read_passes text set h = rw h (or-true (is_front_of want text))

passing : (text : List ℕ) → Begins IsRequest text → begins_request text ≡ true
passing text b =
    let word : List ℕ = b.1.1.0 in
    elim (front-splits want text b.0 word b.1.1.1) [
      | inl front ↦ front_passes text front
      | inr after ↦
          let P : List ℕ → Type 0 = λ t. t ≡ codes "-" → ⊥ in
          elim (set-front after.0 b.0 b.1.0 (subst P (sym after.2) b.1.1.2) (ap privs_of after.2 ∙ b.1.1.3)) [
            | inl none ↦ front_passes text (ap (is_front_of want) (after.1 ∙ ap (λ t. want ++ t) none) ∙ front-self want)
            | inr some ↦ read_passes text some.0 (ap wanted after.1 ∙ set_read after.0 some.0 some.1)
          ]
    ]

-- ---- all messages
pub messages-read : (message : List ℕ) → IsRead message (wanted message)
messages-read message = by_found (IsRead message) (wanted message) (read-wants message)
    (λ none. ((λ w. let read = wants-read message w.0 w.1 in cc), longest-is IsRequest begins_request message begins passing (front_passes [] refl)))
