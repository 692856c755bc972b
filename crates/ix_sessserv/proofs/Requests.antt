-- Messages are read as they stand.
use Rattle.std.proofs.Common.{◌≡◌, ℕ, Bool, true, false, ◌||◌, List, [], ◌++◌, codes, Option, Some, None, option_and_then, refl, ap, sym, ◌∙◌, subst, inl, inr}
use Rattle.std.proofs.Common.{if◌then◌else◌, append_assoc}
use Rattle.std.{specs.Option.{is_some, option_map_or}, proofs.{Math.Bool.or-true, lemmas.Bool.or_cases}}
use Rattle.ix_text.specs.Names.{is_reserved, is_script_name, name_of}
use Rattle.ix_asking.specs.serving.{Messages.{after_word, is_front_of}, Requests.Begins}
use Rattle.ix_asking.proofs.{Fronts.{longest-is, by_found, some_found, word-begins, request-begins}, Words.{after-is, after-word, front-self, front-splits}}
use Rattle.ix_sessserv.specs.{Messages.{begins_request, is_reserved_login, user_in}, Requests.{IsRead, IsRequest, LogsIn}}
use Rattle.ix_sessserv.proofs.Users.{a-name, name-front, reserved-begins}

abbrev login : List ℕ
login = codes "login "

-- ---- a message of which a user is read
name_step : (word user : List ℕ) (v : Bool) → is_script_name word ≡ v → (if v then Some word else None) ≡ Some user → (word ≡ user) × (is_script_name word ≡ true)
name_step word user true h e = (cc, h)
name_step word user false h e = cc

name_is : (word user : List ℕ) → name_of word ≡ Some user → (word ≡ user) × (is_script_name word ≡ true)
unfolding name_of
name_is word user e = name_step word user (is_script_name word) refl e

logs_in : (message : List ℕ) (after : Option (List ℕ)) (user : List ℕ) → after_word login message ≡ after → option_and_then name_of after ≡ Some user → LogsIn user message
logs_in message None user h e = cc
logs_in message (Some word) user h e =
    let is = name_is word user e in
    let P : List ℕ → Type 0 = λ t. is_script_name t ≡ true in
    (after-is login message word h ∙ ap (λ t. login ++ t) is.0, subst P is.0 is.1)

read-logs_in : (message user : List ℕ) → user_in message ≡ Some user → LogsIn user message
unfolding user_in
read-logs_in message user e = logs_in message (after_word login message) user refl e

-- ---- and the other way round
name-read : (user : List ℕ) → is_script_name user ≡ true → user_in (login ++ user) ≡ Some user
unfolding user_in name_of
name-read user h = ap (option_and_then name_of) (after-word login user) ∙ rw h refl

logs_in-read : (message user : List ℕ) → LogsIn user message → user_in message ≡ Some user
logs_in-read message user l = ap user_in l.0 ∙ name-read user l.1

-- ---- what begins a request
a_login : IsRequest (codes "login a")
a_login = (codes "a", (refl, a-name))

reserved_login : (text : List ℕ) (after : Option (List ℕ)) → after_word login text ≡ after → option_map_or is_reserved after false ≡ true
    → (word : List ℕ) × (text ≡ login ++ word) × (is_reserved word ≡ true)
reserved_login text None h e = cc
reserved_login text (Some word) h e = (word, after-is login text word h, e)

begins : (text : List ℕ) → begins_request text ≡ true → Begins IsRequest text
unfolding begins_request
begins text h = elim (or_cases (is_front_of login text || is_some (user_in text)) (is_reserved_login text) h) [
  | inl two ↦ elim (or_cases (is_front_of login text) (is_some (user_in text)) two) [
    | inl front ↦ word-begins IsRequest login (codes "a") text a_login front
    | inr read ↦
        let some = some_found (user_in text) read in
        request-begins IsRequest text (some.0, read-logs_in text some.0 some.1)
  ]
  | inr reserved ↦
      let word = reserved_login text (after_word login text) refl reserved in
      (codes "a", (word.0 ++ codes "a", (ap (λ t. t ++ codes "a") word.1 ∙ append_assoc login word.0 (codes "a"), reserved-begins word.0 word.2)))
]

front_passes : (text : List ℕ) → is_front_of login text ≡ true → begins_request text ≡ true
unfolding begins_request
front_passes text h = rw h refl

either : (a b c : Bool) → b ≡ true → (a || b || c) ≡ true
either a true c h = rw (or-true a) refl
either a false c h = cc

read_passes : (text user : List ℕ) → user_in text ≡ Some user → begins_request text ≡ true
unfolding begins_request
read_passes text user h = either (is_front_of login text) (is_some (user_in text)) (is_reserved_login text) (ap is_some h)

reserved_passes : (text word : List ℕ) → text ≡ login ++ word → is_reserved word ≡ true → begins_request text ≡ true
unfolding begins_request
reserved_passes text word is h =
    let reserved : is_reserved_login text ≡ true = ap is_reserved_login is ∙ ap (λ after. option_map_or is_reserved after false) (after-word login word) ∙ h in
    rw reserved (or-true (is_front_of login text || is_some (user_in text)))

passing : (text : List ℕ) → Begins IsRequest text → begins_request text ≡ true
passing text b =
    let user : List ℕ = b.1.0 in
    let P : List ℕ → Type 0 = λ t. is_script_name t ≡ true in
    elim (front-splits login text b.0 user b.1.1.0) [
      | inl front ↦ front_passes text front
      | inr after ↦ elim (name-front after.0 b.0 (subst P (sym after.2) b.1.1.1)) [
        | inl none ↦ front_passes text (ap (is_front_of login) (after.1 ∙ ap (λ t. login ++ t) none) ∙ front-self login)
        | inr some ↦ elim some [
          | inl name ↦ read_passes text after.0 (ap user_in after.1 ∙ name-read after.0 name)
          | inr reserved ↦ reserved_passes text after.0 after.1 reserved
        ]
      ]
    ]

-- ---- all messages
pub messages-read : (message : List ℕ) → IsRead message (user_in message)
messages-read message = by_found (IsRead message) (user_in message) (read-logs_in message)
    (λ none. ((λ l. let read = logs_in-read message l.0 l.1 in cc), longest-is IsRequest begins_request message begins passing (front_passes [] refl)))
