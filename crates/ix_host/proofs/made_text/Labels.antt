-- The labels that the beginning names.
use Rattle.std.{proofs.Common.{◌≡◌, ℕ, true, List, Some, None, refl, sym, ◌∙◌}, specs.Prelude.codes}
use Rattle.ix_label.{specs.declared.form.Form.TheVariants.One, specs.Category.{Categories, bottom, leq}, specs.Spelling.spelling, specs.Laws.SpelledOrFaulty}
use Rattle.ix_label.{specs.Forms.{greatest, whole_run, all_of, narrow, IsWithin}, proofs.Spelled.{spelling-bottom, spelling-all, spelling_injective}}
use Rattle.ix_label.proofs.Fitting.{within-fits, fits-within, within-label, within-bottom, within-all_of}
use Rattle.ix_label.specs.Faults.{fault_of, first_fault, fault_here, is_due, number_fault, is_bad, number_ahead, number_back, is_not_ascending, is_not_longest}
use Rattle.ix_label.specs.Faults.{at_dash, at_comma, at_digit, last_number, follower_fault, may_follow}
use Rattle.ix_text.{specs.Labels.label_in, proofs.AllLabels.label_found}

-- a label of form One, and its spelling
pub record IsWord (word : List ℕ) (s : Categories) : Type 0 where
  pub low : leq s (all_of One) ≡ true
  pub meant : label_in One word ≡ Some s

below_all : (s : Categories) → narrow s ≡ true → leq s (all_of One) ≡ true
unfolding narrow all_of greatest
below_all s h = h

word_from : (word : List ℕ) (s : Categories) → IsWithin One s → spelling One s ≡ word → IsWord word s
word_from word s within is = record {
  low = below_all s (within-fits One s within);
  meant = label_found One word s within is (λ l small e. spelling_injective One l s (within-label One l small) (within-label One s within) (e ∙ sym is));
}

pub bottom_word : IsWord (codes "-") bottom
bottom_word = word_from (codes "-") bottom (within-bottom One) (spelling-bottom One)

pub star_word : IsWord (codes "*") (all_of One)
star_word = word_from (codes "*") (all_of One) (within-all_of One) (spelling-all One)

-- a text without a fault is some label's spelling
word_of : (word : List ℕ) → SpelledOrFaulty One word → fault_of One word ≡ None → (s : Categories) × IsWord word s
word_of word law clean =
    let spelled = law.0 clean in
    (spelled.0, word_from word spelled.0 (fits-within One spelled.0 spelled.1 spelled.2) (sym spelled.3))

-- ---- the three further labels
pub low_eight : SpelledOrFaulty One (codes "0-7") → (s : Categories) × IsWord (codes "0-7") s
unfolding fault_of first_fault fault_here is_due number_fault is_bad number_ahead number_back is_not_ascending is_not_longest at_dash at_comma at_digit
    last_number follower_fault may_follow greatest whole_run
low_eight law = word_of (codes "0-7") law refl

pub three : SpelledOrFaulty One (codes "3") → (s : Categories) × IsWord (codes "3") s
unfolding fault_of first_fault fault_here is_due number_fault is_bad number_ahead number_back is_not_ascending is_not_longest at_dash at_comma at_digit
    last_number follower_fault may_follow greatest whole_run
three law = word_of (codes "3") law refl

pub five : SpelledOrFaulty One (codes "5") → (s : Categories) × IsWord (codes "5") s
unfolding fault_of first_fault fault_here is_due number_fault is_bad number_ahead number_back is_not_ascending is_not_longest at_dash at_comma at_digit
    last_number follower_fault may_follow greatest whole_run
five law = word_of (codes "5") law refl
