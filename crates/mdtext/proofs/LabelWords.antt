-- The words of a label, run by run.
use Rattle.std.proofs.Common.{◌≡◌, ℕ, true, false, List, [], ◌∷◌, ◌++◌, refl, ap, sym, ◌∙◌, fold, length, ◌<◌, arith}
use Rattle.std.specs.List.{list_any}
use Rattle.mdtext.specs.Labels.{is_label_space, at_front_of_word, ends_word, words, add_word}
use Rattle.mdtext.proofs.PlainRuns.{either_false}

-- a character of a word
pub one_plain : (b : ℕ) (bs : List ℕ) → is_label_space b ≡ false → words (b ∷ bs) ≡ at_front_of_word b (ends_word bs) (words bs)
unfolding words
one_plain b bs h = rw h refl

pub one_space : (b : ℕ) (bs : List ℕ) → is_label_space b ≡ true → words (b ∷ bs) ≡ words bs
unfolding words
one_space b bs h = rw h refl

pub no_words : words [] ≡ []
unfolding words
no_words = refl

pub word_alone : (b : ℕ) (bs : List ℕ) → list_any is_label_space (b ∷ bs) ≡ false → words (b ∷ bs) ≡ (b ∷ bs) ∷ []
word_alone b [] h = one_plain b [] (either_false _ _ h).0 ∙ ap (at_front_of_word b true) no_words
word_alone b (c ∷ bs) h =
    let each = either_false _ _ h in
    one_plain b (c ∷ bs) each.0 ∙ ap (λ t. at_front_of_word b t (words (c ∷ bs))) (either_false _ _ each.1).0 ∙ ap (at_front_of_word b false) (word_alone c bs each.1)

word_then : (b : ℕ) (bs : List ℕ) (space : ℕ) (after : List ℕ) → list_any is_label_space (b ∷ bs) ≡ false → is_label_space space ≡ true → words ((b ∷ bs) ++ space ∷ after) ≡ (b ∷ bs) ∷ words after
word_then b [] space after h e = one_plain b (space ∷ after) (either_false _ _ h).0 ∙ ap (λ t. at_front_of_word b t (words (space ∷ after))) e ∙ ap (at_front_of_word b true) (one_space space after e)
word_then b (c ∷ bs) space after h e =
    let each = either_false _ _ h in
    one_plain b (c ∷ (bs ++ space ∷ after)) each.0 ∙ ap (λ t. at_front_of_word b t (words ((c ∷ bs) ++ space ∷ after))) (either_false _ _ each.1).0 ∙ ap (at_front_of_word b false) (word_then c bs space after each.1 e)

-- a run without spaces, and what follows the space after it
pub fold_run : (run : List ℕ) (space : ℕ) (after text : List ℕ) → list_any is_label_space run ≡ false → is_label_space space ≡ true
    → fold add_word text (words (run ++ space ∷ after)) ≡ fold add_word (fold add_word text (words run)) (words after)
fold_run [] space after text h e = ap (fold add_word text) (one_space space after e) ∙ ap (λ ws. fold add_word (fold add_word text ws) (words after)) (sym no_words)
fold_run (b ∷ bs) space after text h e =
    ap (fold add_word text) (word_then b bs space after h e) ∙ ap (λ ws. fold add_word (fold add_word text ws) (words after)) (sym (word_alone b bs h))

pub word_is_all : (word : List ℕ) → list_any is_label_space word ≡ false → 0 < length word → words word ≡ word ∷ []
word_is_all [] h some = absurd (omega (arith, some))
word_is_all (b ∷ bs) h some = word_alone b bs h

pub no_word : (word : List ℕ) → length word ≡ 0 → words word ≡ []
no_word [] h = no_words
no_word (b ∷ bs) h = absurd (omega (arith, h))
