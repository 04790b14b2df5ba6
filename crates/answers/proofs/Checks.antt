-- What the stages of No. 1 to 5 and 16 find: the refusal of `Refuses`, or a derivation without second words in which every number keeps its place.
-- Assumes nothing.
use mathlib.Core.Path.{◌≡◌, refl, ◌∙◌}
use mathlib.Core.List.{List, [], ◌∷◌}
use mathlib.Core.Logic.{inl, inr}
use Prim.Native.Nat.{ℕ, ◌≤◌, ◌<◌}
use native.Mathlib.Omega.{arith}
use lib.Dec.{ltb}
use lib.ListN.{length}
use borrow.Author.Tests.{lt-ltb, le-ltb, ltb-true, ltb-false}
use Rattle.std.specs.Prelude.{Option, Some, None}
use Rattle.lex.specs.Tokens.{first_bad}
use Rattle.lexemes.proofs.Lists.{either}
use Rattle.ll1.specs.Trees.{Trees}
use Rattle.ll1.specs.Verdict.{Verdict, accepted, ends_early, refused, is_text, is_unfinished}
use Rattle.ll1.specs.Verdict as Verdict
use Rattle.ll1.proofs.Basics.{clash}
use Rattle.grammar.specs.Derivation.{Derives, SourceSays}
use Rattle.grammar.specs.Reading.{derivation}
use Rattle.grammar.specs.Source.{source_tokens}
use Rattle.grammar.specs.Ranges.{out_of_range, second_words}
use Rattle.answers.specs.Answer.{LONGEST, refuses}
use Rattle.answers.specs.WholeAnswer.{Checked, refusal, derived, ranged, worded, parsed, checked}
use Rattle.answers.specs.Demand3.{Grammatical, Early, to_4, to_16, Refuses, source_too_long, bad_token, no_text_starts_so, source_ends_early, opens_too_many, second_word, number_outside}
use Rattle.grammar.proofs.Theorems.{verdict_right, verdict_only, derivation_exactly}
use Rattle.grammar.proofs.SourceTokens.{bad_among_lem, bad_within}
use Rattle.grammar.proofs.NoBadLeaf.{no_bad_leaf}
use Rattle.grammar.proofs.Places.{token_within, outside_within, second_within}

-- a statement that holds whether a list is empty or has a first element
pub listed : {A : Type 0} (l : List ℕ) → (l ≡ [] → A) → ((m : ℕ) (later : List ℕ) → l ≡ m ∷ later → A) → A
listed [] none_case some_case = none_case refl
listed (m ∷ l) none_case some_case = some_case m l refl

-- a bad token allows no derivation
pub no_derivation_with_bad : (s : List ℕ) (p : ℕ) → first_bad s ≡ Some p → (tree : Trees) → Derives (source_tokens s) tree → ⊥
no_derivation_with_bad s p e tree d =
    let b : ◌≡◌ {A = ℕ} 0 1 = clash (cc (bad_among_lem s p e, d.reads, no_bad_leaf d.fits refl)) in
    omega arith

module _ (s : List ℕ) where
  no_bad_lem : (tree : Trees) → Derives (source_tokens s) tree → first_bad s ≡ None
  no_bad_lem tree d = by (first_bad s) refl
    where
      by : (r : Option ℕ) → first_bad s ≡ r → r ≡ None
      by (Some p) e = absurd (no_derivation_with_bad s p e tree d)
      by None e = refl

  pub checked_1 : LONGEST < length s → checked s ≡ refusal 1 0
  unfolding checked
  checked_1 h = rw (lt-ltb LONGEST (length s) h, checked)

  pub checked_2 : (p : ℕ) → length s ≤ LONGEST → first_bad s ≡ Some p → checked s ≡ refusal 2 p
  unfolding checked
  checked_2 p h e = rw (le-ltb LONGEST (length s) h, e, checked)

  pub checked_parsed : (v : Verdict) → length s ≤ LONGEST → first_bad s ≡ None → SourceSays (source_tokens s) v → checked s ≡ parsed s v (derivation (source_tokens s))
  unfolding checked
  checked_parsed v h e w = rw (le-ltb LONGEST (length s) h, e, verdict_only (source_tokens s) v w, checked)

  checked_worded : (tree : Trees) → Grammatical s tree → checked s ≡ worded s tree
  checked_worded tree g =
      let d = g.derives in
      let says : SourceSays (source_tokens s) accepted = is_text (record { tree = tree; derives = d; allowed = g.depths }) in
      checked_parsed accepted g.short (no_bad_lem tree d) says ∙ rw ((derivation_exactly (source_tokens s) tree).1 d)

  pub checked_16 : (tree : Trees) (p : ℕ) (later : List ℕ) → Grammatical s tree → second_words tree ≡ p ∷ later → checked s ≡ refusal 16 p
  checked_16 tree p later g e = checked_worded tree g ∙ rw (e, worded)

  checked_ranged : (tree : Trees) → Grammatical s tree → second_words tree ≡ [] → checked s ≡ ranged s tree
  checked_ranged tree g e = checked_worded tree g ∙ rw (e, worded)

  pub checked_5 :
      (tree : Trees) (p : ℕ) (later : List ℕ)
      → Grammatical s tree → second_words tree ≡ [] → out_of_range s tree ≡ p ∷ later → checked s ≡ refusal 5 p
  checked_5 tree p later g w e = checked_ranged tree g w ∙ rw (e, ranged)

  pub checked_derived : (tree : Trees) → Grammatical s tree → second_words tree ≡ [] → out_of_range s tree ≡ [] → checked s ≡ derived tree
  checked_derived tree g w e = checked_ranged tree g w ∙ rw (e, ranged)

-- ---- what they find

-- a refusal, whatever table is lent, or a derivation
pub data Decided (s : List ℕ) : Checked → Type 0 where
  stopped : (k p : ℕ) → Early k → p ≤ LONGEST → ((n : ℕ) → Refuses s n (refuses k p)) → Decided s (refusal k p)
  passed : {tree : Trees} → Grammatical s tree → second_words tree ≡ [] → out_of_range s tree ≡ [] → Decided s (derived tree)

-- 1 to 5
pub first_five : {k : ℕ} → (1 ≤ k) × (k ≤ 5) → Early k
first_five h = inl h

pub early_bounds : (k : ℕ) → Early k → (1 ≤ k) × (k ≤ 16)
early_bounds k (inl h) = (h.0, omega (arith, h.1))
early_bounds k (inr e) = (omega arith, omega arith)

module _ (s : List ℕ) where
  with_derivation : (tree : Trees) → Grammatical s tree → Decided s (checked s)
  with_derivation tree g =
      listed (second_words tree)
      (λ w.
      listed (out_of_range s tree)
      (λ e. rw (checked_derived s tree g w e) (passed g w e))
      (λ p later e.
      let low : p ≤ LONGEST = omega (arith, outside_within s tree p later g.derives e, g.short) in
      rw (checked_5 s tree p later g w e) (stopped 5 p (first_five (omega arith)) low (λ n. number_outside (to_16 (to_4 g) w) e))))
      (λ p later e.
      let low : p ≤ LONGEST = omega (arith, second_within s tree p later g.derives e, g.short) in
      rw (checked_16 s tree p later g e) (stopped 16 p (inr refl) low (λ n. second_word (to_4 g) e)))

  without_bad : {v : Verdict} → length s ≤ LONGEST → first_bad s ≡ None → SourceSays (source_tokens s) v → Decided s (checked s)
  without_bad h e (is_text a) = with_derivation a.tree (record { short = h; derives = a.derives; depths = a.allowed })
  without_bad h e (is_unfinished starts none_is) =
      let w = is_unfinished starts none_is in
      rw (checked_parsed s ends_early h e w) (stopped 3 (length s) (first_five (omega arith)) (omega arith) (λ n. source_ends_early h e w))
  without_bad h e (Verdict.no_text_starts_so u v k p c starts none_starts) =
      let w = Verdict.no_text_starts_so u v k p c starts none_starts in
      rw (checked_parsed s (refused 3 p) h e w) (stopped 3 p (first_five (omega arith)) (omega (arith, token_within s u v k p c)) (λ n. no_text_starts_so h e w))
  without_bad h e (Verdict.opens_too_many u v k p c starts) =
      let w = Verdict.opens_too_many u v k p c starts in
      rw (checked_parsed s (refused 4 p) h e w) (stopped 4 p (first_five (omega arith)) (omega (arith, token_within s u v k p c)) (λ n. opens_too_many h e w))

  pub decided : Decided s (checked s)
  decided =
      either (ltb LONGEST (length s))
      (λ l. let h = ltb-true LONGEST (length s) l in rw (checked_1 s h) (stopped 1 0 (first_five (omega arith)) (omega arith) (λ n. source_too_long h)))
      (λ l. short (ltb-false LONGEST (length s) l) (first_bad s) refl)
    where
      short : length s ≤ LONGEST → (r : Option ℕ) → first_bad s ≡ r → Decided s (checked s)
      short h (Some p) e = rw (checked_2 s p h e) (stopped 2 p (first_five (omega arith)) (omega (arith, bad_within s p e)) (λ n. bad_token h e))
      short h None e = without_bad h e (verdict_right (source_tokens s))
