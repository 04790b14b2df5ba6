-- The draft rows of a derivation whose numbers keep their ranges are sound.
-- Assumes nothing.
use mathlib.Core.Path.{◌≡◌, refl}
use mathlib.Core.List.{List, [], ◌∷◌, ◌++◌}
use mathlib.Core.Bool.{Bool, true, false, not, ◌&&◌, ◌||◌}
use Prim.Native.Nat.{ℕ, ◌+◌, ◌≤◌, ◌<◌}
use native.Mathlib.Omega.{arith}
use lib.Dec.{eqb, ltb}
use lib.ListN.{length}
use borrow.Author.Tests.{eqb-true}
use Rattle.lexemes.proofs.Lists.{either}
use Rattle.ll1.specs.Trees.{Trees, Symbol, nonterminal}
use Rattle.ll1.specs.ParseTable.{member}
use Rattle.ll1.proofs.Basics.{clash, both}
use Rattle.grammar.specs.Rules.{<source>, <form>, <rule>, <item>, <option>*, <option>}
use Rattle.grammar.specs.Grammar.{rules}
use Rattle.grammar.specs.Derivation.{Derives}
use Rattle.grammar.specs.Source.{source_tokens, number_at}
use Rattle.answers.specs.Answer.{LONGEST, drafts}
use Rattle.grammar.specs.Parts.{child}
use Rattle.answers.specs.Rows.{Draft, condition, otherwise, own_rows, parent_in, drafts_of}
use Rattle.grammar.specs.Ranges.{out_of_range}
use Rattle.drafts.specs.Sound.{add_row, SoundRows}
use Rattle.answers.proofs.Demand3.{rows_few}
use Rattle.grammar.proofs.Statements.{offering, others, statements, free, Under, tested, no_statements}
use Rattle.sound.proofs.Lists.{All, none, more, all_append, apart}
use Rattle.sound.proofs.Places.{source_bounded}
use Rattle.sound.proofs.Kept.{Kept, kept_nil, kept_leaf, kept_node, kept, Node, bounded_at}
use Rattle.sound.proofs.SoundRow.{Other}
use Rattle.sound.proofs.Expressions.{expression_other}
use Rattle.sound.proofs.Statements.{item_other, form_set_other, form_other, rule_other, option_sound}
use Rattle.sound.proofs.Options.{Stands, stands_none, others_stand, stands_append, Offer, offers_sound, offers_follow}

-- ---- which rules have rows under them

abbrev is_one_of : ℕ → ℕ → Bool
is_one_of A i = eqb A <item> && eqb i 6

-- options stand only under a oneof and in their lists
no_options : Under (λ A i. not (member A offering) && not (is_one_of A i)) offering
unfolding rules
no_options = tested (λ A i. not (member A offering) && not (is_one_of A i)) offering refl

-- there no other statement stands
only_options : Under (λ A i. eqb A <option>* || is_one_of A i) others
unfolding rules
only_options = tested (λ A i. eqb A <option>* || is_one_of A i) others refl

both_empty : (ds es : List Draft) → ds ≡ [] → es ≡ [] → ds ++ es ≡ []
both_empty ds es p q = rw (p, q)

module _ (s : List ℕ) where
  abbrev rows : Trees → ℕ → ℕ → ℕ → List Draft
  rows = drafts_of (number_at s)

  abbrev own : ℕ → ℕ → Trees → ℕ → ℕ → ℕ → List Draft
  own A i c parent at n = own_rows (number_at s) parent at n A i c

  -- a node's own rows and those of the trees under it
  abbrev within : ℕ → ℕ → Trees → ℕ → ℕ → ℕ → List Draft
  within A i c parent at n =
      let first = own A i c parent at n in
      first ++ rows c (parent_in (number_at s) parent at first) (at + length first) n

  -- ---- no statements

  abbrev None : Trees → Type 0
  None c = (parent at n : ℕ) → rows c parent at n ≡ []

  none_within : (A i : ℕ) (c : Trees) (parent at n : ℕ) → not (member A statements) ≡ true → None c → within A i c parent at n ≡ []
  none_within A i c parent at n h under = both_empty (own A i c parent at n) _ empty (under _ _ _)
    where
      other : (B : ℕ) → not (member B statements) ≡ false → eqb A B ≡ false
      other B l = apart (λ B. not (member B statements)) A B h l

      empty : own A i c parent at n ≡ []
      empty = rw (other <item> refl, other <option> refl, other <rule> refl, other <form> refl, other <source> refl, otherwise)

  none_rows : {σ : List Symbol} {f : Trees} → Kept s σ f → free statements σ ≡ true → None f
  none_rows kept_nil h parent at n = refl
  none_rows (kept_leaf p k) h parent at n = none_rows k h parent at n
  none_rows (kept_node {A = A} {i = i} {a = a} {c = c} e r k₁ k₂) h parent at n =
      let t = both (not (member A statements)) _ h in
      let under = none_rows k₁ (no_statements A i a e (rw t.0)) in
      both_empty (within A i c parent at n) _ (none_within A i c parent at n t.0 under) (none_rows k₂ t.1 _ _ _)

  -- ---- options

  abbrev Offered : Trees → Type 0
  Offered c = (p at n : ℕ) → All (Offer p) (rows c p at n)

  option_within : (i : ℕ) (c : Trees) (p at n : ℕ) → Node s <option> i c → All (Offer p) (within <option> i c p at n)
  option_within i c p at n t =
      rw (none_rows t.under (no_statements <option> i t.alternative t.is refl) at (at + 1) n)
      (more (record { sound = option_sound s p t; is_option = refl; of = refl }) none)

  offered_within :
      (A i : ℕ) (c : Trees) (p at n : ℕ)
      → Node s A i c → not (member A others) ≡ true → (eqb A <option>* ≡ true → Offered c) → All (Offer p) (within A i c p at n)
  offered_within A i c p at n t h under =
      either (eqb <option> A)
      (λ e. let is = eqb-true <option> A e in rw (← is) (option_within i c p at n (rw (← is) at t)))
      (λ e.
      either (eqb <option>* A)
      (λ e. let is = eqb-true <option>* A e in rw (← is) (under (rw (← is)) p (at + 0) n))
      (λ l.
      let no_statement_lem : not (member A statements) ≡ true = rw (e, l) h in
      let none_below = none_rows t.under (no_statements A i t.alternative t.is (rw no_statement_lem)) in
      rw (none_within A i c p at n no_statement_lem none_below) none))

  offered : {σ : List Symbol} {f : Trees} → Kept s σ f → free others σ ≡ true → Offered f
  offered kept_nil h p at n = none
  offered (kept_leaf q k) h p at n = offered k h p at n
  offered (kept_node {A = A} {i = i} {a = a} {c = c} e r k₁ k₂) h p at n =
      let t = both (not (member A others)) _ h in
      let this : Node s A i c = record { alternative = a; is = e; none_out = r; under = k₁ } in
      let under : eqb A <option>* ≡ true → Offered c = λ q. offered k₁ (only_options A i a e (rw q)) in
      all_append (offered_within A i c p at n this t.0 under) (offered k₂ t.1 p _ _)

  -- ---- the other statements

  condition_others : (at i : ℕ) {c : Trees} → Node s <item> i c → All Other (condition (number_at s) at i c)
  condition_others at i {c} t =
      either (ltb 6 i) (λ e. rw (e, condition) (expression_other (number_at s) at (child 1 c) (bounded_at s t 1))) (λ e. rw (e, condition) none)

  own_others : (A i : ℕ) (c : Trees) (parent at n : ℕ) → Node s A i c → not (member A offering) ≡ true → All Other (own A i c parent at n)
  own_others A i c parent at n t h =
      either (eqb A <item>)
      (λ e. let t = rw (eqb-true A <item> e) at t in rw (e, otherwise) (more (item_other s parent i t) (condition_others at i t)))
      (λ e. rw (e, apart (λ B. not (member B offering)) A <option> h refl, otherwise)
      (either (eqb A <rule>)
      (λ e.
      let t = rw (eqb-true A <rule> e) at t in
      rw (e, otherwise) (more (rule_other s parent n t) (expression_other (number_at s) at (child 3 c) (bounded_at s t 3))))
      (λ e. rw (e, otherwise)
      (either (eqb A <form>)
      (λ e. rw (e, otherwise) (more (form_other s parent (rw (eqb-true A <form> e) at t)) none))
      (λ e. rw (e, otherwise)
      (either (eqb A <source>)
      (λ e. rw (e, otherwise) (more (form_set_other s (rw (eqb-true A <source> e) at t)) none))
      (λ e. rw (e, otherwise) none)))))))

  -- a oneof and its options
  one_of_within : (c : Trees) (parent at n : ℕ) → Node s <item> 6 c → 0 < at → Stands at (within <item> 6 c parent at n)
  one_of_within c parent at n t h =
      let row = item_other s parent 6 t in
      let choices = offered t.under (only_options <item> 6 t.alternative t.is refl) at (at + 1) n in
      record {
        each = add_row row.sound (offers_sound choices);
        options = λ owner. ((λ e. clash (cc row.no_option)), offers_follow choices h (at + 1));
      }

  -- from a row on that is not the first
  abbrev Standing : Trees → Type 0
  Standing c = (parent at n : ℕ) → 0 < at → Stands at (rows c parent at n)

  within_stands :
      (A i : ℕ) (c : Trees) (parent at n : ℕ)
      → Node s A i c → not (member A offering) ≡ true → (not (is_one_of A i) ≡ true → Standing c)
      → (is_one_of A i ≡ true → 0 < at) → 0 < at + length (own A i c parent at n) → Stands at (within A i c parent at n)
  within_stands A i c parent at n t h under here next =
      either (is_one_of A i)
      (λ e.
      let is = both (eqb A <item>) (eqb i 6) e in
      let rule = eqb-true A <item> is.0 in
      let alternative = eqb-true i 6 is.1 in
      rw (rule, alternative) (one_of_within c parent at n (rw (rule, alternative) at t) (here e)))
      (λ e. stands_append at (own A i c parent at n) _ (others_stand (own_others A i c parent at n t h) at) (under (rw e) _ _ n next))

  stands : {σ : List Symbol} {f : Trees} → Kept s σ f → free offering σ ≡ true → Standing f
  stands kept_nil h parent at n l = stands_none at
  stands (kept_leaf p k) h parent at n l = stands k h parent at n l
  stands (kept_node {A = A} {i = i} {a = a} {c = c} e r k₁ k₂) h parent at n l =
      let t = both (not (member A offering)) _ h in
      let this : Node s A i c = record { alternative = a; is = e; none_out = r; under = k₁ } in
      let under : not (is_one_of A i) ≡ true → Standing c = λ q. stands k₁ (no_options A i a e (rw (t.0, q))) in
      let first = within_stands A i c parent at n this t.0 under (λ q. l) (omega arith) in
      stands_append at (within A i c parent at n) _ first (stands k₂ t.1 parent _ _ (omega arith))

  -- ---- a derivation

  derivation_stands : {f : Trees} → Kept s (nonterminal <source> ∷ []) f → Stands 0 (rows f 0 0 0)
  derivation_stands (kept_node {i = i} {a = a} {c = c} e r k kept_nil) =
      let this : Node s <source> i c = record { alternative = a; is = e; none_out = r; under = k } in
      let under : Standing c = stands k (no_options <source> i a e refl) in
      let first = within_stands <source> i c 0 0 0 this refl (λ q. under) (λ q. clash cc) (omega arith) in
      stands_append 0 (within <source> i c 0 0 0) [] first (stands_none _)

-- the rows of a derivation whose numbers keep their ranges are sound
pub drafts_sound : (s : List ℕ) (tree : Trees) → length s ≤ LONGEST → Derives (source_tokens s) tree → out_of_range s tree ≡ [] → SoundRows (drafts s tree)
unfolding drafts
drafts_sound s tree short derives ranged =
    let few = rows_few s tree derives in
    let all = derivation_stands s (kept s derives.fits (source_bounded s tree short derives.reads) ranged) in
    record { each = all.each; few = omega arith; options = all.options 0 }
