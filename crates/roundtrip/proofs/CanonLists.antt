-- Lists of statements: none, or a statement and the list after it.
-- Assumes nothing.
use mathlib.Core.Path.{refl, ap, ◌∙◌}
use mathlib.Core.List.{List, ◌++◌}
use Prim.Native.Nat.{ℕ, ◌+◌}
use lib.ListN.{length}
use Rattle.ll1.specs.Trees.{Trees, nil, node, Depth}
use Rattle.grammar.specs.Rules.{<form>*, <form>, <item_or_rule>*, <rule>, <item>, <option>*, <item>*, <option>}
use Rattle.grammar.specs.Grammar.{rules}
use Rattle.answers.specs.Rows.{rules_in}
use Rattle.answers.specs.Text.{around, words_of}
use Rattle.formulas.specs.Shapes.{s_nil, s_node, Over, over_nil, over_node}
use Rattle.formulas.specs.Fitted.{f_nil, f_node}
use Rattle.roundtrip.proofs.Core.{within}
use Rattle.roundtrip.proofs.CanonSeq.{spell_node, OverOk, made, Ok, seq_none, seq_node}

module _ (t : List ℕ) (look look' : ℕ → List ℕ) (source : ℕ → ℕ) (d : Depth) where
  pub no_forms : (parent at n : ℕ) → Ok t look look' source d <form>* 0 nil parent at n
  unfolding rules
  no_forms parent at n = record { fits = λ h. f_node refl f_nil h; spells = refl; over = λ T o. by o }
    where
      by : {T : Trees} → Over t T s_nil → OverOk t look look' source <form>* 0 nil T parent at n
      by over_nil = let s = seq_none t look look' source parent (at + 0) n in record { rows = s.rows; count = refl; again = s.again }

  pub no_items_or_rules : (parent at n : ℕ) → Ok t look look' source d <item_or_rule>* 0 nil parent at n
  unfolding rules
  no_items_or_rules parent at n = record { fits = λ h. f_node refl f_nil h; spells = refl; over = λ T o. by o }
    where
      by : {T : Trees} → Over t T s_nil → OverOk t look look' source <item_or_rule>* 0 nil T parent at n
      by over_nil = let s = seq_none t look look' source parent (at + 0) n in record { rows = s.rows; count = refl; again = s.again }

  pub no_options : (parent at n : ℕ) → Ok t look look' source d <option>* 0 nil parent at n
  unfolding rules
  no_options parent at n = record { fits = λ h. f_node refl f_nil h; spells = refl; over = λ T o. by o }
    where
      by : {T : Trees} → Over t T s_nil → OverOk t look look' source <option>* 0 nil T parent at n
      by over_nil = let s = seq_none t look look' source parent (at + 0) n in record { rows = s.rows; count = refl; again = s.again }

  pub no_items : (parent at n : ℕ) → Ok t look look' source d <item>* 0 nil parent at n
  unfolding rules
  no_items parent at n = record { fits = λ h. f_node refl f_nil h; spells = refl; over = λ T o. by o }
    where
      by : {T : Trees} → Over t T s_nil → OverOk t look look' source <item>* 0 nil T parent at n
      by over_nil = let s = seq_none t look look' source parent (at + 0) n in record { rows = s.rows; count = refl; again = s.again }

  module _ (j k : ℕ) (b a : Trees) (parent at n : ℕ) where
    pub more_forms :
        Ok t look look' source d <form> j b parent (at + 0) n
        → Ok t look look' source d <form>* k a parent (at + 0 + length (within source look <form> j b parent (at + 0) n)) (n + rules_in (node <form> j b nil))
        → Ok t look look' source d <form>* 1 (node <form> j b (node <form>* k a nil)) parent at n
    unfolding rules
    more_forms x y =
        record {
          fits = λ h. f_node refl (x.fits (y.fits f_nil)) h;
          spells =
              spell_node <form> j (made t look look' source <form> j b) (s_node <form>* k (made t look look' source <form>* k a) s_nil) x.spells
              ∙ ap (λ ws. around look <form> j b (words_of look b) ++ ws) (spell_node <form>* k (made t look look' source <form>* k a) s_nil y.spells);
          over = λ T o. by o;
        }
      where
        by : {T : Trees} → Over t T (s_node <form> j (made t look look' source <form> j b) (s_node <form>* k (made t look look' source <form>* k a) s_nil)) → OverOk t look look' source <form>* 1 (node <form> j b (node <form>* k a nil)) T parent at n
        by (over_node {c = c₁} o₁ (over_node {c = c₂} o₂ over_nil)) =
            let s = seq_node t look look' source (x.over c₁ o₁) (seq_node t look look' source (y.over c₂ o₂) (seq_none t look look' source parent _ _)) in
            record { rows = s.rows; count = ap (λ m. 0 + m + 0) s.count; again = s.again }

  module _ (j k : ℕ) (b a : Trees) (parent at n : ℕ) where
    pub item_first :
        Ok t look look' source d <item> j b parent (at + 0) n
        → Ok t look look' source d <item_or_rule>* k a parent (at + 0 + length (within source look <item> j b parent (at + 0) n)) (n + rules_in (node <item> j b nil))
        → Ok t look look' source d <item_or_rule>* 1 (node <item> j b (node <item_or_rule>* k a nil)) parent at n
    unfolding rules
    item_first x y =
        record {
          fits = λ h. f_node refl (x.fits (y.fits f_nil)) h;
          spells =
              spell_node <item> j (made t look look' source <item> j b) (s_node <item_or_rule>* k (made t look look' source <item_or_rule>* k a) s_nil) x.spells
              ∙ ap (λ ws. around look <item> j b (words_of look b) ++ ws) (spell_node <item_or_rule>* k (made t look look' source <item_or_rule>* k a) s_nil y.spells);
          over = λ T o. by o;
        }
      where
        by : {T : Trees} → Over t T (s_node <item> j (made t look look' source <item> j b) (s_node <item_or_rule>* k (made t look look' source <item_or_rule>* k a) s_nil)) → OverOk t look look' source <item_or_rule>* 1 (node <item> j b (node <item_or_rule>* k a nil)) T parent at n
        by (over_node {c = c₁} o₁ (over_node {c = c₂} o₂ over_nil)) =
            let s = seq_node t look look' source (x.over c₁ o₁) (seq_node t look look' source (y.over c₂ o₂) (seq_none t look look' source parent _ _)) in
            record { rows = s.rows; count = ap (λ m. 0 + m + 0) s.count; again = s.again }

  module _ (j k : ℕ) (b a : Trees) (parent at n : ℕ) where
    pub rule_first :
        Ok t look look' source d <rule> j b parent (at + 0) n
        → Ok t look look' source d <item_or_rule>* k a parent (at + 0 + length (within source look <rule> j b parent (at + 0) n)) (n + rules_in (node <rule> j b nil))
        → Ok t look look' source d <item_or_rule>* 2 (node <rule> j b (node <item_or_rule>* k a nil)) parent at n
    unfolding rules
    rule_first x y =
        record {
          fits = λ h. f_node refl (x.fits (y.fits f_nil)) h;
          spells =
              spell_node <rule> j (made t look look' source <rule> j b) (s_node <item_or_rule>* k (made t look look' source <item_or_rule>* k a) s_nil) x.spells
              ∙ ap (λ ws. around look <rule> j b (words_of look b) ++ ws) (spell_node <item_or_rule>* k (made t look look' source <item_or_rule>* k a) s_nil y.spells);
          over = λ T o. by o;
        }
      where
        by : {T : Trees} → Over t T (s_node <rule> j (made t look look' source <rule> j b) (s_node <item_or_rule>* k (made t look look' source <item_or_rule>* k a) s_nil)) → OverOk t look look' source <item_or_rule>* 2 (node <rule> j b (node <item_or_rule>* k a nil)) T parent at n
        by (over_node {c = c₁} o₁ (over_node {c = c₂} o₂ over_nil)) =
            let s = seq_node t look look' source (x.over c₁ o₁) (seq_node t look look' source (y.over c₂ o₂) (seq_none t look look' source parent _ _)) in
            record { rows = s.rows; count = ap (λ m. 0 + m + 0) s.count; again = s.again }

  module _ (j k : ℕ) (b a : Trees) (parent at n : ℕ) where
    pub more_options :
        Ok t look look' source d <option> j b parent (at + 0) n
        → Ok t look look' source d <option>* k a parent (at + 0 + length (within source look <option> j b parent (at + 0) n)) (n + rules_in (node <option> j b nil))
        → Ok t look look' source d <option>* 1 (node <option> j b (node <option>* k a nil)) parent at n
    unfolding rules
    more_options x y =
        record {
          fits = λ h. f_node refl (x.fits (y.fits f_nil)) h;
          spells =
              spell_node <option> j (made t look look' source <option> j b) (s_node <option>* k (made t look look' source <option>* k a) s_nil) x.spells
              ∙ ap (λ ws. around look <option> j b (words_of look b) ++ ws) (spell_node <option>* k (made t look look' source <option>* k a) s_nil y.spells);
          over = λ T o. by o;
        }
      where
        by : {T : Trees} → Over t T (s_node <option> j (made t look look' source <option> j b) (s_node <option>* k (made t look look' source <option>* k a) s_nil)) → OverOk t look look' source <option>* 1 (node <option> j b (node <option>* k a nil)) T parent at n
        by (over_node {c = c₁} o₁ (over_node {c = c₂} o₂ over_nil)) =
            let s = seq_node t look look' source (x.over c₁ o₁) (seq_node t look look' source (y.over c₂ o₂) (seq_none t look look' source parent _ _)) in
            record { rows = s.rows; count = ap (λ m. 0 + m + 0) s.count; again = s.again }

  module _ (j k : ℕ) (b a : Trees) (parent at n : ℕ) where
    pub more_items :
        Ok t look look' source d <item> j b parent (at + 0) n
        → Ok t look look' source d <item>* k a parent (at + 0 + length (within source look <item> j b parent (at + 0) n)) (n + rules_in (node <item> j b nil))
        → Ok t look look' source d <item>* 1 (node <item> j b (node <item>* k a nil)) parent at n
    unfolding rules
    more_items x y =
        record {
          fits = λ h. f_node refl (x.fits (y.fits f_nil)) h;
          spells =
              spell_node <item> j (made t look look' source <item> j b) (s_node <item>* k (made t look look' source <item>* k a) s_nil) x.spells
              ∙ ap (λ ws. around look <item> j b (words_of look b) ++ ws) (spell_node <item>* k (made t look look' source <item>* k a) s_nil y.spells);
          over = λ T o. by o;
        }
      where
        by : {T : Trees} → Over t T (s_node <item> j (made t look look' source <item> j b) (s_node <item>* k (made t look look' source <item>* k a) s_nil)) → OverOk t look look' source <item>* 1 (node <item> j b (node <item>* k a nil)) T parent at n
        by (over_node {c = c₁} o₁ (over_node {c = c₂} o₂ over_nil)) =
            let s = seq_node t look look' source (x.over c₁ o₁) (seq_node t look look' source (y.over c₂ o₂) (seq_none t look look' source parent _ _)) in
            record { rows = s.rows; count = ap (λ m. 0 + m + 0) s.count; again = s.again }
