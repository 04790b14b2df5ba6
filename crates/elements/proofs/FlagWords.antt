-- The flag words of FL, each by its rule of the grammar.
-- Assumes nothing.
use Prim.Native.Nat.{ℕ, ◌<◌}
use mathlib.Core.Path.{◌≡◌, refl}
use mathlib.Core.Bool.{true, false}
use mathlib.Core.List.{List, [], ◌∷◌, map}
use mathlib.Core.Option.{none, some}
use mathlib.Core.Logic.{◌≢◌}
use lib.Dec.{ltb}
use lib.ListN.{get_or}
use borrow.Author.Tests.{ltb-true}
use Rattle.lexemes.specs.Classes.{«|», BAD}
use Rattle.ll1.specs.Trees.{token, Trees, nil, leaf, alternative_of}
use Rattle.ll1.specs.ParseTable.{entry_of, predict, nullable, member}
use Rattle.ll1.specs.Test.{all, joined as union}
use Rattle.ll1.proofs.Basics.{is_none, find_joined, all_member}
use Rattle.ll1.proofs.Lookups.{find_none, member_not}
use Rattle.grammar.specs.Rules.{<fl>, <flag>*, <flag>, <numeric_fl>, <numeric_flag>*, <numeric_flag>}
use Rattle.grammar.specs.Grammar.{rules}
use Rattle.grammar.specs.Notation.{t, r, plain, choice}
use Rattle.grammar.specs.Lookahead.{lookahead}
use Rattle.grammar.specs.Ranges.{range_of, keeps, gathered, out_of_range_here, seconds_here}
use Rattle.grammar.proofs.Choices.{place_in, choice_at, choice_told}
use Rattle.elements.specs.Kinds.{flag_classes, numeric_classes}
use Rattle.elements.specs.Marks.{faults_here, faults}
use Rattle.elements.proofs.TreeLaws.{faults_node}
use Rattle.elements.proofs.Ways.{Way, by_token, by_rule}

-- ---- one word

-- a flag word of class k by rule C
pub record Word (C k : ℕ) : Type 0 where
  pub below : k < BAD
  pub way : Way (r C) k
  pub faults_are : (s : List ℕ) (p : ℕ) (g : Trees) → faults s (way.tree p g) ≡ faults s g

-- ---- a list of words

-- FL by rule A, its words after the first by rule B and each word by rule C, of these classes
pub record FlagRules (A B C : ℕ) (ws : List ℕ) : Type 0 where
  pub word : (k : ℕ) → member k ws ≡ true → Word C k
  pub no_word : (k : ℕ) → member k ws ≡ false → predict lookahead C k ≡ none
  pub bar : predict lookahead B «|» ≡ some 1
  pub no_bar : (k : ℕ) → k ≢ «|» → predict lookahead B k ≡ none
  pub first : (entry_of lookahead A).firsts ≡ ws ∷ []
  pub whole : alternative_of rules A 0 ≡ some (plain (r C ∷ r B ∷ []))
  pub last : alternative_of rules B 0 ≡ some (plain [])
  pub another : alternative_of rules B 1 ≡ some (plain (t «|» ∷ r C ∷ r B ∷ []))
  pub full : (nullable rules A ≡ false) × (nullable rules C ≡ false)
  pub may_end : nullable rules B ≡ true
  pub no_faults : (s : List ℕ) (i : ℕ) (c : Trees) → faults_here s B i c ≡ []

-- the rules as the grammar's table and its parse table have them
module _ (C : ℕ) (ws : List ℕ)
    (are : get_or rules C [] ≡ choice ws) (tells : (entry_of lookahead C).firsts ≡ map (λ w. w ∷ []) ws)
    (quiet : (s : List ℕ) (i : ℕ) (c : Trees) → faults_here s C i c ≡ []) (known : all (λ k. ltb k BAD) ws ≡ true) where
  word_of : (k : ℕ) → member k ws ≡ true → Word C k
  unfolding faults gathered
  word_of k m =
      let i = place_in ws k in
      let tell : predict lookahead C k ≡ some i = rw tells (choice_told ws k m) in
      let alternative : alternative_of rules C i ≡ some (plain (t k ∷ [])) = rw are (choice_at ws k m) in
      record {
        below = ltb-true k BAD (all_member (λ k. ltb k BAD) ws k known m);
        way = by_rule C i k (t k) tell alternative (by_token k);
        faults_are = λ s p g. faults_node s C i (leaf (token k p) nil) g (quiet s i (leaf (token k p) nil));
      }

  no_word_of : union (map (λ w. w ∷ []) ws) ≡ ws → (k : ℕ) → member k ws ≡ false → predict lookahead C k ≡ none
  no_word_of same k h = is_none (predict lookahead C k) (rw (find_joined (entry_of lookahead C).firsts k, tells, same, h))

no_bar_of : (B : ℕ) → (entry_of lookahead B).firsts ≡ [] ∷ («|» ∷ []) ∷ [] → (k : ℕ) → k ≢ «|» → predict lookahead B k ≡ none
no_bar_of B e k h = rw e (find_none [] ((«|» ∷ []) ∷ []) k refl (find_none («|» ∷ []) [] k (member_not k «|» [] h refl) refl))

pub question_flags : FlagRules <fl> <flag>* <flag> flag_classes
unfolding rules lookahead faults_here seconds_here out_of_range_here range_of keeps
question_flags =
    record {
      word = word_of <flag> flag_classes refl refl (λ s i c. refl) refl;
      no_word = no_word_of <flag> flag_classes refl refl (λ s i c. refl) refl refl;
      bar = refl;
      no_bar = no_bar_of <flag>* refl;
      first = refl;
      whole = refl;
      last = refl;
      another = refl;
      full = (refl, refl);
      may_end = refl;
      no_faults = λ s i c. refl;
    }

pub numeric_flags_lem : FlagRules <numeric_fl> <numeric_flag>* <numeric_flag> numeric_classes
unfolding rules lookahead faults_here seconds_here out_of_range_here range_of keeps
numeric_flags_lem =
    record {
      word = word_of <numeric_flag> numeric_classes refl refl (λ s i c. refl) refl;
      no_word = no_word_of <numeric_flag> numeric_classes refl refl (λ s i c. refl) refl refl;
      bar = refl;
      no_bar = no_bar_of <numeric_flag>* refl;
      first = refl;
      whole = refl;
      last = refl;
      another = refl;
      full = (refl, refl);
      may_end = refl;
      no_faults = λ s i c. refl;
    }
