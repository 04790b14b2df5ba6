-- Lists of statements: none or more, each turn and each end.
-- Assumes nothing.
use Prim.Native.Nat.{ℕ}
use mathlib.Core.Path.{◌≡◌, refl, ◌∙◌}
use mathlib.Core.Bool.{Bool, true, false}
use mathlib.Core.List.{List, [], ◌∷◌, ◌++◌}
use mathlib.Core.Option.{none, some}
use mathlib.Core.Logic.{◌≢◌}
use native.Mathlib.Omega.{arith}
use lib.Dec.{eqb}
use lib.ListN.{length}
use Rattle.lexemes.specs.Classes as class
use Rattle.lexemes.specs.Classes.{END}
use Rattle.ll1.specs.Trees.{Trees, alternative_of, Depth}
use Rattle.ll1.specs.ParseTable.{entry_of, predict, nullable}
use Rattle.ll1.proofs.Lookups.{member_not}
use Rattle.grammar.specs.Grammar.{rules}
use Rattle.grammar.specs.Notation.{r, plain}
use Rattle.grammar.specs.Lookahead.{lookahead}
use Rattle.grammar.specs.Rules.{<rule>, <item>, <option>, <option>*, <form>, <form>*, <item_or_rule>*, <item>*}
use Rattle.grammar.specs.Ranges.{range_of}
use Rattle.walk.specs.Standing.{Standing}
use Rattle.walk.specs.Meanings.{Counted, Under, rows_own}
use Rattle.walk.specs.Starts.{item_words, condition_words, is_condition, starts_item}
use Rattle.walk.specs.Walked.{Room, list_of, WalkedUnder}
use Rattle.walk.proofs.TreeLaws.{Faultless, faultless}
use Rattle.walk.proofs.Walks.{walked_then, counted_joins, walked_as, counted_as, walked_nil, walked_node, counted_node, resume_in, resume_skip}
use Rattle.walk.proofs.MeaningLaws.{silent_under, under_joins, content_under, under_content}
use Rattle.walk.proofs.StartLaws.{Each, one_of, none_of_lem, none_append, tells_none}
use Rattle.walk.proofs.Rooms.{room_after}

-- ---- a rule that is a list

pub record ListRule (L : ℕ) : Type 0 where
  pub empty : alternative_of rules L 0 ≡ some (plain [])
  pub absent : nullable rules L ≡ true
  pub no_faults : (i : ℕ) → Faultless L i
  pub no_rule : eqb L <rule> ≡ false
  pub no_rows : (s : List ℕ) (parent at n i : ℕ) (c : Trees) → rows_own s parent at n L i c ≡ []

-- alternative i of the list L is a tree of rule A, and the list again
pub record ListOf (L i A : ℕ) : Type 0 where
  pub list : ListRule L
  pub more : alternative_of rules L i ≡ some (plain (r A ∷ r L ∷ []))

module _ {s : List ℕ} {d : Depth} {L parent : ℕ} where
  pub list_more :
      {i A : ℕ} {st c r' : Standing} {t₀ t₁ t₂ : List ℕ}
      → ListOf L i A → predict lookahead L st.token.class ≡ some i → st.token.class ≢ END → WalkedUnder s d (r A ∷ []) parent st c t₀ t₁
      → WalkedUnder s d (r L ∷ []) parent c r' t₁ t₂ → WalkedUnder s d (r L ∷ []) parent st r' t₀ t₂
  list_more {i} {A} {st} l p q w v =
      let k = l.list in
      walked_node i {M = Counted (Under s parent)} l.more (k.no_faults i)
      (λ σ. resume_in s d L σ st.no st.token i (plain (r A ∷ r L ∷ [])) q p l.more)
      (λ c ds n h m. counted_node (λ x. content_under s (under_content s (k.no_rows s parent st.rows st.rules i c) k.no_rule x)) m)
      (walked_then (counted_joins (under_joins s)) w v)

  pub list_none :
      {st : Standing} {t₀ : List ℕ}
      → ListRule L → predict lookahead L st.token.class ≡ none → WalkedUnder s d (r L ∷ []) parent st st t₀ t₀
  list_none {st} k p =
      walked_node 0 {M = Counted (Under s parent)} k.empty (k.no_faults 0)
      (λ σ. resume_skip s d L σ st.no st.token k.absent p)
      (λ c ds n h m. counted_node (λ x. content_under s (under_content s (k.no_rows s parent st.rows st.rules 0 c) k.no_rule x)) m)
      (walked_as (λ f ds n h m. counted_as (silent_under s parent refl h) m) (walked_nil s d))

-- ---- the lists of the grammar

pub options_are : ListOf <option>* 1 <option>
unfolding rules range_of rows_own
options_are =
    record {
      list =
          record {
            empty = refl;
            absent = refl;
            no_faults = λ i. faultless refl refl refl;
            no_rule = refl;
            no_rows = λ s parent at n i c. refl;
          };
      more = refl;
    }

pub forms_are : ListOf <form>* 1 <form>
unfolding rules range_of rows_own
forms_are =
    record {
      list =
          record {
            empty = refl;
            absent = refl;
            no_faults = λ i. faultless refl refl refl;
            no_rule = refl;
            no_rows = λ s parent at n i c. refl;
          };
      more = refl;
    }

-- a form's items and rules, and a condition's items
pub items_are : (in_form : Bool) → ListOf (list_of in_form) 1 <item>
unfolding rules range_of rows_own
items_are true =
    record {
      list =
          record {
            empty = refl;
            absent = refl;
            no_faults = λ i. faultless refl refl refl;
            no_rule = refl;
            no_rows = λ s parent at n i c. refl;
          };
      more = refl;
    }
items_are false =
    record {
      list =
          record {
            empty = refl;
            absent = refl;
            no_faults = λ i. faultless refl refl refl;
            no_rule = refl;
            no_rows = λ s parent at n i c. refl;
          };
      more = refl;
    }

pub rules_are : ListOf (list_of true) 2 <rule>
unfolding rules range_of rows_own
rules_are = record { list = (items_are true).list; more = refl }

-- ---- what starts an item

pub record ItemWord (k : ℕ) : Type 0 where
  pub known : k ≢ END
  pub tells : (in_form : Bool) → predict lookahead (list_of in_form) k ≡ some 1

tells_item :
    (k : ℕ) → predict lookahead <item_or_rule>* k ≡ some 1 → predict lookahead <item>* k ≡ some 1 → (in_form : Bool)
    → predict lookahead (list_of in_form) k ≡ some 1
tells_item k a b true = a
tells_item k a b false = b

item_words_lem : Each ItemWord item_words
unfolding lookahead
item_words_lem = (
  record { known = λ q. absurd (omega arith); tells = tells_item _ refl refl },
  (
    record { known = λ q. absurd (omega arith); tells = tells_item _ refl refl },
    (
      record { known = λ q. absurd (omega arith); tells = tells_item _ refl refl },
      (
        record { known = λ q. absurd (omega arith); tells = tells_item _ refl refl },
        (
          record { known = λ q. absurd (omega arith); tells = tells_item _ refl refl },
          (
            record { known = λ q. absurd (omega arith); tells = tells_item _ refl refl },
            (
              record { known = λ q. absurd (omega arith); tells = tells_item _ refl refl },
              tt,
            ),
          ),
        ),
      ),
    ),
  ),
)

pub item_word : (k : ℕ) → starts_item k ≡ true → ItemWord k
item_word k h = one_of ItemWord k item_words item_words_lem h

-- no item and, in a form, no rule starts so
pub items_end :
    (in_form : Bool) (k : ℕ)
    → is_condition k ≡ false → starts_item k ≡ false → (in_form ≡ true → k ≢ class.«rule») → predict lookahead (list_of in_form) k ≡ none
unfolding lookahead
items_end true k a b c =
    let items = none_append k item_words condition_words (none_of_lem k item_words b) (none_of_lem k condition_words a) in
    tells_none (entry_of lookahead <item_or_rule>*).firsts k (none_append k (item_words ++ condition_words) (class.«rule» ∷ []) items (member_not k class.«rule» [] (c refl) refl))
items_end false k a b c = tells_none (entry_of lookahead <item>*).firsts k (none_append k item_words condition_words (none_of_lem k item_words b) (none_of_lem k condition_words a))

-- ---- the loop over a list

-- whoever ends the list from here ends it from its start, at each depth of D
pub record ListLoop (s : List ℕ) (D : Depth → Type 0) (L parent : ℕ) (t₀ : List ℕ) (st₀ : Standing) (t₁ : List ℕ) (st : Standing) : Type 0 where
  pub len : length t₁ ≡ length t₀
  pub room : Room s st
  pub rest :
      (r' : Standing) (t₂ : List ℕ)
      → ((d : Depth) → D d → WalkedUnder s d (r L ∷ []) parent st r' t₁ t₂) → (d : Depth) → D d → WalkedUnder s d (r L ∷ []) parent st₀ r' t₀ t₂

pub list_again :
    {s : List ℕ} {D : Depth → Type 0} {L i A parent : ℕ} {st₀ st c : Standing} {t₀ t₁ t₂ : List ℕ} (d : Depth)
    → D d → ListLoop s D L parent t₀ st₀ t₁ st → ListOf L i A → predict lookahead L st.token.class ≡ some i → st.token.class ≢ END
    → length t₂ ≡ length t₁ → ((d : Depth) → D d → WalkedUnder s d (r A ∷ []) parent st c t₁ t₂) → ListLoop s D L parent t₀ st₀ t₂ c
list_again d o x l p q e w = record { len = e ∙ x.len; room = room_after x.room (w d o); rest = λ r' t₃ v. x.rest r' t₃ (λ d o. list_more l p q (w d o) (v d o)) }

-- ---- one or more options, and one or more forms

pub option_word : {k : ℕ} → k ≡ class.«option» → predict lookahead <option>* k ≡ some 1
unfolding lookahead
option_word e = rw e

pub options_end : {k : ℕ} → k ≢ class.«option» → predict lookahead <option>* k ≡ none
unfolding lookahead
options_end {k} h = tells_none (entry_of lookahead <option>*).firsts k (member_not k class.«option» [] h refl)

pub form_word : {k : ℕ} → k ≡ class.«form» → predict lookahead <form>* k ≡ some 1
unfolding lookahead
form_word e = rw e

pub forms_end : {k : ℕ} → k ≢ class.«form» → predict lookahead <form>* k ≡ none
unfolding lookahead
forms_end {k} h = tells_none (entry_of lookahead <form>*).firsts k (member_not k class.«form» [] h refl)

-- the first, and the others
pub list_whole :
    {s : List ℕ} {d : Depth} {A L parent : ℕ} {st c r' : Standing} {t₀ t₁ t₂ : List ℕ}
    → WalkedUnder s d (r A ∷ []) parent st c t₀ t₁ → WalkedUnder s d (r L ∷ []) parent c r' t₁ t₂
    → WalkedUnder s d (r A ∷ r L ∷ []) parent st r' t₀ t₂
list_whole {s} w v = walked_then (counted_joins (under_joins s)) w v
