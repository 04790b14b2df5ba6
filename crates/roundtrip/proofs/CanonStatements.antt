-- Statements that have statements or an expression under them.
-- Assumes nothing.
use mathlib.Core.Path.{◌≡◌, refl, ap, ap₂, sym, ◌∙◌, subst}
use mathlib.Core.List.{List, [], ◌∷◌, ◌++◌, map, append-nil, append_assoc}
use mathlib.Core.Bool.{false}
use Prim.Native.Nat.{ℕ, suc, ◌+◌, ◌^◌, ◌≤◌, ◌<◌}
use native.Mathlib.Omega.{arith}
use lib.ListN.{length}
use Rattle.lexemes.specs.Lexemes.{signs, reserved, lexemes}
use Rattle.lexemes.specs.Classes as class
use Rattle.rows.specs.Columns as column
use Rattle.ll1.specs.Trees.{Trees, nil, node, Symbol, nonterminal, Depth, depth}
use Rattle.grammar.specs.Rules.{<source>, <form>*, <form>, <item_or_rule>*, <rule>, <item>, <option>*, <item>*, <option>}
use Rattle.grammar.specs.Source.{number_at}
use Rattle.grammar.specs.Derivation.{too_deep}
use Rattle.grammar.specs.Parts.{child, chosen, place_at}
use Rattle.answers.specs.Expression.{Expression, expression}
use Rattle.answers.specs.Rows.{Draft, rules_in, drafts_of, item, form, rule_draft, form_set, guid_high, guid_low, guid_bytes, expression_rows}
use Rattle.answers.specs.Stages.{cell}
use Rattle.answers.specs.Text.{Word, words, opening, printed, around, words_of}
use Rattle.sound.proofs.Lists.{All}
use Rattle.formulas.specs.Shapes.{word, Shape, s_nil, s_node, flat, spelling, Over, over_nil, over_node}
use Rattle.formulas.specs.Fitted.{Fitted, f_nil, f_leaf}
use Rattle.formulas.proofs.Fitted.{fine}
use Rattle.formulas.specs.Formula.{Formula, formula, nest}
use Rattle.formulas.specs.Words.{print}
use Rattle.formulas.proofs.Words.{printed_words}
use Rattle.formulas.specs.Tree.{Rel}
use Rattle.formulas.proofs.Shapes.{over_part}
use Rattle.roundtrip.proofs.Phrases.{say, ending, one_of_under, condition_under, rule_under, form_under, form_set_under}
use Rattle.roundtrip.proofs.PhraseWords.{one_of_words, condition_words_lem, rule_words, form_words, form_set_words}
use Rattle.roundtrip.proofs.PhraseFits.{one_of_fits, rule_fits, form_fits, form_set_fits, suppressif_fits, grayoutif_fits, disableif_fits}
use Rattle.roundtrip.proofs.PhraseRows.{low_of}
use Rattle.roundtrip.proofs.Matches.{one_of_match, suppress_match, gray_out_match, disable_match, rule_match, form_match, form_set_match}
use Rattle.roundtrip.proofs.Expressions.{all_parts_lem, rows_match, formula_again}
use Rattle.formulas.proofs.Expressed.{tree_node, expression_is}
use Rattle.roundtrip.proofs.Core.{core, within, Told}
use Rattle.roundtrip.proofs.Rebuilt.{anew}
use Rattle.roundtrip.proofs.Stating.{form_set_symbols, form_symbols, rule_symbols, one_of_symbols, condition_symbols}
use Rattle.again.specs.Matches.{Settled, Match, Pairs, pair}
use Rattle.roundtrip.proofs.Canon.{listed, Found, pairs_append, pairs_length}
use Rattle.roundtrip.proofs.CanonSeq.{spell_node, core_shape, over_core, silent_core, open_again, SeqOver, made, Ok, seq_none, seq_node, inside, told_over}
use Rattle.roundtrip.proofs.CanonItems.{head_of, tail_of_lem, row_of, leafless}

-- ---- words

-- one list of statements, or a statement and a list, and then an ending
one_end : (a e : List Word) → a ++ e ≡ a ++ [] ++ e
one_end a e = ap (λ x. x ++ e) (sym (append-nil a))

two_end : (a b e : List Word) → a ++ (b ++ e) ≡ a ++ (b ++ []) ++ e
two_end a b e = ap (λ x. a ++ (x ++ e)) (sym (append-nil b)) ∙ sym (append_assoc a (b ++ []) e)

four : (p s b e : List Word) → p ++ (s ++ (b ++ e)) ≡ p ++ s ++ b ++ e
four p s b e = sym (append_assoc (p ++ s) b e ∙ append_assoc p s (b ++ e))

module _ (t : List ℕ) (look look' : ℕ → List ℕ) (source : ℕ → ℕ) where
  abbrev N : ℕ → ℕ
  N = number_at t

  -- ---- own rows, and those of the trees under them

  own_rows_lem :
      {E' E : List Draft} (T c : Trees) (at n : ℕ)
      → Pairs (Match t look) E' E → SeqOver t look look' source T c at (at + length E) n
      → Pairs (Match t look) (E' ++ drafts_of N T at (at + length E') n) (E ++ drafts_of source c at (at + length E) n)
  own_rows_lem {E'} {E} T c at n p s = pairs_append p (subst (λ k. Pairs (Match t look) (drafts_of N T at (at + k) n) (drafts_of source c at (at + length E) n)) (sym (pairs_length p)) s.rows)

  own_found :
      {E' E : List Draft} (T : Trees) (at n : ℕ)
      → Pairs (Match t look) E' E → All (Found t look') (E' ++ drafts_of N T at (at + length E') n)
      → All (Found t look') E' × All (Found t look') (drafts_of N T at (at + length E) n)
  own_found {E'} {E} T at n p h =
      let q = all_parts_lem E' (drafts_of N T at (at + length E') n) h in
      (q.0, subst (λ k. All (Found t look') (drafts_of N T at (at + k) n)) (pairs_length p) q.1)

  -- an expression prints again as it was printed
  printed_again : (at : ℕ) (e' e : Expression) → Rel t e' (formula look e) → All (Found t look') (expression_rows N at e') → printed look' 0 e' ≡ printed look 0 e
  printed_again at e' e h f =
      printed_words look' e' 0 (omega arith) ∙ ap (λ x. map word (print 9 x)) (formula_again t look' at h f) ∙ sym (printed_words look e 0 (omega arith))

  -- ---- the statements under a statement: one list of them, or one and a list

  module _ {d : Depth} {A i parent at n : ℕ} {c : Trees} (x : Ok t look look' source d A i c parent at n) where
    abbrev its_words : List Word
    its_words = around look A i c (words_of look c)

    one_words : (e : Shape) {W : List Word} → W ≡ its_words ++ [] → spelling (s_node A i (made t look look' source A i c) e) ≡ W ++ spelling e
    one_words e h = spell_node A i (made t look look' source A i c) e x.spells ∙ one_end its_words (spelling e) ∙ ap (λ ws. ws ++ spelling e) (sym h)

    one_over : {K : Trees} → Over t K (s_node A i (made t look look' source A i c) s_nil) → SeqOver t look look' source K (node A i c nil) parent at n
    one_over (over_node {c = T} o over_nil) = seq_node t look look' source (x.over T o) (seq_none t look look' source parent _ _)

  module _
      {d : Depth} {A i B j parent at n : ℕ} {c b : Trees} (x : Ok t look look' source d A i c parent at n)
      (y : Ok t look look' source d B j b parent (at + length (within source look A i c parent at n)) (n + rules_in (node A i c nil))) where
    abbrev second : Shape → Shape
    second e = s_node B j (made t look look' source B j b) e

    two_words : (e : Shape) {W : List Word} → W ≡ its_words x ++ (its_words y ++ []) → spelling (s_node A i (made t look look' source A i c) (second e)) ≡ W ++ spelling e
    two_words e h =
        spell_node A i (made t look look' source A i c) (second e) x.spells
        ∙ ap (λ ws. its_words x ++ ws) (spell_node B j (made t look look' source B j b) e y.spells)
        ∙ two_end (its_words x) (its_words y) (spelling e) ∙ ap (λ ws. ws ++ spelling e) (sym h)

    two_over :
        {K : Trees} → Over t K (s_node A i (made t look look' source A i c) (second s_nil))
        → SeqOver t look look' source K (node A i c (node B j b nil)) parent at n
    two_over (over_node {c = T} o (over_node {c = U} u over_nil)) =
        seq_node t look look' source (x.over T o) (seq_node t look look' source (y.over U u) (seq_none t look look' source parent _ _))

  -- ---- oneof HEAD , [flags = FL ,] option+ endoneof ;

  module _ (d : Depth) (u : too_deep d ≡ false) (c : Trees) (parent at n : ℕ) where
    abbrev one_of : Trees
    one_of = anew one_of_symbols c

    abbrev options : Shape
    options = listed look <option> 4 c (listed look <option>* 5 c (ending class.«endoneof»))

    -- of a row
    abbrev one_of_shape : List ℕ → Shape
    one_of_shape r = one_of_under r options

    pub one_of_ok :
        Told source look one_of → Settled look (item source parent 6 one_of)
        → Ok t look look' source d <option> (chosen 4 c) (child 4 c) at (at + 1) n
        → Ok t look look' source d <option>* (chosen 5 c) (child 5 c) at (at + 1 + length (within source look <option> (chosen 4 c) (child 4 c) at (at + 1) n))
        (n + rules_in (node <option> (chosen 4 c) (child 4 c) nil))
        → Ok t look look' source d <item> 6 one_of parent at n
    unfolding lexemes signs reserved
    one_of_ok told_c s x y =
        record {
          fits = fits;
          spells = subst (λ r. spelling (one_of_shape r) ≡ opening r ++ (words_of look one_of ++ words "endoneof ;")) (sym s.is_row)
              (one_of_words (row_of s) options
              ∙ ap (λ ws. opening (row_of s) ++ ws) (two_words x y (ending class.«endoneof») told_c.words));
          over = λ T o.
              let m = one_of_match t look source parent one_of T options s o in
              let told_T = told_over t look look' source d <item> 6 (one_of_shape r) (fits f_nil) o in
              let k : SeqOver t look look' source T one_of at (at + 1) n = inside t look look' source told_T told_c (two_over x y (over_core o)) in
              record {
                rows = pair m k.rows;
                count = ap (λ z. 0 + z + 0) k.count;
                again = λ h. ap₂ (λ a b. a ++ (b ++ words "endoneof ;")) (open_again t look look' source m (head_of h)) (k.again (tail_of_lem h));
              };
        }
      where
        r : List ℕ
        r = look (place_at 0 c)

        fits : {σ : List Symbol} {F : Trees} → Fitted d σ F → Fitted d (nonterminal <item> ∷ σ) (node <item> 6 (flat (one_of_shape r)) F)
        fits h = one_of_fits u r options (x.fits (y.fits (f_leaf u (f_leaf u f_nil)))) h

  -- ---- suppressif, grayoutif or disableif, which is the class k, expression ; item* endif ;

  module _ (k q g : ℕ) (l : suc q ≤ 16) (c : Trees) (b : g + nest 9 (formula look (expression (child 1 c))) ≤ 32) (parent at n : ℕ) where
    abbrev conditional : Trees
    conditional = anew (condition_symbols k) c

    abbrev its_formula : Formula
    its_formula = formula look (expression (child 1 c))

    abbrev its_items : Shape
    its_items = listed look <item>* 3 c (ending class.«endif»)

    -- the rows of a condition with the row D, and the words after its first
    abbrev rows_of_lem : (ℕ → ℕ) → Draft → Trees → List Draft
    rows_of_lem value D T = D ∷ expression_rows value at (expression (child 1 T))

    abbrev rest_of : (ℕ → List ℕ) → Trees → List Word
    rest_of look T = printed look 0 (expression (child 1 T)) ++ words ";" ++ words_of look T ++ words "endif ;"

    -- the list of items comes after these rows
    abbrev ItemsOk : Type 0
    ItemsOk = Ok t look look' source (depth (suc q) g) <item>* (chosen 3 c) (child 3 c) at (at + suc (length (expression_rows source at (expression (child 1 c))))) n

    deep : too_deep (depth (suc q) g) ≡ false
    deep = fine (suc q) g l (omega arith)

    rest_words : Told source look conditional → ItemsOk → map word (print 9 its_formula) ++ (words ";" ++ spelling its_items) ≡ rest_of look conditional
    unfolding lexemes signs reserved
    rest_words told_c x =
        ap (λ ws. map word (print 9 its_formula) ++ (words ";" ++ ws)) (one_words x (ending class.«endif») told_c.words)
        ∙ four (map word (print 9 its_formula)) (words ";") (words_of look conditional) (words "endif ;")
        ∙ ap (λ ws. ws ++ words ";" ++ words_of look conditional ++ words "endif ;") (sym (printed_words look (expression (child 1 c)) 0 (omega arith)))

    record Conditional (D' D : Draft) (T : Trees) : Type 0 where
      pub rows :
          Pairs (Match t look) (rows_of_lem N D' T ++ drafts_of N T at (at + length (rows_of_lem N D' T)) n)
          (rows_of_lem source D c ++ drafts_of source conditional at (at + length (rows_of_lem source D c)) n)
      pub count : rules_in T ≡ rules_in conditional
      pub again :
          All (Found t look') (rows_of_lem N D' T ++ drafts_of N T at (at + length (rows_of_lem N D' T)) n)
          → opening (look' (cell column.PLACE D')) ++ rest_of look' T ≡ opening (look (cell column.PLACE D)) ++ rest_of look conditional

    conditional_over :
        (D' D : Draft) (T : Trees)
        → Told source look conditional → Told N look' T → Match t look D' D → Settled look D → All (Settled look) (expression_rows source at (expression (child 1 c))) → ItemsOk
        → Over t T (condition_under k its_formula its_items) → Conditional D' D T
    conditional_over D' D T told_c told_T m s se x o =
        let rel = expression_is t its_formula (say class.semicolon its_items) (over_part 1 o) in
        let pm = pair m (rows_match t look source at (expression (child 1 T)) (expression (child 1 c)) rel se) in
        let e : core_shape (condition_under k its_formula its_items) ≡ core_shape its_items = ap core_shape (tree_node its_formula (say class.semicolon its_items)) in
        let z = inside t look look' source told_T told_c (one_over x (subst (λ y. Over t (core T) y) e (over_core o))) in
        record {
          rows = own_rows_lem T conditional at n pm z;
          count = z.count;
          again = λ h.
              let v = own_found T at n pm h in
              let p = printed_again at (expression (child 1 T)) (expression (child 1 c)) rel (tail_of_lem v.0) in
              λ j. open_again t look look' source m (head_of v.0) j ++ (p j ++ words ";" ++ z.again v.1 j ++ words "endif ;");
        }

  module _ (q g : ℕ) (l : suc q ≤ 16) (c : Trees) (b : g + nest 9 (formula look (expression (child 1 c))) ≤ 32) (parent at n : ℕ) where
    abbrev suppress : Trees
    suppress = conditional class.«suppressif» q g l c b parent at n

    abbrev suppress_shape : Shape
    suppress_shape = condition_under class.«suppressif» (formula look (expression (child 1 c))) (listed look <item>* 3 c (ending class.«endif»))

    pub suppress_ok :
        Told source look suppress → Settled look (item source parent 7 suppress) → All (Settled look) (expression_rows source at (expression (child 1 c)))
        → ItemsOk class.«suppressif» q g l c b parent at n
        → Ok t look look' source (depth q g) <item> 7 suppress parent at n
    unfolding lexemes signs reserved
    suppress_ok told_c s se x =
        record {
          fits = fits;
          spells =
              condition_words_lem class.«suppressif» (formula look (expression (child 1 c))) (listed look <item>* 3 c (ending class.«endif»))
              ∙ ap (λ ws. words "suppressif" ++ ws) (rest_words class.«suppressif» q g l c b parent at n told_c x)
              ∙ subst (λ r. words "suppressif" ++ rest ≡ opening r ++ rest) (sym s.is_row) refl;
          over = λ T o.
              let told_T = told_over t look look' source (depth q g) <item> 7 suppress_shape (fits f_nil) o in
              let m = suppress_match t look source parent suppress T s in
              let z = conditional_over class.«suppressif» q g l c b parent at n (item N parent 7 T) (item source parent 7 suppress) T told_c told_T m s se x o in
              record { rows = z.rows; count = ap (λ w. 0 + w + 0) z.count; again = z.again };
        }
      where
        rest : List Word
        rest = rest_of class.«suppressif» q g l c b parent at n look suppress

        fits : {σ : List Symbol} {F : Trees} → Fitted (depth q g) σ F → Fitted (depth q g) (nonterminal <item> ∷ σ) (node <item> 7 (flat suppress_shape) F)
        fits h =
            let u = deep class.«suppressif» q g l c b parent at n in
            suppressif_fits q g (formula look (expression (child 1 c))) (listed look <item>* 3 c (ending class.«endif»)) l b (x.fits (f_leaf u (f_leaf u f_nil))) h

  module _ (q g : ℕ) (l : suc q ≤ 16) (c : Trees) (b : g + nest 9 (formula look (expression (child 1 c))) ≤ 32) (parent at n : ℕ) where
    abbrev gray_out : Trees
    gray_out = conditional class.«grayoutif» q g l c b parent at n

    abbrev gray_out_shape : Shape
    gray_out_shape = condition_under class.«grayoutif» (formula look (expression (child 1 c))) (listed look <item>* 3 c (ending class.«endif»))

    pub gray_out_ok :
        Told source look gray_out → Settled look (item source parent 8 gray_out) → All (Settled look) (expression_rows source at (expression (child 1 c)))
        → ItemsOk class.«grayoutif» q g l c b parent at n
        → Ok t look look' source (depth q g) <item> 8 gray_out parent at n
    unfolding lexemes signs reserved
    gray_out_ok told_c s se x =
        record {
          fits = fits;
          spells =
              condition_words_lem class.«grayoutif» (formula look (expression (child 1 c))) (listed look <item>* 3 c (ending class.«endif»))
              ∙ ap (λ ws. words "grayoutif" ++ ws) (rest_words class.«grayoutif» q g l c b parent at n told_c x)
              ∙ subst (λ r. words "grayoutif" ++ rest ≡ opening r ++ rest) (sym s.is_row) refl;
          over = λ T o.
              let told_T = told_over t look look' source (depth q g) <item> 8 gray_out_shape (fits f_nil) o in
              let m = gray_out_match t look source parent gray_out T s in
              let z = conditional_over class.«grayoutif» q g l c b parent at n (item N parent 8 T) (item source parent 8 gray_out) T told_c told_T m s se x o in
              record { rows = z.rows; count = ap (λ w. 0 + w + 0) z.count; again = z.again };
        }
      where
        rest : List Word
        rest = rest_of class.«grayoutif» q g l c b parent at n look gray_out

        fits : {σ : List Symbol} {F : Trees} → Fitted (depth q g) σ F → Fitted (depth q g) (nonterminal <item> ∷ σ) (node <item> 8 (flat gray_out_shape) F)
        fits h =
            let u = deep class.«grayoutif» q g l c b parent at n in
            grayoutif_fits q g (formula look (expression (child 1 c))) (listed look <item>* 3 c (ending class.«endif»)) l b (x.fits (f_leaf u (f_leaf u f_nil))) h

  module _ (q g : ℕ) (l : suc q ≤ 16) (c : Trees) (b : g + nest 9 (formula look (expression (child 1 c))) ≤ 32) (parent at n : ℕ) where
    abbrev disable : Trees
    disable = conditional class.«disableif» q g l c b parent at n

    abbrev disable_shape : Shape
    disable_shape = condition_under class.«disableif» (formula look (expression (child 1 c))) (listed look <item>* 3 c (ending class.«endif»))

    pub disable_ok :
        Told source look disable → Settled look (item source parent 9 disable) → All (Settled look) (expression_rows source at (expression (child 1 c)))
        → ItemsOk class.«disableif» q g l c b parent at n
        → Ok t look look' source (depth q g) <item> 9 disable parent at n
    unfolding lexemes signs reserved
    disable_ok told_c s se x =
        record {
          fits = fits;
          spells =
              condition_words_lem class.«disableif» (formula look (expression (child 1 c))) (listed look <item>* 3 c (ending class.«endif»))
              ∙ ap (λ ws. words "disableif" ++ ws) (rest_words class.«disableif» q g l c b parent at n told_c x)
              ∙ subst (λ r. words "disableif" ++ rest ≡ opening r ++ rest) (sym s.is_row) refl;
          over = λ T o.
              let told_T = told_over t look look' source (depth q g) <item> 9 disable_shape (fits f_nil) o in
              let m = disable_match t look source parent disable T s in
              let z = conditional_over class.«disableif» q g l c b parent at n (item N parent 9 T) (item source parent 9 disable) T told_c told_T m s se x o in
              record { rows = z.rows; count = ap (λ w. 0 + w + 0) z.count; again = z.again };
        }
      where
        rest : List Word
        rest = rest_of class.«disableif» q g l c b parent at n look disable

        fits : {σ : List Symbol} {F : Trees} → Fitted (depth q g) σ F → Fitted (depth q g) (nonterminal <item> ∷ σ) (node <item> 9 (flat disable_shape) F)
        fits h =
            let u = deep class.«disableif» q g l c b parent at n in
            disableif_fits q g (formula look (expression (child 1 c))) (listed look <item>* 3 c (ending class.«endif»)) l b (x.fits (f_leaf u (f_leaf u f_nil))) h

  -- ---- rule NAME , expression endrule ;

  module _ (q g : ℕ) (l : q ≤ 16) (c : Trees) (b : g + nest 9 (formula look (expression (child 3 c))) ≤ 32) (parent at n : ℕ) where
    abbrev rule : Trees
    rule = anew rule_symbols c

    abbrev rule_formula : Formula
    rule_formula = formula look (expression (child 3 c))

    pub rule_ok :
        Told source look rule → Settled look (rule_draft source parent n rule) → All (Settled look) (expression_rows source at (expression (child 3 c)))
        → Ok t look look' source (depth q g) <rule> 0 rule parent at n
    unfolding lexemes signs reserved
    rule_ok told_c s se =
        record {
          fits = λ h. rule_fits q g r rule_formula l b h;
          spells = subst (λ r. spelling (rule_under r rule_formula) ≡ opening r ++ printed look 0 (expression (child 3 c)) ++ words "endrule ;") (sym s.is_row)
              (rule_words (row_of s) rule_formula ∙ sym (append_assoc (opening (row_of s)) (map word (print 9 rule_formula)) (words "endrule ;"))
              ∙ ap (λ ws. opening (row_of s) ++ ws ++ words "endrule ;") (sym (printed_words look (expression (child 3 c)) 0 (omega arith))));
          over = λ T o.
              let m = rule_match t look source parent rule T n rule_formula s o in
              let rel = expression_is t rule_formula (ending class.«endrule») (over_part 3 o) in
              let pm = pair m (rows_match t look source at (expression (child 3 T)) (expression (child 3 c)) rel se) in
              let told_T = told_over t look look' source (depth q g) <rule> 0 (rule_under r rule_formula) (rule_fits q g r rule_formula l b f_nil) o in
              let k = leafless t look look' source at (at + length (rule_draft source parent n rule ∷ expression_rows source at (expression (child 3 c)))) n told_T told_c (silent_core o (ap core_shape (tree_node rule_formula (ending class.«endrule»)))) refl in
              record {
                rows = own_rows_lem T rule at n pm k;
                count = ap (λ z. 1 + z + 0) k.count;
                again = λ h.
                    let v = own_found T at n pm h in
                    let p = printed_again at (expression (child 3 T)) (expression (child 3 c)) rel (tail_of_lem v.0) in
                    λ j. open_again t look look' source m (head_of v.0) j ++ p j ++ words "endrule ;";
              };
        }
      where
        r : List ℕ
        r = look (place_at 0 c)

  -- ---- form formid = N , title = STR ; (item or rule)* endform ;

  module _ (d : Depth) (u : too_deep d ≡ false) (c : Trees) (parent at n : ℕ) where
    abbrev a_form : Trees
    a_form = anew form_symbols c

    abbrev form_items : Shape
    form_items = listed look <item_or_rule>* 9 c (ending class.«endform»)

    pub form_ok :
        Told source look a_form → Settled look (form source parent a_form)
        → Ok t look look' source d <item_or_rule>* (chosen 9 c) (child 9 c) at (at + 1) n
        → Ok t look look' source d <form> 0 a_form parent at n
    unfolding lexemes signs reserved
    form_ok told_c s x =
        record {
          fits = fits;
          spells = subst (λ r. spelling (form_under r form_items) ≡ opening r ++ words_of look a_form ++ words "endform ;") (sym s.is_row)
              (form_words (row_of s) form_items ∙ ap (λ ws. opening (row_of s) ++ ws) (one_words x (ending class.«endform») told_c.words)
              ∙ sym (append_assoc (opening (row_of s)) (words_of look a_form) (words "endform ;")));
          over = λ T o.
              let m = form_match t look source parent a_form T form_items s o in
              let told_T = told_over t look look' source d <form> 0 (form_under r form_items) (fits f_nil) o in
              let k : SeqOver t look look' source T a_form at (at + 1) n = inside t look look' source told_T told_c (one_over x (over_core o)) in
              record {
                rows = pair m k.rows;
                count = ap (λ z. 0 + z + 0) k.count;
                again = λ h. ap₂ (λ a b. a ++ b ++ words "endform ;") (open_again t look look' source m (head_of h)) (k.again (tail_of_lem h));
              };
        }
      where
        r : List ℕ
        r = look (place_at 0 c)

        fits : {σ : List Symbol} {F : Trees} → Fitted d σ F → Fitted d (nonterminal <form> ∷ σ) (node <form> 0 (flat (form_under r form_items)) F)
        fits h = form_fits u r form_items (x.fits (f_leaf u (f_leaf u f_nil))) h

  -- ---- formset guid = GUID , title = STR , help = STR , form+ endformset ;

  module _ (d : Depth) (u : too_deep d ≡ false) (c : Trees) (parent at n : ℕ) where
    abbrev form_set_lem : Trees
    form_set_lem = anew form_set_symbols c

    abbrev forms : Shape
    forms = listed look <form> 13 c (listed look <form>* 14 c (ending class.«endformset»))

    pub form_set_ok :
        Told source look form_set_lem → guid_high source (child 3 c) < 2 ^ 64
        → low_of [] (guid_low source (guid_bytes source (child 3 c))) ≡ guid_low source (guid_bytes source (child 3 c)) → Settled look (form_set source form_set_lem)
        → Ok t look look' source d <form> (chosen 13 c) (child 13 c) at (at + 1) n
        → Ok t look look' source d <form>* (chosen 14 c) (child 14 c) at (at + 1 + length (within source look <form> (chosen 13 c) (child 13 c) at (at + 1) n))
        (n + rules_in (node <form> (chosen 13 c) (child 13 c) nil))
        → Ok t look look' source d <source> 0 form_set_lem parent at n
    unfolding lexemes signs reserved
    form_set_ok told_c hb lb s x y =
        record {
          fits = fits;
          spells = subst (λ r. spelling (form_set_under r forms) ≡ opening r ++ words_of look form_set_lem ++ words "endformset ;") (sym s.is_row)
              (form_set_words (row_of s) forms ∙ ap (λ ws. opening (row_of s) ++ ws) (two_words x y (ending class.«endformset») told_c.words)
              ∙ sym (append_assoc (opening (row_of s)) (words_of look form_set_lem) (words "endformset ;")));
          over = λ T o.
              let m = form_set_match t look source parent form_set_lem T forms hb lb s o in
              let told_T = told_over t look look' source d <source> 0 (form_set_under r forms) (fits f_nil) o in
              let k : SeqOver t look look' source T form_set_lem at (at + 1) n = inside t look look' source told_T told_c (two_over x y (over_core o)) in
              record {
                rows = pair m k.rows;
                count = ap (λ z. 0 + z + 0) k.count;
                again = λ h. ap₂ (λ a b. a ++ b ++ words "endformset ;") (open_again t look look' source m (head_of h)) (k.again (tail_of_lem h));
              };
        }
      where
        r : List ℕ
        r = look (place_at 0 c)

        fits : {σ : List Symbol} {F : Trees} → Fitted d σ F → Fitted d (nonterminal <source> ∷ σ) (node <source> 0 (flat (form_set_under r forms)) F)
        fits h = form_set_fits u r forms (x.fits (y.fits (f_leaf u (f_leaf u f_nil)))) h
