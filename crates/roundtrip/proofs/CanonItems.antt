-- Items and options that have no statement under them.
-- Assumes nothing.
use mathlib.Core.Path.{◌≡◌, refl, ap, sym, ◌∙◌, subst}
use mathlib.Core.List.{List, [], ◌∷◌, ◌++◌, append-nil}
use mathlib.Core.Bool.{false}
use Prim.Native.Nat.{ℕ, ◌+◌}
use lib.ListN.{set}
use Rattle.rows.specs.Columns as column
use Rattle.ll1.specs.Trees.{Trees, nil, node, nonterminal, Depth}
use Rattle.grammar.specs.Rules.{<item>, <option>}
use Rattle.grammar.specs.Source.{number_at}
use Rattle.grammar.specs.Derivation.{too_deep}
use Rattle.grammar.specs.Parts.{place_at}
use Rattle.answers.specs.Rows.{Draft, rules_in, drafts_of}
use Rattle.answers.specs.Stages.{cell}
use Rattle.answers.specs.Text.{opening}
use Rattle.sound.proofs.Lists.{All, more}
use Rattle.formulas.specs.Shapes.{Shape, s_nil, flat, spelling, Over}
use Rattle.formulas.specs.Fitted.{Fitted, f_nil}
use Rattle.roundtrip.proofs.Phrases.{subtitle_under, text_under, label_under, goto_under, checkbox_under, numeric_under, option_under}
use Rattle.roundtrip.proofs.PhraseWords.{subtitle_words, text_words, label_words, goto_words, checkbox_words, numeric_words, option_words}
use Rattle.roundtrip.proofs.PhraseFits.{subtitle_fits, text_fits, label_fits, goto_fits, checkbox_fits, numeric_fits, option_fits}
use Rattle.roundtrip.proofs.Matches.{subtitle_match, text_match, label_match, goto_match, checkbox_match, numeric_match, option_match}
use Rattle.roundtrip.proofs.Core.{core, within, Told}
use Rattle.again.specs.Matches.{Settled, Match, Pairs, pair}
use Rattle.roundtrip.proofs.Canon.{Found}
use Rattle.roundtrip.proofs.CanonSeq.{core_shape, silent_core, open_again, SeqOver, Ok, seq_none, inside, told_over}

module _ {P : Draft → Type 0} where
  pub head_of : {d : Draft} {ds : List Draft} → All P (d ∷ ds) → P d
  head_of (more h k) = h

  pub tail_of_lem : {d : Draft} {ds : List Draft} → All P (d ∷ ds) → All P ds
  tail_of_lem (more h k) = k

-- the row that is found
abbrev pub row_of : {look : ℕ → List ℕ} {d : Draft} → Settled look d → List ℕ
row_of {d = d} s = set (set d.row column.OWN s.own) column.A s.a

module _ (t : List ℕ) (look look' : ℕ → List ℕ) (source : ℕ → ℕ) where
  -- no statement under it
  pub leafless : {T c : Trees} (parent at n : ℕ) → Told (number_at t) look' T → Told source look c → core T ≡ nil → core c ≡ nil → SeqOver t look look' source T c parent at n
  leafless {T} {c} parent at n u v p q = inside t look look' source u v (rw (p, q) (seq_none t look look' source parent at n))

  module _ (d : Depth) (u : too_deep d ≡ false) (c : Trees) (told_c : Told source look c) (core_c : core c ≡ nil) (parent at n : ℕ) where
    abbrev N : ℕ → ℕ
    N = number_at t

    abbrev r : List ℕ
    r = look (place_at 0 c)

    -- a row D of the source and D' of the text, and no statement under them
    record Single (D' D : Draft) (T : Trees) : Type 0 where
      pub rows : Pairs (Match t look) (D' ∷ drafts_of N T at (at + 1) n) (D ∷ drafts_of source c at (at + 1) n)
      pub count : 0 + rules_in T + 0 ≡ 0 + rules_in c + 0
      pub again : All (Found t look') (D' ∷ drafts_of N T at (at + 1) n) → opening (look' (cell column.PLACE D')) ≡ opening (look (cell column.PLACE D))

    single :
        (A i : ℕ) (x : Shape) {D' D : Draft} {T : Trees}
        → Fitted d (nonterminal A ∷ []) (node A i (flat x) nil) → core_shape x ≡ s_nil → Match t look D' D → Over t T x → Single D' D T
    single A i x f e m o =
        let k = leafless at (at + 1) n (told_over t look look' source d A i x f o) told_c (silent_core o e) core_c in
        record { rows = pair m k.rows; count = ap (λ z. 0 + z + 0) k.count; again = λ h. open_again t look look' source m (head_of h) }

    -- the words of the row that is found, with nothing after them
    spelled : (x : List ℕ → Shape) {D : Draft} (s : Settled look D) → spelling (x (row_of s)) ≡ opening (row_of s) → spelling (x (look (cell column.PLACE D))) ≡ opening (look (cell column.PLACE D)) ++ []
    spelled x s h = subst (λ q. spelling (x q) ≡ opening q ++ []) (sym s.is_row) (h ∙ sym (append-nil (opening (row_of s))))

    pub subtitle_ok : All (Settled look) (within source look <item> 0 c parent at n) → Ok t look look' source d <item> 0 c parent at n
    subtitle_ok all =
        let s = head_of all in
        record {
          fits = subtitle_fits u r;
          spells = spelled subtitle_under s (subtitle_words (row_of s));
          over = λ T o.
              let z = single <item> 0 (subtitle_under r) (subtitle_fits u r f_nil) refl (subtitle_match t look source parent c T s o) o in
              record { rows = z.rows; count = z.count; again = λ h. ap (λ ws. ws ++ []) (z.again h) };
        }

    pub text_ok : All (Settled look) (within source look <item> 1 c parent at n) → Ok t look look' source d <item> 1 c parent at n
    text_ok all =
        let s = head_of all in
        record {
          fits = text_fits u r;
          spells = spelled text_under s (text_words (row_of s));
          over = λ T o.
              let z = single <item> 1 (text_under r) (text_fits u r f_nil) refl (text_match t look source parent c T s o) o in
              record { rows = z.rows; count = z.count; again = λ h. ap (λ ws. ws ++ []) (z.again h) };
        }

    pub label_ok : All (Settled look) (within source look <item> 2 c parent at n) → Ok t look look' source d <item> 2 c parent at n
    label_ok all =
        let s = head_of all in
        record {
          fits = label_fits u r;
          spells = spelled label_under s (label_words (row_of s));
          over = λ T o.
              let z = single <item> 2 (label_under r) (label_fits u r f_nil) refl (label_match t look source parent c T s o) o in
              record { rows = z.rows; count = z.count; again = λ h. ap (λ ws. ws ++ []) (z.again h) };
        }

    pub goto_ok : All (Settled look) (within source look <item> 3 c parent at n) → Ok t look look' source d <item> 3 c parent at n
    goto_ok all =
        let s = head_of all in
        record {
          fits = goto_fits u r;
          spells = spelled goto_under s (goto_words (row_of s));
          over = λ T o.
              let z = single <item> 3 (goto_under r) (goto_fits u r f_nil) refl (goto_match t look source parent c T s o) o in
              record { rows = z.rows; count = z.count; again = λ h. ap (λ ws. ws ++ []) (z.again h) };
        }

    pub checkbox_ok : All (Settled look) (within source look <item> 4 c parent at n) → Ok t look look' source d <item> 4 c parent at n
    checkbox_ok all =
        let s = head_of all in
        record {
          fits = checkbox_fits u r;
          spells = spelled checkbox_under s (checkbox_words (row_of s));
          over = λ T o.
              let z = single <item> 4 (checkbox_under r) (checkbox_fits u r f_nil) refl (checkbox_match t look source parent c T s o) o in
              record { rows = z.rows; count = z.count; again = λ h. ap (λ ws. ws ++ []) (z.again h) };
        }

    pub numeric_ok : All (Settled look) (within source look <item> 5 c parent at n) → Ok t look look' source d <item> 5 c parent at n
    numeric_ok all =
        let s = head_of all in
        record {
          fits = numeric_fits u r;
          spells = spelled numeric_under s (numeric_words (row_of s));
          over = λ T o.
              let z = single <item> 5 (numeric_under r) (numeric_fits u r f_nil) refl (numeric_match t look source parent c T s o) o in
              record { rows = z.rows; count = z.count; again = λ h. ap (λ ws. ws ++ []) (z.again h) };
        }

    pub option_ok : All (Settled look) (within source look <option> 0 c parent at n) → Ok t look look' source d <option> 0 c parent at n
    option_ok all =
        let s = head_of all in
        record {
          fits = option_fits u r;
          spells = subst (λ x. spelling (option_under x) ≡ opening x) (sym s.is_row) (option_words (row_of s));
          over = λ T o.
              let z = single <option> 0 (option_under r) (option_fits u r f_nil) refl (option_match t look source parent c T s o) o in
              record { rows = z.rows; count = z.count; again = z.again };
        }
