-- The derivation of a resolved text, from the source's derivation and its finished rows.
-- Assumes nothing.
use mathlib.Core.Path.{◌≡◌, ap}
use mathlib.Core.Bool.{true}
use mathlib.Core.List.{List, [], ◌∷◌, ◌++◌}
use mathlib.Core.Option.{some}
use Prim.Native.Nat.{ℕ, ◌≤◌}
use lib.ListN.{length}
use Rattle.ll1.specs.Trees.{Trees, nil, node, leaves, nonterminal, Alternative, alternative_of, depth, deeper}
use Rattle.grammar.specs.Rules.{<source>}
use Rattle.grammar.specs.Grammar.{rules}
use Rattle.grammar.specs.Derivation.{Derives, NowhereTooDeep}
use Rattle.grammar.specs.Source.{source_tokens, number_at}
use Rattle.grammar.specs.Ranges.{out_of_range, second_words}
use Rattle.answers.specs.Rows.{Draft, drafts_of}
use Rattle.answers.specs.Answer.{LONGEST, drafts}
use Rattle.answers.specs.MissingStep.{writes_steps}
use Rattle.answers.specs.Text.{words_of, text_of}
use Rattle.sound.proofs.Lists.{All, none, more}
use Rattle.sound.proofs.Places.{source_bounded}
use Rattle.sound.proofs.Kept.{Kept, kept_nil, kept_node, kept, Node}
use Rattle.formulas.specs.Shapes.{Shape, s_nil, s_node, lexed, spelling, Over, over_nil, over_node}
use Rattle.formulas.proofs.Shapes.{Covered, covered}
use Rattle.roundtrip.proofs.Read.{printed}
use Rattle.formulas.specs.Fitted.{Fitted, f_nil, f_node}
use Rattle.formulas.proofs.Fitted.{fitted, to_fits, to_allowed, over_fitted}
use Rattle.roundtrip.proofs.Expressions.{all_parts_lem}
use Rattle.roundtrip.proofs.Core.{within}
use Rattle.again.specs.Matches.{Settled, Match, Pairs, no_pairs}
use Rattle.roundtrip.proofs.Canon.{under, canon, Found, pairs_append}
use Rattle.roundtrip.proofs.CanonSeq.{spell_node, Ok}
use Rattle.roundtrip.proofs.CanonWalk.{source_ok}
use Rattle.roundtrip.proofs.Ranged.{Ranged, ranged_valid, over_ranged, over_seconds, over_steps}
use Rattle.roundtrip.proofs.RangedWalk.{Fit, source_ranged}

-- the text of a derivation whose rows are found by `look`
abbrev pub text_from : (ℕ → List ℕ) → Trees → List ℕ
text_from look tree = text_of (spelling (canon look tree))

-- its derivation
pub record Trip (s : List ℕ) (look : ℕ → List ℕ) (tree : Trees) : Type 0 where
  pub same_text : text_from look tree ≡ text_of (words_of look tree)
  pub tree' : Trees
  pub derives : Derives (source_tokens (text_from look tree)) tree'
  pub depths : NowhereTooDeep tree'
  pub no_second : second_words tree' ≡ []
  pub kept_ranges : out_of_range (text_from look tree) tree' ≡ []
  pub steps_written : writes_steps tree' ≡ true
  -- its rows match the source's
  pub rows : Pairs (Match (text_from look tree) look) (drafts (text_from look tree) tree') (drafts s tree)
  -- and where they are found by their places, its text is the same
  pub again : (look' : ℕ → List ℕ) → All (Found (text_from look tree) look') (drafts (text_from look tree) tree') → words_of look' tree' ≡ words_of look tree

settled_of : (s : List ℕ) {look : ℕ → List ℕ} {ds : List Draft} → All (Fit s look) ds → All (Settled look) ds
settled_of s none = none
settled_of s (more h k) = more h.0 (settled_of s k)

module _ (s : List ℕ) (look : ℕ → List ℕ) where
  abbrev source : ℕ → ℕ
  source = number_at s

  module _ (i : ℕ) (a : Alternative) (c : Trees) (e : alternative_of rules <source> i ≡ some a) (h : Fitted (deeper (depth 0 0) a.opens) a.symbols c) (x : Node s <source> i c) (fit : All (Fit s look) (within source look <source> i c 0 0 0)) where
    abbrev tree : Trees
    tree = node <source> i c nil

    abbrev t : List ℕ
    t = text_from look tree

    abbrev shape : Shape
    shape = under look <source> i c (canon look c)

    ok : (look' : ℕ → List ℕ) → Ok t look look' source (depth 0 0) <source> i c 0 0 0
    ok look' = source_ok t look look' source e h 0 0 0 (settled_of s fit)

    ranged : Ranged (canon look tree)
    ranged = let r = source_ranged s look x 0 0 0 fit in (r.0, r.1, tt)

    over_source : Covered t (canon look tree) (source_tokens t)
    over_source = covered t (canon look tree) (source_tokens t) (printed (lexed (canon look tree)) (ranged_valid (canon look tree) ranged))

    source_trip : Trip s look tree
    unfolding drafts
    source_trip = by over_source.tree over_source.over over_source.all
      where
        by : (T : Trees) → Over t T (canon look tree) → leaves T ≡ source_tokens t → Trip s look tree
        by T o l =
            let f = over_fitted o ((ok (λ p. [])).fits f_nil) in
            record {
              same_text = ap text_of (spell_node <source> i shape s_nil (ok (λ p. [])).spells);
              tree' = T;
              derives = record { fits = to_fits f; reads = l };
              depths = to_allowed f;
              no_second = over_seconds t o ranged;
              kept_ranges = over_ranged t o ranged;
              steps_written = over_steps t o ranged;
              rows = match_rows T o;
              again = λ look' g. match_words look' T o g;
            }
          where
            match_rows : (T : Trees) → Over t T (s_node <source> i shape s_nil) → Pairs (Match t look) (drafts_of (number_at t) T 0 0 0) (drafts_of source tree 0 0 0)
            match_rows T (over_node {c = U} o over_nil) = pairs_append ((ok (λ p. [])).over U o).rows no_pairs

            match_words : (look' : ℕ → List ℕ) (T : Trees) → Over t T (s_node <source> i shape s_nil) → All (Found t look') (drafts_of (number_at t) T 0 0 0) → words_of look' T ≡ words_of look tree
            match_words look' T (over_node {c = U} o over_nil) g = ap (λ ws. ws ++ []) (((ok look').over U o).again (all_parts_lem (within (number_at t) look' <source> i U 0 0 0) [] g).0)

  -- every derivation whose rows are finished
  pub trip : (tree : Trees) → length s ≤ LONGEST → Derives (source_tokens s) tree → NowhereTooDeep tree → out_of_range s tree ≡ [] → All (Fit s look) (drafts s tree) → Trip s look tree
  unfolding drafts
  trip tree short d deep inside fit = by (fitted d.fits deep) (kept s d.fits (source_bounded s tree short d.reads) inside) fit
    where
      by : {tree : Trees} → Fitted (depth 0 0) (nonterminal <source> ∷ []) tree → Kept s (nonterminal <source> ∷ []) tree → All (Fit s look) (drafts_of source tree 0 0 0) → Trip s look tree
      by (f_node {i = i} {a = a} {c = c} e h f_nil) (kept_node {a = b} e' r k kept_nil) fit =
          source_trip i a c e h (record { alternative = b; is = e'; none_out = r; under = k }) (all_parts_lem (within source look <source> i c 0 0 0) [] fit).0
