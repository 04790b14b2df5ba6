-- Stages 1 to 5 with 16 by a walk: what each of its ends means for the source.
-- Assumes nothing.
use Prim.Native.Nat.{ℕ, ◌+◌, ◌≤◌, ◌<◌}
use native.Mathlib.Omega.{arith}
use mathlib.Core.Path.{◌≡◌, refl, sym, ap, ◌∙◌}
use mathlib.Core.Logic.{◌≢◌}
use mathlib.Core.List.{List, [], ◌∷◌}
use mathlib.Core.Option.{Option}
use lib.ListN.{length}
use Rattle.std.specs.Prelude.{Option as Optional, Ok, Err, Some, None}
use Rattle.refusals.specs.declared.Reason.{Reason}
use Rattle.refusals.specs.declared.Reason.TheVariants.{SourceTooLong, OutOfRange, SecondWord}
use Rattle.refusals.specs.Numbers.{number_of}
use Rattle.lex.specs.Tokens.{first_bad}
use Rattle.rows.specs.Table.{cleared}
use Rattle.rows.proofs.ClearLaws.{cleared_whole}
use Rattle.ll1.specs.Trees.{Trees}
use Rattle.ll1.specs.Verdict.{Verdict, accepted, ends_early, refused, Accepted, is_text, is_unfinished, no_text_starts_so, opens_too_many}
use Rattle.grammar.specs.Derivation.{too_deep, NowhereTooDeep, SourceSays}
use Rattle.grammar.specs.Grammar.{rules}
use Rattle.grammar.specs.Reading.{verdict, derivation}
use Rattle.grammar.specs.Ranges.{out_of_range, second_words}
use Rattle.grammar.specs.Source.{source_tokens}
use Rattle.answers.specs.Answer.{LONGEST}
use Rattle.answers.specs.WholeAnswer.{refusal, checked, parsed}
use Rattle.answers.specs.Demand3.{Grammatical}
use Rattle.grammar.proofs.Theorems.{verdict_right, accepted_exactly, one_derivation}
use Rattle.answers.proofs.Checks.{checked_1, checked_2, checked_parsed, checked_16, checked_5, checked_derived}
use Rattle.sound.proofs.DraftsSound.{drafts_sound}
use Rattle.sound.proofs.NameCount.{names_six}
use Rattle.elements.specs.Marks.{first_mark}
use Rattle.rows.specs.Marks.{marked}
use Rattle.refusals.proofs.Bounds.{number_bounds}
use Rattle.walk.specs.declared.Totals.{Totals}
use Rattle.walk.specs.declared.Fault.{Fault}
use Rattle.walk.specs.Whole.{outcome, refusal_number, refusal_place, WalkedWhole, Walks}
use Rattle.read.specs.Faults.{fault_at}
use Rattle.read.specs.Surveyed.{unless_bad, Surveyed}

-- places whose first has no mark are none
none_marked : (l : List ℕ) → first_mark l ≡ 0 → l ≡ []
none_marked [] e = refl
none_marked (p ∷ l) e = absurd (omega arith)

-- 1: source over 65,536 bytes
pub too_long : (s t : List ℕ) {t' : List ℕ} → LONGEST < length s → t' ≡ cleared t 0 → Surveyed s (Err (fault_at SourceTooLong 0)) t t'
too_long s t h f = (checked_1 s h, f ∙ cleared_whole t)

-- ---- a walk that refuses

parsed_refusal : (s : List ℕ) (v : Verdict) (o : Option Trees) → refusal_number v ≢ 0 → parsed s v o ≡ refusal (refusal_number v) (refusal_place s v)
parsed_refusal s accepted o h = absurd (h refl)
parsed_refusal s ends_early o h = refl
parsed_refusal s (refused n p) o h = refl

module _ {s t t' : List ℕ} (short : length s ≤ LONGEST) where
  -- 2 to 4: the first bad token, or else the refusal of the grammar or of a depth
  pub walk_stops : (f : Fault) → Walks s (outcome (Err f)) t t' → Surveyed s (Err (unless_bad (first_bad s) f)) t t'
  walk_stops f v = by (first_bad s) refl
    where
      h : number_of f.reason ≢ 0
      h q = let n = (number_bounds f.reason).0 in absurd (omega arith)

      number : refusal_number (verdict (source_tokens s)) ≢ 0
      number z = h (v.number ∙ z)

      by : (b : Optional ℕ) → first_bad s ≡ b → Surveyed s (Err (unless_bad b f)) t t'
      by (Some p) e = (checked_2 s p short e, v.zeros h)
      by None e = (
        checked_parsed s (verdict (source_tokens s)) short e (verdict_right (source_tokens s))
            ∙ (parsed_refusal s (verdict (source_tokens s)) (derivation (source_tokens s)) number ∙ rw (v.number, v.place)),
        v.zeros h,
      )

  -- ---- a walk that accepts

  module _ (w : Totals) (v : Walks s (outcome (Ok w)) t t') where
    walked : WalkedWhole s (outcome (Ok w)) t t'
    walked = v.derived refl

    abbrev tree : Trees
    tree = walked.tree

    -- no leaf of the derivation is too deep
    shallow : Accepted too_deep rules (source_tokens s) → NowhereTooDeep tree
    shallow a = let same : a.tree ≡ tree = one_derivation (source_tokens s) a.tree tree a.derives walked.derives in rw same at a.allowed

    grammatical : Grammatical s tree
    grammatical = record { short = short; derives = walked.derives; depths = shallow ((accepted_exactly (source_tokens s)).0 walked.accepts) }

    -- a refusal at the first of some places
    at_first :
        (r : Reason) (place : ℕ) (l : List ℕ) {u : List ℕ} → place + 1 ≡ first_mark l → ((p : ℕ) (ps : List ℕ) → l ≡ p ∷ ps → checked s ≡ refusal (number_of r) p)
        → length t' ≡ length t → u ≡ cleared t' 0 → Surveyed s (Err (fault_at r place)) t u
    at_first r place [] e c g f = absurd (omega arith)
    at_first r place (p ∷ ps) e c g f =
        let same : place ≡ p = omega arith in
        (rw same (c p ps refl), f ∙ (cleared_whole t' ∙ rw g))

    -- 16: the first second size or display word
    pub second_word :
        {place : ℕ} {u : List ℕ} → w.noted.second ≡ Some place → length t' ≡ length t → u ≡ cleared t' 0 → Surveyed s (Err (fault_at SecondWord place)) t u
    second_word {place} e = at_first SecondWord place (second_words tree) (ap marked (sym e) ∙ walked.second) (λ p ps e. checked_16 s tree p ps grammatical e)

    module _ (none : w.noted.second ≡ None) where
      no_second : second_words tree ≡ []
      no_second = none_marked (second_words tree) (sym walked.second ∙ ap marked none)

      -- 5: the first number out of its range
      pub number_outside :
          {place : ℕ} {u : List ℕ} → w.noted.outside ≡ Some place → length t' ≡ length t → u ≡ cleared t' 0 → Surveyed s (Err (fault_at OutOfRange place)) t u
      number_outside {place} e =
          at_first OutOfRange place (out_of_range s tree) (ap marked (sym e) ∙ walked.outside) (λ p ps e. checked_5 s tree p ps grammatical no_second e)

      -- no stage refuses
      pub walk_passes : w.noted.outside ≡ None → Surveyed s (Ok w.rows) t t'
      walk_passes z =
          let in_range : out_of_range s tree ≡ [] = none_marked (out_of_range s tree) (sym walked.outside ∙ ap marked z) in
          record {
            tree = tree;
            is = checked_derived s tree grammatical no_second in_range;
            sound = drafts_sound s tree short walked.derives in_range;
            many = walked.rows;
            few = omega (arith, names_six s tree walked.derives);
            table = walked.table;
          }
